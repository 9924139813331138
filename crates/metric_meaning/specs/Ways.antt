-- How a kind of metric is shown by its steps: one record for every kind.
use Rattle.std.specs.Prelude.{ℕ, Bool, List}
use Rattle.bucket_meaning.specs.Kept.{Taken}
use Rattle.bucket_meaning.specs.Rows.{Kind, report}
use Rattle.metric_meaning.specs.Histories.{Step}
use Rattle.metric_meaning.specs.StepMarks.{StepNews, marks_to}

-- What a kind of metric says of itself, for a metric of what was installed: where its time begins, how long its buckets
-- are or 0 where it has none, how many keys a part admits, how rows are made, and what its steps mean.
pub record Way (X K C R : Type 0) : Type 0 where
  pub base : ℕ
  pub size : ℕ
  pub bound : ℕ
  pub kind : Kind X K C R
  pub shown : StepNews X

-- what a report shows that is made after these steps
abbrev pub shown_by_steps : {X K C R : Type 0} → Way X K C R → List Step → Bool → ℕ → Taken R
shown_by_steps way steps include_current now =
    report way.kind way.bound way.base (marks_to way.shown way.base way.size steps include_current now)
