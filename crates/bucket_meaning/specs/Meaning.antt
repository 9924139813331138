-- What a list of steps means for a metric. A step is a call of a producer, or a step of a history.
use Rattle.std.specs.Prelude.{ℕ, List}
use Rattle.sd_base.specs.Outputs.{outputs}
use Rattle.bucket_meaning.specs.Marks.{Mark, Books, after, books_from, books_of}
use Rattle.bucket_meaning.specs.Kept.{Taken}
use Rattle.bucket_meaning.specs.Rows.{Kind, drops, report}

-- By a metric's parameters: where its time begins, how many keys a part admits, its kind, and the marks of a step,
-- knowing the steps before it.
pub record Meaning (Params Step X K C R : Type 0) : Type 0 where
  pub base : Params → ℕ
  pub bound : Params → ℕ
  pub kind : Params → Kind X K C R
  pub marks : Params → List Step → Step → List (Mark X)

module _ {Params Step X K C R : Type 0} (meaning : Meaning Params Step X K C R) (params : Params) where
  -- the books after one more mark
  abbrev pub mark_on : Books X → Mark X → Books X
  mark_on = after (drops (meaning.kind params) (meaning.bound params))

  -- the books after some marks more
  abbrev pub marks_on : Books X → List (Mark X) → Books X
  marks_on = books_from (drops (meaning.kind params) (meaning.bound params))

  -- all that happened by these steps
  abbrev pub marks_by : List Step → List (Mark X)
  marks_by steps = outputs (meaning.marks params) steps

  -- what is open and closed after these steps
  abbrev pub books_by : List Step → Books X
  books_by steps = books_of (drops (meaning.kind params) (meaning.bound params)) (meaning.base params) (marks_by steps)

  -- what a report shows that is made after these steps
  abbrev pub report_by : List Step → Taken R
  report_by steps = report (meaning.kind params) (meaning.bound params) (meaning.base params) (marks_by steps)
