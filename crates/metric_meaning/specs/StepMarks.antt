-- What happens to a metric at each step: first the ends of buckets that it crosses, then what it brings, or the report.
use Rattle.std.specs.Prelude.{ℕ, Bool, true, false, List, [], ◌∷◌, ◌++◌, if◌then◌else◌, nat_lt, Option, Some, None}
use Rattle.std.specs.List.{flat_map}
use Rattle.sd_base.specs.Outputs.{outputs}
use Rattle.bucket_meaning.specs.Ends.{Moment, ends_at}
use Rattle.bucket_meaning.specs.Marks.{Mark, Came, Asked, Edges, no_edges, boundary, boundary_marks}
use Rattle.metric_meaning.specs.Histories.{What, Logged, Reported, Step, moments_at}

-- the frames of the log among these steps
abbrev pub moments : List Step → List Moment
moments steps = flat_map (λ (step : Step). moments_at step.what step.at) steps

-- the full ends that a step crosses
abbrev pub crossed_at : ℕ → ℕ → List Step → Step → List ℕ
crossed_at base size before step = flat_map (ends_at base size (moments before)) (moments_at step.what step.at)

-- What a kind of metric says of its steps: what stands at the beginning, before all steps; what stands at a boundary
-- after some steps; and what a step brings.
pub record StepNews (X : Type 0) : Type 0 where
  pub begins : List (Mark X)
  pub edges : List Step → Edges X
  pub comes : List Step → Step → List (Mark X)

-- the mark of what arrives, if something does
abbrev pub arrival_marks : {X : Type 0} → Option X → List (Mark X)
arrival_marks None = []
arrival_marks (Some arrival) = Came arrival ∷ []

-- the news of a kind to which at most one arrival comes at a step: nothing stands at the beginning and at boundaries
abbrev pub arrivals_alone : {X : Type 0} → (List Step → Step → Option X) → StepNews X
arrivals_alone arrives = record {
  begins = [];
  edges = λ before. no_edges;
  comes = λ before step. arrival_marks (arrives before step);
}

-- the marks of a report's cut at the clock, if it asks for one; without buckets nothing is cut
abbrev pub cut_marks : {X : Type 0} → Edges X → ℕ → Bool → ℕ → List (Mark X)
cut_marks edges size true at = if nat_lt 0 size then boundary edges at else []
cut_marks edges size false at = []

module _ {X : Type 0} (news : StepNews X) (base size : ℕ) where
  -- what a step itself does to a metric: a frame brings something, and a report cuts and asks
  abbrev pub own_marks : List Step → Step → List (Mark X)
  own_marks before step = of_what step.what where
    of_what : What → List (Mark X)
    of_what (Logged frame) = news.comes before step
    of_what (Reported include_current) = cut_marks (news.edges before) size include_current step.at ++ (Asked ∷ [])

  -- all that happens to a metric at a step
  abbrev pub marks_at : List Step → Step → List (Mark X)
  marks_at before step =
      boundary_marks (news.edges before) (crossed_at base size before step) ++ own_marks before step

  -- all that happened to a metric at its beginning and by these steps
  abbrev pub marks_of : List Step → List (Mark X)
  marks_of steps = news.begins ++ outputs marks_at steps

  -- all that happened to a metric by these steps, and by a report's cut
  abbrev pub marks_to : List Step → Bool → ℕ → List (Mark X)
  marks_to steps include_current now = marks_of steps ++ cut_marks (news.edges steps) size include_current now
