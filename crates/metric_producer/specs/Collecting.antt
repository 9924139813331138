-- What a kind of producer makes of its calls, its law, and what taking hands out.
use Rattle.std.specs.Prelude.{◌≡◌, ℕ, List, [], ◌∷◌, Some}
use Rattle.bucket_clock.specs.Clock.{ends_of}
use Rattle.bucket_meaning.specs.Marks.{Mark, Asked, Edges, boundary, boundary_marks}
use Rattle.bucket_meaning.specs.Kept.{Taken}
use Rattle.bucket_meaning.specs.Rows.{Kind}
use Rattle.bucket_meaning.specs.Meaning.{Meaning, report_by}
use Rattle.metric_producer.specs.Calls.{Call, Got, Learned, Crossed, CutAt, Took, Demands}
use Rattle.metric_producer.specs.declared.row.Row.{Row}

-- What a kind of producer says of itself, by what it was made with: what it demands of its calls, how many keys a part
-- admits, its kind of metric, the marks of an event and of a condition, and what stands at a boundary, each knowing the
-- calls before.
pub record Collecting (Params Event After X K C R : Type 0) : Type 0 where
  pub demands : Params → Demands Event After
  pub bound : Params → ℕ
  pub kind : Params → Kind X K C R
  pub comes : Params → List (Call Event After) → ℕ → Event → List (Mark X)
  pub learns : Params → List (Call Event After) → ℕ → After → List (Mark X)
  pub edges : Params → List (Call Event After) → Edges X

module _ {Params Event After X K C R : Type 0} (collecting : Collecting Params Event After X K C R) where
  -- the marks of a call: crossings and cuts are boundaries, and each taking is a report
  abbrev pub call_marks : Params → List (Call Event After) → Call Event After → List (Mark X)
  call_marks params before (Got at event) = collecting.comes params before at event
  call_marks params before (Learned at now) = collecting.learns params before at now
  call_marks params before (Crossed crossings) =
      boundary_marks (collecting.edges params before) (ends_of (Some crossings))
  call_marks params before (CutAt at) = boundary (collecting.edges params before) at
  call_marks params before Took = Asked ∷ []

  -- what calls mean; time begins where the producer says that its calls begin
  abbrev pub calls_mean : Meaning Params (Call Event After) X K C R
  calls_mean = record {
    base = λ params. (collecting.demands params).base;
    bound = collecting.bound;
    kind = collecting.kind;
    marks = call_marks;
  }

-- The law of a kind of producer: what an object stands for, by what it was made with and the calls that it has got, and
-- what the kind says of itself.
pub record Law (P Params Event After X K C R : Type 0) : Type 1 where
  pub stands : P → Params → List (Call Event After) → Type 0
  pub collecting : Collecting Params Event After X K C R

-- what a producer of this law asks of its calls, by what it was made with
abbrev pub demands_of : {P Params Event After X K C R : Type 0} → Law P Params Event After X K C R → Params
    → Demands Event After
demands_of law params = law.collecting.demands params

-- whatever calls the object has got, what is handed out is what a report shows after them
abbrev pub Gives : {P Params Event After X K C V : Type 0} → Law P Params Event After X K C (Row V) → P → Taken (Row V)
    → Type 0
Gives {P} {Params} {Event} {After} law object closed =
    (params : Params) (calls : List (Call Event After)) → law.stands object params calls
    → closed ≡ report_by (calls_mean law.collecting) params calls
