-- What a producer remembers of its calls, for kinds of metrics whose marks hang on it.
use Rattle.std.specs.Prelude.{◌≡◌, ℕ, Bool, List, [], ◌∷◌, ◌++◌}
use Rattle.atom_record.specs.declared.log.LogFrame.{LogFrame}
use Rattle.metric_producer.specs.Calls.{Call, Got, Learned, Crossed, CutAt, Took}
use Rattle.metric_meaning.specs.Histories.{Reported, Step}
use Rattle.metric_calls.specs.Askings.{Asking, frame_step, asked_at}

-- What a producer remembers: what an event and a condition make of it, at their times. All other calls leave it.
pub record Memory (S Event After : Type 0) : Type 0 where
  pub gets : S → ℕ → Event → S
  pub learns : S → ℕ → After → S

-- the memory of what was told last
abbrev pub last_told : {Event After : Type 0} → Memory After Event After
last_told = record { gets = λ told at event. told; learns = λ told at now. now }

-- what is remembered after these calls
abbrev pub remembered : {S Event After : Type 0} → Memory S Event After → S → List (Call Event After) → S
remembered memory was [] = was
remembered memory was (Got at event ∷ calls) = remembered memory (memory.gets was at event) calls
remembered memory was (Learned at now ∷ calls) = remembered memory (memory.learns was at now) calls
remembered memory was (Crossed crossings ∷ calls) = remembered memory was calls
remembered memory was (CutAt at ∷ calls) = remembered memory was calls
remembered memory was (Took ∷ calls) = remembered memory was calls

-- What a metric's producer remembers follows the steps: `now` is what stands after them, and `first` is what is
-- remembered before all calls. Opening calls and what is asked at a frame bring it on, and a report changes nothing.
pub record Follows {Params News Event After X K C R S : Type 0} (asking : Asking Params News Event After X K C R)
    (memory : Memory S Event After) (first : S) (now : List Step → S) : Type 0 where
  pub opens : remembered memory first asking.opens ≡ now []
  pub at_frame : (before : List Step) (frame : LogFrame) (at : ℕ) (truths : List Bool)
      → remembered memory (now before) (asked_at asking before frame at truths)
      ≡ now (before ++ frame_step frame at truths ∷ [])
  pub at_report : (before : List Step) (at : ℕ) (include_current : Bool) (truths : List Bool)
      → let step : Step = record { at = at; what = Reported include_current; truths = truths } in
      now (before ++ step ∷ []) ≡ now before
