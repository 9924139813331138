-- What a producer remembers is what stands after the steps: lemmas on `specs/Memories.antt`, for proofs of kinds.
use Rattle.std.proofs.Common.{◌≡◌, ℕ, Bool, true, false, if◌then◌else◌, List, [], ◌∷◌, ◌++◌, refl, ap, sym, ◌∙◌, append_assoc}
use Rattle.std.specs.Prelude.{nat_lt}
use Rattle.std.proofs.lemmas.List.{append-nil}
use Rattle.sd_base.specs.Outputs.{outputs_after}
use Rattle.atom_record.specs.declared.log.LogFrame.{LogFrame}
use Rattle.bucket_meaning.specs.Ends.{ends_at}
use Rattle.bucket_clock.specs.Clock.{boundaries, last_time, moments_told}
use Rattle.metric_producer.specs.Calls.{Call, Got, Learned, Crossed, CutAt, Took}
use Rattle.metric_producer.specs.Collecting.{Collecting}
use Rattle.metric_producer.specs.LaneCalls.{told_by, crossing_of, cutting, calls_of}
use Rattle.metric_meaning.specs.Histories.{What, Logged, Reported, Step, moment_of}
use Rattle.metric_calls.specs.Askings.{Asking, steps_seen, asked_at, own_demands, calls_by_steps, calls_crossed}
use Rattle.metric_calls.specs.Memories.{Memory, remembered, Follows}
use Rattle.metric_calls.proofs.AskingsLemmas.{calls_of_step, calls_are}

module _ {S Event After : Type 0} (memory : Memory S Event After) where
  -- what is remembered of two lists of calls
  pub remembered-append : (was : S) (calls more : List (Call Event After))
      → remembered memory was (calls ++ more) ≡ remembered memory (remembered memory was calls) more
  remembered-append was [] more = refl
  remembered-append was (Got at event ∷ calls) more = remembered-append (memory.gets was at event) calls more
  remembered-append was (Learned at now ∷ calls) more = remembered-append (memory.learns was at now) calls more
  remembered-append was (Crossed crossings ∷ calls) more = remembered-append was calls more
  remembered-append was (CutAt at ∷ calls) more = remembered-append was calls more
  remembered-append was (Took ∷ calls) more = remembered-append was calls more

  -- a crossing leaves it
  crossing_leaves : (was : S) (start size : ℕ) (ends : List ℕ)
      → remembered memory was (crossing_of start size ends) ≡ was
  crossing_leaves was start size [] = refl
  crossing_leaves was start size (first ∷ others) = refl

  cut_leaves : (was : S) (at : ℕ) (sized : Bool)
      → remembered memory was (if sized then CutAt at ∷ [] else []) ≡ was
  cut_leaves was at true = refl
  cut_leaves was at false = refl

  -- a cut leaves it
  cutting_leaves : (was : S) (size : ℕ) (include_current : Bool) (at : ℕ)
      → remembered memory was (cutting size include_current at) ≡ was
  cutting_leaves was size true at = cut_leaves was at (nat_lt 0 size)
  cutting_leaves was size false at = refl

module _ {Params News Event After X K C R S : Type 0} (asking : Asking Params News Event After X K C R)
    (collecting : Collecting Params Event After X K C R) (memory : Memory S Event After) (first : S)
    (now : List Step → S) (follows : Follows asking memory first now) where
  -- what one step makes of it
  step_makes : (before : List Step) (at : ℕ) (what : What) (truths : List Bool)
      → let step : Step = record { at = at; what = what; truths = truths } in
      remembered memory (now before) (calls_of_step asking collecting before step) ≡ now (before ++ step ∷ [])
  step_makes before at (Logged frame) truths =
      let base = (own_demands asking collecting).base in
      let size = (own_demands asking collecting).size in
      let told = told_by (steps_seen asking before) in
      let start = last_time base (boundaries base size told) in
      let ends = ends_at base size (moments_told told) (moment_of frame at) in
      let asked = asked_at asking before frame at truths in
      remembered-append memory (now before) (crossing_of start size ends) asked
      ∙ ap (λ t. remembered memory t asked) (crossing_leaves memory (now before) start size ends)
      ∙ follows.at_frame before frame at truths
  step_makes before at (Reported include_current) truths =
      let size = (own_demands asking collecting).size in
      remembered-append memory (now before) (cutting size include_current at) (Took ∷ [])
      ∙ cutting_leaves memory (now before) size include_current at
      ∙ sym (follows.at_report before at include_current truths)

  -- what steps make of it, where others came before
  steps_make : (before steps : List Step)
      → remembered memory (now before) (outputs_after (calls_of_step asking collecting) before steps)
      ≡ now (before ++ steps)
  steps_make before [] = ap now (sym (append-nil before))
  steps_make before (step ∷ steps) =
      let rest = outputs_after (calls_of_step asking collecting) (before ++ step ∷ []) steps in
      remembered-append memory (now before) (calls_of_step asking collecting before step) rest
      ∙ ap (λ t. remembered memory t rest) (step_makes before step.at step.what step.truths)
      ∙ steps_make (before ++ step ∷ []) steps ∙ ap now (append_assoc before (step ∷ []) steps)

  -- what a producer remembers is what stands after the steps
  pub remembered-is : (steps : List Step) → remembered memory first (calls_by_steps asking collecting steps) ≡ now steps
  remembered-is steps =
      let calls = calls_of (own_demands asking collecting) asking.asks (steps_seen asking steps) in
      remembered-append memory first asking.opens calls
      ∙ ap (λ t. remembered memory t calls) follows.opens
      ∙ ap (remembered memory (now [])) (calls_are asking collecting steps)
      ∙ steps_make [] steps

  -- and so it is once a frame's crossing came
  pub remembered-crossed : (before : List Step) (frame : LogFrame) (at : ℕ)
      → remembered memory first (calls_crossed asking collecting before frame at) ≡ now before
  remembered-crossed before frame at =
      let base = (own_demands asking collecting).base in
      let size = (own_demands asking collecting).size in
      let told = told_by (steps_seen asking before) in
      let start = last_time base (boundaries base size told) in
      let ends = ends_at base size (moments_told told) (moment_of frame at) in
      let calls = calls_by_steps asking collecting before in
      remembered-append memory first calls (crossing_of start size ends)
      ∙ crossing_leaves memory (remembered memory first calls) start size ends
      ∙ remembered-is before
