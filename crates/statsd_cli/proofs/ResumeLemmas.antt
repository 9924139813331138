-- On specs/Resume.antt: a form that was taken goes on, or there is none; what the status alone tells; and a good form
-- with good frames after it is answered to its end.
use Rattle.std.proofs.Common.{◌≡◌, ℕ, List, ◌++◌, Option, Some, None, Err, refl, sym, ap, subst, ◌∙◌, arith, inl, inr}
use Rattle.std.specs.Prelude.{◌⊎◌, IfSome}
use Rattle.std.proofs.lemmas.List.{append-nil}
use Rattle.sd_io.specs.States.{Input, Output, Ports, ports, input_with}
use Rattle.sd_io.specs.Causes.{Consumes, Rose}
use Rattle.session_frames.specs.declared.frame.Frame.{Frame}
use Rattle.session_frames.specs.Frames.{Clean, Reads}
use Rattle.session_frames.specs.Reader.{resumed_at}
use Rattle.matcher_eval.specs.declared.field_judge.FieldJudge.{FieldJudge}
use Rattle.matcher_eval.specs.AtomTests.{matcher_holds}
use Rattle.hub_core.specs.declared.hub.Hub.{Hub}
use Rattle.hub_core.specs.HubSaving.{saved_of}
use Rattle.checkpoint.specs.declared.error.ResumeError.{ResumeError}
use Rattle.checkpoint.specs.declared.error.ResumeError.TheVariants as build
use Rattle.checkpoint.specs.Saves.{IsFormOf, IsSavedOf, Resumes}
use Rattle.statsd_cli.specs.declared.saved_form.FormError.{FormError}
use Rattle.statsd_cli.specs.declared.saved_form.FormError.TheVariants as lack
use Rattle.statsd_cli.specs.declared.ending.Ending.{Ending}
use Rattle.statsd_cli.specs.declared.ending.Ending.TheVariants.{Done, Refused, Usage, BadSession, ReadFault, WriteFault, NoMemory, ReportRefused, SaveRefused}
use Rattle.statsd_cli.specs.declared.ending.SaveFault.TheVariants as save
use Rattle.statsd_cli.specs.Endings.{status_of}
use Rattle.statsd_cli.specs.Form.{framed, TakesForm, LacksForm}
use Rattle.statsd_cli.specs.Run.{IsRunFrom}
use Rattle.statsd_cli.specs.Serving.{tells_after}
use Rattle.statsd_cli.specs.Does.{IsUndisturbed}
use Rattle.statsd_cli.specs.Resume.{resume_tells, GoesOnFromForm, IsNotSaved, LacksHub, IsResumed, MayGoOn, TakesHub, lack_ending, build_ending}
use Rattle.statsd_cli.proofs.FormLemmas.{is_whole, is_short, is_this}
use Rattle.statsd_cli.proofs.RunLemmas.{runs_as, complete_from, run_usage, run_read, run_write}

-- no form was taken
pub lacks_form : (old new : Input) (e : FormError) → LacksForm old new e → LacksHub old new (lack_ending e)
lacks_form old new lack.Cut lacks = lacks
lacks_form old new (lack.TooLong size) lacks = lacks
lacks_form old new lack.Read lacks = lacks
lacks_form old new lack.Memory lacks = (lacks.taken, lacks.consumes)

-- no hub was built of it
pub lacks_build : (old new : Input) (bytes : List ℕ) (e : ResumeError) → TakesForm old new bytes
    → Resumes {J = FieldJudge} bytes (Err e) → LacksHub old new (build_ending e)
lacks_build old new bytes build.NotSaved takes none = record { bytes = bytes; takes = takes; none = none }
lacks_build old new bytes build.Memory takes none = (framed bytes, takes.consumes)

-- the hub of a form answered what was after it: so the session of the form went on, whatever it was
pub goes_on : (old mid : Input) (out : Output) (new : Ports) (hub : Hub FieldJudge) (ending : Ending)
    → TakesHub old mid hub
    → IsRunFrom (saved_of hub).time (tells_after hub) (ports mid out) new ending
    → GoesOnFromForm (ports old out) new ending
goes_on old mid out new hub ending it run = record {
  mid = mid;
  bytes = it.bytes;
  saved = saved_of hub;
  takes = it.takes;
  form = it.form;
  time = λ before saved. (it.stands before saved).clock;
  run = runs_as (saved_of hub).time (tells_after hub) (resume_tells it.bytes)
      (λ frames told all. λ before saved. all before (it.stands before saved)) (ports mid out) new ending run;
}

-- What the status alone tells.
module _ (old new : Ports) where
  lacks_usage : (ending : Ending) → LacksHub old.input new.input ending → status_of ending ≡ 2 → ⊥
  lacks_usage Done lacks is = lacks
  lacks_usage Refused lacks is = lacks
  lacks_usage Usage lacks is = lacks
  lacks_usage (BadSession at fault) lacks is = lacks
  lacks_usage ReadFault lacks is = absurd (omega (arith, is))
  lacks_usage WriteFault lacks is = lacks
  lacks_usage NoMemory lacks is = absurd (omega (arith, is))
  lacks_usage (ReportRefused fault) lacks is = lacks
  lacks_usage (SaveRefused fault) lacks is = absurd (omega (arith, is))

  lacks_read : (ending : Ending) → LacksHub old.input new.input ending → status_of ending ≡ 4
      → Rose old.input.faults new.input.faults
  lacks_read Done lacks is = absurd lacks
  lacks_read Refused lacks is = absurd lacks
  lacks_read Usage lacks is = absurd lacks
  lacks_read (BadSession at fault) lacks is = absurd lacks
  lacks_read ReadFault lacks is = lacks.cause.1
  lacks_read WriteFault lacks is = absurd lacks
  lacks_read NoMemory lacks is = absurd (omega (arith, is))
  lacks_read (ReportRefused fault) lacks is = absurd lacks
  lacks_read (SaveRefused fault) lacks is = absurd (omega (arith, is))

  lacks_write : (ending : Ending) → LacksHub old.input new.input ending → status_of ending ≡ 5 → ⊥
  lacks_write Done lacks is = lacks
  lacks_write Refused lacks is = lacks
  lacks_write Usage lacks is = lacks
  lacks_write (BadSession at fault) lacks is = lacks
  lacks_write ReadFault lacks is = absurd (omega (arith, is))
  lacks_write WriteFault lacks is = lacks
  lacks_write NoMemory lacks is = absurd (omega (arith, is))
  lacks_write (ReportRefused fault) lacks is = lacks
  lacks_write (SaveRefused fault) lacks is = absurd (omega (arith, is))

  -- 2 doesn't come
  pub resume_usage : (ending : Ending) → IsResumed old new ending → status_of ending ≡ 2 → ⊥
  resume_usage ending (inl on) is = run_usage _ _ (ports on.mid old.output) new ending on.run is
  resume_usage ending (inr none) is = lacks_usage ending none.lacks is

  -- 4 has its cause on the input
  pub resume_read : (ending : Ending) → IsResumed old new ending → status_of ending ≡ 4
      → Rose old.input.faults new.input.faults
  resume_read ending (inl on) is =
      let rose = run_read _ _ (ports on.mid old.output) new ending on.run is in
      let later = on.takes.later in
      omega (arith, later, rose)
  resume_read ending (inr none) is = lacks_read ending none.lacks is

  -- 5 has its cause on the output
  pub resume_write : (ending : Ending) → IsResumed old new ending → status_of ending ≡ 5
      → Rose old.output.faults new.output.faults
  resume_write ending (inl on) is = run_write _ _ (ports on.mid old.output) new ending on.run is
  resume_write ending (inr none) is = absurd (lacks_write ending none.lacks is)

-- Good bytes are a form, and not a part of one.
module _ (bytes : List ℕ) (good : MayGoOn bytes) (read_old : ℕ) where
  not_cut : (left : Option (List ℕ)) (read_now : ℕ)
      → LacksForm (input_with (Some bytes) read_old) (input_with left read_now) lack.Cut → ⊥
  not_cut None read_now lacks = lacks.consumes
  not_cut (Some rest) read_now lacks =
      is_whole good.form good.rest good.short lacks.taken
      (sym (append-nil lacks.taken) ∙ ap (λ r. lacks.taken ++ r) (sym lacks.cause.1) ∙ sym lacks.consumes ∙ good.is)
      lacks.cause.0

  not_too_long : (left : Option (List ℕ)) (read_now size : ℕ)
      → LacksForm (input_with (Some bytes) read_old) (input_with left read_now) (lack.TooLong size) → ⊥
  not_too_long None read_now size lacks = lacks.consumes
  not_too_long (Some rest) read_now size lacks =
      is_short good.form good.rest good.short size lacks.taken rest (sym lacks.consumes ∙ good.is) lacks.cause

  not_none : (left : Option (List ℕ)) (read_now : ℕ)
      → IsNotSaved (input_with (Some bytes) read_old) (input_with left read_now) → ⊥
  not_none None read_now none = none.takes.consumes
  not_none (Some rest) read_now none =
      let one = is_this good.form good.rest good.short none.bytes rest none.takes.short
      (sym none.takes.consumes ∙ good.is) in
      none.none (saved_of good.saved.hub) (subst (IsFormOf (saved_of good.saved.hub)) (sym one.0) good.saved.form)

  -- so there is a hub
  lacks_none : (left : Option (List ℕ)) (read_now : ℕ) (ending : Ending)
      → LacksHub (input_with (Some bytes) read_old) (input_with left read_now) ending
      → (Rose read_old read_now → ⊥) → status_of ending ≡ 6
  lacks_none left read_now Done lacks still = absurd lacks
  lacks_none left read_now Refused lacks still = absurd lacks
  lacks_none left read_now Usage lacks still = absurd lacks
  lacks_none left read_now (BadSession at fault) lacks still = absurd lacks
  lacks_none left read_now ReadFault lacks still = absurd (still lacks.cause.1)
  lacks_none left read_now WriteFault lacks still = absurd lacks
  lacks_none left read_now NoMemory lacks still = refl
  lacks_none left read_now (ReportRefused fault) lacks still = absurd lacks
  lacks_none left read_now (SaveRefused save.Cut) lacks still = absurd (not_cut left read_now lacks)
  lacks_none left read_now (SaveRefused (save.TooLong size)) lacks still =
      absurd (not_too_long left read_now size lacks)
  lacks_none left read_now (SaveRefused save.NotSaved) lacks still = absurd (not_none left read_now lacks)

  module _ (o : Output) (new : Ports) (status : ℕ) (ending : Ending) (is : status ≡ status_of ending)
      (still : IsUndisturbed (ports (input_with (Some bytes) read_old) o) new) where
    -- what is after the form is what the session goes on with
    goes_on_well : (on : GoesOnFromForm (ports (input_with (Some bytes) read_old) o) new ending)
        (left : Option (List ℕ)) → Consumes (Some bytes) left (framed on.bytes)
        → IfSome left (λ rest. (frames : List Frame) → Reads (resumed_at on.saved.time) rest frames Clean
        → (status ≡ 0) ⊎ (status ≡ 6))
        → (status ≡ 0) ⊎ (status ≡ 6)
    goes_on_well on None consumes all = absurd consumes
    goes_on_well on (Some rest) consumes all =
        let one = is_this good.form good.rest good.short on.bytes rest on.takes.short (sym consumes ∙ good.is) in
        let saved : IsSavedOf matcher_holds FieldJudge good.before on.bytes =
        subst (IsSavedOf matcher_holds FieldJudge good.before) (sym one.0) good.saved in
        let here : Reads (resumed_at on.saved.time) good.rest good.frames Clean =
        subst (λ t. Reads (resumed_at t) good.rest good.frames Clean) (sym (on.time good.before saved)) good.good in
        all good.frames (subst (λ l. Reads (resumed_at on.saved.time) l good.frames Clean) (sym one.1) here)

    ended_well : IsResumed (ports (input_with (Some bytes) read_old) o) new ending → (status ≡ 0) ⊎ (status ≡ 6)
    ended_well (inl on) =
        let later = on.takes.later in
        let mid : IsUndisturbed (ports on.mid o) new = record {
          reads = λ rose. still.reads (omega (arith, later, rose));
          writes = still.writes;
        } in
        goes_on_well on on.mid.left on.takes.consumes
        (complete_from _ _ (ports on.mid o) new status ending is on.run mid)
    ended_well (inr none) =
        inr (is ∙ lacks_none new.input.left new.input.faults ending none.lacks still.reads)

resumed_with : (left : Option (List ℕ)) (read_old : ℕ) (o : Output) (new : Ports) (status : ℕ) (ending : Ending)
    → status ≡ status_of ending
    → IsResumed (ports (input_with left read_old) o) new ending
    → IsUndisturbed (ports (input_with left read_old) o) new
    → IfSome left (λ bytes. MayGoOn bytes → (status ≡ 0) ⊎ (status ≡ 6))
resumed_with None read_old o new status ending is did still = tt
resumed_with (Some bytes) read_old o new status ending is did still =
    λ good. ended_well bytes good read_old o new status ending is still did

-- A saved session goes on to its end, unless the outside fails or memory is wanting.
pub resumed_completes : (old new : Ports) (status : ℕ) (ending : Ending)
    → status ≡ status_of ending
    → IsResumed old new ending
    → IsUndisturbed old new
    → IfSome old.input.left (λ bytes. MayGoOn bytes → (status ≡ 0) ⊎ (status ≡ 6))
resumed_completes old new status ending is did still =
    resumed_with old.input.left old.input.faults old.output new status ending is did still
