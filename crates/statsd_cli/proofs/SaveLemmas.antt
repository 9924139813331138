-- On specs/Save.antt: how a session is saved, what its status tells, and what it comes to where the outside doesn't
-- fail.
use Rattle.std.proofs.Common.{◌≡◌, ℕ, ◌<◌, ◌≤◌, List, [], length, Option, Some, None, refl, sym, subst, arith, inl, inr}
use Rattle.std.specs.Prelude.{◌⊎◌, IfSome}
use Rattle.std.proofs.lemmas.List.{append-nil}
use Rattle.sd_io.specs.States.{Input, Output, Ports, ports, input_with}
use Rattle.sd_io.specs.Causes.{Rose}
use Rattle.sd_io.proofs.CausesLemmas.{Gains-nil}
use Rattle.session_frames.specs.declared.frame.Frame.{Frame}
use Rattle.session_frames.specs.Frames.{Clean, Reads, start}
use Rattle.matcher_eval.specs.declared.field_judge.FieldJudge.{FieldJudge}
use Rattle.matcher_eval.specs.AtomTests.{matcher_holds}
use Rattle.saved_weight.specs.Weigh.{weigh}
use Rattle.hub_core.specs.declared.hub.Hub.{Hub}
use Rattle.hub_core.specs.HubStands.{HubStandsFor}
use Rattle.hub_core.specs.HubSaving.{saved_of}
use Rattle.checkpoint.specs.Saves.{most_saved, saved_bytes, IsAboveMost, IsFormOf, IsSaved}
use Rattle.statsd_cli.specs.declared.ending.Ending.{Ending}
use Rattle.statsd_cli.specs.declared.ending.Ending.TheVariants.{Done, Refused, Usage, BadSession, ReadFault, WriteFault, NoMemory, ReportRefused, SaveRefused}
use Rattle.statsd_cli.specs.declared.ending.SaveFault.TheVariants.{Cut, TooLong, NotSaved}
use Rattle.statsd_cli.specs.declared.serving.Serving.{Serving}
use Rattle.statsd_cli.specs.Endings.{status_of}
use Rattle.statsd_cli.specs.Form.{framed}
use Rattle.statsd_cli.specs.Run.{IsReadInPart, IsReadSo, IsReadToEnd}
use Rattle.statsd_cli.specs.Serving.{origin_at, HasEnded}
use Rattle.statsd_cli.specs.Save.{IsFormTold, IsFormTooLong, IsSessionSaved, IsWeighed, SavesSo, WritesForm, WritesFormOf}
use Rattle.statsd_cli.specs.Does.{IsUndisturbed}
use Rattle.statsd_cli.proofs.RunLemmas.{good_is_served, good_isnt_bad}

-- a session that is read whole is read in part
whole_in_part : (taken : List ℕ) (served : List Frame) (new : Input) → IsReadToEnd 0 taken served new
    → IsReadInPart 0 taken served
whole_in_part taken served new read = record {
  others = [];
  end = Clean;
  session = subst (λ all. Reads start taken all Clean) (sym (append-nil served)) read.session;
}

-- the session was read whole, and its form was written so
form_written : (taken : List ℕ) (served : List Frame) (old new : Ports) (ending : Ending)
    → IsReadToEnd 0 taken served new.input → WritesForm served old.output new.output ending
    → SavesSo taken served old new ending
form_written taken served old new Done read written = record { read = read; written = written }
form_written taken served old new Refused read written = absurd written
form_written taken served old new Usage read written = absurd written
form_written taken served old new (BadSession at fault) read written = absurd written
form_written taken served old new ReadFault read written = absurd written
form_written taken served old new WriteFault read written = record { read = read; written = written }
form_written taken served old new NoMemory read written = record {
  read = whole_in_part taken served new.input read;
  written = written;
}
form_written taken served old new (ReportRefused fault) read written = absurd written
form_written taken served old new (SaveRefused fault) read written = record { read = read; written = written }

-- the session ended before it was read whole
unsaved : (taken : List ℕ) (served : List Frame) (old new : Input) (out : Output) (ending : Ending)
    → (ending ≡ Done → ⊥) → (ending ≡ WriteFault → ⊥)
    → IsReadSo 0 taken served old new ending → SavesSo taken served (ports old out) (ports new out) ending
unsaved taken served old new out Done undone unwritten read = absurd (undone refl)
unsaved taken served old new out Refused undone unwritten read = absurd read
unsaved taken served old new out Usage undone unwritten read = absurd read
unsaved taken served old new out (BadSession at fault) undone unwritten read = record {
  read = read;
  written = Gains-nil out;
}
unsaved taken served old new out ReadFault undone unwritten read = record { read = read; written = Gains-nil out }
unsaved taken served old new out WriteFault undone unwritten read = absurd (unwritten refl)
unsaved taken served old new out NoMemory undone unwritten read = record { read = read; written = Gains-nil out }
unsaved taken served old new out (ReportRefused fault) undone unwritten read = absurd read
unsaved taken served old new out (SaveRefused fault) undone unwritten read = absurd read

module _ (old new : Input) (out : Output) (first last : Serving) (frames : List Frame)
    (begins : first.reader.place.clock ≡ 0) where
  -- the session was served to its end, and its form was written so
  pub saves_served : HubStandsFor matcher_holds first.hub []
      → HasEnded (origin_at first old) new last frames Done
      → (after : Output) (ending : Ending) → WritesFormOf last.hub out after ending
      → IsSessionSaved (ports old out) (ports new after) ending
  saves_served stood ended after ending writes = record {
    taken = ended.taken;
    consumes = ended.consumes;
    served = frames;
    outcome = form_written ended.taken frames (ports old out) (ports new after) ending
        (subst (λ clock. IsReadToEnd clock ended.taken frames new) begins ended.read)
        (writes frames (ended.stands refl [] stood));
  }

  -- it ended before
  pub saves_nothing : (ending : Ending) → (ending ≡ Done → ⊥)
      → HasEnded (origin_at first old) new last frames ending
      → IsSessionSaved (ports old out) (ports new out) ending
  saves_nothing ending undone ended = record {
    taken = ended.taken;
    consumes = ended.consumes;
    served = frames;
    outcome = unsaved ended.taken frames old new out ending undone ended.unwritten
        (subst (λ clock. IsReadSo clock ended.taken frames old new ending) begins ended.read);
  }

-- the form of a hub that stands for these frames, and weighs no more than they do
weighed : (hub : Hub FieldJudge) (frames : List Frame) (bytes : List ℕ) → HubStandsFor matcher_holds hub frames
    → IsFormOf (saved_of hub) bytes → length (saved_bytes (saved_of hub)) ≤ weigh matcher_holds frames
    → IsWeighed frames bytes
weighed hub frames bytes stands form within = record {
  saved = record { hub = hub; stands = stands; form = form };
  within = subst (λ l. length l ≤ weigh matcher_holds frames) (sym form.spelled) within;
}

-- it was written so
pub form_told : (hub : Hub FieldJudge) (frames : List Frame) (bytes : List ℕ) (tells : List ℕ → Type 0)
    → HubStandsFor matcher_holds hub frames → IsSaved hub bytes
    → length (saved_bytes (saved_of hub)) ≤ weigh matcher_holds frames → tells (framed bytes)
    → IsFormTold frames tells
form_told hub frames bytes tells stands saved within written = record {
  bytes = bytes;
  form = weighed hub frames bytes stands saved.form within;
  short = saved.short;
  written = written;
}

-- it is too long
pub form_too_long : (hub : Hub FieldJudge) (frames : List Frame) (size : ℕ) (out : Output)
    → HubStandsFor matcher_holds hub frames → IsAboveMost hub size
    → length (saved_bytes (saved_of hub)) ≤ weigh matcher_holds frames
    → IsFormTooLong frames size out out
form_too_long hub frames size out stands above within = record {
  bytes = saved_bytes (saved_of hub);
  form = weighed hub frames (saved_bytes (saved_of hub)) stands above.form within;
  long = above.long;
  is = above.is;
  written = Gains-nil out;
}

-- What a session that is saved tells by its status.
module _ (old new : Ports) where
  pub saved_usage : (ending : Ending) → IsSessionSaved old new ending → status_of ending ≡ 2 → ⊥
  saved_usage Done it is = absurd (omega (arith, is))
  saved_usage Refused it is = it.outcome.written
  saved_usage Usage it is = it.outcome.written
  saved_usage (BadSession at fault) it is = absurd (omega (arith, is))
  saved_usage ReadFault it is = absurd (omega (arith, is))
  saved_usage WriteFault it is = absurd (omega (arith, is))
  saved_usage NoMemory it is = absurd (omega (arith, is))
  saved_usage (ReportRefused fault) it is = it.outcome.written
  saved_usage (SaveRefused fault) it is = absurd (omega (arith, is))

  pub saved_read : (ending : Ending) → IsSessionSaved old new ending → status_of ending ≡ 4
      → Rose old.input.faults new.input.faults
  saved_read Done it is = absurd (omega (arith, is))
  saved_read Refused it is = absurd it.outcome.written
  saved_read Usage it is = absurd it.outcome.written
  saved_read (BadSession at fault) it is = absurd (omega (arith, is))
  saved_read ReadFault it is = it.outcome.read.rose
  saved_read WriteFault it is = absurd (omega (arith, is))
  saved_read NoMemory it is = absurd (omega (arith, is))
  saved_read (ReportRefused fault) it is = absurd it.outcome.written
  saved_read (SaveRefused fault) it is = absurd (omega (arith, is))

  pub saved_write : (ending : Ending) → IsSessionSaved old new ending → status_of ending ≡ 5
      → Rose old.output.faults new.output.faults
  saved_write Done it is = absurd (omega (arith, is))
  saved_write Refused it is = absurd it.outcome.written
  saved_write Usage it is = absurd it.outcome.written
  saved_write (BadSession at fault) it is = absurd (omega (arith, is))
  saved_write ReadFault it is = absurd (omega (arith, is))
  saved_write WriteFault it is = it.outcome.written.1
  saved_write NoMemory it is = absurd (omega (arith, is))
  saved_write (ReportRefused fault) it is = absurd it.outcome.written
  saved_write (SaveRefused fault) it is = absurd (omega (arith, is))

-- what a save of a good session comes to
abbrev IsSavedOrShort : List Frame → ℕ → Type 0
IsSavedOrShort frames status =
    ((status ≡ 0) ⊎ (status ≡ 6)) ⊎ ((status ≡ 8) × (most_saved < weigh matcher_holds frames))

-- of an input that tells its bytes
saved_at : (bytes : List ℕ) (read_old : ℕ) (o : Output) (new : Ports) (status : ℕ) (ending : Ending)
    → status ≡ status_of ending
    → IsSessionSaved (ports (input_with (Some bytes) read_old) o) new ending
    → IsUndisturbed (ports (input_with (Some bytes) read_old) o) new
    → (frames : List Frame) → Reads start bytes frames Clean → IsSavedOrShort frames status
saved_at bytes read_old o new status Done is it still frames good = inl (inl is)
saved_at bytes read_old o new status Refused is it still frames good = absurd it.outcome.written
saved_at bytes read_old o new status Usage is it still frames good = absurd it.outcome.written
saved_at bytes read_old o new status (BadSession at fault) is it still frames good =
    absurd (good_isnt_bad 0 bytes read_old new.input.left new.input.faults it.taken at fault frames it.served
    it.consumes it.outcome.read good)
saved_at bytes read_old o new status ReadFault is it still frames good =
    absurd (still.reads it.outcome.read.rose)
saved_at bytes read_old o new status WriteFault is it still frames good =
    absurd (still.writes it.outcome.written.1)
saved_at bytes read_old o new status NoMemory is it still frames good = inl (inr is)
saved_at bytes read_old o new status (ReportRefused fault) is it still frames good = absurd it.outcome.written
saved_at bytes read_old o new status (SaveRefused (TooLong size)) is it still frames good =
    let same = good_is_served 0 bytes read_old new.input.left new.input.faults it.taken frames it.served it.consumes
    it.outcome.read good in
    inr (
      is,
      subst (λ all. most_saved < weigh matcher_holds all) same
          (omega (arith, it.outcome.written.long, it.outcome.written.form.within)),
    )
saved_at bytes read_old o new status (SaveRefused Cut) is it still frames good = absurd it.outcome.written
saved_at bytes read_old o new status (SaveRefused NotSaved) is it still frames good = absurd it.outcome.written

saved_with : (left : Option (List ℕ)) (read_old : ℕ) (o : Output) (new : Ports) (status : ℕ) (ending : Ending)
    → status ≡ status_of ending
    → IsSessionSaved (ports (input_with left read_old) o) new ending
    → IsUndisturbed (ports (input_with left read_old) o) new
    → IfSome left (λ bytes. (frames : List Frame) → Reads start bytes frames Clean → IsSavedOrShort frames status)
saved_with None read_old o new status ending is it still = tt
saved_with (Some bytes) read_old o new status ending is it still =
    saved_at bytes read_old o new status ending is it still

-- A good session is saved, unless the outside fails, memory is wanting, or its form may be too long.
pub saved : (old new : Ports) (status : ℕ) (ending : Ending)
    → status ≡ status_of ending
    → IsSessionSaved old new ending
    → IsUndisturbed old new
    → IfSome old.input.left (λ bytes.
    (frames : List Frame) → Reads start bytes frames Clean → IsSavedOrShort frames status)
saved old new status ending is it still =
    saved_with old.input.left old.input.faults old.output new status ending is it still
