-- The run of a session: from answer to answer, how it ends, and what it comes to where the outside doesn't fail.
use Rattle.std.proofs.Common.{◌≡◌, ℕ, ◌≤◌, List, [], ◌++◌, Option, Some, None, refl, sym, ap, subst, ◌∙◌, arith, inl, inr, ⊎_elim}
use Rattle.std.specs.Prelude.{◌⊎◌, IfSome}
use Rattle.std.proofs.lemmas.List.{append-nil}
use Rattle.sd_io.specs.States.{Input, Output, Ports, ports, input_with}
use Rattle.sd_io.specs.Causes.{Rose, Gains, GainsFront, Takes}
use Rattle.sd_io.proofs.CausesLemmas.{Gains-nil, Gains-trans, front_after}
use Rattle.session_frames.specs.declared.frame.Frame.{Frame}
use Rattle.session_frames.specs.declared.frame.SessionFault.{SessionFault}
use Rattle.session_frames.specs.declared.frame.SessionFault.TheVariants.{Cut, TooLong, BadLength, UnknownKind, BadBody, BadAtom, TimeBackwards, TooManyFrames}
use Rattle.session_frames.specs.Frames.{Clean, Bad, Reads}
use Rattle.session_frames.specs.Reader.{resumed_at}
use Rattle.session_frames.proofs.FrameLaws.{one_reading, Reads-more}
use Rattle.session_frames.specs.declared.reply.Reply.{Reply}
use Rattle.matcher_eval.specs.AtomTests.{matcher_holds}
use Rattle.matcher_eval.specs.declared.field_judge.FieldJudge.{FieldJudge}
use Rattle.hub_core.specs.declared.hub.Hub.{Hub}
use Rattle.hub_core.specs.HubStands.{HubStandsFor}
use Rattle.statsd_cli.specs.declared.ending.Ending.{Ending}
use Rattle.statsd_cli.specs.declared.ending.Ending.TheVariants.{Done, Refused, Usage, BadSession, ReadFault, WriteFault, NoMemory, ReportRefused, SaveRefused}
use Rattle.statsd_cli.specs.declared.serving.Serving.{Serving}
use Rattle.statsd_cli.specs.Endings.{status_of}
use Rattle.statsd_cli.specs.More.{bytes_if_any, more}
use Rattle.statsd_cli.specs.Run.{replay_tells, IsBadSession, IsReadToEnd, IsRun, IsRunFrom, IsToldSo, WordTells}
use Rattle.statsd_cli.specs.Serving.{origin_at, tells_after, EndsAfter, HasServed, IsAlong, HasReadNothing, IsFurther, Origin}
use Rattle.statsd_cli.specs.Does.{IsUndisturbed}
use Rattle.statsd_cli.proofs.MoreLemmas.{more-append, text_is}
use Rattle.statsd_cli.proofs.ServingLemmas.{begins_served, read_in_part}

-- at the beginning nothing was told
pub begins_along : (serving : Serving) (input : Input) (empty : Output) → HasReadNothing serving
    → IsAlong (origin_at serving input) empty (ports input empty) serving
begins_along serving input empty fresh = record {
  frames = [];
  served = begins_served serving input fresh;
  told = λ before stood. Gains-nil empty;
  writes = omega arith;
}

-- what is told where no write failed
told_whole : (tells : (List ℕ → Type 0) → Type 0) (old new : Output) (ending : Ending) → (ending ≡ WriteFault → ⊥)
    → tells (Gains old new) → IsToldSo tells old new ending
told_whole tells old new Done other told = told
told_whole tells old new Refused other told = told
told_whole tells old new Usage other told = told
told_whole tells old new (BadSession at fault) other told = told
told_whole tells old new ReadFault other told = told
told_whole tells old new WriteFault other told = absurd (other refl)
told_whole tells old new NoMemory other told = told
told_whole tells old new (ReportRefused fault) other told = told
told_whole tells old new (SaveRefused fault) other told = told

module _ (origin : Origin) (empty : Output) (old : Ports) (serving new : Serving)
    (a : IsAlong origin empty old serving) where
  -- the session ended so
  pub ends_along : (lm : Input) (ending : Ending) → EndsAfter origin lm new a.frames ending
      → IsRunFrom origin.clock (tells_after origin.hub) (ports origin.input empty) (ports lm old.output) ending
  ends_along lm ending e = record {
    taken = e.ended.taken;
    consumes = e.ended.consumes;
    served = a.frames ++ e.come;
    read = e.ended.read;
    told = told_whole (tells_after origin.hub (a.frames ++ e.come)) empty old.output ending e.ended.unwritten
        (λ before stood. subst (Gains empty old.output)
        (sym (more-append before a.frames e.come
        ∙ ap (λ l. more before a.frames ++ l) (e.silent (before ++ a.frames))
        ∙ append-nil (more before a.frames)))
        (a.told before stood));
  }

  module _ (lm : Input) (m : Output) (reply : Option Reply) (s : HasServed origin lm a.frames serving new reply) where
    -- the reply was written
    pub goes_along : Gains old.output m (bytes_if_any reply) → old.output.faults ≤ m.faults
        → IsFurther origin empty (ports lm m) serving new
    goes_along gained writes = record {
      along = record {
        frames = a.frames ++ s.come;
        served = s.served;
        told = λ before stood. subst (Gains empty m) (sym (more-append before a.frames s.come))
            (Gains-trans empty old.output m (more before a.frames) (more (before ++ a.frames) s.come)
            (a.told before stood) (subst (Gains old.output m) (s.owed before stood) gained));
        writes = omega (arith, a.writes, writes);
      };
      nearer = s.nearer;
    }

    -- the reply wasn't written
    pub ends_in_reply : GainsFront old.output m (bytes_if_any reply) → Rose old.output.faults m.faults
        → IsRunFrom origin.clock (tells_after origin.hub) (ports origin.input empty) (ports lm m) WriteFault
    ends_in_reply gained rose = record {
      taken = s.served.taken;
      consumes = s.served.consumes;
      served = a.frames ++ s.come;
      read = read_in_part origin lm new (a.frames ++ s.come) s.served;
      told = (
        λ before stood. subst (GainsFront empty m) (sym (more-append before a.frames s.come))
            (front_after empty old.output m (more before a.frames) (more (before ++ a.frames) s.come)
            (a.told before stood) (subst (GainsFront old.output m) (s.owed before stood) gained)),
        omega (arith, a.writes, rose),
      );
    }

-- the same, told in other words
pub retold : (tells others : (List ℕ → Type 0) → Type 0)
    → ((told : List ℕ → Type 0) → tells told → others told)
    → (old new : Output) (ending : Ending) → IsToldSo tells old new ending → IsToldSo others old new ending
retold tells others so old new Done told = so _ told
retold tells others so old new Refused told = so _ told
retold tells others so old new Usage told = so _ told
retold tells others so old new (BadSession at fault) told = so _ told
retold tells others so old new ReadFault told = so _ told
retold tells others so old new WriteFault told = (so _ told.0, told.1)
retold tells others so old new NoMemory told = so _ told
retold tells others so old new (ReportRefused fault) told = so _ told
retold tells others so old new (SaveRefused fault) told = so _ told

-- A run is one of a word that tells the same in other words.
pub runs_as : (clock : ℕ) (tells others : WordTells)
    → ((frames : List Frame) (told : List ℕ → Type 0) → tells frames told → others frames told)
    → (old new : Ports) (ending : Ending) → IsRunFrom clock tells old new ending → IsRunFrom clock others old new ending
runs_as clock tells others so old new ending run = record {
  taken = run.taken;
  consumes = run.consumes;
  served = run.served;
  read = run.read;
  told = retold (tells run.served) (others run.served) (so run.served) old.output new.output ending run.told;
}

-- What a run tells by its status, wherever it began: never 2, and 4 and 5 for cause.
module _ (clock : ℕ) (tells : WordTells) (old new : Ports) where
  pub run_usage : (ending : Ending) → IsRunFrom clock tells old new ending → status_of ending ≡ 2 → ⊥
  run_usage Done run is = absurd (omega (arith, is))
  run_usage Refused run is = run.read
  run_usage (ReportRefused fault) run is = run.read
  run_usage (SaveRefused fault) run is = run.read
  run_usage Usage run is = run.read
  run_usage (BadSession at fault) run is = absurd (omega (arith, is))
  run_usage ReadFault run is = absurd (omega (arith, is))
  run_usage WriteFault run is = absurd (omega (arith, is))
  run_usage NoMemory run is = absurd (omega (arith, is))

  pub run_read : (ending : Ending) → IsRunFrom clock tells old new ending → status_of ending ≡ 4
      → Rose old.input.faults new.input.faults
  run_read Done run is = absurd (omega (arith, is))
  run_read Refused run is = absurd run.read
  run_read (ReportRefused fault) run is = absurd run.read
  run_read (SaveRefused fault) run is = absurd run.read
  run_read Usage run is = absurd run.read
  run_read (BadSession at fault) run is = absurd (omega (arith, is))
  run_read ReadFault run is = run.read.rose
  run_read WriteFault run is = absurd (omega (arith, is))
  run_read NoMemory run is = absurd (omega (arith, is))

  pub run_write : (ending : Ending) → IsRunFrom clock tells old new ending → status_of ending ≡ 5
      → Rose old.output.faults new.output.faults
  run_write Done run is = absurd (omega (arith, is))
  run_write Refused run is = absurd run.read
  run_write (ReportRefused fault) run is = absurd run.read
  run_write (SaveRefused fault) run is = absurd run.read
  run_write Usage run is = absurd run.read
  run_write (BadSession at fault) run is = absurd (omega (arith, is))
  run_write ReadFault run is = absurd (omega (arith, is))
  run_write WriteFault run is = run.told.1
  run_write NoMemory run is = absurd (omega (arith, is))

-- A session that is good to its end has no fault.
is_cut : (fault : SessionFault) → (fault ≡ Cut) ⊎ (fault ≡ Cut → ⊥)
is_cut Cut = inl refl
is_cut (TooLong size) = inr (λ e. cc)
is_cut BadLength = inr (λ e. cc)
is_cut (UnknownKind kind) = inr (λ e. cc)
is_cut (BadBody reason) = inr (λ e. cc)
is_cut (BadAtom reason) = inr (λ e. cc)
is_cut (TimeBackwards last now) = inr (λ e. cc)
is_cut TooManyFrames = inr (λ e. cc)

module _ (clock : ℕ) where
  same_end : (bytes : List ℕ) (frames others : List Frame) (at : ℕ) (fault : SessionFault)
      → Reads (resumed_at clock) bytes frames Clean → Reads (resumed_at clock) bytes others (Bad at fault) → ⊥
  same_end bytes frames others at fault good bad = let one =
      one_reading (resumed_at clock) bytes frames others Clean (Bad at fault) good bad in cc

  not_bad : (bytes rest taken : List ℕ) (read_now at : ℕ) (fault : SessionFault) (frames served : List Frame)
      → bytes ≡ taken ++ rest
      → IsBadSession clock at fault taken served (input_with (Some rest) read_now)
      → Reads (resumed_at clock) bytes frames Clean → ⊥
  not_bad bytes rest taken read_now at fault frames served is h good =
      ⊎_elim
      (λ (cut : fault ≡ Cut). same_end bytes frames served at fault good
      (subst (λ l. Reads (resumed_at clock) l served (Bad at fault))
      (sym (is ∙ ap (λ r. taken ++ r) (h.at_end cut) ∙ append-nil taken)) h.session))
      (λ (other : fault ≡ Cut → ⊥). same_end bytes frames served at fault good
      (subst (λ l. Reads (resumed_at clock) l served (Bad at fault)) (sym is)
      (Reads-more (resumed_at clock) taken rest served at fault h.session other)))
      (is_cut fault)

  -- a session that is good to its end isn't bad
  pub good_isnt_bad : (bytes : List ℕ) (read_old : ℕ) (left : Option (List ℕ)) (read_now : ℕ) (taken : List ℕ)
      (at : ℕ) (fault : SessionFault) (frames served : List Frame)
      → Takes (input_with (Some bytes) read_old) (input_with left read_now) taken
      → IsBadSession clock at fault taken served (input_with left read_now)
      → Reads (resumed_at clock) bytes frames Clean → ⊥
  good_isnt_bad bytes read_old None read_now taken at fault frames served takes bad good = takes
  good_isnt_bad bytes read_old (Some rest) read_now taken at fault frames served takes bad good =
      not_bad bytes rest taken read_now at fault frames served takes bad good

  -- where it is read to its end, all of its frames are served
  pub good_is_served : (bytes : List ℕ) (read_old : ℕ) (left : Option (List ℕ)) (read_now : ℕ) (taken : List ℕ)
      (frames served : List Frame)
      → Takes (input_with (Some bytes) read_old) (input_with left read_now) taken
      → IsReadToEnd clock taken served (input_with left read_now)
      → Reads (resumed_at clock) bytes frames Clean → served ≡ frames
  good_is_served bytes read_old None read_now taken frames served takes read good = absurd takes
  good_is_served bytes read_old (Some rest) read_now taken frames served takes read good =
      let whole : bytes ≡ taken = takes ∙ ap (λ r. taken ++ r) read.at_end ∙ append-nil taken in
      (one_reading (resumed_at clock) taken served frames Clean Clean read.session
      (subst (λ l. Reads (resumed_at clock) l frames Clean) whole good)).0

  module _ (tells : WordTells) where
    -- of an input that tells its bytes
    complete_at : (bytes : List ℕ) (read_old : ℕ) (o : Output) (new : Ports) (status : ℕ) (ending : Ending)
        → status ≡ status_of ending
        → IsRunFrom clock tells (ports (input_with (Some bytes) read_old) o) new ending
        → IsUndisturbed (ports (input_with (Some bytes) read_old) o) new
        → (frames : List Frame) → Reads (resumed_at clock) bytes frames Clean → (status ≡ 0) ⊎ (status ≡ 6)
    complete_at bytes read_old o new status Done is run still frames good = inl is
    complete_at bytes read_old o new status Refused is run still frames good = absurd run.read
    complete_at bytes read_old o new status Usage is run still frames good = absurd run.read
    complete_at bytes read_old o new status (BadSession at fault) is run still frames good =
        absurd (good_isnt_bad bytes read_old new.input.left new.input.faults run.taken at fault frames run.served
        run.consumes run.read good)
    complete_at bytes read_old o new status ReadFault is run still frames good = absurd (still.reads run.read.rose)
    complete_at bytes read_old o new status WriteFault is run still frames good = absurd (still.writes run.told.1)
    complete_at bytes read_old o new status NoMemory is run still frames good = inr is
    complete_at bytes read_old o new status (ReportRefused fault) is run still frames good = absurd run.read
    complete_at bytes read_old o new status (SaveRefused fault) is run still frames good = absurd run.read

    complete_with : (left : Option (List ℕ)) (read_old : ℕ) (o : Output) (new : Ports) (status : ℕ) (ending : Ending)
        → status ≡ status_of ending
        → IsRunFrom clock tells (ports (input_with left read_old) o) new ending
        → IsUndisturbed (ports (input_with left read_old) o) new
        → IfSome left (λ bytes.
        (frames : List Frame) → Reads (resumed_at clock) bytes frames Clean → (status ≡ 0) ⊎ (status ≡ 6))
    complete_with None read_old o new status ending is run still = tt
    complete_with (Some bytes) read_old o new status ending is run still =
        complete_at bytes read_old o new status ending is run still

    -- A good session is answered to its end, unless the outside fails or memory is wanting.
    pub complete_from : (old new : Ports) (status : ℕ) (ending : Ending)
        → status ≡ status_of ending
        → IsRunFrom clock tells old new ending
        → IsUndisturbed old new
        → IfSome old.input.left (λ bytes.
        (frames : List Frame) → Reads (resumed_at clock) bytes frames Clean → (status ≡ 0) ⊎ (status ≡ 6))
    complete_from old new status ending is run still =
        complete_with old.input.left old.input.faults old.output new status ending is run still

-- A run of a new hub from the beginning on is a replay.
pub replays : (old new : Ports) (serving : Serving) (ending : Ending) → serving.reader.place.clock ≡ 0
    → HubStandsFor matcher_holds serving.hub []
    → IsRunFrom serving.reader.place.clock (tells_after serving.hub) old new ending
    → IsRun old new ending
replays old new serving ending begins stands run =
    runs_as 0 (tells_after serving.hub) replay_tells
    (λ frames told all. subst told (sym (text_is frames)) (all [] stands)) old new ending
    (subst (λ clock. IsRunFrom clock (tells_after serving.hub) old new ending) begins run)

-- A run of this hub from this clock on.
pub runs_from : (old new : Ports) (serving : Serving) (hub : Hub FieldJudge) (clock : ℕ) (ending : Ending)
    → serving.reader.place.clock ≡ clock → serving.hub ≡ hub
    → IsRunFrom serving.reader.place.clock (tells_after serving.hub) old new ending
    → IsRunFrom clock (tells_after hub) old new ending
runs_from old new serving hub clock ending begins same run =
    subst (λ one. IsRunFrom clock (tells_after one) old new ending) same
    (subst (λ time. IsRunFrom time (tells_after serving.hub) old new ending) begins run)
