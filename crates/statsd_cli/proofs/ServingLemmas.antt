-- On specs/Serving.antt: a session that is served step by step, and how it ends.
use Rattle.std.proofs.Common.{◌≡◌, ℕ, ◌+◌, ◌-◌, ◌<◌, ◌≤◌, List, [], ◌∷◌, ◌++◌, Option, Some, None, refl, sym, ap, subst, ◌∙◌, append_assoc, arith}
use Rattle.std.proofs.lemmas.List.{append-nil}
use Rattle.atom_record.specs.declared.log.LogFrame.{LogFrame}
use Rattle.sd_io.specs.States.{Input}
use Rattle.sd_io.specs.Causes.{Rose}
use Rattle.sd_io.proofs.CausesLemmas.{Takes-nil, Takes-trans}
use Rattle.session_frames.specs.declared.frame.Frame.{Frame}
use Rattle.session_frames.specs.declared.frame.Frame.TheVariants.{Log}
use Rattle.session_frames.specs.declared.frame.FrameError.{FrameError}
use Rattle.session_frames.specs.declared.frame.FrameError.TheVariants as errors
use Rattle.session_frames.specs.declared.reply.Reply.{Reply}
use Rattle.session_frames.specs.Frames.{most_session_frames, clock_after, Next, Ended, Broken, Whole, next_frame, End, Clean, Bad, Reads, Begins}
use Rattle.session_frames.specs.Reader.{Reading, unread, resumed_at, GivesFrame, IsUnfinished, Refuses}
use Rattle.session_frames.proofs.FrameLaws.{StandsWhole-from_next, Begins-more, Begins-push, Reads-from_Begins, some_reading}
use Rattle.matcher_eval.specs.AtomTests.{matcher_holds}
use Rattle.hub_meaning.specs.SessionLog.{clock_of}
use Rattle.hub_meaning.specs.ClientAnswers.{reply_to}
use Rattle.hub_meaning.proofs.SessionLogLaws.{clock_of-push}
use Rattle.hub_core.specs.HubStands.{HubStandsFor}
use Rattle.statsd_cli.specs.declared.ending.Ending.{Ending}
use Rattle.statsd_cli.specs.declared.ending.Ending.TheVariants.{Done, NoMemory}
use Rattle.statsd_cli.specs.declared.serving.Serving.{Serving}
use Rattle.statsd_cli.specs.declared.serving.Step.{Step}
use Rattle.statsd_cli.specs.declared.serving.Step.TheVariants as step
use Rattle.statsd_cli.specs.More.{bytes_if_any, more}
use Rattle.statsd_cli.specs.Run.{IsReadInPart, IsUnfinishedEnd, ending_by}
use Rattle.statsd_cli.specs.Serving.{origin_at, step_ending, AreSilent, EndsAfter, HasLogged, HasServed, HasEnded, HasReadNothing, IsServed, Origin, StepsOn, StepsSo, WhateverCame}
use Rattle.statsd_cli.proofs.MoreLemmas.{more-append, more-push}

-- a reader that has taken nothing, with this clock
abbrev reading_at : ℕ → Reading
reading_at clock = record unread { place = resumed_at clock }

-- a reader that has taken nothing stands at the beginning of the log, and so does a hub that has seen no frame
pub fresh_new : (serving : Serving) → serving.reader ≡ unread → HubStandsFor matcher_holds serving.hub []
    → HasReadNothing serving
fresh_new serving reader stands = record {
  reader = reader ∙ ap reading_at (sym (ap (λ (r : Reading). r.place.clock) reader));
  timed = λ before stood. sym stood.clock ∙ stands.clock ∙ sym (ap (λ (r : Reading). r.place.clock) reader);
}

-- the clock of a reader that goes on is that of the hub
pub fresh_resumed : (serving : Serving) (clock : ℕ) → serving.reader ≡ reading_at clock
    → WhateverCame serving.hub (λ before. clock ≡ clock_of before)
    → HasReadNothing serving
fresh_resumed serving clock reader clocks = record {
  reader = reader ∙ ap reading_at (sym (ap (λ (r : Reading). r.place.clock) reader));
  timed = λ before stood. sym (clocks before stood) ∙ sym (ap (λ (r : Reading). r.place.clock) reader);
}

-- at the beginning nothing was served
pub begins_served : (serving : Serving) (input : Input) → HasReadNothing serving
    → IsServed (origin_at serving input) input serving []
begins_served serving input fresh = record {
  taken = [];
  consumes = Takes-nil input;
  begins = (ap (λ (r : Reading). r.pending) (sym fresh.reader), ap (λ (r : Reading). r.place) (sym fresh.reader));
  unended = ap (λ (r : Reading). r.ended) fresh.reader;
  stands = λ before stands. subst (HubStandsFor matcher_holds serving.hub) (sym (append-nil before)) stands;
  timed = λ before stands. ap clock_of (append-nil before) ∙ fresh.timed before stands;
  reads = omega arith;
}

-- where more bytes may be a frame, no frame stands there yet
unfinished_end : (reader : Reading) (left : List ℕ) (next : Next) → next_frame reader.place left ≡ next
    → IsUnfinished next
    → (end : End) × Reads reader.place left [] end × IsUnfinishedEnd end
unfinished_end reader left Ended is unfinished = (Clean, is, tt)
unfinished_end reader left (Broken fault) is unfinished = (Bad reader.place.bytes fault, (refl, is), unfinished)
unfinished_end reader left (Whole frame rest) is unfinished = absurd unfinished

-- a frame of the log has no reply
log_silent : (before : List Frame) (frame : LogFrame) → bytes_if_any (reply_to matcher_holds before (Log frame)) ≡ []
unfolding reply_to
log_silent before frame = refl

-- frames without a reply, and one of the log after them
silent_push : (frames : List Frame) (frame : LogFrame) → AreSilent frames → AreSilent (frames ++ Log frame ∷ [])
silent_push frames frame silent = λ before.
    more-push before frames (Log frame)
    ∙ ap (λ l. l ++ bytes_if_any (reply_to matcher_holds (before ++ frames) (Log frame))) (silent before)
    ∙ log_silent (before ++ frames) frame

-- the replies to frames of which the first have none
silent_first : (before front back : List Frame) → AreSilent front
    → more before (front ++ back) ≡ more (before ++ front) back
silent_first before front back silent =
    more-append before front back ∙ ap (λ l. l ++ more (before ++ front) back) (silent before)

-- both have none
silent_both : (front back : List Frame) → AreSilent front → AreSilent back → AreSilent (front ++ back)
silent_both front back first second = λ before. silent_first before front back first ∙ second (before ++ front)

-- nothing more came
pub ends_here : (origin : Origin) (now : Input) (serving : Serving) (frames : List Frame) (ending : Ending)
    → HasEnded origin now serving frames ending → EndsAfter origin now serving frames ending
ends_here origin now serving frames ending ended = record {
  come = [];
  silent = λ before. refl;
  ended = subst (λ all. HasEnded origin now serving all ending) (sym (append-nil frames)) ended;
}

module _ (origin : Origin) (ln : Input) (serving : Serving) (frames : List Frame)
    (a : IsServed origin ln serving frames) where
  further : (bytes : List ℕ)
      → Begins (resumed_at origin.clock) (a.taken ++ bytes) frames serving.reader.place
      (serving.reader.pending ++ bytes)
  further bytes =
      Begins-more (resumed_at origin.clock) a.taken frames serving.reader.place serving.reader.pending bytes a.begins

  -- the frames so far, where no frame stands next
  ends_at : (bytes : List ℕ) (end : End) → Reads serving.reader.place (serving.reader.pending ++ bytes) [] end
      → Reads (resumed_at origin.clock) (a.taken ++ bytes) frames end
  ends_at bytes end reads =
      subst (λ all. Reads (resumed_at origin.clock) (a.taken ++ bytes) all end) (append-nil frames)
      (Reads-from_Begins (resumed_at origin.clock) (a.taken ++ bytes) frames serving.reader.place
      (serving.reader.pending ++ bytes) [] end (further bytes) reads)

  -- more frames may come
  pub read_in_part : IsReadInPart origin.clock a.taken frames
  read_in_part =
      let others = some_reading serving.reader.place serving.reader.pending in
      record {
        others = others.0;
        end = others.1;
        session = Reads-from_Begins (resumed_at origin.clock) a.taken frames serving.reader.place
            serving.reader.pending others.0 others.1 a.begins others.2;
      }

  -- the source ended
  pub ends_done : (lm : Input) (new : Serving) → new.hub ≡ serving.hub
      → GivesFrame ln lm serving.reader new.reader None → HasEnded origin lm new frames Done
  ends_done lm new same g = record {
    taken = a.taken ++ g.taken;
    consumes = Takes-trans origin.input ln lm a.taken g.taken a.consumes g.consumes;
    read = record { session = ends_at g.taken Clean g.next.0; at_end = g.at_end };
    unwritten = λ is. cc;
    stands = λ is before stood.
        subst (λ hub. HubStandsFor matcher_holds hub (before ++ frames)) (sym same) (a.stands before stood);
  }

  -- the reader gave no frame
  pub ends_refused : (lm : Input) (new : Serving) (e : FrameError) → Refuses ln lm serving.reader e
      → ln.faults ≤ lm.faults → (e ≡ errors.Read → Rose ln.faults lm.faults)
      → HasEnded origin lm new frames (ending_by e)
  ends_refused lm new (errors.Session at fault) r later rose = record {
    taken = a.taken ++ r.taken;
    consumes = Takes-trans origin.input ln lm a.taken r.taken a.consumes r.consumes;
    read = record {
      session = ends_at r.taken (Bad at fault) (r.cause.placed, r.cause.broken);
      at_once = record {
        place = serving.reader.place;
        left = serving.reader.pending ++ r.taken;
        begins_there = further r.taken;
        no_more = r.no_more;
      };
      at_end = r.cause.at_end;
    };
    unwritten = λ is. cc;
    stands = λ is. absurd (cc);
  }
  ends_refused lm new errors.Read r later rose =
      let open_end = unfinished_end serving.reader (serving.reader.pending ++ r.taken)
      (next_frame serving.reader.place (serving.reader.pending ++ r.taken)) refl r.cause in
      record {
        taken = a.taken ++ r.taken;
        consumes = Takes-trans origin.input ln lm a.taken r.taken a.consumes r.consumes;
        read = record {
          end = open_end.0;
          session = ends_at r.taken open_end.0 open_end.1;
          unfinished = open_end.2;
          rose = let own = rose refl in omega (arith, a.reads, later, own);
        };
        unwritten = λ is. cc;
        stands = λ is. absurd (cc);
      }
  ends_refused lm new errors.Memory r later rose =
      let others = some_reading serving.reader.place (serving.reader.pending ++ r.taken) in
      record {
        taken = a.taken ++ r.taken;
        consumes = Takes-trans origin.input ln lm a.taken r.taken a.consumes r.consumes;
        read = record {
          others = others.0;
          end = others.1;
          session = Reads-from_Begins (resumed_at origin.clock) (a.taken ++ r.taken) frames serving.reader.place
              (serving.reader.pending ++ r.taken) others.0 others.1 (further r.taken) others.2;
        };
        unwritten = λ is. cc;
        stands = λ is. absurd (cc);
      }

  module _ (lm : Input) (new : Serving) (frame : Frame) (g : GivesFrame ln lm serving.reader new.reader (Some frame))
    where
      one_more : Begins (resumed_at origin.clock) (a.taken ++ g.taken) (frames ++ frame ∷ []) new.reader.place
          new.reader.pending
      one_more =
          subst (λ (r : Reading).
          Begins (resumed_at origin.clock) (a.taken ++ g.taken) (frames ++ frame ∷ []) r.place r.pending)
          (sym g.next.1)
          (Begins-push (resumed_at origin.clock) (a.taken ++ g.taken) frames serving.reader.place
          (serving.reader.pending ++ g.taken) frame [] (further g.taken) g.next.0)

      -- the frame was served
      pub goes_on : WhateverCame origin.hub
          (λ before. HubStandsFor matcher_holds new.hub ((before ++ frames) ++ frame ∷ []))
          → ln.faults ≤ lm.faults
          → IsServed origin lm new (frames ++ frame ∷ [])
      goes_on stands reads = record {
        taken = a.taken ++ g.taken;
        consumes = Takes-trans origin.input ln lm a.taken g.taken a.consumes g.consumes;
        begins = one_more;
        unended = ap (λ (r : Reading). r.ended) g.next.1;
        stands = λ before stood. subst (HubStandsFor matcher_holds new.hub) (append_assoc before frames (frame ∷ []))
            (stands before stood);
        timed = λ before stood. ap clock_of (sym (append_assoc before frames (frame ∷ [])))
            ∙ clock_of-push (before ++ frames) frame
            ∙ ap (λ clock. clock_after clock frame) (a.timed before stood)
            ∙ sym (ap (λ (r : Reading). r.place.clock) g.next.1);
        reads = omega (arith, a.reads, reads);
      }

      -- there was no memory for the frame
      pub ends_in_step : HasEnded origin lm new frames NoMemory
      ends_in_step =
          let others = some_reading new.reader.place new.reader.pending in
          record {
            taken = a.taken ++ g.taken;
            consumes = Takes-trans origin.input ln lm a.taken g.taken a.consumes g.consumes;
            read = record {
              others = frame ∷ others.0;
              end = others.1;
              session = subst (λ all. Reads (resumed_at origin.clock) (a.taken ++ g.taken) all others.1)
                  (append_assoc frames (frame ∷ []) others.0)
                  (Reads-from_Begins (resumed_at origin.clock) (a.taken ++ g.taken) (frames ++ frame ∷ [])
                  new.reader.place new.reader.pending others.0 others.1 one_more others.2);
            };
            unwritten = λ is. cc;
            stands = λ is. absurd (cc);
          }

-- one frame more was read
counts_one : (ln lm : Input) (old new : Reading) (frame : Frame) → GivesFrame ln lm old new (Some frame)
    → new.place.frames ≡ old.place.frames + 1
counts_one ln lm old new frame g = ap (λ (r : Reading). r.place.frames) g.next.1

-- and a session has so many at most
pub comes_nearer : (ln lm : Input) (old new : Reading) (frame : Frame) → GivesFrame ln lm old new (Some frame)
    → most_session_frames - new.place.frames < most_session_frames - old.place.frames
comes_nearer ln lm old new frame g =
    omega (
      arith,
      counts_one ln lm old new frame g,
      (StandsWhole-from_next old.place (old.pending ++ g.taken) frame [] g.next.0).room,
    )

-- no frame of the log was served yet
pub none_logged : (origin : Origin) (now : Input) (serving : Serving) (frames : List Frame)
    → IsServed origin now serving frames → HasLogged origin now frames serving serving
none_logged origin now serving frames a = record {
  come = [];
  silent = λ before. refl;
  served = subst (IsServed origin now serving) (sym (append-nil frames)) a;
  counted = omega arith;
}

module _ (origin : Origin) (ln lm : Input) (frames : List Frame) (first serving new : Serving)
    (h : HasLogged origin ln frames first serving) where
  -- nothing was taken
  pub still_logged : lm ≡ ln → new.reader ≡ serving.reader → new.hub ≡ serving.hub
      → HasLogged origin lm frames first new
  still_logged input reader hub = record {
    come = h.come;
    silent = h.silent;
    served = record {
      taken = h.served.taken;
      consumes = rw input h.served.consumes;
      begins = rw reader h.served.begins;
      unended = rw reader h.served.unended;
      stands = rw hub h.served.stands;
      timed = rw reader h.served.timed;
      reads = rw input h.served.reads;
    };
    counted = rw reader h.counted;
  }

  -- one more was served
  pub logs_one : (frame : LogFrame) (g : GivesFrame ln lm serving.reader new.reader (Some (Log frame)))
      → WhateverCame origin.hub
      (λ before. HubStandsFor matcher_holds new.hub ((before ++ (frames ++ h.come)) ++ Log frame ∷ []))
      → ln.faults ≤ lm.faults
      → HasLogged origin lm frames first new
  logs_one frame g stands reads = record {
    come = h.come ++ Log frame ∷ [];
    silent = silent_push h.come frame h.silent;
    served = subst (IsServed origin lm new) (append_assoc frames h.come (Log frame ∷ []))
        (goes_on origin ln serving (frames ++ h.come) h.served lm new (Log frame) g stands reads);
    counted = omega (arith, h.counted, counts_one ln lm serving.reader new.reader (Log frame) g);
  }

  -- there was no memory for one more
  pub ends_in_log : (frame : LogFrame) (g : GivesFrame ln lm serving.reader new.reader (Some (Log frame)))
      → EndsAfter origin lm new frames NoMemory
  ends_in_log frame g = record {
    come = h.come;
    silent = h.silent;
    ended = ends_in_step origin ln serving (frames ++ h.come) h.served lm new (Log frame) g;
  }

-- A step after frames of the log is a step before them.
pub steps_after : (origin : Origin) (mid now : Input) (frames : List Frame) (before between after : Serving)
    (came : Step)
    → HasLogged origin mid frames before between
    → StepsOn mid now between after came
    → StepsSo origin now frames before after came
steps_after origin mid now frames before between after (step.Served reply) h steps =
    let served : HasServed origin now (frames ++ h.come) between after reply =
    steps origin (frames ++ h.come) h.served in
    record {
      come = h.come ++ served.come;
      served = subst (IsServed origin now after) (append_assoc frames h.come served.come) served.served;
      owed = λ first stood. served.owed first stood
          ∙ ap (λ l. more l served.come) (sym (append_assoc first frames h.come))
          ∙ sym (silent_first (first ++ frames) h.come served.come h.silent);
      nearer = omega (arith, served.nearer, h.counted);
    }
steps_after origin mid now frames before between after (step.Ended ending) h steps =
    let ends : EndsAfter origin now after (frames ++ h.come) ending = steps origin (frames ++ h.come) h.served in
    record {
      come = h.come ++ ends.come;
      silent = silent_both h.come ends.come h.silent ends.silent;
      ended = subst (λ all. HasEnded origin now after all ending) (append_assoc frames h.come ends.come) ends.ended;
    }

-- One frame was served, and this is its reply.
pub serves_one : (origin : Origin) (ln lm : Input) (frames : List Frame) (serving new : Serving) (frame : Frame)
    (reply : Option Reply) → IsServed origin ln serving frames
    → GivesFrame ln lm serving.reader new.reader (Some frame)
    → WhateverCame origin.hub (λ before. HubStandsFor matcher_holds new.hub ((before ++ frames) ++ frame ∷ [])
    × (reply ≡ reply_to matcher_holds (before ++ frames) frame))
    → ln.faults ≤ lm.faults
    → HasServed origin lm frames serving new reply
serves_one origin ln lm frames serving new frame reply a g serves reads = record {
  come = frame ∷ [];
  served = goes_on origin ln serving frames a lm new frame g (λ before stood. (serves before stood).0) reads;
  owed = λ before stood. ap bytes_if_any (serves before stood).1 ∙ sym (append-nil _);
  nearer = comes_nearer ln lm serving.reader new.reader frame g;
}

-- a step with which the session ended
pub ended_so : (origin : Origin) (now : Input) (frames : List Frame) (before after : Serving) (came : Step)
    (ending : Ending) → step_ending came ≡ Some ending → StepsSo origin now frames before after came
    → EndsAfter origin now after frames ending
ended_so origin now frames before after (step.Served reply) ending is steps = absurd (cc)
ended_so origin now frames before after (step.Ended own) ending is steps =
    let same : own ≡ ending = cc in
    subst (EndsAfter origin now after frames) same steps

-- and one with which it didn't
pub served_on : (origin : Origin) (now : Input) (frames : List Frame) (before after : Serving) (came : Step)
    → step_ending came ≡ None → StepsSo origin now frames before after came
    → (reply : Option Reply) × HasServed origin now frames before after reply
served_on origin now frames before after (step.Served reply) is steps = (reply, steps)
served_on origin now frames before after (step.Ended own) is steps = absurd (cc)
