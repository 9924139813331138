-- The session of the word `load`: what is counted rises with each frame, and how the command ends.
use Rattle.std.proofs.Common.{◌≡◌, ℕ, ◌+◌, ◌*◌, ◌<◌, ◌^◌, List, [], ◌∷◌, ◌++◌, length, map, refl, sym, ap, subst, ◌∙◌, append_assoc, length-append, arith, inl, inr}
use Rattle.std.specs.Prelude.{◌⊎◌, Option, option_to_list}
use Rattle.std.specs.List.{flat_map}
use Rattle.std.specs.Int.{w32, to_le_bytes}
use Rattle.std.proofs.lemmas.List.{append-nil}
use Rattle.sd_base.proofs.OutputsLemmas.{outputs-push}
use Rattle.sd_io.specs.States.{Output}
use Rattle.sd_io.specs.Causes.{Rose}
use Rattle.session_frames.specs.declared.frame.Frame.{Frame}
use Rattle.session_frames.specs.declared.reply.Reply.{Reply}
use Rattle.session_frames.specs.Frames.{IsFaultless, IsInTime}
use Rattle.session_frames.specs.Replies.{reply_bytes}
use Rattle.matcher_eval.specs.declared.field_judge.FieldJudge.{FieldJudge}
use Rattle.matcher_eval.specs.AtomTests.{matcher_holds}
use Rattle.hub_meaning.specs.SessionLog.{clock_of}
use Rattle.hub_meaning.proofs.SessionLogLaws.{clock_of-push}
use Rattle.hub_meaning.specs.ClientAnswers.{reply_to, replies, text}
use Rattle.hub_meaning.proofs.ClientAnswerLaws.{text-push}
use Rattle.hub_core.specs.declared.hub.Hub.{Hub}
use Rattle.hub_core.specs.HubStands.{HubStandsFor}
use Rattle.load_session.specs.declared.frame.LoadFrame.{LoadFrame}
use Rattle.load_session.specs.Frames.{loaded_frame, load_frames}
use Rattle.load_session.specs.Good.{AreGood}
use Rattle.statsd_cli.specs.declared.load.Totals.{Totals}
use Rattle.statsd_cli.specs.declared.ending.Ending.{Ending}
use Rattle.statsd_cli.specs.declared.ending.Ending.TheVariants.{Done, Refused, Usage, BadSession, ReadFault, WriteFault, NoMemory, ReportRefused, SaveRefused}
use Rattle.statsd_cli.specs.Endings.{status_of}
use Rattle.statsd_cli.specs.Load.{session_of, totals_of, totals_with, AreInBounds, MayCountOne, IsLineTold}

-- four bytes a number
pub length-path : (path : List ℕ) → length (flat_map (to_le_bytes w32) path) ≡ 4 * length path
length-path [] = refl
length-path (number ∷ path) =
    omega (arith, length-path path, length-append (to_le_bytes w32 number) (flat_map (to_le_bytes w32) path))

-- these totals
abbrev counted : ℕ → ℕ → ℕ → Totals
counted frames replies bytes = record { frames = frames; replies = replies; bytes = bytes }

same_totals : (a b c d e f : ℕ) → a ≡ b → c ≡ d → e ≡ f → counted a c e ≡ counted b d f
same_totals a b c d e f frames replies bytes = cc

-- one more frame is counted, and its reply
totals-push : (frames : List Frame) (frame : Frame)
    → totals_of (frames ++ frame ∷ []) ≡ totals_with (totals_of frames) (reply_to matcher_holds frames frame)
totals-push frames frame =
    let reply = option_to_list (reply_to matcher_holds frames frame) in
    same_totals _ _ _ _ _ _
    (length-append frames (frame ∷ []))
    (ap length (outputs-push (λ before next. option_to_list (reply_to matcher_holds before next)) frames frame)
    ∙ length-append (replies matcher_holds frames) reply)
    (ap length (text-push matcher_holds frames frame)
    ∙ length-append (text matcher_holds frames) (flat_map reply_bytes reply))

no_totals : counted 0 0 0 ≡ totals_of []
unfolding text
no_totals = refl

-- A session of the engine's own under way: these frames were answered and counted, and these are left.
pub record IsUnderWay (seed frames : ℕ) (left : List LoadFrame) (hub : Hub FieldJudge) (totals : Totals) : Type 0 where
  pub answered : List Frame
  pub whole : session_of seed frames ≡ answered ++ map loaded_frame left
  pub good : AreGood (clock_of answered) left
  pub stands : HubStandsFor matcher_holds hub answered
  pub is : totals ≡ totals_of answered
  pub few : length answered + length left < 2 ^ 34
  pub bound : AreInBounds totals

-- at the beginning the whole session is left
pub begins_under_way : (seed frames : ℕ) (left : List LoadFrame) (hub : Hub FieldJudge)
    → left ≡ load_frames seed frames → AreGood 0 left → length left < 2 ^ 34 → HubStandsFor matcher_holds hub []
    → IsUnderWay seed frames left hub (counted 0 0 0)
begins_under_way seed frames left hub is good few stands = record {
  answered = [];
  whole = ap (map loaded_frame) (sym is);
  good = good;
  stands = stands;
  is = no_totals;
  few = omega (arith, few);
  bound = record { replies = omega arith; bytes = omega arith };
}

module _ (seed frames : ℕ) (left : List LoadFrame) (hub : Hub FieldJudge) (totals : Totals)
    (way : IsUnderWay seed frames left hub totals) where
  -- nothing is left: the totals are those of the whole session
  pub ends_under_way : left ≡ [] → totals ≡ totals_of (session_of seed frames)
  ends_under_way none =
      way.is ∙ ap totals_of (sym (way.whole ∙ ap (λ rest. way.answered ++ map loaded_frame rest) none
      ∙ append-nil way.answered))

  module _ (frame : LoadFrame) (rest : List LoadFrame) (next : left ≡ frame ∷ rest) where
    good_next : AreGood (clock_of way.answered) (frame ∷ rest)
    good_next = subst (AreGood (clock_of way.answered)) next way.good

    -- the next frame has no fault, and doesn't come before the clock
    pub faultless_next : IsFaultless (loaded_frame frame)
    faultless_next = good_next.0

    pub in_time_next : IsInTime (clock_of way.answered) (loaded_frame frame)
    in_time_next = good_next.1

    few_next : (length way.answered + (1 + length rest)) < 2 ^ 34
    few_next =
        let whole : length way.answered + length (frame ∷ rest) < 2 ^ 34 =
        subst (λ l. length way.answered + length l < 2 ^ 34) next way.few in
        omega (arith, whole)

    -- it may be counted
    pub room_next : MayCountOne totals
    room_next = (omega (arith, few_next, ap (λ (t : Totals). t.frames) way.is), way.bound)

    -- it was answered and counted
    pub goes_on_under_way : (new : Hub FieldJudge) (reply : Option Reply) (now : Totals)
        → HubStandsFor matcher_holds new (way.answered ++ loaded_frame frame ∷ [])
        → reply ≡ reply_to matcher_holds way.answered (loaded_frame frame)
        → now ≡ totals_with totals reply → AreInBounds now
        → IsUnderWay seed frames rest new now
    goes_on_under_way new reply now stands answer is bound = record {
      answered = way.answered ++ loaded_frame frame ∷ [];
      whole = way.whole ∙ ap (λ l. way.answered ++ map loaded_frame l) next
          ∙ sym (append_assoc way.answered (loaded_frame frame ∷ []) (map loaded_frame rest));
      good = subst (λ clock. AreGood clock rest) (sym (clock_of-push way.answered (loaded_frame frame))) good_next.2;
      stands = stands;
      is = is ∙ ap (λ t. totals_with t reply) way.is ∙ ap (totals_with (totals_of way.answered)) answer
          ∙ sym (totals-push way.answered (loaded_frame frame));
      few = omega (arith, few_next, length-append way.answered (loaded_frame frame ∷ []));
      bound = bound;
    }

    -- the hub took it, as it was made for it, and its reply was counted
    pub served_under_way : (made : Frame) → made ≡ loaded_frame frame
        → (new : Hub FieldJudge) (reply : Option Reply) (now : Totals)
        → (IsInTime (clock_of way.answered) made → HubStandsFor matcher_holds new (way.answered ++ made ∷ [])
        × (reply ≡ reply_to matcher_holds way.answered made))
        → now ≡ totals_with totals reply → AreInBounds now
        → IsUnderWay seed frames rest new now
    served_under_way made own new reply now serves count bound =
        let served : HubStandsFor matcher_holds new (way.answered ++ loaded_frame frame ∷ [])
        × (reply ≡ reply_to matcher_holds way.answered (loaded_frame frame)) =
        subst (λ f. IsInTime (clock_of way.answered) f → HubStandsFor matcher_holds new (way.answered ++ f ∷ [])
        × (reply ≡ reply_to matcher_holds way.answered f)) own serves in_time_next in
        goes_on_under_way new reply now served.0 served.1 count bound

-- A session of the engine's own is answered to its end, unless the output fails or memory is wanting.
pub told_status : (line : List ℕ) (old new : Output) (status : ℕ) (ending : Ending) → status ≡ status_of ending
    → IsLineTold line old new ending → (Rose old.faults new.faults → ⊥) → (status ≡ 0) ⊎ (status ≡ 6)
told_status line old new status Done is told still = inl is
told_status line old new status (ReportRefused fault) is told still = absurd told
told_status line old new status (SaveRefused fault) is told still = absurd told
told_status line old new status Refused is told still = absurd told
told_status line old new status Usage is told still = absurd told
told_status line old new status (BadSession at fault) is told still = absurd told
told_status line old new status ReadFault is told still = absurd told
told_status line old new status WriteFault is told still = absurd (still told.1)
told_status line old new status NoMemory is told still = inr is

-- What such a session tells by its status.
pub told_usage : (line : List ℕ) (old new : Output) (ending : Ending) → IsLineTold line old new ending
    → status_of ending ≡ 2 → ⊥
told_usage line old new Done told is = absurd (omega (arith, is))
told_usage line old new Refused told is = told
told_usage line old new (ReportRefused fault) told is = told
told_usage line old new (SaveRefused fault) told is = told
told_usage line old new Usage told is = told
told_usage line old new (BadSession at fault) told is = told
told_usage line old new ReadFault told is = told
told_usage line old new WriteFault told is = absurd (omega (arith, is))
told_usage line old new NoMemory told is = absurd (omega (arith, is))

pub told_read : (line : List ℕ) (old new : Output) (ending : Ending) → IsLineTold line old new ending
    → status_of ending ≡ 4 → ⊥
told_read line old new Done told is = absurd (omega (arith, is))
told_read line old new Refused told is = told
told_read line old new (ReportRefused fault) told is = told
told_read line old new (SaveRefused fault) told is = told
told_read line old new Usage told is = told
told_read line old new (BadSession at fault) told is = told
told_read line old new ReadFault told is = told
told_read line old new WriteFault told is = absurd (omega (arith, is))
told_read line old new NoMemory told is = absurd (omega (arith, is))

pub told_write : (line : List ℕ) (old new : Output) (ending : Ending) → IsLineTold line old new ending
    → status_of ending ≡ 5 → Rose old.faults new.faults
told_write line old new Done told is = absurd (omega (arith, is))
told_write line old new Refused told is = absurd told
told_write line old new (ReportRefused fault) told is = absurd told
told_write line old new (SaveRefused fault) told is = absurd told
told_write line old new Usage told is = absurd told
told_write line old new (BadSession at fault) told is = absurd told
told_write line old new ReadFault told is = absurd told
told_write line old new WriteFault told is = told.1
told_write line old new NoMemory told is = absurd (omega (arith, is))
