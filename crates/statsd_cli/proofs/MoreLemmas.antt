-- On specs/More.antt: the replies to the frames after a cut are those that the uncut session gives to them.
use Rattle.std.proofs.Common.{◌≡◌, ℕ, List, [], ◌∷◌, ◌++◌, refl, sym, ap, ◌∙◌, append_assoc}
use Rattle.std.specs.Prelude.{option_to_list}
use Rattle.std.specs.List.{flat_map}
use Rattle.std.proofs.lemmas.List.{append-nil}
use Rattle.std.proofs.lemmas.List.Concat.{flat_map-append}
use Rattle.sd_base.specs.Outputs.{outputs_after}
use Rattle.session_frames.specs.declared.frame.Frame.{Frame}
use Rattle.session_frames.specs.Replies.{reply_bytes}
use Rattle.matcher_eval.specs.AtomTests.{matcher_holds}
use Rattle.hub_meaning.specs.ClientAnswers.{reply_to, text}
use Rattle.statsd_cli.specs.More.{bytes_if_any, more, SessionsMayBeCut}

-- the bytes of the reply to a frame, if it has one
abbrev told : List Frame → Frame → List ℕ
told before frame = bytes_if_any (reply_to matcher_holds before frame)

-- one frame more: the step of a run that goes on after a cut
pub more-push : (before frames : List Frame) (frame : Frame)
    → more before (frames ++ frame ∷ []) ≡ more before frames ++ told (before ++ frames) frame
more-push before [] frame = append-nil (told before frame) ∙ ap (λ l. told l frame) (sym (append-nil before))
more-push before (first ∷ frames) frame =
    ap (λ l. told before first ++ l) (more-push (before ++ first ∷ []) frames frame)
    ∙ sym (append_assoc (told before first) (more (before ++ first ∷ []) frames)
    (told ((before ++ first ∷ []) ++ frames) frame))
    ∙ ap (λ l. (told before first ++ more (before ++ first ∷ []) frames) ++ told l frame)
    (append_assoc before (first ∷ []) frames)

-- the replies to two parts are those to the first, and then those to the second after it
pub more-append : (before front back : List Frame)
    → more before (front ++ back) ≡ more before front ++ more (before ++ front) back
more-append before [] back = ap (λ l. more l back) (sym (append-nil before))
more-append before (first ∷ front) back =
    ap (λ l. told before first ++ l) (more-append (before ++ first ∷ []) front back)
    ∙ sym (append_assoc (told before first) (more (before ++ first ∷ []) front)
    (more ((before ++ first ∷ []) ++ front) back))
    ∙ ap (λ l. (told before first ++ more (before ++ first ∷ []) front) ++ more l back)
    (append_assoc before (first ∷ []) front)

-- from any beginning
more_is : (before frames : List Frame)
    → flat_map reply_bytes
    (outputs_after (λ all frame. option_to_list (reply_to matcher_holds all frame)) before frames)
    ≡ more before frames
more_is before [] = refl
more_is before (frame ∷ frames) =
    flat_map-append reply_bytes (option_to_list (reply_to matcher_holds before frame)) _
    ∙ ap (λ l. told before frame ++ l) (more_is (before ++ frame ∷ []) frames)

-- the replies to a session are those to all of its frames
pub text_is : (frames : List Frame) → text matcher_holds frames ≡ more [] frames
unfolding text
text_is frames = more_is [] frames

-- a session that is cut anywhere has the replies of the uncut one
pub text_cut : SessionsMayBeCut
text_cut front back =
    text_is (front ++ back) ∙ more-append [] front back ∙ ap (λ l. l ++ more front back) (sym (text_is front))
