-- For the public law of specs/ClientIsolation.antt: the replies to a client are those of its own frames.
use Rattle.std.proofs.Common.{◌≡◌, ℤ, Bool, true, false, cond, List, [], ◌∷◌, ◌++◌, filter, refl, sym, ap, ◌∙◌}
use Rattle.std.specs.Prelude.{option_to_list}
use Rattle.std.specs.Ordering.{int_eq}
use Rattle.std.specs.Cmp.{signed_Decides}
use Rattle.std.proofs.lemmas.List.Elements.{filter-append}
use Rattle.sd_base.specs.Outputs.{outputs_after}
use Rattle.atom_record.specs.declared.atom.Atom.{Atom}
use Rattle.config_types.specs.declared.matcher.SimpleMatcher.{SimpleMatcher}
use Rattle.session_frames.specs.declared.frame.Frame.{Frame}
use Rattle.session_frames.specs.declared.frame.Frame.TheVariants.{Log, Install, Remove, Report}
use Rattle.session_frames.specs.declared.reply.Reply.{Reply}
use Rattle.session_frames.specs.declared.reply.ReplyBody.{ReplyBody}
use Rattle.hub_meaning.specs.SessionLog.{is_own, own}
use Rattle.hub_meaning.specs.Acceptance.{acceptance}
use Rattle.hub_meaning.specs.LiveConfigs.{config_at, live}
use Rattle.hub_meaning.specs.ClientAnswers.{install_answer, remove_answer, report_answer, reply_of, reply_to, replies}
use Rattle.hub_meaning.specs.ClientIsolation.{OwnFramesDecide, EqualOwnFramesEqualReplies}
use Rattle.hub_meaning.proofs.SessionLogLaws.{own-push_own, own-push_other}

-- the own frames among a client's own frames are all of these
pub own-own : (client : ℤ) (frames : List Frame) → own client (own client frames) ≡ own client frames
own-own client [] = refl
own-own client (frame ∷ frames) = by_case (is_own client frame) refl (own-own client frames) where
  by_case : (mine : Bool) → is_own client frame ≡ mine → own client (own client frames) ≡ own client frames
      → own client (cond mine (frame ∷ own client frames) (own client frames))
      ≡ cond mine (frame ∷ own client frames) (own client frames)
  by_case true is rest =
      ap (λ b. cond b (frame ∷ own client (own client frames)) (own client (own client frames))) is
      ∙ ap (λ l. frame ∷ l) rest
  by_case false is rest = rest

-- under each judge
module _ (says : SimpleMatcher → Atom → Bool) where
  -- the replies to a frame after others: one or none
  abbrev replies_at : List Frame → Frame → List Reply
  replies_at before frame = option_to_list (reply_to says before frame)

  -- it is a reply to the client
  abbrev is_to : ℤ → Reply → Bool
  is_to client reply = int_eq reply.uid client

  -- a reply to the client, made of its own frames, is made of those among its own frames
  own_made : (client uid id : ℤ) (made : List Frame → ReplyBody) (before : List Frame) → int_eq uid client ≡ true
      → filter (is_to client) (option_to_list (reply_of uid id (made (own uid before))))
      ≡ option_to_list (reply_of uid id (made (own uid (own client before))))
  own_made client uid id made before is =
      let same : own uid before ≡ own uid (own client before) =
      sym (own-own uid before) ∙ ap (λ n. own uid (own n before)) ((signed_Decides uid client).0 is) in
      ap (λ b. cond b (option_to_list (reply_of uid id (made (own uid before)))) []) is
      ∙ ap (λ frames. option_to_list (reply_of uid id (made frames))) same

  -- a reply to another client is none to the client
  other_made : (client uid id : ℤ) (body : ReplyBody) → int_eq uid client ≡ false
      → filter (is_to client) (option_to_list (reply_of uid id body)) ≡ []
  other_made client uid id body is = ap (λ b. cond b (option_to_list (reply_of uid id body)) []) is

  -- a frame of the client's own is answered as among its own frames
  own_reply : (client : ℤ) (before : List Frame) (frame : Frame) → is_own client frame ≡ true
      → filter (is_to client) (replies_at before frame) ≡ replies_at (own client before) frame
  unfolding reply_to
  own_reply client before (Log frame) is = refl
  own_reply client before (Install uid id bytes) is =
      own_made client uid id (λ frames. install_answer says uid id frames (acceptance uid id bytes (live frames))
      (config_at id (live frames))) before is
  own_reply client before (Remove uid id) is =
      own_made client uid id (λ frames. remove_answer says uid id frames (config_at id (live frames))) before is
  own_reply client before (Report uid id include_current) is =
      own_made client uid id (λ frames. report_answer says uid id frames include_current (config_at id (live frames)))
      before is

  -- a command of another client has no reply to the client
  other_reply : (client : ℤ) (before : List Frame) (frame : Frame) → is_own client frame ≡ false
      → filter (is_to client) (replies_at before frame) ≡ []
  unfolding reply_to
  other_reply client before (Log frame) is = refl
  other_reply client before (Install uid id bytes) is =
      other_made client uid id (install_answer says uid id (own uid before)
      (acceptance uid id bytes (live (own uid before))) (config_at id (live (own uid before)))) is
  other_reply client before (Remove uid id) is =
      other_made client uid id (remove_answer says uid id (own uid before) (config_at id (live (own uid before)))) is
  other_reply client before (Report uid id include_current) is =
      other_made client uid id
      (report_answer says uid id (own uid before) include_current (config_at id (live (own uid before)))) is

  -- one frame more in front: it is answered as among the client's own frames, or not to the client
  own_step : (client : ℤ) (before frames : List Frame) (frame : Frame) (later : List Reply) (mine : Bool)
      → is_own client frame ≡ mine
      → later ≡ outputs_after replies_at (own client (before ++ frame ∷ [])) (own client frames)
      → filter (is_to client) (replies_at before frame) ++ later
      ≡ outputs_after replies_at (own client before) (cond mine (frame ∷ own client frames) (own client frames))
  own_step client before frames frame later true is rest =
      ap (λ l. l ++ later) (own_reply client before frame is)
      ∙ ap (λ l. replies_at (own client before) frame ++ l)
      (rest ∙ ap (λ b. outputs_after replies_at b (own client frames)) (own-push_own client before frame is))
  own_step client before frames frame later false is rest =
      ap (λ l. l ++ later) (other_reply client before frame is)
      ∙ (rest ∙ ap (λ b. outputs_after replies_at b (own client frames)) (own-push_other client before frame is))

  -- the replies to the client among those to some frames after others
  own_replies : (client : ℤ) (before frames : List Frame)
      → filter (is_to client) (outputs_after replies_at before frames)
      ≡ outputs_after replies_at (own client before) (own client frames)
  own_replies client before [] = refl
  own_replies client before (frame ∷ frames) =
      filter-append (is_to client) (replies_at before frame) (outputs_after replies_at (before ++ frame ∷ []) frames)
      ∙ own_step client before frames frame
      (filter (is_to client) (outputs_after replies_at (before ++ frame ∷ []) frames))
      (is_own client frame) refl (own_replies client (before ++ frame ∷ []) frames)

  -- the replies to a client are those of the session of its own frames
  pub own_frames_decide : OwnFramesDecide says
  own_frames_decide = λ client frames. own_replies client [] frames

  -- so equal own frames have equal replies
  pub equal_own_frames : EqualOwnFramesEqualReplies says
  equal_own_frames = λ client frames others same.
      own_replies client [] frames ∙ ap (replies says) same ∙ sym (own_replies client [] others)
