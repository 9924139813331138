-- What is answered after a cut.
use Rattle.std.specs.Prelude.{◌≡◌, ℕ, List, [], ◌∷◌, ◌++◌, Option, option_to_list}
use Rattle.std.specs.List.{flat_map}
use Rattle.session_frames.specs.declared.frame.Frame.{Frame}
use Rattle.session_frames.specs.declared.reply.Reply.{Reply}
use Rattle.session_frames.specs.Replies.{reply_bytes}
use Rattle.matcher_eval.specs.AtomTests.{matcher_holds}
use Rattle.hub_meaning.specs.ClientAnswers.{reply_to, text}

-- the bytes of a reply, if there is one
abbrev pub bytes_if_any : Option Reply → List ℕ
bytes_if_any reply = flat_map reply_bytes (option_to_list reply)

-- the bytes of the replies to more frames, each answered after all frames before it
abbrev pub more : List Frame → List Frame → List ℕ
more before [] = []
more before (frame ∷ frames) =
    bytes_if_any (reply_to matcher_holds before frame) ++ more (before ++ frame ∷ []) frames

-- the replies to a session are those to its frames before a cut, and then those to the frames after it
abbrev pub SessionsMayBeCut : Type 0
SessionsMayBeCut =
    (front back : List Frame) → text matcher_holds (front ++ back) ≡ text matcher_holds front ++ more front back
