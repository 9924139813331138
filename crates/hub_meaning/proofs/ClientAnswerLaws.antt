-- The bytes of all replies after one more frame.
use Rattle.std.proofs.Common.{◌≡◌, Bool, List, [], ◌∷◌, ◌++◌, ap, ◌∙◌}
use Rattle.std.specs.Prelude.{option_to_list}
use Rattle.std.specs.List.{flat_map}
use Rattle.std.proofs.lemmas.List.Concat.{flat_map-append}
use Rattle.sd_base.proofs.OutputsLemmas.{outputs-push}
use Rattle.atom_record.specs.declared.atom.Atom.{Atom}
use Rattle.config_types.specs.declared.matcher.SimpleMatcher.{SimpleMatcher}
use Rattle.session_frames.specs.declared.frame.Frame.{Frame}
use Rattle.session_frames.specs.Replies.{reply_bytes}
use Rattle.hub_meaning.specs.ClientAnswers.{reply_to, replies, text}

-- the reply to the frame comes after all others
pub text-push : (says : SimpleMatcher → Atom → Bool) (frames : List Frame) (frame : Frame)
    → text says (frames ++ frame ∷ [])
    ≡ text says frames ++ flat_map reply_bytes (option_to_list (reply_to says frames frame))
unfolding text
text-push says frames frame =
    ap (flat_map reply_bytes) (outputs-push (λ before frame. option_to_list (reply_to says before frame)) frames frame)
    ∙ flat_map-append reply_bytes (replies says frames) (option_to_list (reply_to says frames frame))
