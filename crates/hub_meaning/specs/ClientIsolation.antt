-- Whatever other clients do, a client is answered by the log and its own commands alone.
use Rattle.std.specs.Prelude.{◌≡◌, ℤ, Bool, List}
use Rattle.atom_record.specs.declared.atom.Atom.{Atom}
use Rattle.config_types.specs.declared.matcher.SimpleMatcher.{SimpleMatcher}
use Rattle.session_frames.specs.declared.frame.Frame.{Frame}
use Rattle.hub_meaning.specs.SessionLog.{own}
use Rattle.hub_meaning.specs.ClientAnswers.{replies, replies_to}

-- under each judge
module _ (says : SimpleMatcher → Atom → Bool) where
  -- the replies to a client are all the replies of the session that has its own frames alone
  abbrev pub OwnFramesDecide : Type 0
  OwnFramesDecide = (client : ℤ) (frames : List Frame) → replies_to says client frames
      ≡ replies says (own client frames)

  -- in two sessions with the same own frames of a client, in the same order, the replies to the client are the same
  abbrev pub EqualOwnFramesEqualReplies : Type 0
  EqualOwnFramesEqualReplies = (client : ℤ) (frames others : List Frame) → own client frames ≡ own client others
      → replies_to says client frames ≡ replies_to says client others
