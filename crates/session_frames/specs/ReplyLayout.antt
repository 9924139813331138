-- The parts of a framed reply, for private clauses.
use Rattle.std.specs.Prelude.{ℕ, ◌+◌, List, ◌∷◌, ◌++◌, length}
use Rattle.std.specs.Int.{w32, w64, to_le_bytes, cast_unsigned}
use Rattle.session_frames.specs.declared.reply.Reply.{Reply}
use Rattle.session_frames.specs.Replies.{answer_bytes, kind_of}

-- what stands in front of the body
abbrev pub head_bytes : Reply → List ℕ
head_bytes reply =
    to_le_bytes w64 (13 + length (answer_bytes reply.body))
    ++ (kind_of reply.body
    ∷ (to_le_bytes w32 (cast_unsigned w32 reply.uid) ++ to_le_bytes w64 (cast_unsigned w64 reply.id)))
