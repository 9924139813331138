-- The bytes of a framed reply.
use Rattle.std.specs.Prelude.{ℕ, List, [], ◌∷◌, ◌++◌, length}
use Rattle.std.specs.List.{flat_map}
use Rattle.std.specs.Int.{w32, w64, to_le_bytes, cast_unsigned}
use Rattle.session_frames.specs.declared.reply.Reply.{Reply}
use Rattle.session_frames.specs.declared.reply.ReplyBody.{ReplyBody}
use Rattle.session_frames.specs.declared.reply.ReplyBody.TheVariants.{Installed, Replaced, Refused, Removed, NoConfig, ReportBytes, ClientFull}
use Rattle.session_frames.specs.declared.reply.Refusal.{Refusal}
use Rattle.session_frames.specs.declared.reply.Refusal.TheVariants.{TooLarge, Wire, Unsupported, Link}
use Rattle.session_frames.specs.ReplyKinds.{reply_installed, reply_replaced, reply_refused, reply_removed, reply_no_config, reply_report, reply_client_full, class_too_large, class_wire, class_unsupported, class_link}

-- a class byte, and what the class says
abbrev pub refusal_bytes : Refusal → List ℕ
refusal_bytes (TooLarge size) = class_too_large ∷ to_le_bytes w32 size
refusal_bytes (Wire cause offset) = class_wire ∷ cause ∷ to_le_bytes w32 offset
refusal_bytes (Unsupported path) = class_unsupported ∷ length path ∷ flat_map (to_le_bytes w32) path
refusal_bytes (Link number reason value) =
    class_link ∷ number ∷ reason ∷ to_le_bytes w64 (cast_unsigned w64 value)

-- the kind byte of an answer
abbrev pub kind_of : ReplyBody → ℕ
kind_of Installed = reply_installed
kind_of (Replaced report) = reply_replaced
kind_of (Refused refusal) = reply_refused
kind_of (Removed report) = reply_removed
kind_of NoConfig = reply_no_config
kind_of (ReportBytes report) = reply_report
kind_of (ClientFull most) = reply_client_full

-- what comes after the kind, the uid and the configuration's id; the last report of a configuration that is replaced or
-- removed stands as any report does
abbrev pub answer_bytes : ReplyBody → List ℕ
answer_bytes (Replaced report) = report
answer_bytes (Refused refusal) = refusal_bytes refusal
answer_bytes (Removed report) = report
answer_bytes (ReportBytes report) = report
answer_bytes (ClientFull most) = to_le_bytes w32 most
answer_bytes _ = []

-- the kind, the uid, the configuration's id and the body, without the length in front
abbrev pub content_bytes : Reply → List ℕ
content_bytes reply =
    kind_of reply.body
    ∷ (to_le_bytes w32 (cast_unsigned w32 reply.uid)
    ++ (to_le_bytes w64 (cast_unsigned w64 reply.id) ++ answer_bytes reply.body))

-- a framed reply: the number of bytes after the length, and these bytes
abbrev pub reply_bytes : Reply → List ℕ
reply_bytes reply = to_le_bytes w64 (length (content_bytes reply)) ++ content_bytes reply
