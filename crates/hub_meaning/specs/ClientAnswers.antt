-- What a command is answered, all replies of a session, and their bytes.
use Rattle.std.specs.Prelude.{ℕ, ℤ, pos, Bool, true, List, Option, Some, None, Result, Ok, Err, filter, option_to_list}
use Rattle.std.specs.List.{flat_map}
use Rattle.std.specs.Ordering.{int_eq}
use Rattle.sd_base.specs.Outputs.{outputs}
use Rattle.atom_record.specs.declared.atom.Atom.{Atom}
use Rattle.config_types.specs.declared.config.Config.{Config}
use Rattle.config_types.specs.declared.matcher.SimpleMatcher.{SimpleMatcher}
use Rattle.session_frames.specs.declared.frame.Frame.{Frame}
use Rattle.session_frames.specs.declared.frame.Frame.TheVariants.{Log, Install, Remove, Report}
use Rattle.session_frames.specs.declared.reply.Reply.{Reply}
use Rattle.session_frames.specs.declared.reply.ReplyBody.{ReplyBody}
use Rattle.session_frames.specs.declared.reply.ReplyBody.TheVariants as answers
use Rattle.session_frames.specs.Replies.{reply_bytes}
use Rattle.report_writer.specs.ReportSpelling.{report_message}
use Rattle.metric_meaning.specs.Reports.{report_of}
use Rattle.hub_meaning.specs.SessionLog.{own, clock_of}
use Rattle.hub_meaning.specs.Acceptance.{LiveConfig, acceptance}
use Rattle.hub_meaning.specs.LiveConfigs.{config_at, live, history_of}

-- the reply to a client
abbrev pub reply_of : ℤ → ℤ → ReplyBody → Option Reply
reply_of uid id body = Some (record { uid = uid; id = id; body = body })

-- the client of a command; for a frame of the log any will do
abbrev pub client_of : Frame → ℤ
client_of (Log frame) = pos 0
client_of (Install uid id bytes) = uid
client_of (Remove uid id) = uid
client_of (Report uid id include_current) = uid

-- What a judge says of simple matchers and atoms is a parameter of all that speaks of reports.
module _ (says : SimpleMatcher → Atom → Bool) where
  -- the bytes of the report that is made of a live configuration after the client's own frames, with or without a cut
  abbrev pub report_bytes : ℤ → ℤ → List Frame → Bool → LiveConfig → List ℕ
  report_bytes uid id frames include_current live =
      report_message (report_of (history_of says uid frames live) uid id include_current (clock_of frames))

  -- the last report of a live configuration that a command ends: by the frames before the command, and with a cut
  abbrev pub final_report : ℤ → ℤ → List Frame → LiveConfig → List ℕ
  final_report uid id frames live = report_bytes uid id frames true live

  -- an install is refused, or it is new, or it goes where a configuration of its id stands, whose last report is told
  abbrev pub install_answer : ℤ → ℤ → List Frame → Result Config ReplyBody → Option LiveConfig → ReplyBody
  install_answer uid id frames (Err refusal) old = refusal
  install_answer uid id frames (Ok config) None = answers.Installed
  install_answer uid id frames (Ok config) (Some old) = answers.Replaced (final_report uid id frames old)

  -- the answer to a remove, where this is live under its id: its last report
  abbrev pub remove_answer : ℤ → ℤ → List Frame → Option LiveConfig → ReplyBody
  remove_answer uid id frames None = answers.NoConfig
  remove_answer uid id frames (Some live) = answers.Removed (final_report uid id frames live)

  -- the report of a configuration, by the client's own frames
  abbrev pub report_answer : ℤ → ℤ → List Frame → Bool → Option LiveConfig → ReplyBody
  report_answer uid id frames include_current None = answers.NoConfig
  report_answer uid id frames include_current (Some live) =
      answers.ReportBytes (report_bytes uid id frames include_current live)

  -- the answer to a frame that comes after the client's own frames; a frame of the log has none
  abbrev pub answer : List Frame → Frame → Option Reply
  answer before (Log frame) = None
  answer before (Install uid id bytes) =
      reply_of uid id (install_answer uid id before (acceptance uid id bytes (live before))
      (config_at id (live before)))
  answer before (Remove uid id) = reply_of uid id (remove_answer uid id before (config_at id (live before)))
  answer before (Report uid id include_current) =
      reply_of uid id (report_answer uid id before include_current (config_at id (live before)))

  -- the reply to a frame after all frames of a session: it is the answer by the client's own frames
  unfoldable pub reply_to : List Frame → Frame → Option Reply
  reply_to before frame = answer (own (client_of frame) before) frame

  -- all replies of a session
  abbrev pub replies : List Frame → List Reply
  replies frames = outputs (λ before frame. option_to_list (reply_to before frame)) frames

  -- the bytes of all replies
  unfoldable pub text : List Frame → List ℕ
  text frames = flat_map reply_bytes (replies frames)

  -- the replies to one client, of a session
  abbrev pub replies_to : ℤ → List Frame → List Reply
  replies_to client frames = filter (λ (reply : Reply). int_eq reply.uid client) (replies frames)
