-- The bytes of a reply that there is are its own.
use Rattle.std.proofs.Common.{sym, ap, ◌∙◌, subst}
use Rattle.std.proofs.lemmas.List.{append-nil}
use Rattle.sd_io.specs.Causes.{IsPut}
use Rattle.session_frames.specs.Replies.{reply_bytes}
use Rattle.statsd_cli.specs.More.{bytes_if_any}
use Rattle.statsd_cli.proofs.replay.put_reply.Goals as goal

pub returns-in-Some : goal.returns-in-Some
returns-in-Some g c =
    subst (IsPut (g.K.Sink.state c.args.out.now) (g.K.Sink.state c.write_reply.new.out) c.write_reply.result)
    (sym (ap bytes_if_any c.in-Some.is ∙ append-nil (reply_bytes c.in-Some.reply))) c.write_reply.ensures
