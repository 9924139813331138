-- The form is that of the hub as it was caught up, which stands for the same frames.
use Rattle.std.proofs.Common.{subst}
use Rattle.sd_io.specs.Causes.{Gains, GainsFront}
use Rattle.statsd_cli.specs.Form.{framed}
use Rattle.statsd_cli.proofs.SaveLemmas.{form_told, form_too_long}
use Rattle.statsd_cli.proofs.save.put_hub.Goals as goal

pub returns-in-Ok-put_framed : goal.returns-in-Ok-put_framed
returns-in-Ok-put_framed g c = λ frames stood.
    form_told c.save.new.hub frames c.in-Ok.bytes _ (c.in-Ok.ensures.stands frames stood) c.in-Ok.ensures.saves
    (c.in-Ok.ensures.weight frames stood)
    (subst (λ bytes. Gains (g.K.Sink.state c.args.out.now) (g.K.Sink.state c.put_framed.new.out) (framed bytes))
    c.as_slice.ensures c.in-Ok-put_framed.ensures.bytes)

pub returns-in-Ok : goal.returns-in-Ok
returns-in-Ok g c = λ frames stood. (
  form_told c.save.new.hub frames c.in-Ok.bytes _ (c.in-Ok.ensures.stands frames stood) c.in-Ok.ensures.saves
      (c.in-Ok.ensures.weight frames stood)
      (subst (λ bytes. GainsFront (g.K.Sink.state c.args.out.now) (g.K.Sink.state c.put_framed.new.out) (framed bytes))
      c.as_slice.ensures c.in-Err.ensures.bytes),
  c.in-Err.ensures.cause.failed,
)

pub returns-in-Err-TooLong : goal.returns-in-Err-TooLong
returns-in-Err-TooLong g c = λ frames stood.
    let is = c.in-Err-TooLong.field-0-is in
    form_too_long c.save.new.hub frames c.in-Err-TooLong.size (g.K.Sink.state c.args.out.now)
    (rw is at (c.in-Err-TooLong.ensures.stands frames stood)) (rw is at c.in-Err-TooLong.ensures.saves)
    (rw is at (c.in-Err-TooLong.ensures.weight frames stood))
