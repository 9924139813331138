-- The session of the form goes on, or there is none.
use Rattle.std.proofs.Common.{refl, inl, inr}
use Rattle.statsd_cli.proofs.ResumeLemmas.{goes_on}
use Rattle.statsd_cli.proofs.resume.resume.Goals as goal

pub returns-in-Ok : goal.returns-in-Ok
returns-in-Ok g c =
    inl (goes_on (g.S.Source.state c.args.input.now) (g.S.Source.state c.take_hub.new.input) _ _ c.in-Ok.hub
    c.run_on.result c.in-Ok.ensures.takes c.run_on.ensures)

pub returns-in-Err : goal.returns-in-Err
returns-in-Err g c = inr (record { lacks = c.in-Err.ensures.lacks; unwritten = refl })
