use Rattle.std.proofs.Common.{append_assoc}
use Rattle.statsd_cli.proofs.note.push_fault.Goals as goal

-- two numbers after one text
pub returns-in-TimeBackwards-clause-text : goal.returns-in-TimeBackwards-clause-text
returns-in-TimeBackwards-clause-text c =
    rw (
      c.in-TimeBackwards.is,
      c.push_counted-in-TimeBackwards-2.ensures.text,
      c.push_counted-in-TimeBackwards.ensures.text,
    ) (simp append_assoc)
