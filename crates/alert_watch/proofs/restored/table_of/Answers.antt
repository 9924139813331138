-- The table takes one row more.
use Rattle.alert_watch.proofs.FilledLemmas.{filled_more}
use Rattle.alert_watch.proofs.restored.table_of.Goals as goal

pub loop-key-preserved : goal.loop-key-preserved
loop-key-preserved c =
    filled_more c.args.bound c.loop-key.yielded c.loop-key.table c.loop-key.invariant c.in-Some.key c.in-Some.number
    c.admit.new.self c.in_ok-admit.field-0 c.in_ok-admit.ensures.answer
