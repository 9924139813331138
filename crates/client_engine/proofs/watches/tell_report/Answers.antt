-- The cut, and then that the alarms were told.
use Rattle.std.proofs.Common.{[], ◌∷◌, if◌then◌else◌}
use Rattle.alert_watch.specs.Windows.{PartsEnded, AlarmsTold}
use Rattle.client_engine.proofs.WatchesLemmas.{both_taken}
use Rattle.client_engine.proofs.watches.tell_report.Goals as goal

pub returns : goal.returns
returns c =
    both_taken (if c.args.include_current then PartsEnded 1 ∷ [] else []) (AlarmsTold ∷ []) c.args.watches.now.items
    c.tell_cut.new.watches.items c.tell_alarms.new.watches.items c.tell_cut.ensures c.tell_alarms.ensures
