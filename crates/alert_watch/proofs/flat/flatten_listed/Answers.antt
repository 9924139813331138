-- The alarms come after their number.
use Rattle.std.proofs.lemmas.Result.{on_ok_weaker, on_err_weaker}
use Rattle.dim_table.proofs.TableItemsLemmas.{front_more}
use Rattle.alert_watch.proofs.AddedLemmas.{adds_both}
use Rattle.alert_watch.proofs.flat.flatten_listed.Goals as goal

pub returns-clause-added : goal.returns-clause-added
returns-clause-added c =
    on_ok_weaker c.flatten_alarms.result
    (λ added. adds_both _ _ _ _ _ c.in_ok-flatten.ensures.added added) c.flatten_alarms.ensures.added

pub returns-clause-err : goal.returns-clause-err
returns-clause-err c = on_err_weaker c.flatten_alarms.result
    (λ front. front_more _ _ _ _ c.in_ok-flatten.ensures.added front) c.flatten_alarms.ensures.err
