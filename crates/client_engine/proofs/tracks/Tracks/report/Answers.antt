use Rattle.client_engine.proofs.WokenLemmas.{none_due}
use Rattle.client_engine.proofs.tracks.Tracks.report.Goals as goal

-- where memory is wanting, nothing is said of ends
pub returns-in_err-trees-clause-due : goal.returns-in_err-trees-clause-due
returns-in_err-trees-clause-due c = none_due c.report_all.new.tracks.items
