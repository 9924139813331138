-- The words that were asked for are those that the engine got; what it did on them is what the program did.
use Rattle.std.proofs.Common.{rules}
use Rattle.std.proofs.lemmas.Result.{IfOk-weaker}
use Rattle.statsd_run.proofs.run.Goals as goal

pub returns-clause-words : goal.returns-clause-words
returns-clause-words g c = IfOk-weaker c.args.args _ _ (λ args given. search (rules, given)) c.in-Ok.ensures.given
