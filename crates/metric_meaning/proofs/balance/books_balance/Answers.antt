-- The laws of the definitions.
use Rattle.metric_meaning.proofs.BalanceLemmas.{counts_balance, events_balance, sums_balance}
use Rattle.metric_meaning.proofs.balance.books_balance.Goals as goal

pub returns-clause-counts : goal.returns-clause-counts
returns-clause-counts c = λ installed metric overflow steps now few. counts_balance installed metric overflow steps now
    few

pub returns-clause-events : goal.returns-clause-events
returns-clause-events c = λ installed metric steps now few. events_balance installed metric steps now few

pub returns-clause-sums : goal.returns-clause-sums
returns-clause-sums c = λ installed metric spec steps now. sums_balance installed metric spec steps now
