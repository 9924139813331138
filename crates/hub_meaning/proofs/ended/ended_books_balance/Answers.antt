-- After a last report nothing waits.
use Rattle.hub_meaning.proofs.EndedBooksLemmas.{counts_ended, events_ended}
use Rattle.hub_meaning.proofs.ended.ended_books_balance.Goals as goal

pub returns-clause-counts : goal.returns-clause-counts
returns-clause-counts c =
    λ installed metric overflow steps clock sized few. counts_ended installed metric steps clock overflow sized few

pub returns-clause-events : goal.returns-clause-events
returns-clause-events c = λ installed metric steps clock few. events_ended installed metric steps clock few
