-- The count rises as often.
use Rattle.value_metric.proofs.OftenLemmas.{as_often_is}
use Rattle.value_metric.proofs.value_books.as_often.Goals as goal

pub returns : goal.returns
returns c = λ count more first last.
    as_often_is c.args.number count more c.args.before c.args.after c.saturating_sub-more.result
    c.saturating_mul.result c.saturating_add.result c.requires.some first last c.saturating_sub-more.ensures
    c.saturating_mul.ensures c.saturating_add.ensures
