use Rattle.distinct.proofs.ApartLemmas.{apart_without_repeat}
use Rattle.distinct.proofs.repeats.without_repeat_items_differ.Goals as goal

-- by the law on the definition, under the law of `==`
pub returns : goal.returns
returns g c = record { apart = apart_without_repeat g.T.PartialEq.eq g.met.T.Exact.exact }
