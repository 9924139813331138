use Rattle.std.proofs.Common.{◌≡◌, List, map, not, sym, ap, ◌∙◌}
use Rattle.std.specs.List.{list_all, list_any}
use Rattle.std.proofs.lemmas.List.Folds.{list_all-map}
use Rattle.link_graph.proofs.NodeLemmas.{list_any-map}
use Rattle.predicate_state.specs.declared.truth.Truth.{Truth}
use Rattle.condition_links.specs.declared.joined.Seen.{Seen}
use Rattle.condition_links.specs.ThreeValues.{is_true}
use Rattle.condition_links.specs.SeenTruths.{seen_of}
use Rattle.condition_links.proofs.joined.Seen.holds.Goals as goal

all_true : (seen : Seen) (truths : List Truth) → seen ≡ seen_of truths → seen.all
    ≡ list_all (λ truth. truth) (map is_true truths)
all_true seen truths e = ap (λ (s : Seen). s.all) e ∙ sym (list_all-map (λ truth. truth) is_true truths)

any_true : (seen : Seen) (truths : List Truth) → seen ≡ seen_of truths → seen.any
    ≡ list_any (λ truth. truth) (map is_true truths)
any_true seen truths e = ap (λ (s : Seen). s.any) e ∙ sym (list_any-map (λ truth. truth) is_true truths)

pub returns-in-And : goal.returns-in-And
returns-in-And c truths e = rw c.in-And.is (all_true c.args.self truths e)

pub returns-in-Or : goal.returns-in-Or
returns-in-Or c truths e = rw c.in-Or.is (any_true c.args.self truths e)

pub returns-in-Not : goal.returns-in-Not
returns-in-Not c truths e = rw c.in-Not.is (ap not (any_true c.args.self truths e))

pub returns-in-Nand : goal.returns-in-Nand
returns-in-Nand c truths e = rw c.in-Nand.is (ap not (all_true c.args.self truths e))

pub returns-in-Nor : goal.returns-in-Nor
returns-in-Nor c truths e = rw c.in-Nor.is (ap not (any_true c.args.self truths e))
