use Rattle.std.proofs.Common.{◌≡◌, ◌∙◌, Bool, List, ℕ, ap, sym, subst}
use Rattle.config_links.specs.declared.linked.LPredicate.{LPredicate}
use Rattle.metric_meaning.specs.Histories.{truth_at}
use Rattle.predicate_state.specs.PredicateTable.{PredicateTable}
use Rattle.known_conditions.specs.KeptPredicates.{HaveTheirSpecs, acting_matchers, tables_with}
use Rattle.known_conditions.specs.Lists.{AreListed, places_under}
use Rattle.known_conditions.specs.Marks.{AreAllMarked}
use Rattle.known_conditions.proofs.KeptPredicatesLemmas.{knows_atom, as_many, all_acted}
use Rattle.known_conditions.proofs.ListsLemmas.{whole}
use Rattle.known_conditions.proofs.conditions.Conditions.log_some.Goals as goal

-- the atom acted on each predicate of which a matcher holds, and that is on all on which it acts
pub returns-in_ok-act_on_each-in-AtomAt-clause-knows : goal.returns-in_ok-act_on_each-in-AtomAt-clause-knows
returns-in_ok-act_on_each-in-AtomAt-clause-knows c =
    let nodes = c.self.inside.tree.nodes in
    let tables = c.self.inside.tables in
    let lists = c.self.inside.actors.items in
    let atom = c.in-AtomAt.atom in
    let truths = c.args.matched.now in
    let holds : ℕ → Bool = λ matcher. truth_at matcher truths in
    let given = c.as_slice-in-AtomAt.result.now in
    let old = c.as_mut_slice.result.now in
    let new = c.act_on_each.new.tables in
    let same = c.as_slice-in-AtomAt.ensures in
    let were = c.as_mut_slice.ensures.value in
    let kept = subst (λ ps. HaveTheirSpecs ps new) same c.act_on_each.ensures.specs in
    let many = as_many nodes new kept ∙ sym (as_many nodes tables.items c.self.invariant.0.specs) in
    let places : c.as_slice-in-AtomAt-2.result.now ≡ places_under lists holds =
    c.as_slice-in-AtomAt-2.ensures.value ∙ c.in_ok-find_matched-in-AtomAt.ensures
    ∙ ap (λ ls. places_under ls holds) c.as_slice.ensures.value in
    let specs = subst (HaveTheirSpecs given) (sym were)
    (subst (λ ps. HaveTheirSpecs ps tables.items) (sym same) c.self.invariant.0.specs) in
    rw (c.in-AtomAt.is, ← c.self.view_is)
    (knows_atom nodes tables.items _ c.in-AtomAt.at atom truths
    (whole new tables.items tables.len many tables.ok.0
    ∙ all_acted truths atom given old specs lists new c.act_on_each.new.marks
    (subst (AreListed lists acting_matchers) (sym same) c.self.invariant.3)
    c.in_ok-act_on_each-in-AtomAt.ensures.acted
    (subst (λ ps. AreAllMarked ps c.act_on_each.new.marks) places c.in_ok-act_on_each-in-AtomAt.ensures.all)
    ∙ ap (λ (ps : List LPredicate). tables_with truths atom ps old) same
    ∙ ap (λ (ts : List PredicateTable). tables_with truths atom nodes ts) were))
