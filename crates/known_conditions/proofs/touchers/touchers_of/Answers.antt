-- One place after the other.
use Rattle.std.proofs.Common.{◌≡◌, ◌<◌, ◌++◌, ◌||◌, ◌==◌, [], Bool, length, slice_get, Some, if◌then◌else◌, sym, ap, ◌∙◌, arith, refl}
use Rattle.std.proofs.lemmas.Option.{slice_get_read}
use Rattle.config_links.specs.declared.linked.LPredicate.{LPredicate}
use Rattle.config_links.specs.MetricLinks.{is_reached}
use Rattle.config_links.specs.OwnMatchers.{predicate_matchers}
use Rattle.metric_meaning.specs.Histories.{truth_at}
use Rattle.known_conditions.specs.Touchers.{matchers_found, matchers_below, touchers}
use Rattle.known_conditions.proofs.TouchersLemmas.{marked_below, places_first, places_on, places_all}
use Rattle.known_conditions.proofs.touchers.touchers_of.Goals as goal

-- none yet
pub loop-place-init : goal.loop-place-init
loop-place-init c =
    let predicates = c.args.predicates.now in
    places_first (matchers_below predicates c.args.root) (length predicates) c.new-list.result c.new-list.ensures

-- one more
pub loop-place-preserved : goal.loop-place-preserved
loop-place-preserved c =
    let predicates = c.args.predicates.now in
    let root = c.args.root in
    let place = c.loop-place.place in
    let list = c.loop-place.list in
    let predicate = c.index-predicates-place.result in
    let within : place < length predicates = omega arith in
    let there : slice_get predicates place ≡ Some predicate =
    slice_get_read predicates (length predicates) place predicate refl within c.index-predicates-place.is in
    let below = c.is_below-below.ensures ∙ ap (λ marks. (root == place) || truth_at place marks) c.as_slice.ensures
    ∙ marked_below predicates root place c.in_ok-marks.marks c.in_ok-marks.ensures within in
    places_on (matchers_below predicates root) place (length predicates) list (touchers predicates root)
    c.add_matchers.new.list within c.loop-place.invariant
    (c.in_ok-add_matchers.ensures
    ∙ ap (λ (p : LPredicate). list ++ (if c.is_below-below.result then predicate_matchers p.body else []))
    (sym c.index-predicates-place.is)
    ∙ ap (λ (b : Bool). list ++ (if b then predicate_matchers predicate.body else [])) below
    ∙ ap (λ found. list ++ (if is_reached predicates (Some root) place then matchers_found found else [])) (sym there))

-- all
pub returns : goal.returns
returns c =
    let predicates = c.args.predicates.now in
    let ends = c.loop-place-test.false in
    places_all (matchers_below predicates c.args.root) c.loop-place.place (length predicates) c.loop-place.list
    (touchers predicates c.args.root) (omega (arith, ends)) c.loop-place.invariant
