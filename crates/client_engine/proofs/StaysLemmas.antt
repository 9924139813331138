-- What stays of inner keys after an atom: what `specs/Staying.antt` says stays, does.
use Rattle.std.proofs.Common.{◌≡◌, ℕ, ◌<◌, Bool, true, false, nat_lt, List, [], ◌∷◌, ◌++◌, length, slice_get, Option, Some, None, sym, ap, subst, ◌∙◌, ⊎_elim, arith}
use Rattle.std.specs.Borrow.{Bor}
use Rattle.std.specs.Map.{keys_of}
use Rattle.std.specs.Option.{option_copied}
use Rattle.std.proofs.lemmas.Bool.{cases_Bool}
use Rattle.std.proofs.lemmas.Bool.Decides.{Decides-ltb}
use Rattle.std.proofs.lemmas.Option.{none-some, same_Some}
use Rattle.atom_record.specs.declared.atom.Atom.{Atom}
use Rattle.atom_record.specs.declared.log.LogFrame.TheVariants.{AtomAt}
use Rattle.bucket_meaning.specs.Guard.{is_among}
use Rattle.config_types.specs.declared.parameters.PredSpec.{PredSpec}
use Rattle.config_links.specs.declared.linked.LMetric.{LMetric}
use Rattle.predicate_state.specs.PredicateStates.{PredicateState}
use Rattle.predicate_state.specs.PredicateTable.{LeafKey, same_leaves}
use Rattle.metric_producer.specs.LaneCalls.{coming}
use Rattle.duration_metric.specs.declared.change.InnerEvent.{InnerEvent}
use Rattle.duration_metric.specs.declared.inner.Known.{Known}
use Rattle.duration_metric.specs.InnerKeys.{DurationCall, inner_keys, last_known}
use Rattle.metric_meaning.specs.Histories.{Step, Installation}
use Rattle.metric_meaning.specs.DurationSteps.{inner_fields, measured}
use Rattle.metric_meaning.specs.Touched.{acts_below}
use Rattle.metric_calls.specs.DurationCalls.{listed_after, known_after, told_after}
use Rattle.metric_calls.proofs.InnerToldLemmas.{TellsInner, KnowsActed, listed_told, unlisted_told}
use Rattle.known_conditions.specs.Known.{logged_step}
use Rattle.client_engine.specs.Staying.{stays_apart, stays_untold, stays_by, KeepsTruths, KeepsWhatStays}
use Rattle.client_engine.specs.Telling.{decides_inner, IsKeyTold}
use Rattle.known_conditions.specs.Touchers.{tells_one}
use Rattle.client_engine.specs.Turning.{asks_for_turn, IsTurn}
use Rattle.client_engine.specs.declared.stays.Before.{Before}
use Rattle.client_engine.specs.declared.told.Told.{Told}
use Rattle.client_engine.specs.declared.turn.Turn.{Turn}
use Rattle.client_engine.proofs.OldKeysLemmas.{among_there, are_old}
use Rattle.client_engine.proofs.UntouchedLemmas.{truth_left, known_stays, known_apart, known_untold}

module _ (installed : Installation) (metric : LMetric) (spec : PredSpec) (steps : List Step) (truths : List Bool)
    (at : ℕ) (atom : Atom) (calls : List DurationCall) (time : ℕ) (event : Option InnerEvent)
    (tells : TellsInner installed metric spec calls steps)
    (knows : KnowsActed installed metric spec (calls ++ coming time event) steps
    (logged_step (AtomAt at atom) truths)) where
  abbrev acted : List DurationCall
  acted = calls ++ coming time event

  abbrev now : LeafKey → Known
  now = known_after installed metric (steps ++ logged_step (AtomAt at atom) truths ∷ [])

  -- of a key that is listed now, what was told is what was told before the atom
  told_before : (place : ℕ) (key : LeafKey) → slice_get (inner_keys spec acted) place ≡ Some key
      → last_known spec acted key ≡ told_after installed metric spec steps key
  told_before place key is =
      knows.told key
      (subst (λ (s : PredicateState LeafKey). is_among same_leaves key (keys_of s.counts) ≡ true) knows.state
      (among_there (inner_keys spec acted) place key is))

  -- of one that was listed before the atom, that is what was so of it
  told_old : (place : ℕ) (key : LeafKey) → place < length (inner_keys spec calls)
      → slice_get (inner_keys spec acted) place ≡ Some key
      → last_known spec acted key ≡ Some (known_after installed metric steps key)
  told_old place key within is =
      told_before place key is
      ∙ listed_told installed metric spec steps key
      (subst (λ (s : PredicateState LeafKey). is_among same_leaves key (keys_of s.counts) ≡ true) tells.knows.state
      (are_old spec calls time event place key within is))

  -- something was told only of what was listed
  told_is : (key : LeafKey) (known : Known) → told_after installed metric spec steps key ≡ Some known
      → known ≡ known_after installed metric steps key
  told_is key known is = ⊎_elim
      (λ (on : is_among same_leaves key (listed_after installed metric spec steps) ≡ true).
      same_Some known (known_after installed metric steps key)
      (sym is ∙ listed_told installed metric spec steps key on))
      (λ (off : is_among same_leaves key (listed_after installed metric spec steps) ≡ false).
      absurd (none-some known (sym (unlisted_told installed metric spec steps key off) ∙ is)))
      (cases_Bool (is_among same_leaves key (listed_after installed metric spec steps)))

  -- of the inner keys that don't ask for the key that turned, all stays
  apart_so : (turn : Option (Bor Turn)) (listed : ℕ)
      → tells_one installed.linked.states atom.id metric.slices ≡ false → listed ≡ length (inner_keys spec calls)
      → IsTurn installed.linked.predicates metric truths atom (option_copied turn)
      → KeepsWhatStays (inner_fields (measured installed metric)) (stays_apart turn listed) (last_known spec acted) now
      (inner_keys spec acted)
  apart_so None listed untold many turns = tt
  apart_so (Some turn) listed untold many turns =
      λ place key kept there.
      let asks = asks_for_turn (inner_fields (measured installed metric)) key turn.now in
      let here : nat_lt place listed ≡ true = grind (arith, kept) in
      let apart : asks ≡ false = grind (arith, kept) in
      let within : place < listed = (Decides-ltb place listed).0 here in
      told_old place key (omega (arith, within, many)) there
      ∙ ap (λ (k : Known). Some k)
      (sym (known_apart installed metric spec steps truths at at atom turn.now turns untold key apart))

  -- where the condition isn't touched, truths stay
  truths_so : acts_below installed.linked.predicates truths metric.condition ≡ false
      → KeepsTruths (last_known spec acted) now (inner_keys spec acted)
  truths_so off =
      λ place key known there was.
      ap (λ (k : Known). k.truth) (told_is key known (sym (told_before place key there) ∙ was))
      ∙ sym (truth_left installed metric spec steps truths at at atom off key)

  -- and all that is so of the inner keys that aren't sliced by the state that is told
  untold_so : (told : Option (Bor Told)) (listed : ℕ)
      → acts_below installed.linked.predicates truths metric.condition ≡ false → listed ≡ length (inner_keys spec calls)
      → IsKeyTold installed.linked.states metric.slices atom (option_copied told)
      → KeepsWhatStays (inner_fields (measured installed metric)) (stays_untold told listed) (last_known spec acted) now
      (inner_keys spec acted)
  untold_so None listed off many tells_state = truths_so off
  untold_so (Some told) listed off many tells_state = (
    λ place key kept there.
        let decides = decides_inner (inner_fields (measured installed metric)) key told.now in
        let here : nat_lt place listed ≡ true = grind (arith, kept) in
        let apart : decides ≡ false = grind (arith, kept) in
        let within : place < listed = (Decides-ltb place listed).0 here in
        told_old place key (omega (arith, within, many)) there
        ∙ ap (λ (k : Known). Some k)
        (sym (known_untold installed metric spec steps truths at at atom told.now tells_state off key apart)),
    truths_so off,
  )

  -- what stays by the two tests is so of inner keys after the atom
  pub stays_so : (touched is_told : Bool) (before : Before)
      → acts_below installed.linked.predicates truths metric.condition ≡ touched
      → tells_one installed.linked.states atom.id metric.slices ≡ is_told
      → before.listed ≡ length (inner_keys spec calls)
      → IsTurn installed.linked.predicates metric truths atom (option_copied before.turn)
      → IsKeyTold installed.linked.states metric.slices atom (option_copied before.told)
      → KeepsWhatStays (inner_fields (measured installed metric)) (stays_by touched is_told before)
      (last_known spec acted) now (inner_keys spec acted)
  stays_so true true before touches tells_state many turns told = tt
  stays_so true false before touches untold many turns told = apart_so before.turn before.listed untold many turns
  stays_so false true before off tells_state many turns told = untold_so before.told before.listed off many told
  stays_so false false before off untold many turns told =
      λ place key within there.
      told_old place key (omega (arith, within, many)) there
      ∙ ap (λ (k : Known). Some k) (sym (known_stays installed metric spec steps truths at at atom off untold key))
