-- A frame that nobody hears leaves all as it is, and asks nothing.
use Rattle.std.proofs.Common.{◌≡◌, ℕ, zero, suc, ◌<◌, Bool, false, List, [], ◌∷◌, ◌++◌, length, get_or, slice_get, Option, Some, None, refl, sym, ap, subst, ◌∙◌, arith}
use Rattle.std.specs.Prelude.{if◌then◌else◌}
use Rattle.std.specs.Bool.{MatchBool}
use Rattle.std.specs.List.{IsDistinct, flat_map}
use Rattle.std.specs.Map.{keys_of}
use Rattle.std.proofs.lemmas.Bool.{or_parts}
use Rattle.std.proofs.lemmas.List.Elements.{All-nil, All-head, All-tail, All-from_get_or}
use Rattle.std.proofs.lemmas.Map.Entries.{lookup_from_place}
use Rattle.std.proofs.lemmas.Option.{slice_get-get_or}
use Rattle.atom_record.specs.declared.atom.Atom.{Atom}
use Rattle.atom_record.specs.declared.log.LogFrame.{LogFrame}
use Rattle.atom_record.specs.declared.log.LogFrame.TheVariants.{Tick, AtomAt, Pull}
use Rattle.bucket_meaning.specs.Ends.{Moment}
use Rattle.config_types.specs.declared.matcher.SimpleMatcher.{SimpleMatcher}
use Rattle.config_links.specs.declared.linked.Linked.{Linked}
use Rattle.config_links.specs.declared.linked.LMatcher.{LMatcher}
use Rattle.config_links.specs.declared.linked.LMatcher.TheVariants.{Simple, Combo}
use Rattle.matcher_truths.specs.MatcherTruths.{is_of_atom}
use Rattle.heard_ids.specs.Hearing.{is_heard, hears_all}
use Rattle.heard_ids.proofs.HearingLaws.{unheard_matcher}
use Rattle.id_notes.specs.declared.notes.Notes.{Notes}
use Rattle.id_notes.specs.Noted.{is_named}
use Rattle.matcher_table.specs.Tables.{SlotTable}
use Rattle.matcher_table.specs.Truths.{HaveRisen}
use Rattle.matcher_table.proofs.EvaluationLaws.{rises_by_none}
use Rattle.client_engine.specs.Handed.{BookOfStates}
use Rattle.client_engine.specs.Running.{linked_of}
use Rattle.client_engine.specs.declared.live_id.LiveId.{LiveId}
use Rattle.hub_core.specs.declared.live_instance.LiveInstance.{LiveInstance}
use Rattle.hub_core.specs.DifferentMatchers.{asked_matcher, asked_matchers, different}
use Rattle.hub_core.specs.FrameTruths.{LogsBy}
use Rattle.hub_core.specs.LiveQuestions.{AllAskBy}
use Rattle.hub_core.specs.LoggedFrames.{ShownFrame, shown_frame}
use Rattle.hub_core.specs.NotedLives.{AreNoted, noted_for}
use Rattle.hub_core.specs.SharedTable.{AllHeld}
use Rattle.hub_core.specs.Sleeping.{hears}
use Rattle.hub_core.specs.SlotLogs.{FoundLogs, AllLog, NoneHears, asked_by_all}
use Rattle.hub_core.specs.Slots.{same_id, slot_at}
use Rattle.hub_core.proofs.LogLemmas.{found_all, hears_at, named_hears}
use Rattle.hub_core.proofs.NamesLemmas.{same_equiv}

-- where a frame comes to no name, none hears it
pub none_hear : (table : SlotTable) (notes : Notes LiveId) (rows : List (LiveId × LiveInstance)) → AllHeld table rows
    → AreNoted notes rows → (frame : LogFrame) → IsDistinct same_id (keys_of rows) → noted_for notes frame ≡ []
    → NoneHears frame rows
none_hear table notes [] held noted frame distinct none =
    All-nil (λ (row : LiveId × LiveInstance). hears (linked_of row.1.carried.instance) frame ≡ false)
none_hear table notes (first ∷ rest) held noted frame distinct none =
    All-from_get_or (λ (row : LiveId × LiveInstance). hears (linked_of row.1.carried.instance) frame ≡ false)
    (first ∷ rest) first each where
      each : (place : ℕ) → place < length (first ∷ rest)
          → hears (linked_of (get_or (first ∷ rest) place first).1.carried.instance) frame ≡ false
      each place within =
          let row : LiveId × LiveInstance = get_or (first ∷ rest) place first in
          let found : slot_at row.0 (first ∷ rest) ≡ Some row.1 =
          lookup_from_place same_equiv (first ∷ rest) place row.0 row.1 distinct
          (slice_get-get_or (first ∷ rest) place first within) in
          sym (ap (hears_at frame) found) ∙ sym (named_hears table notes (first ∷ rest) held noted row.0 frame)
          ∙ ap (is_named same_id row.0) none

module _ (frame : LogFrame) (rows : List (LiveId × LiveInstance)) (unheard : NoneHears frame rows) where
  -- all is as it was
  pub none_logs : (says : SimpleMatcher → Atom → Bool) (before : Moment) (book : BookOfStates)
      → AllLog says (shown_frame before frame book) rows rows
  none_logs says before book name = by_slot (slot_at name rows) refl where
    by_slot : (slot : Option LiveInstance) → slot_at name rows ≡ slot
        → FoundLogs says (shown_frame before frame book) slot slot
    by_slot None is = tt
    by_slot (Some live) is =
        let it = live.carried.instance in
        subst (λ b. MatchBool b (LogsBy says before frame book it it) (live ≡ live))
        (sym (found_all (λ (it : LiveInstance). hears (linked_of it.carried.instance) frame ≡ false) name live rows
        unheard is)) refl

-- a row of lists that are empty
none_flat : {X Y : Type 0} (lists : X → List Y) (xs : List X)
    → ((place : ℕ) (x : X) → slice_get xs place ≡ Some x → lists x ≡ []) → flat_map lists xs ≡ []
none_flat lists [] each = refl
none_flat lists (x ∷ xs) each =
    ap (λ ys. ys ++ flat_map lists xs) (each zero x refl)
    ∙ none_flat lists xs (λ place y is. each (suc place) y is)

-- a matcher of another id isn't asked about
one_asked : (atom : Atom) (matcher : LMatcher)
    → ((simple : SimpleMatcher) → matcher ≡ Simple simple → is_of_atom atom simple ≡ false)
    → asked_matcher atom matcher ≡ []
one_asked atom (Simple simple) other = ap (λ b. if b then simple ∷ [] else []) (other simple refl)
one_asked atom (Combo op children) other = refl

-- nor is any of a configuration that doesn't hear the id
config_asked : (atom : Atom) (linked : Linked) → is_heard linked atom.id ≡ false
    → flat_map (asked_matcher atom) linked.matchers ≡ []
config_asked atom linked unheard =
    none_flat (asked_matcher atom) linked.matchers
    (λ place matcher is. one_asked atom matcher
    (λ simple same. unheard_matcher linked atom.id unheard place simple (is ∙ ap (λ (m : LMatcher). Some m) same)))

none_of_all : (at : ℕ) (atom : Atom) (rows : List (LiveId × LiveInstance)) → NoneHears (AtomAt at atom) rows
    → asked_matchers atom rows ≡ []
none_of_all at atom [] unheard = refl
none_of_all at atom (row ∷ rows) unheard =
    let P : LiveId × LiveInstance → Type 0 = λ row. hears (linked_of row.1.carried.instance) (AtomAt at atom) ≡ false in
    ap (λ asked. asked ++ asked_matchers atom rows)
    (config_asked atom (linked_of row.1.carried.instance) (or_parts (hears_all (linked_of row.1.carried.instance)) _
    (All-head P row rows unheard)).1) ∙ none_of_all at atom rows (All-tail P row rows unheard)

-- no judge is asked
none_asked : (frame : LogFrame) (rows : List (LiveId × LiveInstance)) → NoneHears frame rows
    → asked_by_all frame rows ≡ 0
none_asked (Tick at) rows unheard = refl
none_asked (AtomAt at atom) rows unheard = ap (λ asked. length (different asked)) (none_of_all at atom rows unheard)
none_asked (Pull at id outcome) rows unheard = refl

pub none_risen : (frame : LogFrame) (rows : List (LiveId × LiveInstance)) → NoneHears frame rows → (ticks : ℕ)
    → HaveRisen (asked_by_all frame rows) ticks ticks
none_risen frame rows unheard ticks =
    subst (λ asked. HaveRisen asked ticks ticks) (sym (none_asked frame rows unheard)) (rises_by_none ticks)

-- and no predicate
pub none_ask : (says : SimpleMatcher → Atom → Bool) (shown : ShownFrame) (rows : List (LiveId × LiveInstance))
    (asks : ℕ) → AllAskBy says shown rows asks asks
none_ask says shown rows asks most each = omega arith
