-- A frame that came to those that are noted came to all that hear it.
use Rattle.std.proofs.Common.{◌≡◌, ℕ, ◌==◌, Bool, true, false, not, ◌&&◌, ◌||◌, cond, List, [], ◌∷◌, ◌++◌, Option, Some, None, refl, sym, ap, subst, ◌∙◌, arith}
use Rattle.std.specs.Bool.{MatchBool}
use Rattle.std.specs.List.{All, list_any}
use Rattle.std.specs.Map.{keys_of}
use Rattle.std.specs.Option.{option_map_or}
use Rattle.std.proofs.lemmas.List.Elements.{All-head, All-tail}
use Rattle.std.proofs.lemmas.Option.{none-some, same_Some}
use Rattle.atom_record.specs.declared.atom.Atom.{Atom}
use Rattle.atom_record.specs.declared.log.LogFrame.{LogFrame}
use Rattle.atom_record.specs.declared.log.LogFrame.TheVariants.{Tick, AtomAt, Pull}
use Rattle.config_types.specs.declared.matcher.SimpleMatcher.{SimpleMatcher}
use Rattle.heard_ids.specs.Hearing.{hears_all}
use Rattle.id_notes.specs.declared.notes.Notes.{Notes}
use Rattle.id_notes.specs.Noted.{wants_id, is_named, names_under, names_for_all}
use Rattle.matcher_table.specs.Tables.{SlotTable}
use Rattle.matcher_table.specs.TableFacts.{IsSoundTable}
use Rattle.client_engine.specs.Running.{linked_of}
use Rattle.client_engine.specs.declared.live_id.LiveId.{LiveId}
use Rattle.hub_core.specs.declared.live_instance.LiveInstance.{LiveInstance}
use Rattle.hub_core.specs.FrameTruths.{LogsBy}
use Rattle.hub_core.specs.LiveQuestions.{NamesAsk, AllAskBy}
use Rattle.hub_core.specs.LoggedFrames.{ShownFrame, LoggedFrame}
use Rattle.hub_core.specs.NotedLives.{AreNoted, noted_for}
use Rattle.hub_core.specs.SharedTable.{IsHeldIn, AllHeld}
use Rattle.hub_core.specs.Sleeping.{heard_id_of, hears_id, hears, IsHearing, AsksAwake}
use Rattle.hub_core.specs.SlotLogs.{EvaluatesFor, results_for, IsShown, FoundShown, NotedShown, FoundLogs, AllLog}
use Rattle.hub_core.specs.Slots.{same_id, slot_at}
use Rattle.hub_core.proofs.EvaluationLemmas.{logs_by, results_are}
use Rattle.hub_core.proofs.NamesLemmas.{named-append, sum_all}

-- what is so of all is so of what is found
pub found_all : (P : LiveInstance → Type 0) (name : LiveId) (it : LiveInstance) (rows : List (LiveId × LiveInstance))
    → All (λ (row : LiveId × LiveInstance). P row.1) rows → slot_at name rows ≡ Some it → P it
found_all P name it [] all is = absurd (cc)
found_all P name it (row ∷ rows) all is =
    let Q : LiveId × LiveInstance → Type 0 = λ row. P row.1 in
    by_case (same_id name row.0) is (All-head Q row rows all)
    (λ later. found_all P name it rows (All-tail Q row rows all) later) where
      by_case : (same : Bool) → cond same (Some row.1) (slot_at name rows) ≡ Some it → P row.1
          → (slot_at name rows ≡ Some it → P it) → P it
      by_case true is' here later = subst P (same_Some row.1 it is') here
      by_case false is' here later = later is'

-- what is found among what is held is held
pub found_held : (table : SlotTable) (name : LiveId) (it : LiveInstance) (rows : List (LiveId × LiveInstance))
    → AllHeld table rows → slot_at name rows ≡ Some it → IsHeldIn table it
found_held table = found_all (IsHeldIn table)

-- for an id or for every id, by what a configuration hears
either_noted : (all heard : Bool) → ((not all && heard) || all) ≡ (all || heard)
either_noted true heard = refl
either_noted false true = refl
either_noted false false = refl

-- what stands under a name hears a frame
abbrev pub hears_at : LogFrame → Option LiveInstance → Bool
hears_at shown slot = option_map_or (λ (live : LiveInstance). hears (linked_of live.carried.instance) shown) slot false

module _ (table : SlotTable) (notes : Notes LiveId) (rows : List (LiveId × LiveInstance)) (held : AllHeld table rows)
    (noted : AreNoted notes rows) (name : LiveId) where
  -- a name is noted where what stands under it hears the id
  noted_hears : (id : ℕ) (slot : Option LiveInstance) → slot_at name rows ≡ slot
      → is_named same_id name (names_under notes id ++ names_for_all notes)
      ≡ option_map_or (λ (live : LiveInstance). hears_id (linked_of live.carried.instance) id) slot false
  noted_hears id slot is =
      named-append name (names_under notes id) (names_for_all notes)
      ∙ ap (λ b. b || is_named same_id name (names_for_all notes))
      (noted.ids id name ∙ ap (λ (o : Option LiveInstance). option_map_or (λ (live : LiveInstance).
      wants_id live.hearing id) o false) is)
      ∙ ap (λ b. option_map_or (λ (live : LiveInstance). wants_id live.hearing id) slot false || b)
      (noted.all name ∙ ap (λ (o : Option LiveInstance). option_map_or (λ (live : LiveInstance). live.hearing.all) o
      false) is)
      ∙ by_slot slot is where
        by_slot : (o : Option LiveInstance) → slot_at name rows ≡ o
            → (option_map_or (λ (live : LiveInstance). wants_id live.hearing id) o false
            || option_map_or (λ (live : LiveInstance). live.hearing.all) o false)
            ≡ option_map_or (λ (live : LiveInstance). hears_id (linked_of live.carried.instance) id) o false
        by_slot None e = refl
        by_slot (Some live) e =
            let heard : IsHearing live.hearing (linked_of live.carried.instance) =
            (found_held table name live rows held e).hears in
            either_noted live.hearing.all (list_any (λ h. h == id) live.hearing.ids)
            ∙ ap (λ b. b || list_any (λ h. h == id) live.hearing.ids) heard.all
            ∙ ap (λ (ids : List ℕ). hears_all (linked_of live.carried.instance) || list_any (λ h. h == id) ids)
            heard.ids

  -- and so where it hears a frame
  pub named_hears : (shown : LogFrame)
      → is_named same_id name (noted_for notes shown) ≡ hears_at shown (slot_at name rows)
  named_hears (Tick at) = by_slot (slot_at name rows) where
    by_slot : (slot : Option LiveInstance) → false ≡ option_map_or (λ (live : LiveInstance). false) slot false
    by_slot None = refl
    by_slot (Some live) = refl
  named_hears (AtomAt at atom) = noted_hears atom.id (slot_at name rows) refl
  named_hears (Pull at id outcome) = noted_hears id (slot_at name rows) refl

module _ (says : SimpleMatcher → Atom → Bool) (before : SlotTable) (logged : LoggedFrame)
    (sound : IsSoundTable logged.table) (evaluates : EvaluatesFor says logged.shown.frame before logged.table)
    (olds : List (LiveId × LiveInstance)) (held : AllHeld logged.table olds) where
  -- what took the frame, or not, took it as the judge says
  found_logs : (name : LiveId) (old new : Option LiveInstance) → slot_at name olds ≡ old
      → MatchBool (hears_at logged.shown.frame old) (FoundShown logged old new) (new ≡ old)
      → FoundLogs says logged.shown old new
  found_logs name None None is became = tt
  found_logs name None (Some new) is became = absurd (none-some new (sym became))
  found_logs name (Some old) None is became =
      gone (hears (linked_of old.carried.instance) logged.shown.frame) became where
        gone : (heard : Bool) → MatchBool heard ⊥ (None ≡ Some old) → ⊥
        gone true became = became
        gone false became = none-some old became
  found_logs name (Some old) (Some new) is became =
      took (hears (linked_of old.carried.instance) logged.shown.frame) became where
        took : (heard : Bool) → MatchBool heard (IsShown logged old new) (Some new ≡ Some old)
            → MatchBool heard (LogsBy says logged.shown.before logged.shown.frame logged.shown.book old.carried.instance
            new.carried.instance) (new ≡ old)
        took true became =
            logs_by says logged.shown.before logged.shown.frame logged.shown.book old.carried.instance
            new.carried.instance (results_for logged.table logged.shown.frame old.slots)
            (results_are says before logged.table old logged.shown.frame sound evaluates
            (found_held logged.table name old olds held is))
            became.logs
        took false became = same_Some new old became

  -- what is noted took the frame, so what hears it did
  pub all_logs : (notes : Notes LiveId) (news : List (LiveId × LiveInstance)) → AreNoted notes olds
      → NotedShown logged notes olds news → AllLog says logged.shown olds news
  all_logs notes news noted shows name =
      found_logs name (slot_at name olds) (slot_at name news) refl
      (subst (λ b. MatchBool b (FoundShown logged (slot_at name olds) (slot_at name news))
      (slot_at name news ≡ slot_at name olds)) (named_hears logged.table notes olds held noted name logged.shown.frame)
      (shows name))

  -- those that are noted ask no more than all, by what the judge says
  pub ask_by : (names : List LiveId) (from to : ℕ) → NamesAsk logged names olds from to
      → AllAskBy says logged.shown olds from to
  ask_by names from to asks most each =
      let few = asks most (λ name it named found start end here. each name it found start end
      (subst (λ truths. AsksAwake logged.shown.before it.carried.instance logged.shown.frame truths logged.shown.book
      start end)
      (results_are says before logged.table it logged.shown.frame sound evaluates
      (found_held logged.table name it olds held found)) here)) in
      let total = sum_all most names (keys_of olds) in
      omega (arith, few, total)

-- what doesn't hear a frame is as it was
pub unheard_stay : (says : SimpleMatcher → Atom → Bool) (shown : ShownFrame) (frame : LogFrame)
    (olds news : List (LiveId × LiveInstance)) → heard_id_of shown.frame ≡ heard_id_of frame
    → AllLog says shown olds news → (name : LiveId) (live : LiveInstance) → slot_at name olds ≡ Some live
    → hears (linked_of live.carried.instance) frame ≡ false → slot_at name news ≡ Some live
unheard_stay says shown frame olds news same all name live is off =
    by_new (slot_at name news)
    (subst (λ (o : Option LiveInstance). FoundLogs says shown o (slot_at name news)) is (all name)) where
      unheard : hears (linked_of live.carried.instance) shown.frame ≡ false
      unheard = ap (λ (id : Option ℕ). option_map_or (hears_id (linked_of live.carried.instance)) id false) same ∙ off

      by_new : (new : Option LiveInstance) → FoundLogs says shown (Some live) new → new ≡ Some live
      by_new None logs = absurd logs
      by_new (Some new) logs =
          ap (λ (it : LiveInstance). Some it)
          (subst (λ b. MatchBool b
          (LogsBy says shown.before shown.frame shown.book live.carried.instance new.carried.instance) (new ≡ live))
          unheard logs)
