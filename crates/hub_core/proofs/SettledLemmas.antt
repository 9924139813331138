-- All that is live is caught up, one place after the other.
use Rattle.std.proofs.Common.{◌≡◌, ◌≢◌, ℕ, zero, suc, ◌+◌, ◌≤◌, Bool, true, false, nat_lt, nat_eq, List, [], ◌∷◌, length, position, slice_get, Option, Some, None, refl, sym, ap, subst, ◌∙◌, arith}
use Rattle.std.specs.Bool.{MatchBool}
use Rattle.std.specs.Map.{keys_of}
use Rattle.std.proofs.lemmas.Bool.Decides.{nat_tests}
use Rattle.std.proofs.lemmas.Option.{none-some, same_Some}
use Rattle.indexmap.specs.IndexMap.{set_value_at}
use Rattle.indexmap.proofs.MapLemmas.{Found-position, Missing-position}
use Rattle.bucket_meaning.specs.Ends.{Moment}
use Rattle.client_engine.specs.declared.live_id.LiveId.{LiveId}
use Rattle.hub_core.specs.Settling.{live_in, FoundWoken, AllWoken, WakesAt, WokenBefore}
use Rattle.hub_core.specs.Sleeping.{WakesUp}
use Rattle.hub_core.specs.Slots.{same_id, slot_at}
use Rattle.hub_core.specs.declared.live_instance.LiveInstance.{LiveInstance}

-- the rows of what is live
abbrev Rows : Type 0
Rows = List (LiveId × LiveInstance)

-- what is written at a place stands there, and all else is as it was
live_set : (rows : Rows) (place : ℕ) (old new : LiveInstance) → live_in place rows ≡ Some old
    → live_in place (set_value_at rows place new) ≡ Some new
live_set [] place old new is = absurd (none-some old is)
live_set (row ∷ rows) zero old new is = refl
live_set (row ∷ rows) (suc place) old new is = live_set rows place old new is

others_kept : (rows : Rows) (place other : ℕ) (new : LiveInstance) → other ≢ place
    → live_in other (set_value_at rows place new) ≡ live_in other rows
others_kept [] place other new apart = refl
others_kept (row ∷ rows) zero zero new apart = absurd (apart refl)
others_kept (row ∷ rows) zero (suc other) new apart = refl
others_kept (row ∷ rows) (suc place) zero new apart = refl
others_kept (row ∷ rows) (suc place) (suc other) new apart =
    others_kept rows place other new (λ same. apart (ap suc same))

-- The row of what stands at a place.
pub record RowThere (place : ℕ) (rows : Rows) (live : LiveInstance) : Type 0 where
  pub name : LiveId
  pub row : slice_get rows place ≡ Some (name, live)

pub row_there : (rows : Rows) (place : ℕ) (live : LiveInstance) → live_in place rows ≡ Some live
    → RowThere place rows live
row_there [] place live is = absurd (none-some live is)
row_there (row ∷ rows) zero live is =
    record { name = row.0; row = ap (λ (it : LiveInstance). Some (row.0, it)) (same_Some row.1 live is) }
row_there (row ∷ rows) (suc place) live is =
    let rest = row_there rows place live is in
    record { name = rest.name; row = rest.row }

-- past the last place nothing stands
past_end : (rows : Rows) (place : ℕ) → length rows ≤ place → live_in place rows ≡ None
past_end [] place end = refl
past_end (row ∷ rows) zero end = absurd (omega (arith, end))
past_end (row ∷ rows) (suc place) end = past_end rows place (omega (arith, end))

module _ (moment : Moment) where
  -- what stands at a place is caught up
  pub wakes_at : (place : ℕ) (olds news : Rows) (old new : LiveInstance) → live_in place olds ≡ Some old
      → news ≡ set_value_at olds place new → WakesUp moment old.carried.instance new.carried.instance
      → WakesAt moment place olds news
  wakes_at place olds news old new there is wakes =
      let now : live_in place news ≡ Some new = ap (live_in place) is ∙ live_set olds place old new there in
      record {
        here = subst (λ (o : Option LiveInstance). FoundWoken moment o (live_in place news)) (sym there)
            (subst (λ (o : Option LiveInstance). FoundWoken moment (Some old) o) (sym now) wakes);
        others = λ other apart. ap (live_in other) is ∙ others_kept olds place other new apart;
      }

  -- nothing stands there
  pub wakes_none : (place : ℕ) (rows : Rows) → live_in place rows ≡ None → WakesAt moment place rows rows
  wakes_none place rows none = record {
    here = subst (λ (o : Option LiveInstance). FoundWoken moment o (live_in place rows)) (sym none)
        (subst (λ (o : Option LiveInstance). FoundWoken moment None o) (sym none) tt);
    others = λ other apart. refl;
  }

  -- what became of a place, whether its turn has come or not
  abbrev Became : Bool → Option LiveInstance → Option LiveInstance → Type 0
  Became turned old new = MatchBool turned (FoundWoken moment old new) (new ≡ old)

  -- at first all is as it was
  pub none_woken : (rows : Rows) → WokenBefore moment 0 rows rows
  none_woken rows place =
      let before : nat_lt place 0 ≡ false = grind (arith, nat_tests) in
      subst (λ b. Became b (live_in place rows) (live_in place rows)) (sym before) refl

  -- one place more
  pub woken_step : (end : ℕ) (olds news next : Rows) → WokenBefore moment end olds news → WakesAt moment end news next
      → WokenBefore moment (end + 1) olds next
  woken_step end olds news next part one place = by_case (nat_lt place end) refl (nat_eq place end) refl where
    by_case : (before : Bool) → nat_lt place end ≡ before → (here : Bool) → nat_eq place end ≡ here
        → Became (nat_lt place (end + 1)) (live_in place olds) (live_in place next)
    by_case true is here same =
        let now : nat_lt place (end + 1) ≡ true = grind (arith, nat_tests) in
        let apart : place ≢ end = λ e. grind (arith, nat_tests) in
        subst (λ b. Became b (live_in place olds) (live_in place next)) (sym now)
        (subst (λ (o : Option LiveInstance). FoundWoken moment (live_in place olds) o) (sym (one.others place apart))
        (subst (λ b. Became b (live_in place olds) (live_in place news)) is (part place)))
    by_case false is true same =
        let now : nat_lt place (end + 1) ≡ true = grind (arith, nat_tests) in
        let at : place ≡ end = grind (arith, nat_tests) in
        let was : live_in place news ≡ live_in place olds =
        subst (λ b. Became b (live_in place olds) (live_in place news)) is (part place) in
        subst (λ b. Became b (live_in place olds) (live_in place next)) (sym now)
        (subst (λ (o : Option LiveInstance). FoundWoken moment o (live_in place next)) was
        (subst (λ (p : ℕ). FoundWoken moment (live_in p news) (live_in p next)) (sym at) one.here))
    by_case false is false same =
        let now : nat_lt place (end + 1) ≡ false = grind (arith, nat_tests) in
        let apart : place ≢ end = λ e. grind (arith, nat_tests) in
        let was : live_in place news ≡ live_in place olds =
        subst (λ b. Became b (live_in place olds) (live_in place news)) is (part place) in
        subst (λ b. Became b (live_in place olds) (live_in place next)) (sym now) (one.others place apart ∙ was)

  -- what stands at each place woke up
  at_places : (end : ℕ) (olds news : Rows) → length olds ≤ end → WokenBefore moment end olds news → (place : ℕ)
      → FoundWoken moment (live_in place olds) (live_in place news)
  at_places end olds news all part place = by_case (nat_lt place end) refl where
    by_case : (before : Bool) → nat_lt place end ≡ before
        → FoundWoken moment (live_in place olds) (live_in place news)
    by_case true is = subst (λ b. Became b (live_in place olds) (live_in place news)) is (part place)
    by_case false is =
        let past : length olds ≤ place = grind (arith, nat_tests, all) in
        let none : live_in place olds ≡ None = past_end olds place past in
        let was : live_in place news ≡ live_in place olds =
        subst (λ b. Became b (live_in place olds) (live_in place news)) is (part place) in
        subst (λ (o : Option LiveInstance). FoundWoken moment o (live_in place news)) (sym none)
        (subst (λ (o : Option LiveInstance). FoundWoken moment None o) (sym (was ∙ none)) tt)

  -- and so under each name
  pub all_woken : (end : ℕ) (olds news : Rows) → length olds ≤ end → keys_of news ≡ keys_of olds
      → WokenBefore moment end olds news → AllWoken moment olds news
  all_woken end olds news all keys part name = by_place (position (same_id name) (keys_of olds)) refl where
    by_place : (found : Option ℕ) → position (same_id name) (keys_of olds) ≡ found
        → FoundWoken moment (slot_at name olds) (slot_at name news)
    by_place None is =
        let was = Missing-position (same_id name) olds is in
        let now = Missing-position (same_id name) news (ap (position (same_id name)) keys ∙ is) in
        subst (λ (o : Option LiveInstance). FoundWoken moment o (slot_at name news)) (sym was.value)
        (subst (λ (o : Option LiveInstance). FoundWoken moment None o) (sym now.value) tt)
    by_place (Some place) is =
        let was = Found-position (same_id name) olds place is in
        let now = Found-position (same_id name) news place (ap (position (same_id name)) keys ∙ is) in
        subst (λ (o : Option LiveInstance). FoundWoken moment o (slot_at name news)) (sym was.value)
        (subst (λ (o : Option LiveInstance). FoundWoken moment (live_in place olds) o) (sym now.value)
        (at_places end olds news all part place))
