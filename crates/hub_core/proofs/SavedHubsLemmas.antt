-- A hub is saved as its last moment, its books and what is live, and is built of these again.
use Rattle.std.proofs.Common.{◌≡◌, ℕ, ◌+◌, Bool, true, false, List, [], ◌∷◌, ◌++◌, length, All, Result, Ok, Err, refl, sym, ap, subst, ◌∙◌, append_assoc, append-nil, arith}
use Rattle.flat_form.specs.declared.item.Item.{Item}
use Rattle.flat_form.specs.declared.item.Item.TheVariants.{Num}
use Rattle.flat_form.specs.declared.flat_error.FlatError.{FlatError}
use Rattle.flat_form.specs.declared.flat_error.FlatError.TheVariants.{Bad, Memory}
use Rattle.flat_form.specs.Flat.{Anything, StandsAt, IsValidPair, IsBuilt, Builds, number_items, pair_items, list_items}
use Rattle.pull_book.specs.PullItems.{book_items, IsPullBook}
use Rattle.state_slicer.specs.StateItems.{state_book_items, IsStateBook}
use Rattle.hub_core.specs.CarriedConfigs.{Saved}
use Rattle.hub_core.specs.HubSaving.{saved_of, IsRestored, RestoresHub, BuildsHub}
use Rattle.hub_core.specs.SavedConfigs.{carried_items, IsCarried}
use Rattle.hub_core.specs.SavedHubs.{MayBeLive, AreAllLive, SavedHub, saved_items, IsSavedHub, HubForm, hub_form}
use Rattle.hub_core.specs.SavedMoments.{pull_number}
use Rattle.hub_core.specs.declared.hub.Hub.{Hub}

-- the items of its parts
abbrev pub form_items : HubForm → List Item
form_items = pair_items number_items (pair_items number_items
    (pair_items state_book_items (pair_items book_items (list_items carried_items))))

-- the books and what is live are valid
abbrev pub IsForm : HubForm → Type 0
IsForm = IsValidPair Anything (IsValidPair Anything
    (IsValidPair IsStateBook (IsValidPair IsPullBook (All IsCarried))))

-- the number says whether pulls alone came
pull_same : (one other : Bool) → pull_number one ≡ pull_number other → one ≡ other
pull_same true true same = refl
pull_same false false same = refl
pull_same true false same = absurd (omega (arith, same))
pull_same false true same = absurd (omega (arith, same))

-- saved hubs of the same parts are the same
same_form : (one other : SavedHub) → hub_form one ≡ hub_form other → one ≡ other
same_form one other same =
    let is_pull : one.is_pull ≡ other.is_pull =
    pull_same one.is_pull other.is_pull (ap (λ (form : HubForm). form.1.0) same) in
    λ i. record {
      time = (same i).0;
      is_pull = is_pull i;
      states = (same i).1.1.0;
      pulls = (same i).1.1.1.0;
      lives = (same i).1.1.1.1;
    }

-- a hub of these parts
pub restored : {J : Type 0} (form : HubForm) (hub : Hub J) → hub.clock.time ≡ form.0
    → pull_number hub.clock.is_pull ≡ form.1.0 → hub.books.states ≡ form.1.1.0 → hub.books.pulls ≡ form.1.1.1.0
    → AreAllLive form.1.1.1.1 (saved_of hub).lives → IsRestored form hub
restored form hub time number states pulls lives = record {
  same = λ i. (time i, (number i, (states i, (pulls i, lives.same i))));
  timely = hub.clock.timely;
  lives = lives.may;
}

module _ (items : List Item) where
  -- what is saved as just these has its parts at the beginning
  stands_first : (it : SavedHub) → saved_items it ≡ items → StandsAt items 0 (form_items (hub_form it))
  stands_first it is = record { after = []; here = sym is ∙ sym (append-nil (saved_items it)) }

  form_valid : (it : SavedHub) → IsSavedHub it → IsForm (hub_form it)
  form_valid it valid = (tt, (tt, (valid.states, (valid.pulls, valid.carried))))

  -- where no such parts stand no hub is saved so
  pub hub_fails : (J : Type 0) (e : FlatError) → Builds IsForm form_items items 0 (Err e)
      → BuildsHub {J = J} items (Err e)
  hub_fails J Bad never = λ saved valid has. never (hub_form saved) (form_valid saved valid) (stands_first saved has)
  hub_fails J Memory none = tt

  module _ (form : HubForm) (next : ℕ) (one : IsBuilt IsForm form_items items 0 form next) where
    is_form : (saved : SavedHub) → IsSavedHub saved → saved_items saved ≡ items → hub_form saved ≡ form
    is_form saved valid has = one.only (hub_form saved) (form_valid saved valid) (stands_first saved has)

    -- nor where more stands there than these parts
    pub not_all : ¬ (next ≡ length items) → (J : Type 0) → BuildsHub {J = J} items (Err Bad)
    not_all more J saved valid has =
        let ends = one.ends in
        let size : length (form_items form) ≡ length (saved_items saved) =
        ap (λ (f : HubForm). length (form_items f)) (sym (is_form saved valid has)) in
        let all = ap length has in
        more (omega (arith, ends, size, all))

    -- the hub of these parts is that of these items
    restored_built : {J : Type 0} (hub : Hub J) → next ≡ length items → IsRestored form hub
        → IsBuilt IsSavedHub saved_items items 0 (saved_of hub) (length items)
    restored_built hub all is =
        let whole : IsForm (hub_form (saved_of hub)) = subst IsForm (sym is.same) one.is_valid in
        record {
          is_valid = record {
            timely = is.timely;
            states = whole.1.1.0;
            pulls = whole.1.1.1.0;
            carried = whole.1.1.1.1;
            lives = subst (λ (f : HubForm). MayBeLive f.1.1.1.1) (sym is.same) is.lives;
          };
          stands = subst (λ (f : HubForm). StandsAt items 0 (form_items f)) (sym is.same) one.stands;
          ends = sym all ∙ one.ends ∙ ap (λ (f : HubForm). 0 + length (form_items f)) (sym is.same);
          only = λ other valid there.
              same_form other (saved_of hub)
              (one.only (hub_form other) (form_valid other valid) there ∙ sym is.same);
        }

    -- what is restored of them is built of the items
    pub hub_built : {J : Type 0} (result : Result (Hub J) FlatError) → next ≡ length items → RestoresHub form result
        → BuildsHub items result
    hub_built (Ok hub) all is = restored_built hub all is
    hub_built (Err Bad) all never = λ saved valid has. never saved valid (is_form saved valid has)
    hub_built (Err Memory) all none = tt

-- a hub that can be saved
pub hub_saved : {J : Type 0} (hub : Hub J) → IsStateBook hub.books.states → IsPullBook hub.books.pulls
    → All IsCarried (saved_of hub).lives → MayBeLive (saved_of hub).lives → IsSavedHub (saved_of hub)
hub_saved hub states pulls carried lives = record {
  timely = hub.clock.timely;
  states = states;
  pulls = pulls;
  carried = carried;
  lives = lives;
}

-- its items come one after the other
pub hub_added : {J : Type 0} (hub : Hub J) (number : ℕ) (old one two three new : List Item)
    → number ≡ pull_number hub.clock.is_pull → one ≡ old ++ (Num hub.clock.time ∷ Num number ∷ [])
    → two ≡ one ++ state_book_items hub.books.states → three ≡ two ++ book_items hub.books.pulls
    → new ≡ three ++ list_items carried_items (saved_of hub).lives → new ≡ old ++ saved_items (saved_of hub)
hub_added hub number old one two three new is moment states pulls lives =
    let state_part = state_book_items hub.books.states in
    let pull_part = book_items hub.books.pulls in
    let live_part = list_items carried_items (saved_of hub).lives in
    let first : one ≡ old ++ (Num hub.clock.time ∷ Num (pull_number hub.clock.is_pull) ∷ []) =
    moment ∙ ap (λ (n : ℕ). old ++ (Num hub.clock.time ∷ Num n ∷ [])) is in
    lives ∙ ap (λ l. l ++ live_part) (pulls ∙ ap (λ l. l ++ pull_part) (states ∙ ap (λ l. l ++ state_part) first))
    ∙ append_assoc ((old ++ (Num hub.clock.time ∷ Num (pull_number hub.clock.is_pull) ∷ [])) ++ state_part) pull_part
    live_part
    ∙ append_assoc (old ++ (Num hub.clock.time ∷ Num (pull_number hub.clock.is_pull) ∷ [])) state_part
    (pull_part ++ live_part)
    ∙ append_assoc old (Num hub.clock.time ∷ Num (pull_number hub.clock.is_pull) ∷ [])
    (state_part ++ (pull_part ++ live_part))
