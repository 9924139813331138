-- What stays of states after an atom: all but those that it decides.
use Rattle.std.proofs.Common.{◌≡◌, ℕ, ℤ, Bool, true, false, not, ◌&&◌, ◌||◌, List, [], ◌∷◌, ◌++◌, None, map, filter, length, if◌then◌else◌, refl, sym, ap, ◌∙◌, append-nil, inl, inr}
use Rattle.std.specs.List.{last_or}
use Rattle.std.proofs.lemmas.Bool.{cases_Bool, cases_lt, false≢true}
use Rattle.std.proofs.lemmas.List.{map-append}
use Rattle.std.proofs.lemmas.Grind.{flat_map-append}
use Rattle.atom_record.specs.declared.atom.Atom.{Atom}
use Rattle.atom_record.specs.declared.log.LogFrame.{LogFrame}
use Rattle.atom_record.specs.declared.log.LogFrame.TheVariants.{AtomAt}
use Rattle.atom_record.specs.declared.value.Leaf.{Leaf}
use Rattle.bucket_meaning.specs.Guard.{is_among, admitted}
use Rattle.bucket_meaning.proofs.GuardLemmas.{is_among-push, admitted_full, admitted_present, admitted_new, not_yet_come}
use Rattle.book_meaning.specs.BookLimits.{most_state_ids, most_state_keys}
use Rattle.book_meaning.specs.Snapshots.{same_atom_id}
use Rattle.book_meaning.specs.States.{same_dims, no_state_known, tells_state, puts_back, primary_key, state_atom_in, state_atoms, decides, state_by, state_value}
use Rattle.state_slicer.proofs.BookAtomsLemmas.{id_of, never_named}
use Rattle.state_slicer.proofs.IdStatesLemmas.{ids_exact, names, filter-one, filter-none}

or_false : (b : Bool) → (b || false) ≡ b
or_false true = refl
or_false false = refl

neither : (one other : Bool) → (one || other) ≡ false → (one ≡ false) × (other ≡ false)
neither false other e = (refl, e)
neither true other e = absurd (false≢true (sym e))

-- another key that comes leaves which keys are among those admitted
among_stays : {K : Type 0} (same : K → K → Bool) (bound : ℕ) (keys : List K) (key other : K) → same other key ≡ false
    → is_among same key (admitted same bound (keys ++ other ∷ [])) ≡ is_among same key (admitted same bound keys)
among_stays same bound keys key other differ =
    let kept = admitted same bound keys in
    elim (cases_Bool (is_among same other kept)) [
      | inl present ↦ ap (is_among same key) (admitted_present same bound keys other present)
      | inr absent ↦ elim (cases_lt (length kept) bound) [
        | inl room ↦
            ap (is_among same key) (admitted_new same bound keys other absent room)
            ∙ is_among-push same key kept other
            ∙ ap (λ b. is_among same key kept || b) differ
            ∙ or_false (is_among same key kept)
        | inr full ↦ ap (is_among same key) (admitted_full same bound keys other full)
      ]
    ]

module _ (id : ℕ) (key : List Leaf) where
  -- the id is in the book after these state atoms
  abbrev is_known : List Atom → Bool
  is_known atoms = is_among same_atom_id id (admitted same_atom_id most_state_ids (map id_of atoms))

  -- the keys that they name
  abbrev named : List Atom → List (List Leaf)
  named atoms = map primary_key (filter (names id) atoms)

  -- the key is one of the first of these
  abbrev is_first : List (List Leaf) → Bool
  is_first keys = is_among same_dims key (admitted same_dims most_state_keys keys)

  -- the state, where the id is in the book or isn't, by the keys that atoms of the id name, and those that decide it
  abbrev value_with : Bool → List (List Leaf) → List Atom → ℤ
  value_with known keys deciding =
      if is_among same_dims key (if known then admitted same_dims most_state_keys keys else [])
      then state_by (last_or None deciding)
      else no_state_known

  -- the state by the state atoms of a log
  abbrev value_by : List Atom → ℤ
  value_by atoms = value_with (is_known atoms) (named atoms) (filter (decides id key) atoms)

  -- a key that isn't one of the first has no state
  without : (known : Bool) (keys : List (List Leaf)) (deciding : List Atom) → is_first keys ≡ false
      → value_with known keys deciding ≡ no_state_known
  without true keys deciding off = ap (λ (b : Bool). if b then state_by (last_or None deciding) else no_state_known) off
  without false keys deciding off = refl

  module _ (atoms : List Atom) (atom : Atom) (off : decides id key atom ≡ false) where
    abbrev more : List Atom
    more = atoms ++ atom ∷ []

    ids_more : map id_of more ≡ map id_of atoms ++ atom.id ∷ []
    ids_more = map-append id_of atoms (atom ∷ [])

    -- the atoms that decide the state stay
    deciding_stay : filter (decides id key) more ≡ filter (decides id key) atoms
    deciding_stay = filter-none (decides id key) atoms atom off

    -- an atom of another id leaves it
    value_other : same_atom_id atom.id id ≡ false → value_by more ≡ value_by atoms
    value_other differ =
        let known_same : is_known more ≡ is_known atoms =
        ap (λ ids. is_among same_atom_id id (admitted same_atom_id most_state_ids ids)) ids_more
        ∙ among_stays same_atom_id most_state_ids (map id_of atoms) id atom.id differ in
        ap (λ b. value_with b (named more) (filter (decides id key) more)) known_same
        ∙ ap (λ l. value_with (is_known atoms) (map primary_key l) (filter (decides id key) more))
        (filter-none (names id) atoms atom (ap (λ b. b && not (puts_back atom)) differ))
        ∙ ap (value_with (is_known atoms) (named atoms)) deciding_stay

    -- so does one of the id that names another key
    value_same : same_atom_id atom.id id ≡ true → puts_back atom ≡ false → same_dims (primary_key atom) key ≡ false
        → value_by more ≡ value_by atoms
    value_same alike stays differ =
        let ids = map id_of atoms in
        let kept = admitted same_atom_id most_state_ids ids in
        let named_more : named more ≡ named atoms ++ primary_key atom ∷ [] =
        ap (map primary_key) (filter-one (names id) atoms atom
        (ap (λ b. b && not (puts_back atom)) alike ∙ ap not stays))
        ∙ map-append primary_key (filter (names id) atoms) (atom ∷ []) in
        let deciding = filter (decides id key) atoms in
        let first_same : is_first (named more) ≡ is_first (named atoms) =
        ap is_first named_more
        ∙ among_stays same_dims most_state_keys (named atoms) key (primary_key atom) differ in
        let as_before : is_known more ≡ is_known atoms → value_by more ≡ value_by atoms =
        λ known_same.
        ap (λ l. value_with (is_known more) (named more) l) deciding_stay
        ∙ ap (λ b. value_with b (named more) deciding) known_same
        ∙ firsts_decide (is_known atoms) deciding (named more) (named atoms) first_same in
        let id_is : atom.id ≡ id = (ids_exact atom.id id).0 alike in
        elim (cases_Bool (is_among same_atom_id atom.id kept)) [
          | inl present ↦
              as_before (ap (λ l. is_among same_atom_id id (admitted same_atom_id most_state_ids l)) ids_more
              ∙ ap (is_among same_atom_id id) (admitted_present same_atom_id most_state_ids ids atom.id present))
          | inr absent ↦ elim (cases_lt (length kept) most_state_ids) [
            | inl room ↦
                let none : named atoms ≡ [] =
                never_named id atoms (not_yet_come same_atom_id ids_exact most_state_ids ids id room
                (ap (λ i. is_among same_atom_id i kept) (sym id_is) ∙ absent)) in
                let nowhere : is_first (named atoms) ≡ false = ap is_first none in
                without (is_known more) (named more) (filter (decides id key) more) (first_same ∙ nowhere)
                ∙ sym (without (is_known atoms) (named atoms) deciding nowhere)
            | inr full ↦ as_before (ap (λ l. is_among same_atom_id id (admitted same_atom_id most_state_ids l)) ids_more
                ∙ ap (is_among same_atom_id id) (admitted_full same_atom_id most_state_ids ids atom.id full))
          ]
        ] where
          firsts_decide : (known : Bool) (deciding : List Atom) (keys others : List (List Leaf))
              → is_first keys ≡ is_first others → value_with known keys deciding ≡ value_with known others deciding
          firsts_decide true deciding keys others same =
              ap (λ (b : Bool). if b then state_by (last_or None deciding) else no_state_known) same
          firsts_decide false deciding keys others same = refl

    -- so does any that doesn't decide it
    value_stays : value_by more ≡ value_by atoms
    value_stays = elim (cases_Bool (same_atom_id atom.id id)) [
      | inl alike ↦
          let both = neither (puts_back atom) (same_dims (primary_key atom) key)
          (sym (ap (λ b. b && (puts_back atom || same_dims (primary_key atom) key)) alike) ∙ off) in
          value_same alike both.0 both.1
      | inr differ ↦ value_other differ
    ]

-- an atom leaves each state that it doesn't decide
pub state_stays : (id : ℕ) (key : List Leaf) (log : List LogFrame) (at : ℕ) (atom : Atom) → decides id key atom ≡ false
    → state_value id key (log ++ AtomAt at atom ∷ []) ≡ state_value id key log
state_stays id key log at atom off =
    ap (value_by id key) (flat_map-append state_atom_in log (AtomAt at atom ∷ []))
    ∙ by (tells_state atom) where
      by : (tells : Bool) → value_by id key (state_atoms log ++ ((if tells then atom ∷ [] else []) ++ []))
          ≡ value_by id key (state_atoms log)
      by true = value_stays id key (state_atoms log) atom off
      by false = ap (value_by id key) (append-nil (state_atoms log))
