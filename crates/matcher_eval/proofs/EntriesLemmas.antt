-- Lemmas on parts of lists whose elements stand in rising order, for the functions of `src/entries.rt`.
use Rattle.std.proofs.Common.{◌≡◌, ℕ, zero, suc, ◌≤◌, ◌+◌, ◌-◌, Bool, true, false, not, ◌&&◌, List, [], ◌∷◌, ◌++◌, length, take, drop, get_or, refl, ap, sym, ◌∙◌, arith, inl, inr}
use Rattle.std.specs.Prelude.{filter, nat_lt, ◌==◌, AllPairs}
use Rattle.std.specs.List.{AllWithin}
use Rattle.std.specs.List.Sorted.{IsNonDecreasingBy, IsPartitionPoint}
use Rattle.std.proofs.lemmas.List.{take_rest, take-append-drop}
use Rattle.std.proofs.lemmas.Bool.{cases_eq}
use Rattle.std.proofs.lemmas.List.Elements.{filter_passes}
use Rattle.std.proofs.lemmas.List.Kept.{AllPairs-filter}
use Rattle.atom_record.specs.declared.atom.AtomField.{AtomField}
use Rattle.atom_record.specs.AtomSound.{IsBelow}
use Rattle.matcher_eval.specs.AtomTests.{is_of_field}
use Rattle.matcher_eval.specs.Parts.{SplitsAt, AreParts}

module _ {X : Type 0} where
  -- what passes is the front, where the elements that pass stand there
  pub filter_front : (p : X → Bool) (xs : List X) (i : ℕ) → AllWithin (λ y. p y ≡ true) xs 0 i
      → AllWithin (λ y. p y ≡ false) xs i (length xs) → take i xs ≡ filter p xs
  filter_front p [] zero pass fail = refl
  filter_front p [] (suc i) pass fail = refl
  filter_front p (x ∷ xs) zero pass fail =
      rw (fail 0 x (omega arith) (omega arith))
      (filter_front p xs 0 (λ k d low high. absurd (omega arith))
      (λ k d low high. fail (suc k) d (omega arith) (omega arith)))
  filter_front p (x ∷ xs) (suc i) pass fail =
      rw (pass 0 x (omega arith) (omega arith))
      (ap (λ (ys : List X). x ∷ ys) (filter_front p xs i (λ k d low high. pass (suc k) d (omega arith) (omega arith))
      (λ k d low high. fail (suc k) d (omega arith) (omega arith))))

  -- what doesn't pass is the rest
  pub filter_rest : (p : X → Bool) (xs : List X) (i : ℕ) → AllWithin (λ y. p y ≡ true) xs 0 i
      → AllWithin (λ y. p y ≡ false) xs i (length xs) → drop i xs ≡ filter (λ x. not (p x)) xs
  filter_rest p [] zero pass fail = refl
  filter_rest p [] (suc i) pass fail = refl
  filter_rest p (x ∷ xs) zero pass fail =
      rw (fail 0 x (omega arith) (omega arith))
      (ap (λ (ys : List X). x ∷ ys) (filter_rest p xs 0 (λ k d low high. absurd (omega arith))
      (λ k d low high. fail (suc k) d (omega arith) (omega arith))))
  filter_rest p (x ∷ xs) (suc i) pass fail =
      rw (pass 0 x (omega arith) (omega arith))
      (filter_rest p xs i (λ k d low high. pass (suc k) d (omega arith) (omega arith))
      (λ k d low high. fail (suc k) d (omega arith) (omega arith)))

  -- what passes one test and then another passes both
  pub filter_twice : (p q r : X → Bool) → ((x : X) → r x ≡ (q x && p x)) → (xs : List X)
      → filter p (filter q xs) ≡ filter r xs
  filter_twice p q r both [] = refl
  filter_twice p q r both (x ∷ xs) =
      let rest : filter p (filter q xs) ≡ filter r xs = filter_twice p q r both xs in
      let here : r x ≡ (q x && p x) = both x in
      head (q x) (p x) refl refl here rest
    where
      head : (b c : Bool) → q x ≡ b → p x ≡ c → r x ≡ (q x && p x) → filter p (filter q xs) ≡ filter r xs
          → filter p (filter q (x ∷ xs)) ≡ filter r (x ∷ xs)
      head true true is_q is_p here rest = rw here (rw is_q (rw is_p (ap (λ (ys : List X). x ∷ ys) rest)))
      head true false is_q is_p here rest = rw here (rw is_q (rw is_p rest))
      head false c is_q is_p here rest = rw here (rw is_q rest)

-- a number that isn't below another, and is below the next, is that one
pub is_between : (n at next wanted : ℕ) → at ≡ wanted → next ≡ wanted + 1
    → (n == wanted) ≡ (not (nat_lt n at) && nat_lt n next)
is_between n at next wanted same after = grind (arith, same, after)

-- the test whether a number is another one
is_it_from : (n m : ℕ) → (n == m) ≡ true → n ≡ m
is_it_from n m same = grind arith

-- of two entries of one field in rising order the first has no greater index
index_of_below : (a b : AtomField) → a.field ≡ b.field → IsBelow a b → a.index ≤ b.index
index_of_below a b one (inl lower) = absurd (omega (arith, lower, one))
index_of_below a b one (inr (_, inl lower)) = omega (arith, lower)
index_of_below a b one (inr (_, inr (same, _))) = omega (arith, same)

-- along the entries of one field the index doesn't fall
pub indexes_rise : (entries : List AtomField) (field : ℕ) → AllPairs IsBelow entries
    → IsNonDecreasingBy (λ (entry : AtomField). entry.index) (filter (is_of_field field) entries)
indexes_rise entries field rising i j d ordered inside =
    let kept = filter (is_of_field field) entries in
    let passing = filter_passes (is_of_field field) entries in
    let of_one : (get_or kept i d).field ≡ (get_or kept j d).field =
    is_it_from _ field (passing i d (omega arith)) ∙ sym (is_it_from _ field (passing j d inside)) in
    let below = AllPairs-filter IsBelow (is_of_field field) entries rising in
    elim (cases_eq i j) [
      | inl same ↦ rw same (omega arith)
      | inr other ↦ index_of_below (get_or kept i d) (get_or kept j d) of_one (below i j d (omega arith) inside)
    ]

-- the parts of a list at a place before which each element passes, and after which none does
pub splits_at : (test : AtomField → Bool) (entries : List AtomField) (count : ℕ) → count ≤ length entries
    → IsPartitionPoint (λ entry. test entry ≡ true) (λ entry. test entry ≡ false) entries count
    → SplitsAt test entries count
splits_at test entries count within point = record {
  within = within;
  front = filter_front test entries count point.0 point.1;
  rest = filter_rest test entries count point.0 point.1;
}

-- the parts at a place where the front ends
pub parts_at : (test : AtomField → Bool) (entries : List AtomField) (count : ℕ) → SplitsAt test entries count
    → AreParts test entries (take count entries) (take (length entries - count) (drop count entries))
parts_at test entries count split = record {
  whole = sym (take-append-drop count entries)
      ∙ ap (λ (xs : List AtomField). take count entries ++ xs) (sym (take_rest entries count));
  passing = split.front;
  others = take_rest entries count ∙ split.rest;
}

-- what lies below one bound is left out, and then what lies below the next is kept
pub middle : (below upto here : AtomField → Bool)
    → ((entry : AtomField) → here entry ≡ (not (below entry) && upto entry))
    → (entries : List AtomField) (start : ℕ) (front : List AtomField) → SplitsAt below entries start
    → front ≡ filter upto (take (length entries - start) (drop start entries)) → front ≡ filter here entries
middle below upto here is_here entries start front first second =
    second
    ∙ ap (filter upto) (take_rest entries start ∙ first.rest)
    ∙ filter_twice upto (λ entry. not (below entry)) here is_here entries
