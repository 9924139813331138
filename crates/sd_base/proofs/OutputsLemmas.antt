-- Lemmas on `specs/Outputs.antt`, for callers: what one more element gives, and lists given through another list.
use Rattle.std.proofs.Common.{◌≡◌, List, [], ◌∷◌, ◌++◌, refl, sym, ap, ◌∙◌, append_assoc}
use Rattle.std.proofs.lemmas.List.{append-nil}
use Rattle.sd_base.specs.Outputs.{outputs, outputs_after}

module _ {A B : Type 0} (gives : List A → A → List B) where
  -- what one more element gives, with others before
  pub outputs_after-push : (before xs : List A) (x : A)
      → outputs_after gives before (xs ++ x ∷ []) ≡ outputs_after gives before xs ++ gives (before ++ xs) x
  outputs_after-push before [] x = append-nil (gives before x) ∙ ap (λ b. gives b x) (sym (append-nil before))
  outputs_after-push before (y ∷ ys) x =
      let others : List B = outputs_after gives (before ++ y ∷ []) ys in
      ap (λ l. gives before y ++ l) (outputs_after-push (before ++ y ∷ []) ys x
      ∙ ap (λ b. others ++ gives b x) (append_assoc before (y ∷ []) ys))
      ∙ sym (append_assoc (gives before y) others (gives (before ++ y ∷ ys) x))

  -- one more element at the end adds what it gives, knowing all before it
  pub outputs-push : (xs : List A) (x : A) → outputs gives (xs ++ x ∷ []) ≡ outputs gives xs ++ gives xs x
  outputs-push xs x = outputs_after-push [] xs x

  -- what two lists give, one after the other
  pub outputs_after-append : (before xs ys : List A)
      → outputs_after gives before (xs ++ ys) ≡ outputs_after gives before xs ++ outputs_after gives (before ++ xs) ys
  outputs_after-append before [] ys = ap (λ b. outputs_after gives b ys) (sym (append-nil before))
  outputs_after-append before (x ∷ xs) ys =
      let others : List B = outputs_after gives (before ++ x ∷ []) xs in
      ap (λ l. gives before x ++ l) (outputs_after-append (before ++ x ∷ []) xs ys)
      ∙ sym (append_assoc (gives before x) others (outputs_after gives ((before ++ x ∷ []) ++ xs) ys))
      ∙ ap (λ b. (gives before x ++ others) ++ outputs_after gives b ys) (append_assoc before (x ∷ []) xs)

module _ {A B C : Type 0} (calls : List A → A → List B) (marks : List B → B → List C) (gives : List A → A → List C)
    (one : (before : List A) (x : A)
    → outputs_after marks (outputs calls before) (calls before x) ≡ gives before x) where
  -- What all steps give through their calls is what they give themselves, where it is so of each single step.
  through : (before xs : List A)
      → outputs_after marks (outputs calls before) (outputs_after calls before xs) ≡ outputs_after gives before xs
  through before [] = refl
  through before (x ∷ xs) =
      let others : List B = outputs_after calls (before ++ x ∷ []) xs in
      outputs_after-append marks (outputs calls before) (calls before x) others
      ∙ ap (λ l. l ++ outputs_after marks (outputs calls before ++ calls before x) others) (one before x)
      ∙ ap (λ b. gives before x ++ outputs_after marks b others) (sym (outputs-push calls before x))
      ∙ ap (λ l. gives before x ++ l) (through (before ++ x ∷ []) xs)

  -- the same from the beginning
  pub outputs-through : (xs : List A) → outputs marks (outputs calls xs) ≡ outputs gives xs
  outputs-through xs = through [] xs
