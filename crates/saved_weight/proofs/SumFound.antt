-- A sum over rows with keys apart, each of which is found in another list with at least its weight there.
use Rattle.std.proofs.Common.{◌≡◌, ℕ, ◌+◌, ◌≤◌, Bool, true, false, if◌then◌else◌, List, [], ◌∷◌, refl, sym, ap, subst, ◌∙◌, arith}
use Rattle.std.specs.List.{AllByRecursion, sum_by}
use Rattle.std.proofs.lemmas.Bool.{true≢false}
use Rattle.std.proofs.lemmas.List.Sums.{sum_by-cons}

module _ {K A B : Type 0} (eq : K → K → Bool) (reflexive : (k : K) → eq k k ≡ true)
    (exact : (one other : K) → eq one other ≡ true → one ≡ other) (f : K × A → ℕ) (g : K × B → ℕ) where
  -- what weighs in a list under a key
  abbrev pub weight_at : K → List (K × B) → ℕ
  weight_at k [] = 0
  weight_at k (row ∷ rows) = if eq k row.0 then g row else weight_at k rows

  -- no key comes twice
  abbrev pub AreApart : List (K × A) → Type 0
  AreApart [] = Unit {0}
  AreApart (row ∷ rows) = AllByRecursion (λ (other : K × A). eq row.0 other.0 ≡ false) rows × AreApart rows

  -- the list without what is first under a key
  abbrev without : K → List (K × B) → List (K × B)
  without k [] = []
  without k (row ∷ rows) = if eq k row.0 then rows else row ∷ without k rows

  sum-without : (k : K) (rows : List (K × B)) → sum_by g rows ≡ weight_at k rows + sum_by g (without k rows)
  sum-without k [] = omega arith
  sum-without k (row ∷ rows) = by_case (eq k row.0) (sum-without k rows) where
    by_case : (same : Bool) → sum_by g rows ≡ weight_at k rows + sum_by g (without k rows)
        → sum_by g (row ∷ rows)
        ≡ (if same then g row else weight_at k rows) + sum_by g (if same then rows else row ∷ without k rows)
    by_case true rest = sum_by-cons g row rows
    by_case false rest =
        let whole = sum_by-cons g row rows in
        let others = sum_by-cons g row (without k rows) in
        omega (arith, whole, others, rest)

  -- two keys of one row are one
  other_key : (k other key : K) → eq k other ≡ false → eq k key ≡ true → eq other key ≡ true → ⊥
  other_key k other key apart one two =
      let same : k ≡ other = exact k key one ∙ sym (exact other key two) in
      true≢false (sym (reflexive k) ∙ ap (eq k) same ∙ apart)

  weight-without : (k other : K) → eq k other ≡ false → (rows : List (K × B))
      → weight_at other (without k rows) ≡ weight_at other rows
  weight-without k other apart [] = refl
  weight-without k other apart (row ∷ rows) =
      by_case (eq k row.0) (eq other row.0) (other_key k other row.0 apart) refl
      (weight-without k other apart rows) where
        by_case : (one two : Bool) → (one ≡ true → two ≡ true → ⊥) → eq other row.0 ≡ two
            → weight_at other (without k rows) ≡ weight_at other rows
            → weight_at other (if one then rows else row ∷ without k rows)
            ≡ (if two then g row else weight_at other rows)
        by_case true true never is rest = absurd (never refl refl)
        by_case true false never is rest = refl
        by_case false two never is rest =
            ap (λ b. if b then g row else weight_at other (without k rows)) is ∙ on_both two rest where
              on_both : (b : Bool) → weight_at other (without k rows) ≡ weight_at other rows
                  → (if b then g row else weight_at other (without k rows))
                  ≡ (if b then g row else weight_at other rows)
              on_both true rest = refl
              on_both false rest = rest

  pub sum_found : (rows : List (K × A)) (others : List (K × B)) → AreApart rows
      → AllByRecursion (λ (row : K × A). f row ≤ weight_at row.0 others) rows → sum_by f rows ≤ sum_by g others
  sum_found [] others apart each = omega arith
  sum_found (row ∷ rows) others apart each =
      let rest = sum_found rows (without row.0 others) apart.1 (still row.0 others rows apart.0 each.1) in
      let whole = sum_by-cons f row rows in
      let split = sum-without row.0 others in
      let first = each.0 in
      omega (arith, rest, whole, split, first)
    where
      still : (k : K) (others : List (K × B)) (rows : List (K × A))
          → AllByRecursion (λ (other : K × A). eq k other.0 ≡ false) rows
          → AllByRecursion (λ (row : K × A). f row ≤ weight_at row.0 others) rows
          → AllByRecursion (λ (row : K × A). f row ≤ weight_at row.0 (without k others)) rows
      still k others [] apart each = tt
      still k others (row ∷ rows) apart each = (
        subst (λ w. f row ≤ w) (sym (weight-without k row.0 apart.0 others)) each.0,
        still k others rows apart.1 each.1,
      )
