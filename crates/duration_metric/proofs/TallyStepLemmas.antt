-- A count of a tally is written, or taken out.
use Rattle.std.proofs.Common.{◌≡◌, ◌⊎◌, inl, inr, ℕ, ◌+◌, ◌-◌, ◌≤◌, Bool, true, false, ◌||◌, cond, if◌then◌else◌, List, [], ◌∷◌, Option, Some, None, refl, sym, ap, subst, ◌∙◌, arith, ⊎_elim}
use Rattle.std.specs.Map.{lookup}
use Rattle.std.specs.Option.{unwrap_or}
use Rattle.std.proofs.lemmas.Bool.{cases_Bool, false≢true}
use Rattle.std.proofs.lemmas.Option.{none-some, same_Some}
use Rattle.atom_record.specs.Equal.{metric_key_exact}
use Rattle.atom_record.specs.declared.value.MetricKey.{MetricKey}
use Rattle.metric_kinds.specs.Keys.{is_same_key}
use Rattle.duration_metric.specs.Tallies.{tally_at, Raises, Lowers, CountsSame, NewZeros, Forgets}

-- one key has this now, and the others have what they had
abbrev pub Writes : List (MetricKey × ℕ) → List (MetricKey × ℕ) → MetricKey → Option ℕ → Type 0
Writes old new key now = (other : MetricKey)
    → lookup (is_same_key other) new ≡ cond (is_same_key key other) now (lookup (is_same_key other) old)

-- it counts this for the key
written : (old new : List (MetricKey × ℕ)) (key : MetricKey) (now : Option ℕ) → Writes old new key now
    → (other : MetricKey) → is_same_key key other ≡ true → tally_at new other ≡ unwrap_or now 0
written old new key now writes other same =
    ap (λ found. unwrap_or found 0) (writes other)
    ∙ ap (λ b. unwrap_or (cond b now (lookup (is_same_key other) old)) 0) same

-- and for the others what it counted
left_alone : (old new : List (MetricKey × ℕ)) (key : MetricKey) (now : Option ℕ) → Writes old new key now
    → (other : MetricKey) → is_same_key key other ≡ false → tally_at new other ≡ tally_at old other
left_alone old new key now writes other differs =
    ap (λ found. unwrap_or found 0) (writes other)
    ∙ ap (λ b. unwrap_or (cond b now (lookup (is_same_key other) old)) 0) differs

-- taken out and put back under the same key, it is written
pub writes_again : (old mid new : List (MetricKey × ℕ)) (key own : MetricKey) (now : Option ℕ) → key ≡ own
    → Writes old mid key None → Writes mid new own now → Writes old new key now
writes_again old mid new key own now is out put other =
    put other
    ∙ ap (λ k. cond (is_same_key k other) now (lookup (is_same_key other) mid)) (sym is)
    ∙ ap (cond (is_same_key key other) now) (out other)
    ∙ by (is_same_key key other) where
      by : (b : Bool) → cond b now (cond b None (lookup (is_same_key other) old))
          ≡ cond b now (lookup (is_same_key other) old)
      by true = refl
      by false = refl

-- a key that isn't there is taken out where all stays
writes_none : (old new : List (MetricKey × ℕ)) (key : MetricKey) → new ≡ old → None ≡ lookup (is_same_key key) old
    → Writes old new key None
writes_none old new key same none other =
    ap (λ l. lookup (is_same_key other) l) same
    ∙ ⊎_elim
    (λ (here : is_same_key key other ≡ true).
    ap (λ k. lookup (is_same_key k) old) (sym ((metric_key_exact key other).0 here))
    ∙ sym none
    ∙ sym (ap (λ b. cond b None (lookup (is_same_key other) old)) here))
    (λ (differs : is_same_key key other ≡ false). sym (ap (λ b. cond b None (lookup (is_same_key other) old)) differs))
    (cases_Bool (is_same_key key other))

-- one more is counted
pub raises_by : (old new : List (MetricKey × ℕ)) (key : MetricKey) (now : Option ℕ) → Writes old new key now
    → unwrap_or now 0 ≡ tally_at old key + 1 → Raises old new key
raises_by old new key now writes more other = ⊎_elim
    (λ (same : is_same_key key other ≡ true).
    let own = ap (tally_at old) ((metric_key_exact key other).0 same) in
    let count = ap {B = ℕ} (λ b. if b then 1 else 0) same in
    omega (arith, written old new key now writes other same, more, own, count))
    (λ (differs : is_same_key key other ≡ false).
    let count = ap {B = ℕ} (λ b. if b then 1 else 0) differs in
    omega (arith, left_alone old new key now writes other differs, count))
    (cases_Bool (is_same_key key other))

-- one fewer is
pub lowers_by : (old new : List (MetricKey × ℕ)) (key : MetricKey) (now : Option ℕ) → Writes old new key now
    → unwrap_or now 0 ≡ tally_at old key - 1 → Lowers old new key
lowers_by old new key now writes less other = ⊎_elim
    (λ (same : is_same_key key other ≡ true).
    let own = ap (tally_at old) ((metric_key_exact key other).0 same) in
    let count = ap {B = ℕ} (λ b. if b then 1 else 0) same in
    omega (arith, written old new key now writes other same, less, own, count))
    (λ (differs : is_same_key key other ≡ false).
    let count = ap {B = ℕ} (λ b. if b then 1 else 0) differs in
    omega (arith, left_alone old new key now writes other differs, count))
    (cases_Bool (is_same_key key other))

-- a key that isn't there is put there, and counted once
pub raises_first : (was old mid new : List (MetricKey × ℕ)) (key own : MetricKey) → old ≡ was → mid ≡ old
    → None ≡ lookup (is_same_key key) old → own ≡ key → Writes mid new own (Some 1) → Raises was new key
raises_first was old mid new key own is same none copy put =
    let zero : tally_at old key ≡ 0 = ap (λ found. unwrap_or found 0) (sym none) in
    subst (λ l. Raises l new key) is
    (raises_by old new key (Some 1)
    (writes_again old mid new key own (Some 1) (sym copy) (writes_none old mid key same none) put)
    (omega (arith, zero)))

-- for one that isn't there none counts
pub lowers_none : (was old new : List (MetricKey × ℕ)) (key : MetricKey) → old ≡ was → new ≡ old
    → None ≡ lookup (is_same_key key) old → Lowers was new key
lowers_none was old new key is same none =
    let zero : tally_at old key ≡ 0 = ap (λ found. unwrap_or found 0) (sym none) in
    subst (λ l. Lowers l new key) is
    (lowers_by old new key None (writes_none old new key same none) (omega (arith, zero)))

-- a key that goes, and for which none counted
pub same_by : (old new : List (MetricKey × ℕ)) (key : MetricKey) → Writes old new key None → tally_at old key ≡ 0
    → CountsSame old new
same_by old new key writes none other = ⊎_elim
    (λ (same : is_same_key key other ≡ true).
    let own = ap (tally_at old) ((metric_key_exact key other).0 same) in
    omega (arith, written old new key None writes other same, none, own))
    (λ (differs : is_same_key key other ≡ false). left_alone old new key None writes other differs)
    (cases_Bool (is_same_key key other))

-- a key for which none is counted was written so, or is another one and was there before
zeros_written : (old new : List (MetricKey × ℕ)) (key : MetricKey) (now : Option ℕ) → Writes old new key now
    → (other : MetricKey) → lookup (is_same_key other) new ≡ Some 0
    → ((is_same_key key other ≡ true) × (now ≡ Some 0))
    ⊎ ((is_same_key key other ≡ false) × (lookup (is_same_key other) old ≡ Some 0))
zeros_written old new key now writes other zero = ⊎_elim
    (λ (same : is_same_key key other ≡ true).
    inl (same, sym (writes other ∙ ap (λ b. cond b now (lookup (is_same_key other) old)) same) ∙ zero))
    (λ (differs : is_same_key key other ≡ false).
    inr (differs, sym (writes other ∙ ap (λ b. cond b now (lookup (is_same_key other) old)) differs) ∙ zero))
    (cases_Bool (is_same_key key other))

-- a key that is raised isn't one of them
pub raised_zeros : (old new : List (MetricKey × ℕ)) (key : MetricKey) (count : ℕ) → Writes old new key (Some count)
    → 1 ≤ count → NewZeros old new []
raised_zeros old new key count writes above other zero = ⊎_elim
    (λ (here : (is_same_key key other ≡ true) × (Some count ≡ Some 0)).
    absurd (omega (arith, above, same_Some count 0 here.1)))
    (λ (apart : (is_same_key key other ≡ false) × (lookup (is_same_key other) old ≡ Some 0)). inl apart.1)
    (zeros_written old new key (Some count) writes other zero)

-- one that is lowered may be
pub lowered_zeros : (old new : List (MetricKey × ℕ)) (key : MetricKey) (now : Option ℕ) → Writes old new key now
    → NewZeros old new (key ∷ [])
lowered_zeros old new key now writes other zero = ⊎_elim
    (λ (here : (is_same_key key other ≡ true) × (now ≡ Some 0)). inr (ap (λ b. b || false) here.0))
    (λ (apart : (is_same_key key other ≡ false) × (lookup (is_same_key other) old ≡ Some 0)). inl apart.1)
    (zeros_written old new key now writes other zero)

-- one that is taken out isn't
pub forgot_zeros : (old new : List (MetricKey × ℕ)) (key : MetricKey) → Writes old new key None
    → Forgets old new (key ∷ []) []
forgot_zeros old new key writes other zero = ⊎_elim
    (λ (here : (is_same_key key other ≡ true) × (None ≡ Some 0)). absurd (none-some 0 here.1))
    (λ (apart : (is_same_key key other ≡ false) × (lookup (is_same_key other) old ≡ Some 0)).
    (apart.1, λ among. absurd (false≢true (sym (ap (λ b. b || false) apart.0) ∙ among))))
    (zeros_written old new key None writes other zero)

-- nor one for which some are counted
pub counted_zeros : (it : List (MetricKey × ℕ)) (key : MetricKey) → ¬ (tally_at it key ≡ 0)
    → Forgets it it (key ∷ []) []
counted_zeros it key some other zero = (
  zero,
  λ among. absurd (some
      (ap (tally_at it) ((metric_key_exact key other).0 (only (is_same_key key other) among))
      ∙ ap (λ found. unwrap_or found 0) zero)),
) where
  only : (b : Bool) → (b || false) ≡ true → b ≡ true
  only true is = refl
  only false is = is
