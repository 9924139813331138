-- Keys that a tally has and counts none for: which come as inner keys stop to count, and which go.
use Rattle.std.proofs.Common.{◌≡◌, inl, inr, ℕ, Bool, true, false, ◌||◌, List, [], ◌∷◌, ◌++◌, Some, refl, sym, ap, subst, ◌∙◌, ⊎_elim}
use Rattle.std.specs.Map.{lookup}
use Rattle.std.proofs.lemmas.Bool.{cases_Bool, false≢true}
use Rattle.std.proofs.lemmas.List.Folds.{list_any-append}
use Rattle.atom_record.specs.Equal.{metric_key_exact}
use Rattle.atom_record.specs.declared.value.MetricKey.{MetricKey}
use Rattle.bucket_meaning.specs.Guard.{is_among}
use Rattle.metric_kinds.specs.Keys.{is_same_key}
use Rattle.duration_metric.specs.Tallies.{ZerosAmong, NewZeros, Forgets}

-- a key is among two lists where it is among one
among_both : (key : MetricKey) (some more : List MetricKey)
    → is_among is_same_key key (some ++ more) ≡ (is_among is_same_key key some || is_among is_same_key key more)
among_both key some more = list_any-append (λ other. is_same_key other key) some more

or_first : (b c : Bool) → b ≡ true → (b || c) ≡ true
or_first true c is = refl
or_first false c is = absurd (false≢true is)

or_later : (b c : Bool) → c ≡ true → (b || c) ≡ true
or_later true c is = refl
or_later false c is = is

-- before any step
pub zeros_none : (it : List (MetricKey × ℕ)) → NewZeros it it []
zeros_none it key zero = inl zero

-- one step more
pub zeros_more : (first old new : List (MetricKey × ℕ)) (some more : List MetricKey) → NewZeros first old some
    → NewZeros old new more → NewZeros first new (some ++ more)
zeros_more first old new some more so_far next key zero =
    let one = is_among is_same_key key some in
    let other = is_among is_same_key key more in
    ⊎_elim
    (λ (was : lookup (is_same_key key) old ≡ Some 0). ⊎_elim
    (λ (before : lookup (is_same_key key) first ≡ Some 0). inl before)
    (λ (among : one ≡ true). inr (among_both key some more ∙ or_first one other among))
    (so_far key was))
    (λ (among : other ≡ true). inr (among_both key some more ∙ or_later one other among))
    (next key zero)

-- nothing is forgotten
pub forgets_none : (it : List (MetricKey × ℕ)) (rows : List MetricKey) → Forgets it it [] rows
forgets_none it rows key zero = (zero, λ among. absurd (false≢true among))

-- more is
pub forgets_more : (first old new : List (MetricKey × ℕ)) (some more rows : List MetricKey)
    → Forgets first old some rows → Forgets old new more rows → Forgets first new (some ++ more) rows
forgets_more first old new some more rows so_far next key zero =
    let later = next key zero in
    let before = so_far key later.0 in (
      before.0,
      λ among. ⊎_elim
          (λ (one : is_among is_same_key key some ≡ true). before.1 one)
          (λ (none : is_among is_same_key key some ≡ false).
          later.1 (sym (ap (λ b. b || is_among is_same_key key more) none)
          ∙ sym (among_both key some more) ∙ among))
          (cases_Bool (is_among is_same_key key some)),
    )

-- a key without a row is
pub forgets_absent : (old new : List (MetricKey × ℕ)) (some rows : List MetricKey) → Forgets old new some []
    → Forgets old new some rows
forgets_absent old new some rows forgets key zero =
    let was = forgets key zero in (was.0, λ among. absurd (false≢true (was.1 among)))

-- a key with a row stays
pub forgets_there : (it : List (MetricKey × ℕ)) (key : MetricKey) (rows : List MetricKey)
    → is_among is_same_key key rows ≡ true → Forgets it it (key ∷ []) rows
forgets_there it key rows there other zero = (
  zero,
  λ among. subst (λ k. is_among is_same_key k rows ≡ true)
      ((metric_key_exact key other).0 (only (is_same_key key other) among)) there,
) where
  only : (b : Bool) → (b || false) ≡ true → b ≡ true
  only true is = refl
  only false is = is

-- where the keys that may have come were forgotten, but for those with a row, each has a row
pub zeros_left : (old mid new : List (MetricKey × ℕ)) (some rows : List MetricKey) → ZerosAmong old rows
    → NewZeros old mid some → Forgets mid new some rows → ZerosAmong new rows
zeros_left old mid new some rows among comes forgets key zero =
    let was = forgets key zero in
    ⊎_elim
    (λ (before : lookup (is_same_key key) old ≡ Some 0). among key before)
    (λ (one : is_among is_same_key key some ≡ true). was.1 one)
    (comes key was.0)

-- where all keys with a row were forgotten, none is left
pub zeros_closed : (old new : List (MetricKey × ℕ)) (rows : List MetricKey) → ZerosAmong old rows
    → Forgets old new rows [] → ZerosAmong new []
zeros_closed old new rows among forgets key zero =
    let was = forgets key zero in was.1 (among key was.0)
