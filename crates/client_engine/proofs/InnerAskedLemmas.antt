-- How many questions the inner keys of a duration cost, one place after the other.
use Rattle.std.proofs.Common.{◌≡◌, ℕ, ◌+◌, ◌≤◌, ◌<◌, Bool, true, false, List, length, if◌then◌else◌, refl, sym, arith}
use Rattle.std.proofs.lemmas.Bool.{false≢true}
use Rattle.duration_metric.specs.InnerKeys.{DurationParams, DurationCall, inner_keys}
use Rattle.client_engine.specs.AskedFew.{StaysAt, AsksOfPlace, AsksOfAll}
use Rattle.client_engine.specs.Staying.{is_nothing}
use Rattle.client_engine.specs.declared.stays.Stays.{Stays}
use Rattle.client_engine.specs.declared.stays.Stays.TheVariants.{Keys, Others, OtherStates, Truths, Nothing}

-- where a truth stays, not all are asked
pub stays_some : (stays : Stays) (params : DurationParams) (calls : List DurationCall) (place : ℕ)
    → StaysAt stays params calls place → is_nothing stays ≡ false
stays_some (Keys listed) params calls place kept = refl
stays_some (Others turn listed) params calls place kept = refl
stays_some (OtherStates told listed) params calls place kept = refl
stays_some Truths params calls place kept = refl
stays_some Nothing params calls place kept = absurd (false≢true kept)

-- one question at most
pub one_at_most : (b : Bool) (n before after : ℕ) → after ≤ before + (if b then 1 else 0) → after ≤ before + (1 + n)
one_at_most true n before after few = omega (arith, few)
one_at_most false n before after few = omega (arith, few)

-- or none
pub none_at_all : (b : Bool) (before after : ℕ) → b ≡ false → after ≤ before + (if b then 1 else 0) → after ≤ before
none_at_all true before after off few = absurd (false≢true (sym off))
none_at_all false before after off few = omega (arith, few)

module _ {K : Type 0} (stands : K → DurationParams → List DurationCall → Type 0) (keys : K) (stays : Stays) where
  -- for the places before this one: at most one question for each, and one for all; none where the truth of each key
  -- stays
  pub record AsksSoFar (place before after : ℕ) : Type 0 where
    pub few : after ≤ before + (1 + place)
    pub kept : (params : DurationParams) (calls : List DurationCall) → stands keys params calls
        → ((at : ℕ) → at < length (inner_keys params.spec calls) → StaysAt stays params calls at) → after ≤ before

  -- at first one for all, if all are asked
  pub asks_first : (first count before after : ℕ) → first < count
      → ((params : DurationParams) (calls : List DurationCall) → stands keys params calls
      → count ≡ length (inner_keys params.spec calls))
      → after ≤ before + (if is_nothing stays then 1 else 0) → AsksSoFar first before after
  asks_first first count before after more len few = record {
    few = one_at_most (is_nothing stays) first before after few;
    kept = λ params calls has all.
        let many = len params calls has in
        none_at_all (is_nothing stays) before after
        (stays_some stays params calls 0 (all 0 (omega (arith, more, many)))) few;
  }

  -- one more place
  pub asks_on : (place count before middle after : ℕ) → place < count
      → ((params : DurationParams) (calls : List DurationCall) → stands keys params calls
      → count ≡ length (inner_keys params.spec calls))
      → AsksSoFar place before middle → AsksOfPlace stands keys stays place middle after
      → AsksSoFar (place + 1) before after
  asks_on place count before middle after within len so_far asks = record {
    few = let few = so_far.few in let one = asks.0 in omega (arith, few, one);
    kept = λ params calls has all.
        let many = len params calls has in
        let before_it = so_far.kept params calls has all in
        let here = asks.1 params calls has (all place (omega (arith, within, many))) in
        omega (arith, before_it, here);
  }

  -- all places
  pub asks_all : (place count before after : ℕ) → place ≤ count
      → ((params : DurationParams) (calls : List DurationCall) → stands keys params calls
      → count ≡ length (inner_keys params.spec calls))
      → AsksSoFar place before after → AsksOfAll stands keys stays before after
  asks_all place count before after within len so_far params calls has = (
    let few = so_far.few in let many = len params calls has in omega (arith, few, many, within),
    so_far.kept params calls has,
  )
