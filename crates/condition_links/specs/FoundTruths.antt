-- What `query` keeps of the truths that it found: only a private clause cites this.
use Rattle.std.specs.Prelude.{◌≡◌, ℕ, List, Option, Some, None, slice_index_or}
use Rattle.predicate_state.specs.declared.truth.Truth.{Truth}

-- each truth that is kept is the truth at its place
abbrev pub AreFound : (ℕ → Truth) → List (Option Truth) → Type 0
AreFound truth found = (at : ℕ) (kept : Truth) → slice_index_or found at None ≡ Some kept → kept ≡ truth at
