-- Parts of the entries of an atom, by what they lie below: only private clauses cite this.
use Rattle.std.specs.Prelude.{ℕ, nat_lt, Bool, not, List, filter, take, drop, length, ◌≡◌, ◌≤◌, ◌++◌}
use Rattle.atom_record.specs.declared.atom.AtomField.{AtomField}

-- the entry's field is below this
abbrev pub is_below_field : ℕ → AtomField → Bool
is_below_field bound entry = nat_lt entry.field bound

-- the entry's index is below this
abbrev pub is_below_index : ℕ → AtomField → Bool
is_below_index bound entry = nat_lt entry.index bound

-- those that pass stand in front, and so many of them there are
pub record SplitsAt (test : AtomField → Bool) (entries : List AtomField) (count : ℕ) : Type 0 where
  pub within : count ≤ length entries
  pub front : take count entries ≡ filter test entries
  pub rest : drop count entries ≡ filter (λ entry. not (test entry)) entries

-- those that pass, and the others after them
pub record AreParts (test : AtomField → Bool) (entries front rest : List AtomField) : Type 0 where
  pub whole : entries ≡ front ++ rest
  pub passing : front ≡ filter test entries
  pub others : rest ≡ filter (λ entry. not (test entry)) entries
