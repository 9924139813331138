-- What the books of the log weigh: the states that it last gave, and the snapshots of its pulled ids.
use Rattle.std.specs.Prelude.{ℕ, ◌+◌, List}
use Rattle.std.specs.List.{sum_by}
use Rattle.atom_record.specs.declared.log.LogFrame.{LogFrame}
use Rattle.atom_record.specs.declared.log.PullOutcome.{PullOutcome}
use Rattle.atom_record.specs.declared.log.PullOutcome.TheVariants.{Failed, Atoms}
use Rattle.book_meaning.specs.Snapshots.{outcomes_of}
use Rattle.book_meaning.specs.States.{state_atom_ids, first_keys}
use Rattle.saved_weight.specs.Entries.{entry_size, leaves_entry, atom_entry}

-- an id of state atoms is an entry, and each of its keys is one
abbrev pub state_id_weight : List LogFrame → ℕ → ℕ
state_id_weight log id = entry_size + sum_by leaves_entry (first_keys id log)

-- the ids of state atoms in the book, with their keys
abbrev pub states_weight : List LogFrame → ℕ
states_weight log = sum_by (state_id_weight log) (state_atom_ids log)

-- a pulled id is an entry, and each atom that its last pull gave is one
abbrev pub outcome_weight : ℕ × PullOutcome → ℕ
outcome_weight row = entry_size + of_outcome row.1 where
  of_outcome : PullOutcome → ℕ
  of_outcome Failed = 0
  of_outcome (Atoms atoms) = sum_by atom_entry atoms

-- the kept ids, with what their last pulls gave
abbrev pub pulls_weight : List LogFrame → ℕ
pulls_weight log = sum_by outcome_weight (outcomes_of log)
