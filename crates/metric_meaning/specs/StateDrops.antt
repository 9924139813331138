-- What a report shows of states that found no room: since the beginning of the log, whoever was installed when.
use Rattle.std.specs.Prelude.{ℕ, pos, ◌==◌, List, [], map, length, if◌then◌else◌}
use Rattle.std.specs.List.{flat_map}
use Rattle.atom_record.specs.declared.log.LogFrame.{LogFrame}
use Rattle.bucket_meaning.specs.Guard.{firsts}
use Rattle.bucket_meaning.specs.Kept.{count_in_u64}
use Rattle.book_meaning.specs.Snapshots.{same_atom_id}
use Rattle.book_meaning.specs.States.{state_drops, dropped_state_atoms}
use Rattle.config_links.specs.declared.linked.LState.{LState}
use Rattle.report_writer.specs.declared.tree.Drop64.{Drop64}
use Rattle.metric_meaning.specs.PredicateSteps.{drop_above_zero}

-- the different atoms that tell these states, in the order in which they first come
abbrev pub told_ids : List LState → List ℕ
told_ids states = firsts same_atom_id [] (map (λ (state : LState). state.atom_id) states)

-- how many state atoms of an id named a key that found no room, if any did
abbrev pub drop_of_id : List LogFrame → ℕ → List Drop64
drop_of_id log id = drop_above_zero (record { id = pos id; number = count_in_u64 (state_drops id log) })

-- these counts, for each of the different atoms that tell these states
abbrev pub drops_of_states : List LState → List LogFrame → List Drop64
drops_of_states states log = flat_map (drop_of_id log) (told_ids states)

-- how many state atoms found no room for their id; without states nothing is shown
abbrev pub dropped_for : List LState → List LogFrame → ℕ
dropped_for states log = if length states == 0 then 0 else count_in_u64 (dropped_state_atoms log)
