-- The ids of states so far, one state more.
use Rattle.std.proofs.Common.{◌≡◌, ℕ, pos, ◌+◌, ◌<◌, List, ◌++◌, length, drop, get_or, map, sym, ap, ◌∙◌, append_assoc}
use Rattle.std.specs.List.{flat_map}
use Rattle.std.proofs.lemmas.List.{drop_more}
use Rattle.atom_record.specs.declared.log.LogFrame.{LogFrame}
use Rattle.bucket_meaning.specs.Kept.{count_in_u64}
use Rattle.bucket_meaning.specs.Guard.{with_key, firsts}
use Rattle.book_meaning.specs.Snapshots.{same_atom_id}
use Rattle.config_links.specs.declared.linked.LState.{LState}
use Rattle.book_meaning.specs.States.{state_drops}
use Rattle.report_writer.specs.declared.tree.Drop64.{Drop64}
use Rattle.metric_meaning.specs.PredicateSteps.{drop_above_zero}
use Rattle.metric_meaning.specs.StateDrops.{told_ids, drop_of_id}

-- the ids of states
abbrev pub ids_in : List LState → List ℕ
ids_in states = map (λ (state : LState). state.atom_id) states

-- one more id comes after those that are there, if it is new
pub ids_on : (states : List LState) (index : ℕ) (state : LState) (ids more : List ℕ) → index < length states
    → state ≡ get_or states index state
    → firsts same_atom_id ids (ids_in (drop index states)) ≡ told_ids states
    → more ≡ with_key same_atom_id ids state.atom_id
    → firsts same_atom_id more (ids_in (drop (index + 1) states)) ≡ told_ids states
ids_on states index state ids more within is before more_is =
    ap (λ l. firsts same_atom_id l (ids_in (drop (index + 1) states))) more_is
    ∙ ap (λ (one : LState). firsts same_atom_id (with_key same_atom_id ids one.atom_id)
    (ids_in (drop (index + 1) states))) is
    ∙ ap (λ l. firsts same_atom_id ids (ids_in l)) (sym (drop_more states index state within)) ∙ before

-- the drops so far, one id more
pub drops_on : (log : List LogFrame) (ids : List ℕ) (index id : ℕ) (drops more : List Drop64) (number : ℕ)
    → index < length ids → id ≡ get_or ids index id
    → drops ++ flat_map (drop_of_id log) (drop index ids) ≡ flat_map (drop_of_id log) ids
    → number ≡ count_in_u64 (state_drops id log)
    → more ≡ drops ++ drop_above_zero (record { id = pos id; number = number })
    → more ++ flat_map (drop_of_id log) (drop (index + 1) ids) ≡ flat_map (drop_of_id log) ids
drops_on log ids index id drops more number within at before is more_is =
    let rest = flat_map (drop_of_id log) (drop (index + 1) ids) in
    ap (λ l. l ++ rest) (more_is ∙ ap (λ n. drops ++ drop_above_zero (record { id = pos id; number = n })) is)
    ∙ append_assoc drops (drop_of_id log id) rest
    ∙ ap (λ one. drops ++ (drop_of_id log one ++ rest)) at
    ∙ ap (λ l. drops ++ flat_map (drop_of_id log) l) (sym (drop_more ids index id within)) ∙ before
