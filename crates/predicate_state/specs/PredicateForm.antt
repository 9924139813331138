-- The parts of which a predicate's table is built. Only a private clause cites this.
use Rattle.std.specs.Prelude.{◌≡◌, ℕ, ◌<◌, ◌^◌, Option, Some, None}
use Rattle.dim_table.specs.Table.{Table}
use Rattle.predicate_state.specs.PredicateTable.{PredicateTable, LeafKey, HaveLeaves}
use Rattle.predicate_state.specs.PredicateItems.{flag_number, key_table, IsPredicateTable}

-- Four numbers and a bounded table.
abbrev pub Form : Type 0
Form = ((ℕ × ℕ) × (ℕ × ℕ)) × Table LeafKey ℕ

-- the parts of a table
abbrev pub form_of : PredicateTable → Form
form_of table = (
  (
    (flag_number table.spec.nesting, flag_number table.spec.unknown),
    (table.spec.leaves, flag_number table.state.unknown),
  ),
  key_table table,
)

-- the table has these parts, and its keys have so many leaves
pub record HasForm (form : Form) (table : PredicateTable) : Type 0 where
  pub is : form_of table ≡ form
  pub leaves : table.spec.leaves < 2 ^ 32
  pub have_leaves : HaveLeaves table.spec.leaves table.state.counts

-- a table with these parts, or that none has them
abbrev pub IsMadeOf : Form → Option PredicateTable → Type 0
IsMadeOf form (Some table) = HasForm form table
IsMadeOf form None = (table : PredicateTable) → IsPredicateTable table → ¬ (form_of table ≡ form)
