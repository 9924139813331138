-- What a table ends as, once a `&mut` into one of its rows has ended.
use Rattle.std.specs.Prelude.{ℕ, Option}
use Rattle.std.specs.Borrow.{Fml, RattleType, MutBor, LendsIf}
use Rattle.std.specs.HashMap.Lent.{HashMembers}
use Rattle.dim_table.specs.Table.{Table, with_value_at}
use Rattle.dim_table.specs.contracts.table.Guarded.{the_row}

-- the row at the place has the last value written through the borrow; where no row is there, the table stays as it is
abbrev pub lends_value : (K V : RattleType) → HashMembers K.Denot
    → MutBor (Table K.Denot V.Denot) → ℕ → Option (MutBor V.Denot) → Fml
lends_value K V key table place result =
    LendsIf (the_row K V (record { eq = key.eq }) (record { hash_input = key.hash_input })) V table result
    (with_value_at table.now place) table.now
