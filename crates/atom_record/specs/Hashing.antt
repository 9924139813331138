-- What values and leaves feed a hasher: numbers as one word each, and bytes in one piece. Values of two kinds may
-- feed the same; a table compares its keys too.
use Rattle.std.specs.Prelude.{[], ◌∷◌}
use Rattle.std.specs.Hash as fed
use Rattle.std.specs.Hash.{HashWrites, Alike, same_Alike}
use Rattle.atom_record.specs.declared.value.Value.{Value}
use Rattle.atom_record.specs.declared.value.Value.TheVariants.{Int, Long, Bool as Truth, Str, Raw, Bits32}
use Rattle.atom_record.specs.declared.value.Leaf.{Leaf}
use Rattle.atom_record.specs.declared.value.Leaf.TheVariants.{Missing, One, Many}
use Rattle.atom_record.specs.contracts.value.ValuePartialEq.TheImpl as value
use Rattle.atom_record.specs.contracts.value.LeafPartialEq.TheImpl as leaf
use Rattle.atom_record.specs.contracts.value.ValueExact.TheImpl.Laws.{exact-law as value_exact}
use Rattle.atom_record.specs.Equal.{leaf_exact}

-- a number feeds its word, and a text its bytes
abbrev pub value_fed : Value → HashWrites
value_fed (Int n) = fed.i32 n
value_fed (Long n) = fed.i64 n
value_fed (Truth b) = fed.bool b
value_fed (Str text) = text ∷ []
value_fed (Raw bytes) = bytes ∷ []
value_fed (Bits32 bits) = fed.u32 bits

-- a missing leaf feeds a word of its own, one value itself, and values their number first
abbrev pub leaf_fed : Leaf → HashWrites
leaf_fed Missing = fed.u8 2
leaf_fed (One value) = value_fed value
leaf_fed (Many values) = fed.slice value_fed values

-- equal values feed alike, since they are the same
pub value_alike : Alike value.ghosts.eq value_fed
value_alike = same_Alike value_fed value_exact

-- so do equal leaves
pub leaf_alike : Alike leaf.ghosts.eq leaf_fed
leaf_alike = same_Alike leaf_fed leaf_exact
