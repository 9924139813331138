-- What keys of metrics feed a hasher.
use Rattle.std.specs.Prelude.{◌++◌, flat_map}
use Rattle.std.specs.Hash as fed
use Rattle.std.specs.Hash.{HashWrites, Alike, same_Alike}
use Rattle.atom_record.specs.declared.value.Slice.{Slice}
use Rattle.atom_record.specs.declared.value.Slice.TheVariants.{Plain, Group}
use Rattle.atom_record.specs.declared.value.MetricKey.{MetricKey}
use Rattle.atom_record.specs.contracts.value.SlicePartialEq.TheImpl as slice
use Rattle.atom_record.specs.contracts.value.MetricKeyPartialEq.TheImpl as metric_key
use Rattle.atom_record.specs.contracts.value.SliceExact.TheImpl.Laws.{exact-law as slice_exact}
use Rattle.atom_record.specs.Equal.{metric_key_exact}
use Rattle.atom_record.specs.Hashing.{leaf_fed}

-- a slice feeds its state, and the value or the group
abbrev pub slice_fed : Slice → HashWrites
slice_fed (Plain atom_id value) = fed.u32 atom_id ++ fed.i32 value
slice_fed (Group atom_id group) = fed.u32 atom_id ++ fed.i64 group

-- a key feeds the number of its dimensions, these, and then its slices, which end with the key
abbrev pub metric_key_fed : MetricKey → HashWrites
metric_key_fed key = fed.slice leaf_fed key.dims ++ flat_map slice_fed key.slices

-- equal slices feed alike, since they are the same
pub slice_alike : Alike slice.ghosts.eq slice_fed
slice_alike = same_Alike slice_fed slice_exact

-- so do equal keys
pub metric_key_alike : Alike metric_key.ghosts.eq metric_key_fed
metric_key_alike = same_Alike metric_key_fed metric_key_exact
