use Rattle.std.proofs.Common.{sym}
use Rattle.atom_record.proofs.SparseLemmas.{spread_length}
use Rattle.atom_record.proofs.key.DimKey.len.Goals as goal

pub returns : goal.returns
returns c = rw (← c.self.view_is) (sym (spread_length c.self.inside.count 0 c.self.inside.present.items))
