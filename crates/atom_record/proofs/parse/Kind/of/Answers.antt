-- The number 5 names raw bytes.
use Rattle.std.proofs.Common.{rules}
use Rattle.atom_record.proofs.parse.Kind.of.Goals as goal

pub returns-in-5 : goal.returns-in-5
returns-in-5 c = search rules
