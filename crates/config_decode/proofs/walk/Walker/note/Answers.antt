-- A record that isn't supported is noted if it is the first.
use Rattle.std.proofs.Common.{rules}
use Rattle.config_decode.proofs.walk.Walker.note.Goals as goal

pub returns-in_ok-from_slice : goal.returns-in_ok-from_slice
returns-in_ok-from_slice c = search rules
