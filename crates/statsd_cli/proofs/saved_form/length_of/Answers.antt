-- Eight bytes that were read as a number are the bytes of it.
use Rattle.std.proofs.Common.{rules}
use Rattle.std.proofs.lemmas.Nat.{le_bytes_8}
use Rattle.statsd_cli.proofs.saved_form.length_of.Goals as goal

pub returns : goal.returns
returns c = le_bytes_8 c.args.bytes.now _ c.requires (search rules) c.from_le_bytes.ensures
