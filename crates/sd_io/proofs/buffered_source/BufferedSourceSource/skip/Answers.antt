-- The bytes that are skipped stand in the buffer.
use Rattle.std.proofs.Common.{◌≤◌, length, ap, arith, refl}
use Rattle.std.specs.Io.Buffered.{reader_buffer, reader_capacity}
use Rattle.std.specs.Prelude.{◌==◌}
use Rattle.sd_io.proofs.BufferedLemmas.{buffered_taken}
use Rattle.sd_io.proofs.buffered_source.BufferedSourceSource.skip.Goals as goal

pub returns-clause-skip : goal.returns-clause-skip
returns-clause-skip g c =
    let reader = c.args.self.now.inner in
    let within : c.args.count ≤ length (reader_buffer reader) =
    omega (arith, c.if-buffer-count.false, ap length c.buffer.ensures) in
    record {
      bytes = buffered_taken (reader_capacity reader == 0) (reader_buffer reader) (g.R.Read.remaining reader.inner) _
          c.args.count within c.consume.ensures.bytes;
      faultless = refl;
    }
