use Rattle.std.proofs.Common.{arith}
use Rattle.std.proofs.lemmas.Result.{err_from_is_err_and}
use Rattle.std.specs.Int.{w32, to_le_bytes}
use Rattle.session_frames.proofs.WritingLemmas.{GainsFront-flat_map}
use Rattle.session_frames.proofs.writing.write_path.Goals as goal

pub returns-in_err-put : goal.returns-in_err-put
returns-in_err-put g c =
    let failed = err_from_is_err_and c.from_residual.result c.from_residual.ensures.1 in
    let put = rw c.to_le_bytes.ensures at c.in_err-put.ensures in
    let so_far = c.loop-number.invariant in
    rw failed.1 (record {
      bytes = GainsFront-flat_map (to_le_bytes w32) (g.K.Sink.state c.args.out.now)
          (g.K.Sink.state c.loop-number.out) (g.K.Sink.state c.put.new.self) c.args.path.now c.loop-number.number-index
          (omega arith) so_far.written put.bytes;
      cause = record {
        later = omega (arith, so_far.later, put.cause.later);
        failed = omega (arith, so_far.later, put.cause.failed);
      };
    })
