use Rattle.std.proofs.Common.{◌≤◌, take}
use Rattle.std.specs.List.{flat_map}
use Rattle.std.specs.Int.{w32, to_le_bytes}
use Rattle.sd_io.specs.Causes.{Gains}
use Rattle.session_frames.proofs.writing.write_path.Given as goal

-- the numbers so far were written
abbrev pub invariant-loop-number : goal.invariant-loop-number
invariant-loop-number g l = record {
  written : Gains (g.K.Sink.state l.fn.out) (g.K.Sink.state l.out)
      (flat_map (to_le_bytes w32) (take l.number-index l.path));
  later : (g.K.Sink.state l.fn.out).faults ≤ (g.K.Sink.state l.out).faults;
}
