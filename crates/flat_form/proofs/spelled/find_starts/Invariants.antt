-- The places so far are those of the items before the rest.
use Rattle.std.proofs.Common.{length}
use Rattle.flat_form.proofs.SpelledLaws.{HasFound}
use Rattle.flat_form.proofs.spelled.find_starts.Given as goal

abbrev pub invariant-loop-rest : goal.invariant-loop-rest
invariant-loop-rest l = HasFound l.bytes l.starts l.rest

abbrev pub decreases-loop-rest : goal.decreases-loop-rest
decreases-loop-rest l = length l.rest
