-- The samples so far, before those of the atoms that are left.
use Rattle.std.proofs.Common.{◌≡◌, ◌++◌, drop}
use Rattle.client_engine.proofs.PulledGaugesLemmas.{samples_meant}
use Rattle.client_engine.proofs.kinds.pulled_gauges.samples_of.Given as goal

abbrev pub invariant-loop-atom : goal.invariant-loop-atom
invariant-loop-atom l =
    let atoms = l.found.atoms.now in
    let meant = samples_meant l.metric l.fields l.found.matcher.now in
    l.samples ++ meant (drop l.atom-index atoms) ≡ meant atoms
