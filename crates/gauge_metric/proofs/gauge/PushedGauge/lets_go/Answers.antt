-- The key's row has all its samples.
use Rattle.std.proofs.Common.{refl}
use Rattle.gauge_metric.specs.declared.gauge.KeyedAtom.{KeyedAtom}
use Rattle.gauge_metric.proofs.SampledLemmas.{sampled_full}
use Rattle.gauge_metric.proofs.GaugeLemmas.{sample_came}
use Rattle.gauge_metric.proofs.gauge.PushedGauge.lets_go.Goals as goal

pub returns-in-Some : goal.returns-in-Some
returns-in-Some c = λ all at atom.
    let event : KeyedAtom = record { key = c.args.key.now; atom = atom } in
    sample_came c.args.self.now c.args.self.now at event refl refl refl
    (sampled_full c.args.self.now.samples c.args.self.now.table event c.in-Some.place c.in-Some.ensures.there
    (c.has_all.ensures all))
