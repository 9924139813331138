-- What the atom says of each activation is written at its place, and the book is told of as many as there are.
use Rattle.std.proofs.Common.{◌≡◌, ◌≤◌, ◌∙◌, length, map, take, refl, ap, subst, arith}
use Rattle.std.proofs.lemmas.List.{length-set}
use Rattle.metric_activation.specs.Timers.{heard_of, HearsAtom}
use Rattle.client_engine.specs.Activity.{starts_by, cancels_by}
use Rattle.client_engine.proofs.ActivityLemmas.{one_said, all_said}
use Rattle.client_engine.proofs.activity.tell_atom.Goals as goal

pub loop-place-init : goal.loop-place-init
loop-place-init c = record {
  started = λ place within. absurd (omega (arith, within));
  cancelled = λ place within. absurd (omega (arith, within));
  starts = refl;
  cancels = refl;
}

-- one more is written
pub loop-place-preserved : goal.loop-place-preserved
loop-place-preserved c =
    let truths = c.args.matched.now in
    let ones = c.args.activations.now in
    let loop = c.loop-place in
    let within = c.loop-place-test.true in
    record {
      started = one_said (starts_by truths) ones loop.place loop.started c.starts_at.result loop.invariant.started
          (omega (arith, within, loop.invariant.starts)) c.starts_at.ensures;
      cancelled = one_said (cancels_by truths) ones loop.place loop.cancelled c.cancels_at.result
          loop.invariant.cancelled (omega (arith, within, loop.invariant.cancels)) c.cancels_at.ensures;
      starts = length-set loop.started loop.place c.starts_at.result ∙ loop.invariant.starts;
      cancels = length-set loop.cancelled loop.place c.cancels_at.result ∙ loop.invariant.cancels;
    }

-- all are written
pub returns-clause-stands : goal.returns-clause-stands
returns-clause-stands c = λ in_time long.
    let truths = c.args.matched.now in
    let ones = c.args.activations.now in
    let loop = c.loop-place in
    let past = c.loop-place-test.false in
    let old = c.args.acts.now in
    let new = c.apply.new.self in
    let count = length c.timers-count.result.now in
    let many = ap length c.timers-count.ensures.value in
    let few : count ≤ 8 = omega (arith, many, c.timers-count.ensures.sound.few) in
    let all : count ≡ length ones = many ∙ long in
    let started : take count loop.started ≡ map (starts_by truths) ones =
    all_said (starts_by truths) ones 8 loop.started count
    (λ k less. loop.invariant.started k (omega (arith, less, past)))
    loop.invariant.starts few all in
    let cancelled : take count loop.cancelled ≡ map (cancels_by truths) ones =
    all_said (cancels_by truths) ones 8 loop.cancelled count
    (λ k less. loop.invariant.cancelled k (omega (arith, less, past))) loop.invariant.cancels few all in
    subst (λ said. HearsAtom old new (heard_of c.args.at said (map (cancels_by truths) ones))) started
    (subst (λ said. HearsAtom old new (heard_of c.args.at (take count loop.started) said)) cancelled
    (c.apply.ensures.stands in_time))
