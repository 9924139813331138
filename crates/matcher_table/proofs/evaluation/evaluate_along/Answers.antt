use Rattle.std.proofs.Common.{◌≡◌, ◌≢◌, ◌<◌, ℕ, cond, List, get_or, take, length, subst, arith, None}
use Rattle.std.specs.List.{sum_by}
use Rattle.std.proofs.lemmas.List.{take_all}
use Rattle.matcher_table.specs.Slots.{matcher_at, children_of}
use Rattle.matcher_table.specs.Truths.{asks_about, HaveRisen}
use Rattle.matcher_table.proofs.Counting.{counted_at}
use Rattle.matcher_table.proofs.HeldLaws.{counted_live}
use Rattle.matcher_table.proofs.MadeLaws.{all_there}
use Rattle.matcher_table.proofs.EvaluationLaws.{done_more, rest_kept, all_done, questions_along, rises_by_more}
use Rattle.matcher_table.proofs.evaluation.evaluate_along.Goals as goal

pub truth_of-requires-clause-children : goal.truth_of-requires-clause-children
truth_of-requires-clause-children g c =
    let slots = c.args.bodies.now.slots in
    let slot = get_or c.args.group.now c.loop-slot.slot-index 0 in
    all_there (children_of (matcher_at slots slot)) (length c.loop-slot.results) (λ y named.
    let room : y < length c.args.results.now = c.requires.room y (c.requires.children slot y named) in
    omega arith)

pub loop-slot-preserved : goal.loop-slot-preserved
loop-slot-preserved g c =
    let slots = c.args.bodies.now.slots in
    let group = c.args.group.now in
    let atom = c.args.atom.now in
    let says = g.J.Judge.says in
    let i = c.loop-slot.slot-index in
    let live : matcher_at slots (get_or group i 0) ≢ None =
    counted_live (matcher_at slots (get_or group i 0))
    (omega (arith, c.requires.enough.once (get_or group i 0), counted_at group i (omega arith))) in
    let within : get_or group i 0 < length c.loop-slot.results = omega (
      arith,
      c.requires.room
          (get_or group i 0) live,
    ) in
    record {
      done = done_more says atom slots group c.loop-slot.results i c.truth_of.result c.requires.enough c.requires.meets
          c.requires.children (omega arith) within c.loop-slot.invariant.done c.loop-slot.invariant.rest
          c.truth_of.ensures.truth;
      rest = rest_kept says atom slots group c.loop-slot.results i c.truth_of.result c.requires.enough c.requires.meets
          c.requires.children (omega arith) within c.loop-slot.invariant.done c.loop-slot.invariant.rest
          c.truth_of.ensures.truth;
      asked = rises_by_more (λ s. cond (asks_about atom (matcher_at slots s)) 1 0) group i _ _ _ (omega arith)
          c.loop-slot.invariant.asked c.truth_of.ensures.asked;
    }

pub returns-clause-results : goal.returns-clause-results
returns-clause-results g c =
    all_done g.J.Judge.says c.args.atom.now c.args.bodies.now.slots c.args.group.now c.loop-slot.results
    c.loop-slot.slot-index (omega arith) c.loop-slot.invariant.done c.loop-slot.invariant.rest

pub returns-clause-asked : goal.returns-clause-asked
returns-clause-asked g c =
    let slots = c.args.bodies.now.slots in
    let group = c.args.group.now in
    let atom = c.args.atom.now in
    let f : ℕ → ℕ = λ s. cond (asks_about atom (matcher_at slots s)) 1 0 in
    let all : take c.loop-slot.slot-index group ≡ group = take_all c.loop-slot.slot-index group (omega arith) in
    subst (λ (n : ℕ). HaveRisen n (g.J.Judge.ticks c.args.judge.now) (g.J.Judge.ticks c.loop-slot.judge))
    (questions_along slots atom group c.requires.enough)
    (subst (λ (xs : List ℕ). HaveRisen (sum_by f xs) (g.J.Judge.ticks c.args.judge.now)
    (g.J.Judge.ticks c.loop-slot.judge))
    all c.loop-slot.invariant.asked)
