-- The first leaf is missing, or what is kept next.
use Rattle.std.proofs.Common.{◌≡◌, ◌<◌, Some, List, length, ◌∷◌, [], arith, sym, ap, ◌∙◌}
use Rattle.std.specs.Vec.Iter.{into_iter_items, into_iter_len}
use Rattle.atom_record.specs.declared.key.Present.{Present}
use Rattle.atom_record.specs.Sparse.{kept_from}
use Rattle.atom_record.proofs.SparseLemmas.{missing_turn_held, kept_turn, kept_turn_held, next_kept, next_counted}
use Rattle.atom_record.proofs.key.LeavesIterator.next.Goals as goal

-- the first of a list
first_is : {one other : Present} {rest more : List Present} → one ∷ rest ≡ other ∷ more → one ≡ other
first_is is = cc

-- an option has one value
one_is : {one other : Present} → Some one ≡ Some other → one ≡ other
one_is is = cc

-- nothing is the first of no list
none_first : {P : Type 0} {one : Present} {rest : List Present} → [] ≡ one ∷ rest → P
none_first is = cc

pub invariant_of-self-then-next-at : goal.invariant_of-self-then-next-at
invariant_of-self-then-next-at c =
    let s = c.self.inside in
    let rest = into_iter_items s.rest in
    let below : s.at < s.count = omega (arith, c.self.invariant.0, c.if-at-self.false) in
    let all = ap (λ next. kept_from next rest) c.in-Some.is in
    let same = ap (λ next. kept_from next (into_iter_items c.next.new.self)) c.replace.ensures.after
    ∙ next_kept c.next.result rest (into_iter_items c.next.new.self) (into_iter_len s.rest)
    (into_iter_len c.next.new.self) c.self.invariant.1 c.next.ensures.cases in (
      omega (arith, below),
      next_counted c.next.result rest (into_iter_items c.next.new.self) (into_iter_len s.rest)
          (into_iter_len c.next.new.self) c.self.invariant.1 c.next.ensures.items c.next.ensures.cases,
      rw same (kept_turn_held s.count s.at (kept_from s.next rest) below c.self.invariant.2 c.in-Some.next rest all
          c.if-next-at.true),
    )

pub invariant_of-self-else-next-at : goal.invariant_of-self-else-next-at
invariant_of-self-else-next-at c =
    let s = c.self.inside in
    let rest = into_iter_items s.rest in
    let below : s.at < s.count = omega (arith, c.self.invariant.0, c.if-at-self.false) in
    let all = ap (λ next. kept_from next rest) c.in-Some.is in (
      omega (arith, below),
      c.self.invariant.1,
      missing_turn_held s.count s.at (kept_from s.next rest) below c.self.invariant.2 (λ one more is here.
          c.if-next-at.false (ap (λ (o : Present). o.place) (first_is (sym all ∙ is)) ∙ here)),
    )

pub invariant_of-self-in_default : goal.invariant_of-self-in_default
invariant_of-self-in_default c =
    let s = c.self.inside in
    let rest = into_iter_items s.rest in
    let below : s.at < s.count = omega (arith, c.self.invariant.0, c.if-at-self.false) in
    let all = ap (λ next. kept_from next rest) c.in_default.is in (
      omega (arith, below),
      c.self.invariant.1,
      missing_turn_held s.count s.at (kept_from s.next rest) below c.self.invariant.2 (λ one more is here.
          none_first (sym all ∙ is)),
    )

pub returns-in_ok-next-in-Some-clause-steps : goal.returns-in_ok-next-in-Some-clause-steps
returns-in_ok-next-in-Some-clause-steps c =
    let s = c.self.inside in
    let rest = into_iter_items s.rest in
    let one = c.in_ok-next-in-Some.next in
    let below : s.at < s.count = omega (arith, c.self.invariant.0, c.if-at-self.false) in
    let same = ap (λ next. kept_from next (into_iter_items c.next.new.self)) c.replace.ensures.after
    ∙ next_kept c.next.result rest (into_iter_items c.next.new.self) (into_iter_len s.rest)
    (into_iter_len c.next.new.self) c.self.invariant.1 c.next.ensures.cases in
    let is : s.next ≡ Some one = sym c.in_ok-next-in-Some.ensures.value in
    let here = ap (λ (o : Present). o.place) (one_is (sym is ∙ c.in-Some.is)) ∙ c.if-next-at.true in
    rw (← c.self.view_is, same) (kept_turn s.count s.at (kept_from s.next rest) below c.self.invariant.2 one rest
    (ap (λ next. kept_from next rest) is) here)

pub returns-in_ok-next-in-Some-clause-goes : goal.returns-in_ok-next-in-Some-clause-goes
returns-in_ok-next-in-Some-clause-goes c =
    let steps = ap length (returns-in_ok-next-in-Some-clause-steps c) in
    record { on = λ finite. (tt, tt, omega (arith, steps)); keeps = tt; rests = λ finite. tt }
