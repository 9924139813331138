-- The first that isn't below the place has it, or none has.
use Rattle.std.proofs.Common.{◌≡◌, ◌≤◌, None, Some, length, slice_get, nat_lt, true, false, rules, of_calls, refl, sym, ap, ◌∙◌}
use Rattle.std.proofs.lemmas.Fn.{always_returns_same}
use Rattle.std.proofs.lemmas.Bool.{ltb-false}
use Rattle.std.proofs.lemmas.Option.{slice_get_read, slice_get_past}
use Rattle.std.specs.List.Sorted.{IsPartitionPoint}
use Rattle.atom_record.specs.declared.key.Present.{Present}
use Rattle.atom_record.proofs.SparseLemmas.{found_at, places_parted, none_found}
use Rattle.atom_record.proofs.key.DimKey.search.Goals as goal

-- a list has one element at a place
one_there : {X : Type 0} {one other : X} → Some one ≡ Some other → one ≡ other
one_there is = cc

-- what is there isn't missing
none_there : {X : Type 0} {P : Type 0} {one : X} → Some one ≡ None → P
none_there is = cc

pub returns-in_err-found : goal.returns-in_err-found
returns-in_err-found c =
    let kept = c.self.inside.present.items in
    let before = c.partition_point-before.result in
    let parted = places_parted c.self.inside.count kept c.self.invariant c.args.at in
    let point : IsPartitionPoint (λ (one : Present). nat_lt one.place c.args.at ≡ true)
    (λ (one : Present). nat_lt one.place c.args.at ≡ false) kept before =
    rw (← c.as_slice.ensures.value) (c.partition_point-before.ensures.partitioned
    (λ (one : Present). nat_lt one.place c.args.at)
    (always_returns_same _ _ _ (λ a r f k. search (rules, of_calls))) (rw c.as_slice.ensures.value parted)) in
    let past : length kept ≤ before = rw (← c.deref.ensures.value)
    (ltb-false before (length c.deref.result.now) (sym c.in_err-found.ensures.lookup.0)) in
    let none : slice_get kept before ≡ None = slice_get_past kept before past in
    rw (c.from_residual.ensures, ← c.self.view_is)
    (none_found c.self.inside.count kept c.self.invariant c.args.at before point
    (λ one is. none_there (sym is ∙ none)))

pub returns-then-found-at : goal.returns-then-found-at
returns-then-found-at c =
    let kept = c.self.inside.present.items in
    let before = c.partition_point-before.result in
    let parted = places_parted c.self.inside.count kept c.self.invariant c.args.at in
    let point : IsPartitionPoint (λ (one : Present). nat_lt one.place c.args.at ≡ true)
    (λ (one : Present). nat_lt one.place c.args.at ≡ false) kept before =
    rw (← c.as_slice.ensures.value) (c.partition_point-before.ensures.partitioned
    (λ (one : Present). nat_lt one.place c.args.at)
    (always_returns_same _ _ _ (λ a r f k. search (rules, of_calls))) (rw c.as_slice.ensures.value parted)) in
    let there : slice_get kept before ≡ Some c.in_ok-found.found.now =
    ap (λ l. slice_get l before) (sym c.deref.ensures.value)
    ∙ slice_get_read c.deref.result.now (length c.deref.result.now) before c.in_ok-found.found.now refl
    c.in_ok-found.ensures.lookup.3.0 c.in_ok-found.ensures.lookup.1 in
    rw (← c.self.view_is) (none_found c.self.inside.count kept c.self.invariant c.args.at before point
    (λ one is place. c.if-found-at.true (ap (λ (o : Present). o.place) (one_there (sym there ∙ is)) ∙ place)))

pub returns : goal.returns
returns c =
    let kept = c.self.inside.present.items in
    let before = c.partition_point-before.result in
    let there : slice_get kept before ≡ Some c.in_ok-found.found.now =
    ap (λ l. slice_get l before) (sym c.deref.ensures.value)
    ∙ slice_get_read c.deref.result.now (length c.deref.result.now) before c.in_ok-found.found.now refl
    c.in_ok-found.ensures.lookup.3.0 c.in_ok-found.ensures.lookup.1 in
    rw (← c.self.view_is) (found_at c.self.inside.count kept c.self.invariant c.args.at before c.in_ok-found.found.now
    there
    c.if-found-at.false)
