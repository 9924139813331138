use Rattle.std.proofs.Common.{◌≡◌, Bool, true, false, ◌&&◌, List, length, sym, ap, subst, ◌∙◌, arith}
use Rattle.std.specs.List.Sorted.{IsNonDecreasingBy}
use Rattle.std.proofs.lemmas.List.{length-append}
use Rattle.std.proofs.lemmas.List.Kept.{IsNonDecreasingBy-filter}
use Rattle.atom_record.specs.declared.atom.AtomField.{AtomField}
use Rattle.config_types.specs.declared.matcher.Test.TheViews.{out-Test}
use Rattle.matcher_eval.specs.ValueTests.{is_same_truth}
use Rattle.matcher_eval.specs.AtomTests.{is_repeated, condition_holds}
use Rattle.matcher_eval.proofs.IndexesLemmas.{is_so_on, each_index, first_index, some_here, others_rise, differing, agreeing, none_left}
use Rattle.matcher_eval.proofs.fields.is_so_at_each_index.Goals as goal

-- at first the rest is all of the entries of the repeated field
pub loop-first-init : goal.loop-first-init
loop-first-init c = record {
  rising = subst (λ (xs : List AtomField). IsNonDecreasingBy (λ (entry : AtomField). entry.index) xs)
      (sym c.repeated-rest.ensures) (IsNonDecreasingBy-filter (λ entry. entry.index) is_repeated c.args.entries.now
      c.requires);
  same = ap (is_so_on (out-Test c.args.condition.now) c.args.truth) (sym c.repeated-rest.ensures);
}

-- one index with another truth is enough
pub returns-then-holds-truth : goal.returns-then-holds-truth
returns-then-holds-truth c =
    let condition = out-Test c.args.condition.now in
    let truth = c.args.truth in
    let here = c.split_after.result.0.now in
    let next = c.split_after.result.1.now in
    let unlike : is_same_truth (condition_holds here condition) truth ≡ false =
    sym (ap (λ (b : Bool). is_same_truth b truth) c.holds.ensures) ∙ differing _ _ c.if-holds-truth.true in
    sym (each_index condition truth c.args.entries.now
    ∙ c.loop-first.invariant.same
    ∙ first_index condition truth c.loop-first.rest.now here next c.in-Some.first.now (sym c.in-Some.ensures.value)
    c.loop-first.invariant.rising c.split_after.ensures
    ∙ ap (λ (b : Bool). b && is_so_on condition truth next) unlike)

-- where the first index has this truth, it goes by those after it
pub loop-first-preserved : goal.loop-first-preserved
loop-first-preserved c =
    let condition = out-Test c.args.condition.now in
    let truth = c.args.truth in
    let here = c.split_after.result.0.now in
    let next = c.split_after.result.1.now in
    let like : is_same_truth (condition_holds here condition) truth ≡ true =
    sym (ap (λ (b : Bool). is_same_truth b truth) c.holds.ensures) ∙ agreeing _ _ c.if-holds-truth.false in
    record {
      rising = others_rise _ c.loop-first.rest.now here next c.loop-first.invariant.rising c.split_after.ensures;
      same = c.loop-first.invariant.same
          ∙ first_index condition truth c.loop-first.rest.now here next c.in-Some.first.now
          (sym c.in-Some.ensures.value) c.loop-first.invariant.rising c.split_after.ensures
          ∙ ap (λ (b : Bool). b && is_so_on condition truth next) like;
    }

-- the first entry is no longer in the rest
pub loop-first-smaller : goal.loop-first-smaller
loop-first-smaller c =
    let here = c.split_after.result.0.now in
    let next = c.split_after.result.1.now in
    omega (
      arith,
      ap length c.split_after.ensures.whole,
      length-append here next,
      some_here c.loop-first.rest.now here next c.in-Some.first.now (sym c.in-Some.ensures.value)
          c.split_after.ensures,
    )

-- where no index is left, none has another truth
pub returns : goal.returns
returns c =
    sym (each_index (out-Test c.args.condition.now) c.args.truth c.args.entries.now
    ∙ c.loop-first.invariant.same
    ∙ none_left (out-Test c.args.condition.now) c.args.truth c.loop-first.rest.now (sym c.in_default.ensures.value))
