use Rattle.std.proofs.Common.{ℕ, ◌+◌, subst, sym, ap, List}
use Rattle.std.specs.List.Sorted.{IsNonDecreasingBy}
use Rattle.atom_record.specs.declared.atom.AtomField.{AtomField}
use Rattle.matcher_eval.specs.AtomTests.{is_of_field}
use Rattle.matcher_eval.specs.Parts.{is_below_field}
use Rattle.matcher_eval.proofs.EntriesLemmas.{middle, is_between, indexes_rise}
use Rattle.matcher_eval.proofs.entries.of_field.Goals as goal

-- the entries of a field are those that aren't below it and are below the next
pub returns-clause-entries : goal.returns-clause-entries
returns-clause-entries c =
    let field = c.from-field.result in
    middle (is_below_field field) (is_below_field (field + 1)) (is_of_field c.args.field)
    (λ entry. is_between entry.field field (field + 1) c.args.field c.from-field.ensures
    (ap (λ (n : ℕ). n + 1) c.from-field.ensures))
    c.args.entries.now _ _ c.count_below_field-start.ensures c.count_below_field-count.ensures.front

-- along them the index doesn't fall
pub returns-clause-rising : goal.returns-clause-rising
returns-clause-rising c =
    let same = returns-clause-entries c in
    subst (λ (xs : List AtomField). IsNonDecreasingBy (λ (entry : AtomField). entry.index) xs) (sym same)
    (indexes_rise c.args.entries.now c.args.field c.requires)
