-- The items of six parts are added, one after the other.
use Rattle.std.proofs.Common.{ℕ, List, [], ◌∷◌, ◌++◌, ap, ◌∙◌}
use Rattle.std.proofs.lemmas.Result.{on_ok_weaker}
use Rattle.flat_form.specs.declared.item.Item.{Item}
use Rattle.flat_form.specs.declared.item.Item.TheVariants.{Num}
use Rattle.flat_form.specs.Flat.{number_items, dims_items, key_items}
use Rattle.dim_table.specs.TableItems.{table_items}
use Rattle.kept_rows.specs.KeptItems.{kept_items}
use Rattle.predicate_state.specs.PredicateItems.{flag_number}
use Rattle.duration_metric.specs.InnerItems.{entry_items}
use Rattle.duration_metric.specs.SumItems.{time_row_items}
use Rattle.duration_metric.specs.SparseItems.{longest_part_items}
use Rattle.duration_metric.specs.declared.sparse.MaxProducer.{MaxProducer}
use Rattle.duration_metric.proofs.SparseFormLemmas.{then_added}
use Rattle.duration_metric.proofs.sparse_flat.MaxProducerFlat.flatten.Goals as goal

-- all items, where the flags have these numbers
abbrev with_flags : MaxProducer → List Item → ℕ → ℕ → ℕ → List Item
with_flags it old nesting at_first now =
    old ++ (Num nesting ∷ Num at_first ∷ Num it.keys.spec.bound ∷ Num it.keys.spec.leaves ∷ Num now
    ∷ longest_part_items it)

pub returns-clause-added : goal.returns-clause-added
returns-clause-added c =
    let it = c.args.self.now in
    let old = c.args.out.now in
    let nesting = c.encode_flag.result in
    let at_first = c.encode_flag-2.result in
    let now = c.encode_flag-3.result in
    let spec : List Item =
    Num nesting ∷ Num at_first ∷ Num it.keys.spec.bound ∷ Num it.keys.spec.leaves ∷ [] in
    let flag : List Item = Num now ∷ [] in
    let part : List Item = Num it.books.start ∷ Num it.books.lost ∷ [] in
    let keys : List Item = table_items dims_items entry_items it.keys.table in
    let times : List Item = table_items key_items number_items it.books.table in
    let kept : List Item = kept_items time_row_items it.books.kept in
    on_ok_weaker c.flatten-6.result
    (λ last.
    then_added old c.flatten.new.out c.flatten-6.new.out spec (flag ++ (part ++ (keys ++ (times ++ kept))))
    c.in_ok-flatten.ensures.added
    (then_added c.flatten.new.out c.flatten-2.new.out c.flatten-6.new.out flag (part ++ (keys ++ (times ++ kept)))
    c.in_ok-flatten-2.ensures.added
    (then_added c.flatten-2.new.out c.flatten-3.new.out c.flatten-6.new.out part (keys ++ (times ++ kept))
    c.in_ok-flatten-3.ensures.added
    (then_added c.flatten-3.new.out c.flatten-4.new.out c.flatten-6.new.out keys (times ++ kept)
    c.in_ok-flatten-4.ensures.added
    (then_added c.flatten-4.new.out c.flatten-5.new.out c.flatten-6.new.out times kept
    c.in_ok-flatten-5.ensures.added last))))
    ∙ ap (λ n. with_flags it old n at_first now) c.encode_flag.ensures
    ∙ ap (λ n. with_flags it old (flag_number it.keys.spec.nesting) n now) c.encode_flag-2.ensures
    ∙ ap (with_flags it old (flag_number it.keys.spec.nesting) (flag_number it.keys.spec.unknown))
    c.encode_flag-3.ensures)
    c.flatten-6.ensures.added
