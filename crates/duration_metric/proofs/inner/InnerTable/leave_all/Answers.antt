-- The key of each row in its turn is put down.
use Rattle.std.proofs.Common.{[], ◌∷◌, ◌++◌, sym, ap, ◌∙◌, append_assoc, append-nil}
use Rattle.std.specs.List.{flat_map}
use Rattle.std.proofs.lemmas.Grind.{flat_map-append}
use Rattle.predicate_state.specs.PredicateTable.{LeafKey}
use Rattle.duration_metric.specs.declared.inner.Inner.{Inner}
use Rattle.duration_metric.specs.declared.inner.InnerTable.{InnerTable}
use Rattle.duration_metric.specs.Tallies.{row_tallied}
use Rattle.duration_metric.proofs.inner.InnerTable.leave_all.Goals as goal

pub loop-key-preserved : goal.loop-key-preserved
loop-key-preserved c =
    let done = c.loop-key.invariant.0 in
    let old = c.args.self.now in
    let mid = c.loop-key.self in
    let row : LeafKey × Inner = (c.in-Some._key, c.in-Some.inner) in (
      done ++ row ∷ [],
      c.loop-key.invariant.1 ∙ ap (λ l. done ++ l) c.in-Some.ensures.steps
          ∙ sym (append_assoc done (row ∷ []) c.next.new.self),
      c.in_ok-leave.ensures
          ∙ ap (λ l. record mid { gone = mid.gone ++ l }) c.freed.ensures
          ∙ ap (λ (t : InnerTable). record t { gone = t.gone ++ row_tallied row }) c.loop-key.invariant.2
          ∙ ap (λ l. record old { gone = l })
          (append_assoc old.gone (flat_map row_tallied done) (row_tallied row)
          ∙ ap (λ l. old.gone ++ l)
          (ap (λ l. flat_map row_tallied done ++ l) (sym (append-nil (row_tallied row)))
          ∙ sym (flat_map-append row_tallied done (row ∷ [])))),
    )
