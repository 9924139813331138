-- A change tells of the key at its place.
use Rattle.std.proofs.Common.{false, ◌++◌, sym, ap, ◌∙◌}
use Rattle.std.proofs.lemmas.Option.{none-some, same_Some}
use Rattle.std.proofs.lemmas.Result.{on_ok_weaker}
use Rattle.dim_table.specs.Table.{with_value_at}
use Rattle.duration_metric.specs.InnerStands.{told, with_other}
use Rattle.duration_metric.specs.Tallies.{freed_key}
use Rattle.duration_metric.proofs.InnerLemmas.{parts_are}
use Rattle.duration_metric.proofs.inner.InnerTable.tell_one.Goals as goal

pub returns : goal.returns
returns c =
    let old = c.args.self.now in
    let was = c.in-Some.inner.now in
    let change = c.args.change in
    on_ok_weaker c.leave.result
    (λ is. record {
      there = λ inner there.
          is ∙ parts_are old _ _ _ _ _ _
          (ap (λ k. with_value_at old.keys change.place (record was { known = k; tallied = false }))
          c.replace-was.ensures.after)
          c.in_ok-push.ensures.added
          (ap (λ l. old.gone ++ l) (c.freed-before.ensures ∙ ap (freed_key was.tallied) c.replace-was.ensures.value))
          ∙ ap (λ w. with_other old change.place w (told w change))
          (same_Some was inner (c.in-Some.ensures.value ∙ there));
      nowhere = λ none. absurd (none-some was (sym none ∙ sym c.in-Some.ensures.value));
    })
    c.leave.ensures
