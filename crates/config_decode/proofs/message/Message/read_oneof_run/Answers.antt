-- A record of a member goes on with the run or begins a new one; another is passed over.
use Rattle.std.proofs.Common.{ap, sym, ◌∙◌}
use Rattle.config_decode.specs.Values.{run_with}
use Rattle.config_decode.proofs.ValuesLemmas.{short_at}
use Rattle.config_decode.proofs.OneofLemmas.{run_more, run_same}
use Rattle.config_decode.proofs.message.Message.read_oneof_run.Goals as goal
use Rattle.config_decode.proofs.message.Message.read_oneof_run.Goals.{then-contains+in_ok-push_member, else-contains}

pub push_member-requires : goal.push_member-requires
push_member-requires c =
    short_at c.deref-field-items.result.now c.self.inside.records.items c.loop-field.field-index _
    c.loop-field-test.true c.deref-field-items.ensures.value c.self.invariant

pub loop-field-preserved : goal.loop-field-preserved
loop-field-preserved c =
    let members = c.args.members.now in
    let fields = c.deref-field-items.result.now in
    let i = c.loop-field.field-index in
    let test = sym c.contains.ensures.value in
    elim c.if-contains.branch [
      | then-contains+in_ok-push_member w ↦
          w.run-is ∙ w.in_ok-push_member.ensures ∙ ap (run_with _) c.loop-field.invariant
          ∙ sym (run_more members fields i _ c.loop-field-test.true (test ∙ w.if-contains.true))
      | else-contains w ↦
          w.run-is ∙ c.loop-field.invariant
          ∙ sym (run_same members fields i _ c.loop-field-test.true (test ∙ w.if-contains.false))
    ]
