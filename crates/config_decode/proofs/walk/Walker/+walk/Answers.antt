-- A message is walked record by record, and a message inside one level deeper.
use Rattle.std.proofs.Common.{◌≡◌, ◌≤◌, length, Ok, Err, arith, sym, ap, ◌∙◌, subst}
use Rattle.std.proofs.lemmas.Result.{err_from_is_err_and}
use Rattle.proto_wire.specs.Fields.{field_view}
use Rattle.config_decode.specs.declared.fault.DecodeFault.TheVariants.{Wire}
use Rattle.config_decode.specs.Walk.{Walked}
use Rattle.config_decode.specs.Walks.{Walks}
use Rattle.config_decode.proofs.WalkLemmas.{Takes, Enters, halts, ends, takes, takes_none, goes_on, breaks_off, enters, inside-is}
use Rattle.config_decode.proofs.walk.Walker.+walk.Goals as goal

pub message-returns-in_err-field : goal.message-returns-in_err-field
message-returns-in_err-field t c =
    let p = err_from_is_err_and c.from_residual.result c.from_residual.ensures.1 in
    rw (p.1, p.2) (record {
      walked = c.loop-field.invariant.leads c.loop-field.self (Err (Wire c.in_err-field.field-0.0))
          (halts _ _ _ c.loop-field.records c.in_err-field.field-0.0 c.in_err-field.ensures.walk);
    })

pub message-record-requires : goal.message-record-requires
message-record-requires t c =
    let taken : Takes c.loop-field.records (field_view c.in-Some.field) c.next.new.self =
    takes c.loop-field.records c.next.new.self c.in_ok-field.field-0 c.in-Some.field c.in-Some.is
    c.in_ok-field.ensures.read c.in_ok-field.ensures.walk c.in_ok-field.ensures.step in
    let same : c.next.new.self.depth ≡ c.args.records.depth = taken.depth ∙ c.loop-field.invariant.depth in
    let path : length c.loop-field.self.path.items ≡ c.next.new.self.depth =
    ap length c.loop-field.invariant.path ∙ c.requires.depth ∙ sym same in
    let shallow : c.next.new.self.depth ≤ 100 = omega (arith, same, c.requires.shallow) in
    (omega arith, (path, (shallow, taken.within)))

pub message-loop-field-preserved : goal.message-loop-field-preserved
message-loop-field-preserved t c =
    let taken : Takes c.loop-field.records (field_view c.in-Some.field) c.next.new.self =
    takes c.loop-field.records c.next.new.self c.in_ok-field.field-0 c.in-Some.field c.in-Some.is
    c.in_ok-field.ensures.read c.in_ok-field.ensures.walk c.in_ok-field.ensures.step in
    let kept : c.record.new.self.path.items ≡ c.loop-field.self.path.items = c.in_ok-record.ensures.walked.path in
    record {
      depth = taken.depth ∙ c.loop-field.invariant.depth;
      path = kept ∙ c.loop-field.invariant.path;
      leads = λ last result after. c.loop-field.invariant.leads last result (goes_on c.args.records.depth
          c.args.self.now.path.items c.args.kind c.loop-field.records c.next.new.self (field_view c.in-Some.field)
          c.loop-field.self taken c.loop-field.invariant.depth c.loop-field.invariant.path
          c.record.new.self last c.in_ok-record.ensures.walked result after);
    }

pub message-returns-in_err-record : goal.message-returns-in_err-record
message-returns-in_err-record t c =
    let p = err_from_is_err_and c.from_residual-in_err-record.result c.from_residual-in_err-record.ensures.1 in
    let taken : Takes c.loop-field.records (field_view c.in-Some.field) c.next.new.self =
    takes c.loop-field.records c.next.new.self c.in_ok-field.field-0 c.in-Some.field c.in-Some.is
    c.in_ok-field.ensures.read c.in_ok-field.ensures.walk c.in_ok-field.ensures.step in
    rw (p.1, p.2) (record {
      walked = c.loop-field.invariant.leads c.record.new.self (Err c.in_err-record.field-0.0)
          (breaks_off c.args.records.depth c.args.self.now.path.items c.args.kind c.loop-field.records
          c.next.new.self (field_view c.in-Some.field) c.loop-field.self taken c.loop-field.invariant.depth
          c.loop-field.invariant.path c.in_err-record.field-0.0 c.in_err-record.ensures.walked);
    })

pub message-returns : goal.message-returns
message-returns t c = record {
  walked = c.loop-field.invariant.leads c.loop-field.self (Ok tt)
      (ends _ _ _ c.loop-field.records c.loop-field.self (takes_none c.loop-field.records c.next.new.self
      c.in_ok-field.field-0 c.in_default.is c.in_ok-field.ensures.walk));
}

pub inside-message-requires : goal.inside-message-requires
inside-message-requires t c =
    let there : Enters c.args.records.now.depth (field_view c.args.field.now) c.in_ok-enter-in-Message-Bytes.field-0 =
    enters c.args.records.now.depth (field_view c.args.field.now) c.in_ok-enter-in-Message-Bytes.field-0
    c.in_ok-enter-in-Message-Bytes.ensures in
    (omega arith, (c.requires.depth ∙ sym there.deeper, omega arith))

pub inside-returns-in_ok-enter-in-Message-Bytes : goal.inside-returns-in_ok-enter-in-Message-Bytes
inside-returns-in_ok-enter-in-Message-Bytes t c =
    let walk = inside-is c.args.records.now.depth c.args.self.now.path.items c.in-Message-Bytes.kind
    (field_view c.args.field.now) c.in_ok-enter-in-Message-Bytes.field-0 c.in_ok-enter-in-Message-Bytes.ensures in
    rw (c.in-Message-Bytes.is-0, c.in-Message-Bytes.is-1) (record {
      walked = subst (λ (walked : Walked). Walks walked c.args.self.now c.message.new.self c.message.result) (sym walk)
          c.message.ensures.walked;
    })
