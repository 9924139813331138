-- A stop of a listed key, or of another.
use Rattle.std.proofs.Common.{sym, ap, ◌∙◌, arith}
use Rattle.predicate_state.proofs.KeyCountLemmas.{no_key}
use Rattle.duration_metric.specs.SparseEntries.{turn_marks, entry_marks}
use Rattle.duration_metric.proofs.SparseTurnLemmas.{value_of_row, own_row, own_entry, found_entry, told_after, stays_started, stops_listed, stops_gone}
use Rattle.duration_metric.proofs.sparse_keys.SparseKeys.stop.Goals as goal

pub returns-in_default : goal.returns-in_default
returns-in_default c = c.stop_absent.ensures

-- where a key stands, a row stands
pub returns-in_default-pair : goal.returns-in_default-pair
returns-in_default-pair c =
    absurd (no_key c.args.self.now.table.rows c.in-Some.place c.args.key.now (sym c.in_default-pair.ensures)
    c.in-Some.ensures.there)

-- the key stays on
pub returns-then-less-gt0 : goal.returns-then-less-gt0
returns-then-less-gt0 c =
    let rows = c.args.self.now.table.rows in
    let place = c.in-Some.place in
    let key = c.args.key.now in
    let entry = c.in-Some-pair.entry.now in
    let there = own_row rows place key (c.in-Some-pair._key.now, entry) c.in-Some-pair.ensures
    c.in-Some.ensures.there in
    stays_started c.args.self.now c.args.at key place entry (sym c.in-Some.ensures.value) there c.add_stop-less.result
    c.set_count.new.table c.add_stop-less.ensures c.if-less-gt0.true
    (c.set_count.ensures entry (value_of_row rows place (key, entry) there))

-- the key goes off, and stays listed
pub returns-then-self : goal.returns-then-self
returns-then-self c =
    let rows = c.args.self.now.table.rows in
    let place = c.in-Some.place in
    let key = c.args.key.now in
    let entry = c.in-Some-pair.entry.now in
    let there = own_row rows place key (c.in-Some-pair._key.now, entry) c.in-Some-pair.ensures
    c.in-Some.ensures.there in
    let is = c.set_count-then-self.ensures entry (value_of_row rows place (key, entry) there) in
    stops_listed c.args.self.now c.args.at key place entry (sym c.in-Some.ensures.value) there
    c.set_count-then-self.new.table (turn_marks c.set_count-then-self.new.table.rows c.turn_off-turn.result)
    (omega (arith, c.ranges.at)) (omega (arith, c.if-less-gt0.false, c.add_stop-less.ensures)) c.if-self.true is
    (c.turn_off-turn.ensures c.set_count-then-self.new.table.rows
    (told_after c.args.self.now.table c.set_count-then-self.new.table place key entry 0 there is))

-- the key is there
pub returns-in_default-remove : goal.returns-in_default-remove
returns-in_default-remove c =
    let rows = c.args.self.now.table.rows in
    let place = c.in-Some.place in
    let key = c.args.key.now in
    let entry = c.in-Some-pair.entry.now in
    let there = own_row rows place key (c.in-Some-pair._key.now, entry) c.in-Some-pair.ensures
    c.in-Some.ensures.there in
    absurd (found_entry rows place key entry (sym c.in-Some.ensures.value) there c.in_default-remove.ensures.value)

-- the key goes off, and leaves
pub returns : goal.returns
returns c =
    let rows = c.args.self.now.table.rows in
    let place = c.in-Some.place in
    let key = c.args.key.now in
    let entry = c.in-Some-pair.entry.now in
    let there = own_row rows place key (c.in-Some-pair._key.now, entry) c.in-Some-pair.ensures
    c.in-Some.ensures.there in
    let gone = own_entry rows place key entry c.in-Some-remove.gone (sym c.in-Some.ensures.value) there
    c.in-Some-remove.ensures.value in
    stops_gone c.args.self.now c.args.at key place entry (sym c.in-Some.ensures.value) there c.remove.new.self
    (turn_marks c.remove.new.self.rows c.leave.result) (omega (arith, c.ranges.at))
    (omega (arith, c.if-less-gt0.false, c.add_stop-less.ensures)) c.if-self.false c.remove.ensures.rows
    (c.leave.ensures c.remove.new.self.rows ∙ ap (entry_marks c.args.at) gone)
