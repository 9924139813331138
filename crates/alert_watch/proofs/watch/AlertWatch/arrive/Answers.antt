-- A key that finds room is counted, and its sum may be an alarm.
use Rattle.std.proofs.Common.{◌≡◌, true, false, sym, ap, subst, ◌∙◌, arith}
use Rattle.std.proofs.lemmas.Result.{on_ok_weaker}
use Rattle.alert_watch.specs.Watches.{WatchContents}
use Rattle.alert_watch.specs.WindowParts.{finds_room, table_sum, CountsOne}
use Rattle.alert_watch.proofs.WatchLemmas.{open_is, has_table, takes_no_room, takes_counted, takes_alarm, one_more_is}
use Rattle.alert_watch.proofs.watch.AlertWatch.arrive.Goals as goal

pub returns-then-not-finds_room-clause-stands : goal.returns-then-not-finds_room-clause-stands
returns-then-not-finds_room-clause-stands c =
    let watch : WatchContents = record {
      spec = c.self.inside.spec;
      tables = c.self.inside.tables.items;
      last = c.self.inside.last;
      listed = c.self.inside.listed.items;
      not_kept = c.self.inside.not_kept;
    } in
    let some = has_table watch c.self.invariant in
    let off = c.if-not-finds_room.true in
    let none : c.finds_room.result ≡ false = grind (arith, off) in
    let first = open_is watch.tables c.index.result.now some c.index.ensures in
    rw (← c.self.view_is)
    (takes_no_room watch c.self.invariant c.args.at c.args.key.now
    (ap (finds_room c.args.key.now) (sym first) ∙ sym c.finds_room.ensures ∙ none))

pub returns-then-rings-clause-stands : goal.returns-then-rings-clause-stands
returns-then-rings-clause-stands c =
    let watch : WatchContents = record {
      spec = c.self.inside.spec;
      tables = c.self.inside.tables.items;
      last = c.self.inside.last;
      listed = c.self.inside.listed.items;
      not_kept = c.self.inside.not_kept;
    } in
    let some = has_table watch c.self.invariant in
    let on = c.if-not-finds_room.false in
    let room : c.finds_room.result ≡ true = grind (arith, on) in
    let first = open_is watch.tables c.index.result.now some c.index.ensures in
    let sum = one_more_is c.sum_of.result (table_sum c.args.key.now watch.tables) c.saturating_add-sum.result
    (c.sum_of.ensures ∙ ap (table_sum c.args.key.now) c.as_slice.ensures.value) c.saturating_add-sum.ensures in
    on_ok_weaker c.ring.result (λ one. rw (← c.self.view_is)
    (takes_alarm watch c.ring.new.self c.self.invariant c.args.at c.saturating_add-sum.result c.args.key.now
    (ap (finds_room c.args.key.now) (sym first) ∙ sym c.finds_room.ensures ∙ room) sum
    (rw (← c.self.view_is) at (sym c.rings.ensures ∙ c.if-rings.true))
    (rw (← c.self.view_is) at one))) c.ring.ensures.counted

pub returns-else-rings-clause-stands : goal.returns-else-rings-clause-stands
returns-else-rings-clause-stands c =
    let watch : WatchContents = record {
      spec = c.self.inside.spec;
      tables = c.self.inside.tables.items;
      last = c.self.inside.last;
      listed = c.self.inside.listed.items;
      not_kept = c.self.inside.not_kept;
    } in
    let some = has_table watch c.self.invariant in
    let on = c.if-not-finds_room.false in
    let room : c.finds_room.result ≡ true = grind (arith, on) in
    let first = open_is watch.tables c.index.result.now some c.index.ensures in
    let sum = one_more_is c.sum_of.result (table_sum c.args.key.now watch.tables) c.saturating_add-sum.result
    (c.sum_of.ensures ∙ ap (table_sum c.args.key.now) c.as_slice.ensures.value) c.saturating_add-sum.ensures in
    let is_room = ap (finds_room c.args.key.now) (sym first) ∙ sym c.finds_room.ensures ∙ room in
    let off = rw (← c.self.view_is) at (sym c.rings.ensures ∙ c.if-rings.false) in
    on_ok_weaker c.count_one.result (λ one. rw (← c.self.view_is)
    (takes_counted watch c.self.invariant c.count_one.new.table c.args.at c.saturating_add-sum.result c.args.key.now
    is_room sum off
    (subst (λ t. CountsOne t c.count_one.new.table c.args.key.now)
    (open_is watch.tables c.index_mut.result.now some c.index_mut.ensures.value) one))) c.count_one.ensures.counted
