-- A key that was on goes off, after its time.
use Rattle.std.proofs.Common.{◌≡◌, nat_lt, true, if◌then◌else◌, [], map, sym, ap, ◌∙◌, arith}
use Rattle.bucket_meaning.specs.Marks.{Came}
use Rattle.duration_metric.specs.SparseCalls.{arrival_for}
use Rattle.duration_metric.specs.SparseEntries.{saved_time}
use Rattle.duration_metric.proofs.SparseTurnLemmas.{arrival_told}
use Rattle.duration_metric.proofs.sparse_keys.turn_off.Goals as goal

pub returns : goal.returns
returns c rows is =
    let entry = c.args.entry.now in
    let on : nat_lt 0 entry.count ≡ true = grind (arith, c.if-entry-eq0.false) in
    ap (map (λ key. Came (key, c.time_of.result))) is
    ∙ arrival_told entry.known c.time_of.result
    ∙ ap (arrival_for entry.known) c.time_of.ensures
    ∙ sym (ap (λ b. if b then arrival_for entry.known (saved_time entry c.args.at) else []) on)
