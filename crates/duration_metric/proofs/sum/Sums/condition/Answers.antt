-- A condition was told.
use Rattle.std.proofs.Common.{[], ◌++◌, IsPermutation, length, ◌<◌, ◌^◌, refl, sym, ap, subst, ◌∙◌}
use Rattle.std.proofs.lemmas.Map.Made.{IsDistinct-from_AllPairs}
use Rattle.std.proofs.lemmas.Result.{on_ok_weaker}
use Rattle.atom_record.specs.Equal.{metric_key_exact}
use Rattle.dim_table.specs.Table.{keys}
use Rattle.metric_producer.specs.Calls.{Learned}
use Rattle.metric_producer.specs.Moves.{Moves}
use Rattle.duration_metric.specs.Tallies.{tally_at, is_counted, CountsAll, CountsSame, NewZeros, Forgets}
use Rattle.duration_metric.specs.SumParts.{seen}
use Rattle.duration_metric.specs.SumStands.{sum_law}
use Rattle.duration_metric.specs.SumSteps.{outs_at, tolds_at, StepsSome, BeginsAll, Recounts, ReleasesPlaces, LowersAll}
use Rattle.duration_metric.proofs.ChangedLemmas.{steps_more, steps_keys}
use Rattle.duration_metric.proofs.ReleaseLemmas.{releases_same, tolds_after, outs_after}
use Rattle.duration_metric.proofs.SumTallyLemmas.{left_counts, tally_told}
use Rattle.duration_metric.proofs.SumToldLemmas.{learned, emptied, finds_begun, steps_same}
use Rattle.duration_metric.proofs.ZerosLemmas.{zeros_more, forgets_more}
use Rattle.duration_metric.proofs.sum.Sums.condition.Goals as goal

pub returns-clause-moves : goal.returns-clause-moves
returns-clause-moves c =
    let at = c.args.at in
    let old = c.args.self.now in
    let inner = c.tell.new.self in
    let rows = c.count_all.new.keys in
    let raised = c.count_all.new.tally in
    let lowered = c.lower_all.new.tally in
    let last = c.release_all.new.keys in
    let released = c.release_all.new.tally in
    let left = c.forget_tolds.new.tally in
    let part = c.step_keys.new.table in
    let ended = c.step_tolds.new.table in
    let mid = c.step_outs.new.table in
    let new = c.begin_outs.new.table in
    let began = c.in_ok-began.began in
    let places = c.in_ok-places.places.items in
    let outs = outs_at rows.rows began in
    let tolds = tolds_at rows.rows places in
    let order = subst (λ l. IsPermutation l places) c.replace-touched.ensures.value c.in_ok-places.ensures.same in
    let counts = subst (λ l. Recounts inner.keys rows old.tally raised l []) c.as_slice-2.ensures.value
    c.in_ok-began.ensures.counts in
    let lowers = subst (LowersAll raised lowered) (c.as_slice-3.ensures ∙ c.replace-gone.ensures.value)
    c.in_ok-lower_all.ensures.counts in
    let releases = subst (λ l. ReleasesPlaces rows last lowered released l [] (tolds_at rows.rows l))
    c.as_slice-4.ensures.value c.in_ok-release_all.ensures.counts in
    let same : CountsSame released left = λ key. c.forget_tolds.ensures.counts key ∙ c.forget_all.ensures.counts key in
    let stepped = subst (λ l. StepsSome old.table part l (is_counted released) at)
    (c.as_slice-5.ensures ∙ c.replace-gone.ensures.value) c.step_keys.ensures in
    let told = subst (λ l. StepsSome part ended l (is_counted released) at)
    (ap (tolds_at last.rows) c.as_slice-6.ensures.value
    ∙ tolds_after rows last lowered released places [] tolds releases
    places) c.step_tolds.ensures in
    let resumed = subst (λ l. StepsSome ended mid l (is_counted released) at)
    (ap (outs_at last.rows) c.as_slice-7.ensures ∙ outs_after rows last lowered released places [] tolds releases began)
    c.step_outs.ensures in
    on_ok_weaker c.begin_outs.result
    (λ begins.
    subst (λ it. Moves sum_law (seen old) it (Learned at c.args.now))
    (emptied (seen old) inner last new _ _
    (sym (c.replace-touched.ensures.after ∙ c.new.ensures)) (sym (c.replace-gone.ensures.after ∙ c.new-2.ensures)))
    (learned (seen old) inner rows last old.tally raised lowered left places tolds outs ended mid new at c.args.now
    c.in_ok-tell.ensures.calls c.in_ok-tell.ensures.counts c.in_ok-tell.ensures.steady c.requires.right.all
    (finds_begun inner rows old.tally places _ began order c.in_ok-places.ensures.sorted c.as_slice-2.ensures.value
    c.in_ok-began.ensures.begins)
    order counts lowers (releases_same rows last lowered released left places tolds releases same)
    (steps_same released left old.table ended (inner.gone ++ tolds) at same
    (steps_more (is_counted released) at old.table part ended inner.gone tolds stepped told))
    (steps_same released left ended mid outs at same resumed)
    (subst (λ l. BeginsAll mid new [] l at)
    (ap (outs_at last.rows) c.as_slice-10.ensures
    ∙ outs_after rows last lowered released places [] tolds releases began)
    begins)))
    c.begin_outs.ensures.begins

-- the tally counts the inner keys, and has a key for which it counts none only where that has a row
pub returns-clause-tally : goal.returns-clause-tally
returns-clause-tally c =
    let at = c.args.at in
    let old = c.args.self.now in
    let inner = c.tell.new.self in
    let rows = c.count_all.new.keys in
    let raised = c.count_all.new.tally in
    let lowered = c.lower_all.new.tally in
    let last = c.release_all.new.keys in
    let released = c.release_all.new.tally in
    let stayed = c.forget_all.new.tally in
    let left = c.forget_tolds.new.tally in
    let part = c.step_keys.new.table in
    let ended = c.step_tolds.new.table in
    let mid = c.step_outs.new.table in
    let gone = inner.gone in
    let places = c.in_ok-places.places.items in
    let tolds = tolds_at rows.rows places in
    let all : CountsAll (tally_at old.tally) inner.keys.rows gone =
    λ key. c.requires.right.all key ∙ sym (c.in_ok-tell.ensures.counts key) in
    let counts = subst (λ l. Recounts inner.keys rows old.tally raised l []) c.as_slice-2.ensures.value
    c.in_ok-began.ensures.counts in
    let lowers = subst (LowersAll raised lowered) (c.as_slice-3.ensures ∙ c.replace-gone.ensures.value)
    c.in_ok-lower_all.ensures.counts in
    let releases = subst (λ l. ReleasesPlaces rows last lowered released l [] (tolds_at rows.rows l))
    c.as_slice-4.ensures.value c.in_ok-release_all.ensures.counts in
    let same : CountsSame released left = λ key. c.forget_tolds.ensures.counts key ∙ c.forget_all.ensures.counts key in
    let stay = tolds_after rows last lowered released places [] tolds releases places in
    let comes = zeros_more old.tally lowered released gone tolds
    (zeros_more old.tally raised lowered [] gone c.in_ok-began.ensures.zeros
    (subst (NewZeros raised lowered) (c.as_slice-3.ensures ∙ c.replace-gone.ensures.value)
    c.in_ok-lower_all.ensures.zeros))
    (subst (λ l. NewZeros lowered released (tolds_at rows.rows l)) c.as_slice-4.ensures.value
    c.in_ok-release_all.ensures.zeros) in
    let forgets = forgets_more released stayed left gone tolds (keys mid)
    (subst (λ l. Forgets released stayed l (keys mid)) (c.as_slice-8.ensures ∙ c.replace-gone.ensures.value)
    c.forget_all.ensures.zeros)
    (subst (λ l. Forgets stayed left l (keys mid)) (ap (tolds_at last.rows) c.as_slice-9.ensures.value ∙ stay)
    c.forget_tolds.ensures.zeros) in
    let steps = steps_more (is_counted released) at old.table ended mid _ _
    (steps_more (is_counted released) at old.table part ended _ _ c.step_keys.ensures c.step_tolds.ensures)
    c.step_outs.ensures in
    on_ok_weaker c.begin_outs.result
    (λ keeps. tally_told _ old.tally released left (gone ++ tolds) (keys old.table) mid
    (subst (CountsAll (tally_at left) last.rows) (sym (c.replace-gone.ensures.after ∙ c.new-2.ensures))
    (left_counts inner.keys rows last old.tally raised lowered left gone tolds places all counts lowers
    (releases_same rows last lowered released left places tolds releases same)))
    c.requires.right.zeros comes forgets
    (steps_keys (is_counted released) at old.table mid _ steps
    (IsDistinct-from_AllPairs metric_key_exact (keys old.table) c.len-len.ensures.distinct))
    keeps refl)
    c.begin_outs.ensures.keys

-- there are fewer keys that left than a count fits
pub count_all-requires : goal.count_all-requires
count_all-requires c =
    let gone = c.tell.new.self.gone in
    record {
      right = (
        gone,
        λ key. c.requires.right.all key ∙ sym (c.in_ok-tell.ensures.counts key),
        subst (λ l. length l < 2 ^ 63) (c.as_slice.ensures ∙ c.replace-gone.ensures.value) c.show_few.ensures,
      );
    }
