-- Each row in its turn is kept or counted, or there is none.
use Rattle.duration_metric.proofs.SparseBooksLemmas.{adds_next}
use Rattle.duration_metric.proofs.sparse_books.keep_all.Goals as goal

pub loop-key-preserved : goal.loop-key-preserved
loop-key-preserved c =
    adds_next c.args.start c.args.end c.args.kept.now c.loop-key.kept c.keep.new.kept c.into_iter-key-iterator.result
    c.loop-key.invariant.0 c.loop-key.key-iterator c.next.new.self (c.in-Some.key, c.in-Some.time)
    c.loop-key.invariant.1 c.loop-key.invariant.2 c.in-Some.ensures.steps c.in_ok-keep.ensures
