-- Each row in its turn is kept or counted.
use Rattle.std.proofs.Common.{[], ◌∷◌, ◌++◌, sym, ap, ◌∙◌, append_assoc}
use Rattle.duration_metric.proofs.StepLemmas.{adds_span}
use Rattle.duration_metric.proofs.sum.keep_all.Goals as goal

pub loop-key-preserved : goal.loop-key-preserved
loop-key-preserved c =
    let done = c.loop-key.invariant.0 in (
      done ++ (c.in-Some.key, c.in-Some.span) ∷ [],
      c.loop-key.invariant.1 ∙ ap (λ l. done ++ l) c.in-Some.ensures.steps
          ∙ sym (append_assoc done ((c.in-Some.key, c.in-Some.span) ∷ []) c.next.new.self),
      adds_span c.args.start c.args.end c.args.kept.now c.loop-key.kept c.keep.new.kept done
          (c.in-Some.key, c.in-Some.span) c.loop-key.invariant.2 c.in_ok-keep.ensures,
    )
