-- A new key is listed or lost.
use Rattle.std.proofs.Common.{[], ◌∷◌, inl, inr, refl, arith}
use Rattle.bucket_meaning.specs.Marks.{Lost}
use Rattle.duration_metric.proofs.SparseTurnLemmas.{listed_or_lost}
use Rattle.duration_metric.proofs.sparse_keys.SparseKeys.append.Goals as goal

pub returns-then-dropped-before : goal.returns-then-dropped-before
returns-then-dropped-before c =
    listed_or_lost c.args.self.now c.args.at c.args.key.now c.requires.absent c.args.count c.admit_copy.new.self
    c.in_ok-admit_copy.field-0 (Lost ∷ []) (omega (arith, c.dropped-before.type_inv, c.dropped-before.ensures))
    c.in_ok-admit_copy.ensures.answer
    (inr (omega (arith, c.if-dropped-before.true, c.dropped.ensures, c.dropped-before.ensures), refl))

pub returns : goal.returns
returns c =
    listed_or_lost c.args.self.now c.args.at c.args.key.now c.requires.absent c.args.count c.admit_copy.new.self
    c.in_ok-admit_copy.field-0 [] (omega (arith, c.dropped-before.type_inv, c.dropped-before.ensures))
    c.in_ok-admit_copy.ensures.answer
    (inl (omega (arith, c.if-dropped-before.false, c.dropped.ensures, c.dropped-before.ensures), refl))
