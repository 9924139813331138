-- What a read gives is what was left, in the words of all sources.
use Rattle.std.proofs.Common.{◌+◌, ◌≤◌, drop, refl, subst, arith, rules}
use Rattle.sd_io.specs.MemSource.{SourceContents, GivesPiece}
use Rattle.sd_io.proofs.MemLemmas.{GivesPiece-at, left-given, ended-given}
use Rattle.sd_io.proofs.mem_source.MemSourceSource.read.Goals as goal

pub returns-clause-gives : goal.returns-clause-gives
returns-clause-gives c =
    let held = c.self.inside in
    let given = c.give-count in
    subst (λ source. GivesPiece source c.args.buf.now given.result (drop (held.at + given.result) held.bytes.items)
    given.new.buf) c.self.view_is
    (GivesPiece-at held.bytes.items c.deref-2.result.now held.at _ c.args.buf.now given.result given.new.buf refl
    c.deref-2.ensures.value given.ensures.most given.ensures.given)

pub returns-clause-read : goal.returns-clause-read
returns-clause-read c =
    let gives = returns-clause-gives c in
    let some = subst (λ (source : SourceContents). 1 ≤ source.piece) c.self.view_is c.self.invariant.1 in
    record {
      bound = search rules;
      bytes = (
        left-given _ _ _ _ _ gives,
        λ none room. ended-given _ _ _ _ _ gives some none (omega (arith, c.give-count.auto.buf)),
      );
      cause = search rules;
    }
