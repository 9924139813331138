-- Each way to take a pull is one of the cases of the definition.
use Rattle.std.proofs.Common.{◌≡◌, true, sym, ap, subst, ◌∙◌}
use Rattle.atom_record.specs.Pulled.{is_pull_id}
use Rattle.indexmap.specs.Layout.{set_value_at}
use Rattle.pull_book.specs.PullBooks.{TakesPull}
use Rattle.pull_book.proofs.PullLemmas.{takes_unpulled, takes_present, ok_takes_new, there_in, absent_in}
use Rattle.pull_book.proofs.book.PullBook.set.Goals as goal

pub returns-then-not-is_pulled-clause-stands : goal.returns-then-not-is_pulled-clause-stands
returns-then-not-is_pulled-clause-stands c =
    takes_unpulled c.args.self.now c.args.id c.args.outcome (sym c.is_pulled.ensures.test ∙ c.if-not-is_pulled.true)

pub returns-in-Some-clause-stands : goal.returns-in-Some-clause-stands
returns-in-Some-clause-stands c =
    let pulled : is_pull_id c.args.id ≡ true = sym c.is_pulled.ensures.test ∙ c.if-not-is_pulled.false in
    let there =
    there_in c.self.inside.table.rows c.args.self.now c.self.view_is c.from.result c.args.id c.from.ensures
    c.in-Some.place c.in-Some.ensures.there in
    subst (λ new. TakesPull c.args.self.now new c.args.id c.args.outcome)
    (sym (c.replace.ensures ∙ ap (set_value_at c.args.self.now c.in-Some.place) c.new.ensures))
    (takes_present c.args.self.now c.args.id c.in-Some.place c.args.outcome pulled there)

pub returns-in-None-clause-stands : goal.returns-in-None-clause-stands
returns-in-None-clause-stands c =
    let pulled : is_pull_id c.args.id ≡ true = sym c.is_pulled.ensures.test ∙ c.if-not-is_pulled.false in
    let absent =
    absent_in c.self.inside.table.rows c.args.self.now c.self.view_is c.from.result c.args.id c.from.ensures
    c.in-None.ensures.absent in
    ok_takes_new c.args.self.now c.args.id absent c.append.new.self c.new-in-None.result c.args.outcome
    c.new-in-None.ensures pulled c.append.result c.append.ensures.kept
