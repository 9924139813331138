-- A kept id stays kept, and another one is kept where it is pulled and there is room.
use Rattle.std.proofs.Common.{◌≡◌, true, false, length, nat_lt, slice_get, Some, All, inl, refl, sym, ap, subst, ◌∙◌}
use Rattle.std.specs.Map.{keys_of}
use Rattle.dim_table.proofs.KeyLemmas.{Contains-from_place}
use Rattle.pull_book.specs.PullBooks.{IsKeptRow}
use Rattle.pull_book.proofs.PullLemmas.{next_there, next_new, id_pulled, there_in, absent_in}
use Rattle.pull_book.proofs.book.PullBook.keeps.Goals as goal

pub returns-in-Some-clause-answers : goal.returns-in-Some-clause-answers
returns-in-Some-clause-answers c =
    next_there c.args.self.now c.args.id c.in-Some.field-0
    (there_in c.self.inside.table.rows c.args.self.now c.self.view_is c.from.result c.args.id c.from.ensures
    c.in-Some.field-0 c.in-Some.ensures.there)

pub returns-in-Some-clause-room : goal.returns-in-Some-clause-room
returns-in-Some-clause-room c =
    let there : slice_get (keys_of c.args.self.now) c.in-Some.field-0 ≡ Some c.args.id =
    there_in c.self.inside.table.rows c.args.self.now c.self.view_is c.from.result c.args.id c.from.ensures
    c.in-Some.field-0 c.in-Some.ensures.there in
    let rows = subst (λ rows. All IsKeptRow rows) c.self.view_is c.self.invariant.rows_kept in (
      λ _. (
        id_pulled c.args.self.now c.args.id c.in-Some.field-0 there rows,
        inl (Contains-from_place (keys_of c.args.self.now) c.in-Some.field-0 c.args.id there),
      ),
      λ _. refl,
    )

pub returns-then-not-is_pulled-clause-answers : goal.returns-then-not-is_pulled-clause-answers
returns-then-not-is_pulled-clause-answers c frames stands =
    next_new c.args.self.now c.args.id
    (absent_in c.self.inside.table.rows c.args.self.now c.self.view_is c.from.result c.args.id c.from.ensures
    c.in-None.ensures.absent)
    frames stands false (sym c.is_pulled.ensures.test ∙ c.if-not-is_pulled.true)

pub returns-else-not-is_pulled-clause-answers : goal.returns-else-not-is_pulled-clause-answers
returns-else-not-is_pulled-clause-answers c frames stands =
    ap (λ n. nat_lt n 256) (c.len.ensures.value ∙ ap length c.self.view_is)
    ∙ next_new c.args.self.now c.args.id
    (absent_in c.self.inside.table.rows c.args.self.now c.self.view_is c.from.result c.args.id c.from.ensures
    c.in-None.ensures.absent)
    frames stands true (sym c.is_pulled.ensures.test ∙ c.if-not-is_pulled.false)
