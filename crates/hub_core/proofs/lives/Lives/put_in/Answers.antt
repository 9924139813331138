-- What was reported before is the answer, and replaced by what goes in.
use Rattle.std.proofs.Common.{◌<◌, refl, subst, sym}
use Rattle.hub_core.specs.Sleeping.{moment_of_clock}
use Rattle.hub_core.specs.Slots.{ReportsAt}
use Rattle.hub_core.proofs.CommandLemmas.{same_others, puts_in}
use Rattle.hub_core.proofs.lives.Lives.put_in.Goals as goal

pub with_fresh-requires-clause-room : goal.with_fresh-requires-clause-room
with_fresh-requires-clause-room c =
    let moment = moment_of_clock c.args.clock in
    let book = c.args.books.now.states in
    let report = subst (λ request. ReportsAt moment request book c.args.self.slots.entries
    c.in_ok-reported.reported.slots.entries c.in_ok-reported.last) c.last_request-request.ensures
    c.in_ok-reported.ensures.reports in
    subst (λ n. n < 10) (sym (same_others moment book c.args.accepted.name c.args.self c.in_ok-reported.reported
    c.in_ok-reported.reported c.in_ok-reported.last report c.in_ok-reported.ensures.counts)) c.requires.room

pub returns : goal.returns
returns c =
    let moment = moment_of_clock c.args.clock in
    let book = c.args.books.now.states in
    let report = subst (λ request. ReportsAt moment request book c.args.self.slots.entries
    c.in_ok-reported.reported.slots.entries c.in_ok-reported.last) c.last_request-request.ensures
    c.in_ok-reported.ensures.reports in
    puts_in moment book c.args.accepted.name c.args.self c.in_ok-reported.reported c.in_ok-lives.lives
    c.in_ok-reported.last report
    c.in_ok-reported.ensures.counts c.args.books.now c.args.accepted refl c.install_answer.result refl
    c.in_ok-lives.ensures
    c.install_answer.ensures
