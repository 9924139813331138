-- What was reported before is the answer, and taken out.
use Rattle.std.proofs.Common.{subst, sym, ◌∙◌}
use Rattle.hub_core.specs.Sleeping.{moment_of_clock}
use Rattle.hub_core.specs.Slots.{ReportsAt}
use Rattle.hub_core.proofs.CommandLemmas.{takes_out}
use Rattle.hub_core.proofs.LastReportLemmas.{still_there}
use Rattle.hub_core.proofs.lives.Lives.remove.Goals as goal

pub without-requires : goal.without-requires
without-requires c =
    let moment = moment_of_clock c.args.clock in
    let book = c.args.states.now in
    let report = subst (λ request. ReportsAt moment request book c.args.self.slots.entries
    c.in_ok-reported.reported.slots.entries c.in_ok-reported.last) c.last_request-request.ensures
    c.in_ok-reported.ensures.reports in
    still_there moment book c.args.name c.args.self.slots.entries c.in_ok-reported.reported.slots.entries
    c.in_ok-reported.last report ∙ sym c.contains_key.ensures ∙ c.if-not-contains_key.false

pub returns : goal.returns
returns c =
    let moment = moment_of_clock c.args.clock in
    let book = c.args.states.now in
    let report = subst (λ request. ReportsAt moment request book c.args.self.slots.entries
    c.in_ok-reported.reported.slots.entries c.in_ok-reported.last) c.last_request-request.ensures
    c.in_ok-reported.ensures.reports in
    takes_out moment book c.args.name c.args.self c.in_ok-reported.reported c.in_ok-lives.lives
    c.in_ok-reported.last report
    c.in_ok-reported.ensures.counts c.remove_answer.result (sym c.contains_key.ensures ∙ c.if-not-contains_key.false)
    c.in_ok-lives.ensures c.remove_answer.ensures
