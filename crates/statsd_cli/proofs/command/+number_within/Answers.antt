-- A digit that is taken leaves the others, and one that isn't ends it.
use Rattle.std.proofs.Common.{rules, arith, ◌≡◌, ◌∙◌, [], sym, ap}
use Rattle.std.proofs.lemmas.List.{nil_from_length}
use Rattle.std.proofs.lemmas.Slice.{first_rest}
use Rattle.statsd_cli.specs.Commands.{number_within}
use Rattle.statsd_cli.proofs.CommandLemmas.{within-nil, within-none, within-some}
use Rattle.statsd_cli.proofs.command.+number_within.Goals as goal

pub returns-in_err-front-in-len1-up-clause-number : goal.returns-in_err-front-in-len1-up-clause-number
returns-in_err-front-in-len1-up-clause-number t c =
    let none = ap (number_within c.args.most c.args.front) (first_rest c.args.digits.now 0 c.in-len1-up.len_at_least)
    ∙ within-none c.args.most c.args.front _ _ c.in_err-front-in-len1-up.ensures in
    search (rules, none)

pub returns-in-empty-clause-number : goal.returns-in-empty-clause-number
returns-in-empty-clause-number t c =
    let none : c.args.digits.now ≡ [] = nil_from_length c.args.digits.now (omega (arith, c.in-empty.len_below)) in
    sym (ap (number_within c.args.most c.args.front) none ∙ within-nil c.args.most c.args.front c.requires)

pub returns-in_ok-front-in-len1-up-clause-number : goal.returns-in_ok-front-in-len1-up-clause-number
returns-in_ok-front-in-len1-up-clause-number t c =
    c.number_within.ensures.number
    ∙ sym (ap (number_within c.args.most c.args.front) (first_rest c.args.digits.now 0 c.in-len1-up.len_at_least)
    ∙ within-some c.args.most c.args.front _ _ _ c.in_ok-front-in-len1-up.ensures)
