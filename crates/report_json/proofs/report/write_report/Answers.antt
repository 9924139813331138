-- The members were written one after the other.
use Rattle.std.proofs.Common.{rules, ◌≡◌, [], ◌∷◌, ◌++◌, List, OnOk, codes, subst, ◌∙◌}
use Rattle.json.specs.Token.{Token, begin_object, end_object, key}
use Rattle.report_json.specs.ReportJson.{whole, integer, list_of, metric_json, drop_json, alarm_json, report_json}
use Rattle.report_json.specs.Tokens.{tokens_of}
use Rattle.report_json.proofs.TokenLemmas.{after, listed}
use Rattle.report_json.proofs.report.write_report.Goals as goal

pub returns : goal.returns
unfolding report_json
returns c =
    let tree = c.args.tree.now in
    let begun : List Token = c.open_object.new.self in
    let alarmed : List Token = c.write_member.new.out in
    let past : List Token = c.write_member-2.new.out in
    let named : List Token = c.integer_member.new.self in
    let dated : List Token = c.whole_member.new.self in
    let metered : List Token = c.write_member-3.new.out in
    let timed : List Token = c.whole_member-2.new.self in
    let asked : List Token = c.write_member-4.new.out in
    let counted : List Token = c.whole_member-3.new.self in
    let stated : List Token = c.write_member-5.new.out in
    let owned : List Token = c.integer_member-2.new.self in
    let begins : begun ≡ c.args.out.now ++ begin_object ∷ [] = search rules in
    let alarms : alarmed ≡ begun ++ key (codes "alarms") ∷ tokens_of (list_of alarm_json tree.alarms) =
    listed alarm_json (codes "alarms") begun alarmed _ tree.alarms c.in_ok-write_member.ensures c.as_slice.ensures in
    let others : past ≡ alarmed ++ key (codes "alarms_not_kept") ∷ tokens_of (list_of drop_json tree.alarms_not_kept) =
    listed drop_json (codes "alarms_not_kept") alarmed past _ tree.alarms_not_kept c.in_ok-write_member-2.ensures
    c.as_slice-2.ensures in
    let names : named ≡ past ++ key (codes "id") ∷ tokens_of (integer tree.id) = search rules in
    let dates : dated ≡ named ++ key (codes "last") ∷ tokens_of (whole tree.last) = search rules in
    let metrics : metered ≡ dated ++ key (codes "metrics") ∷ tokens_of (list_of metric_json tree.metrics) =
    listed metric_json (codes "metrics") dated metered _ tree.metrics c.in_ok-write_member-3.ensures
    c.as_slice-3.ensures in
    let times : timed ≡ metered ++ key (codes "now") ∷ tokens_of (whole tree.now) = search rules in
    let predicates : asked
    ≡ timed ++ key (codes "predicate_drops") ∷ tokens_of (list_of drop_json tree.predicate_drops) =
    listed drop_json (codes "predicate_drops") timed asked _ tree.predicate_drops c.in_ok-write_member-4.ensures
    c.as_slice-4.ensures in
    let atoms : counted ≡ asked ++ key (codes "state_atoms_dropped") ∷ tokens_of (whole tree.state_atoms_dropped) =
    search rules in
    let states : stated ≡ counted ++ key (codes "state_drops") ∷ tokens_of (list_of drop_json tree.state_drops) =
    listed drop_json (codes "state_drops") counted stated _ tree.state_drops c.in_ok-write_member-5.ensures
    c.as_slice-5.ensures in
    let owners : owned ≡ stated ++ key (codes "uid") ∷ tokens_of (integer tree.uid) = search rules in
    let written =
    after stated owned (key (codes "uid") ∷ tokens_of (integer tree.uid)) (end_object ∷ []) owners
    ∙ after counted stated (key (codes "state_drops") ∷ tokens_of (list_of drop_json tree.state_drops)) _ states
    ∙ after asked counted (key (codes "state_atoms_dropped") ∷ tokens_of (whole tree.state_atoms_dropped)) _ atoms
    ∙ after timed asked (key (codes "predicate_drops") ∷ tokens_of (list_of drop_json tree.predicate_drops)) _
    predicates
    ∙ after metered timed (key (codes "now") ∷ tokens_of (whole tree.now)) _ times
    ∙ after dated metered (key (codes "metrics") ∷ tokens_of (list_of metric_json tree.metrics)) _ metrics
    ∙ after named dated (key (codes "last") ∷ tokens_of (whole tree.last)) _ dates
    ∙ after past named (key (codes "id") ∷ tokens_of (integer tree.id)) _ names
    ∙ after alarmed past (key (codes "alarms_not_kept") ∷ tokens_of (list_of drop_json tree.alarms_not_kept)) _ others
    ∙ after begun alarmed (key (codes "alarms") ∷ tokens_of (list_of alarm_json tree.alarms)) _ alarms
    ∙ after c.args.out.now begun (begin_object ∷ []) _ begins in
    subst (λ (ts : List Token). OnOk c.close_object.result (c.close_object.new.self ≡ ts)) written
    c.close_object.ensures
