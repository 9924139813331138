-- The members were written one after the other.
use Rattle.std.proofs.Common.{rules, ◌≡◌, ℕ, [], ◌∷◌, ◌++◌, List, OnOk, codes, subst, ap, ◌∙◌}
use Rattle.json.specs.Token.{Token, begin_object, end_object, key, string}
use Rattle.report_json.specs.ReportJson.{whole, integer, kind_of_metric, rows_json}
use Rattle.report_json.specs.Tokens.{tokens_of}
use Rattle.report_json.proofs.TokenLemmas.{after}
use Rattle.report_json.proofs.metric.MetricTreeShown.write.Goals as goal

pub returns : goal.returns
returns c =
    let metric = c.args.self.now in
    let begun : List Token = c.open_object.new.self in
    let based : List Token = c.whole_member.new.self in
    let dropped : List Token = c.whole_member-2.new.self in
    let named : List Token = c.integer_member.new.self in
    let kinded : List Token = c.string_member.new.self in
    let missing : List Token = c.whole_member-3.new.self in
    let kept : List Token = c.whole_member-4.new.self in
    let rowed : List Token = c.write_rows.new.out in
    let sized : List Token = c.whole_member-5.new.self in
    let begins : begun ≡ c.args.out.now ++ begin_object ∷ [] = c.in_ok-open_object.ensures in
    let bases : based ≡ begun ++ key (codes "base") ∷ tokens_of (whole metric.base) = c.in_ok-whole_member.ensures in
    let drops : dropped ≡ based ++ key (codes "dropped") ∷ tokens_of (whole metric.dropped) =
    c.in_ok-whole_member-2.ensures in
    let names : named ≡ dropped ++ key (codes "id") ∷ tokens_of (integer metric.id) = search rules in
    let kinds : kinded ≡ named ++ key (codes "kind") ∷ string (kind_of_metric metric.body) ∷ [] =
    c.in_ok-string_member.ensures
    ∙ ap (λ (text : List ℕ). named ++ key (codes "kind") ∷ string text ∷ []) c.kind_of.ensures in
    let misses : missing ≡ kinded ++ key (codes "missing") ∷ tokens_of (whole metric.missing) =
    c.in_ok-whole_member-3.ensures in
    let keeps : kept ≡ missing ++ key (codes "not_kept") ∷ tokens_of (whole metric.not_kept) =
    c.in_ok-whole_member-4.ensures in
    let rows : rowed ≡ kept ++ key (codes "rows") ∷ tokens_of (rows_json metric.body) = c.in_ok-write_rows.ensures in
    let sizes : sized ≡ rowed ++ key (codes "size") ∷ tokens_of (whole metric.size) = c.in_ok-whole_member-5.ensures in
    let written =
    after rowed sized (key (codes "size") ∷ tokens_of (whole metric.size)) (end_object ∷ []) sizes
    ∙ after kept rowed (key (codes "rows") ∷ tokens_of (rows_json metric.body)) _ rows
    ∙ after missing kept (key (codes "not_kept") ∷ tokens_of (whole metric.not_kept)) _ keeps
    ∙ after kinded missing (key (codes "missing") ∷ tokens_of (whole metric.missing)) _ misses
    ∙ after named kinded (key (codes "kind") ∷ string (kind_of_metric metric.body) ∷ []) _ kinds
    ∙ after dropped named (key (codes "id") ∷ tokens_of (integer metric.id)) _ names
    ∙ after based dropped (key (codes "dropped") ∷ tokens_of (whole metric.dropped)) _ drops
    ∙ after begun based (key (codes "base") ∷ tokens_of (whole metric.base)) _ bases
    ∙ after c.args.out.now begun (begin_object ∷ []) _ begins in
    subst (λ (ts : List Token). OnOk c.close_object.result (c.close_object.new.self ≡ ts)) written
    c.close_object.ensures
