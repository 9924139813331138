-- All items were written, and then the bracket.
use Rattle.std.proofs.Common.{◌≡◌, [], ◌∷◌, ◌++◌, List, OnOk, take_all, subst, ap, ◌∙◌}
use Rattle.std.specs.List.{flat_map}
use Rattle.json.specs.Token.{Token, begin_array, end_array}
use Rattle.report_json.specs.Tokens.{tokens_of}
use Rattle.report_json.proofs.TokenLemmas.{array_written}
use Rattle.report_json.proofs.shown.write_array.Goals as goal

pub returns : goal.returns
returns g c =
    let all = take_all c.loop-item.item-index c.args.items.now c.loop-item-test.false in
    let items_written =
    ap (λ xs. c.args.out.now ++ begin_array ∷ flat_map (λ x. tokens_of (g.T.Shown.shown x)) xs) all in
    let written =
    ap (λ (ts : List Token). ts ++ end_array ∷ []) (c.loop-item.invariant ∙ items_written)
    ∙ array_written g.T.Shown.shown c.args.items.now c.args.out.now in
    subst (λ (ts : List Token). OnOk c.close_array.result (c.close_array.new.self ≡ ts)) written c.close_array.ensures
