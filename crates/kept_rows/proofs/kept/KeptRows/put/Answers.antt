use Rattle.std.proofs.Common.{◌≡◌, ◌+◌, refl, sym, subst, ◌∙◌, arith}
use Rattle.std.proofs.lemmas.Bool.{false≢true}
use Rattle.kept_rows.specs.KeptRows.{Keeping, HasRoom}
use Rattle.kept_rows.proofs.KeptRowsLemmas.{keeps, turns_away}
use Rattle.kept_rows.proofs.kept.KeptRows.put.Goals as goal

-- the row finds no room
pub returns-then-not-has_room-clause-stands : goal.returns-then-not-has_room-clause-stands
returns-then-not-has_room-clause-stands g c = λ weigh same.
    let old : Keeping _ = record {
      rows = c.self.inside.rows;
      used = c.self.inside.used;
      others = c.self.inside.others;
    } in
    let weighs : weigh c.args.row ≡ c.weight-weight.result = same ∙ sym c.weight-weight.ensures.value in
    rw (← c.self.view_is) (turns_away weigh old c.args.row c.weight-weight.result
    c.saturating_add-self-inside.result weighs
    (subst (λ (it : Keeping _). ¬ HasRoom it c.weight-weight.result) (sym c.self.view_is)
    (λ room. false≢true (c.if-not-has_room.ensures.1 room)))
    c.self.invariant.bounded (omega (arith, c.saturating_add-self-inside.ensures)))

-- the row fits
pub returns-clause-stands : goal.returns-clause-stands
returns-clause-stands g c = λ weigh same.
    let old : Keeping _ = record {
      rows = c.self.inside.rows;
      used = c.self.inside.used;
      others = c.self.inside.others;
    } in
    let weighs : weigh c.args.row ≡ c.weight-weight.result = same ∙ sym c.weight-weight.ensures.value in
    let room : HasRoom old c.weight-weight.result =
    subst (λ (it : Keeping _). HasRoom it c.weight-weight.result) (sym c.self.view_is)
    (c.if-not-has_room.ensures.0 refl) in
    rw (← c.self.view_is, c.in_ok-push.ensures.added) (keeps weigh old c.args.row
    (c.self.inside.used + c.weight-weight.result) room.none_turned_away (omega (arith, weighs, room.fits))
    (omega (arith, weighs)))
