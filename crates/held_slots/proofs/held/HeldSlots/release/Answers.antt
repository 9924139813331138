-- Each place's slot has an outside use left, until it is released.
use Rattle.std.proofs.Common.{◌≡◌, ◌<◌, List, ℕ, length, get_or, take_all, sym, ap, subst, ◌∙◌, arith}
use Rattle.matcher_table.specs.Tables.{outside_uses}
use Rattle.matcher_table.specs.Steps.{Releases}
use Rattle.matcher_table.specs.Contents.{contents_of}
use Rattle.held_slots.specs.HoldingSteps.{ReleasesAll}
use Rattle.held_slots.proofs.ReleaseLaws.{still_used, releases_more, releases_none}
use Rattle.held_slots.proofs.held.HeldSlots.release.Goals as goal

pub loop-number-init : goal.loop-number-init
loop-number-init c = releases_none (contents_of c.args.table.now)

pub release-requires : goal.release-requires
release-requires c =
    let i = c.loop-number.number-index in
    let same : c.as_slice-number-items.result.now ≡ c.args.self.now =
    c.as_slice-number-items.ensures ∙ c.self.view_is in
    let long : length c.as_slice-number-items.result.now ≡ length c.args.self.now = ap length same in
    subst (λ (slots : List ℕ). 0 < outside_uses (contents_of c.loop-number.table) (get_or slots i 0)) (sym same)
    (still_used c.args.self.now i (omega (arith, long)) (contents_of c.args.table.now)
    (contents_of c.loop-number.table) c.requires c.loop-number.invariant)

pub loop-number-preserved : goal.loop-number-preserved
loop-number-preserved c =
    let i = c.loop-number.number-index in
    let old = contents_of c.loop-number.table in
    let new = contents_of c.release.new.self in
    let same : c.as_slice-number-items.result.now ≡ c.args.self.now =
    c.as_slice-number-items.ensures ∙ c.self.view_is in
    let long : length c.as_slice-number-items.result.now ≡ length c.args.self.now = ap length same in
    let releases : Releases old (get_or c.args.self.now i 0) new =
    subst (λ (slots : List ℕ). Releases old (get_or slots i 0) new) same c.release.ensures.releases in
    releases_more c.args.self.now i (omega (arith, long)) (contents_of c.args.table.now) old c.requires
    c.loop-number.invariant new releases

pub returns : goal.returns
returns c =
    let same : c.as_slice-number-items.result.now ≡ c.args.self.now =
    c.as_slice-number-items.ensures ∙ c.self.view_is in
    let long : length c.as_slice-number-items.result.now ≡ length c.args.self.now = ap length same in
    subst (λ (slots : List ℕ). ReleasesAll (contents_of c.args.table.now) slots (contents_of c.loop-number.table))
    (take_all c.loop-number.number-index c.args.self.now (omega (arith, long))) c.loop-number.invariant
