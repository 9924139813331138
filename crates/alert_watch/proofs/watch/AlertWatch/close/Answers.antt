-- The tables were turned.
use Rattle.std.proofs.Common.{◌≡◌, ◌++◌, List, length, take, drop, min, refl, sym, ap, subst, ◌∙◌, arith}
use Rattle.alert_watch.specs.Windows.{PartsEnded}
use Rattle.alert_watch.specs.Watches.{WatchContents, KeyCounts}
use Rattle.alert_watch.specs.WindowParts.{Turns}
use Rattle.alert_watch.proofs.WatchLemmas.{takes_notice, ended, whole}
use Rattle.alert_watch.proofs.watch.AlertWatch.close.Goals as goal

pub invariant_of-self : goal.invariant_of-self
invariant_of-self c =
    let tables = c.self.inside.tables in
    let new = c.turn_all.new.tables in
    let were = c.as_mut_slice.ensures.value in
    let len : length new ≡ length tables.items = c.turn_all.ensures.len ∙ ap length were in
    let turned : Turns tables.items new c.min-turns.result =
    subst (λ l. Turns l new c.min-turns.result) were c.turn_all.ensures.turned in
    rw (whole new tables.items tables.len len tables.ok.0) (record {
      spec = c.self.invariant.spec;
      parts = len ∙ c.self.invariant.parts;
      tables = turned.tables c.self.inside.spec.bound c.self.invariant.tables;
      listed = c.self.invariant.listed;
    })

pub returns-clause-stands : goal.returns-clause-stands
returns-clause-stands c =
    let watch : WatchContents = record {
      spec = c.self.inside.spec;
      tables = c.self.inside.tables.items;
      last = c.self.inside.last;
      listed = c.self.inside.listed.items;
      not_kept = c.self.inside.not_kept;
    } in
    let tables = c.self.inside.tables in
    let new = c.turn_all.new.tables in
    let were = c.as_mut_slice.ensures.value in
    let len : length new ≡ length tables.items = c.turn_all.ensures.len ∙ ap length were in
    let turns_are : c.min-turns.result ≡ min c.args.parts watch.spec.parts =
    omega (arith, c.min-turns.ensures, c.from.ensures) in
    let turned : Turns tables.items new (min c.args.parts watch.spec.parts) =
    subst (λ l. Turns l new (min c.args.parts watch.spec.parts)) were
    (subst (λ n. Turns c.as_mut_slice.result.now new n) turns_are c.turn_all.ensures.turned) in
    let all = whole new tables.items tables.len len tables.ok.0 in
    let kept : List KeyCounts = take tables.len (new ++ drop (length new) tables.items) in
    rw (← c.self.view_is)
    (takes_notice watch (record watch { tables = kept }) (PartsEnded c.args.parts) refl (λ books has.
    ended watch (record watch { tables = kept }) c.self.invariant books c.args.parts has c.requires refl
    (ap length all ∙ len)
    (subst (λ l. Turns tables.items l (min c.args.parts watch.spec.parts)) (sym all) turned)))
