-- The alert at the place, with its watch.
use Rattle.std.proofs.Common.{◌≡◌, ◌<◌, Some, length, slice_get, refl, sym, subst, ◌∙◌}
use Rattle.std.proofs.lemmas.Bool.{true≢false}
use Rattle.std.proofs.lemmas.Bool.Decides.{Decides-ltb}
use Rattle.std.proofs.lemmas.Option.{same_Some, slice_get_read, slice_get_within}
use Rattle.std.proofs.lemmas.Result.{on_ok_weaker}
use Rattle.client_engine.specs.Alarms.{AddsAlarms, untold_of, watch_at}
use Rattle.client_engine.proofs.alarms.show_at.Goals as goal

pub returns-in-Some : goal.returns-in-Some
returns-in-Some c =
    let alerts = c.args.alerts.now in
    let place = c.args.place in
    let found = c.in-Some.ensures.lookup in
    let within : place < length alerts = (Decides-ltb place (length alerts)).0 (sym found.0) in
    let here : slice_get alerts place ≡ Some c.in-Some.alert.now =
    slice_get_read alerts (length alerts) place c.in-Some.alert.now refl within found.1 in
    let watch = c.watch_of-watch.result in
    let old = c.args.shown.now in
    let new = c.show_watch.new.shown in
    on_ok_weaker c.show_watch.result
    (λ adds alert there.
    subst (λ one. AddsAlarms one (untold_of (watch_at alerts place c.args.tracks.now)) old new)
    (same_Some c.in-Some.alert.now alert (sym here ∙ there))
    (subst (λ told. AddsAlarms c.in-Some.alert.now (untold_of told) old new) c.watch_of-watch.ensures adds))
    c.show_watch.ensures

-- past the end there is no alert
pub returns-in-None : goal.returns-in-None
returns-in-None c = λ alert there.
    let within = slice_get_within c.args.alerts.now c.args.place alert there in
    absurd (true≢false (sym ((Decides-ltb c.args.place (length c.args.alerts.now)).1 within)
    ∙ sym c.in-None.ensures.lookup.0))
