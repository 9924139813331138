-- The watches of all metrics take no more bytes than the alerts of the configuration weigh.
use Rattle.std.proofs.Common.{◌≡◌, ℕ, suc, ◌+◌, ◌≤◌, Bool, true, false, if◌then◌else◌, List, [], ◌∷◌, map, Some, refl, ap, ◌∙◌, arith}
use Rattle.std.specs.Prelude.{◌==◌, nat_le, filter, slice_get, All}
use Rattle.std.specs.List.{sum_by}
use Rattle.std.proofs.lemmas.Bool.{leb-true, leb-false, eqb-true, eqb-false}
use Rattle.std.proofs.lemmas.List.Elements.{All-head, All-tail}
use Rattle.std.proofs.lemmas.List.Sums.{sum_by-cons}
use Rattle.alert_watch.specs.WatchItems.{watch_items, IsWholeWatch}
use Rattle.alert_watch.specs.Watches.{WatchContents, WatchStandsFor}
use Rattle.alert_watch.specs.Windows.{Notice}
use Rattle.client_engine.specs.CountsAlong.{WatchedLane, CountsAlong}
use Rattle.client_engine.specs.Watches.{alerts_at, specs_at, specs_of, AllStandFor}
use Rattle.config_links.specs.declared.linked.LAlert.{LAlert}
use Rattle.config_links.specs.declared.linked.LKind.TheVariants as kinds
use Rattle.config_links.specs.declared.linked.LMetric.{LMetric}
use Rattle.config_types.specs.declared.parameters.AlertSpec.{AlertSpec}
use Rattle.metric_meaning.specs.AlertSteps.{notices_by}
use Rattle.metric_meaning.specs.Histories.{Step, Installation}
use Rattle.saved_length.proofs.LanesWithin.{watches_size}
use Rattle.saved_weight.proofs.SizeLaws.{full_size, sum_by-map}
use Rattle.saved_weight.proofs.WatchWithin.{watch_within}
use Rattle.saved_weight.specs.AlertWeights.{watch_weight, watched_as, found_weight, alert_weight}

-- what an alert may take: nineteen numbers, and what it weighs
abbrev pub alert_room : Installation → List Step → LAlert → ℕ
alert_room installed steps alert = 171 + alert_weight installed steps alert

-- watches that were told this take no more than their alerts weigh
watches_within : (notices : List Notice) (watches : List WatchContents) → All IsWholeWatch watches
    → AllStandFor notices watches
    → watches_size watches ≤ sum_by (λ spec. 171 + watch_weight spec notices) (specs_of watches)
watches_within notices [] whole stand = omega arith
watches_within notices (watch ∷ watches) whole stand =
    let rest = watches_within notices watches (All-tail IsWholeWatch watch watches whole)
    (All-tail (λ watch. WatchStandsFor watch notices) watch watches stand) in
    let here = watch_within watch notices (All-head IsWholeWatch watch watches whole)
    (All-head (λ watch. WatchStandsFor watch notices) watch watches stand) in
    let one = sum_by-cons (λ watch. full_size (watch_items watch)) watch watches in
    let other = sum_by-cons (λ spec. 171 + watch_weight spec notices) watch.spec (specs_of watches) in
    omega (arith, rest, here, one, other)

-- the alerts on a metric of counts at a place weigh what they are told
module _ (installed : Installation) (steps : List Step) (metric : LMetric) (overflow : Bool) (place : ℕ)
    (counts : metric.kind ≡ kinds.Count overflow)
    (at : slice_get installed.linked.metrics place ≡ Some metric) where
  -- one of them
  alert_is : (alert : LAlert) → (alert.metric == place) ≡ true
      → 171 + watch_weight alert.spec (notices_by installed metric steps) ≡ alert_room installed steps alert
  alert_is alert same =
      let there : alert.metric ≡ place = eqb-true alert.metric place same in
      let found : slice_get installed.linked.metrics alert.metric ≡ Some metric =
      ap (slice_get installed.linked.metrics) there ∙ at in
      let weight : alert_weight installed steps alert ≡ watch_weight alert.spec (notices_by installed metric steps) =
      ap (found_weight installed steps alert.spec) found
      ∙ ap (watched_as installed steps alert.spec metric) counts in
      omega (arith, weight)

  -- all of them
  alerts_are : (alerts : List LAlert)
      → sum_by (λ (alert : LAlert). 171 + watch_weight alert.spec (notices_by installed metric steps))
      (alerts_at place alerts)
      ≡ sum_by (alert_room installed steps) (alerts_at place alerts)
  alerts_are [] = refl
  alerts_are (alert ∷ alerts) = by (alert.metric == place) refl (alerts_are alerts) where
    by : (same : Bool) → (alert.metric == place) ≡ same
        → sum_by (λ (alert : LAlert). 171 + watch_weight alert.spec (notices_by installed metric steps))
        (alerts_at place alerts)
        ≡ sum_by (alert_room installed steps) (alerts_at place alerts)
        → sum_by (λ (alert : LAlert). 171 + watch_weight alert.spec (notices_by installed metric steps))
        (if same then alert ∷ alerts_at place alerts else alerts_at place alerts)
        ≡ sum_by (alert_room installed steps) (if same then alert ∷ alerts_at place alerts else alerts_at place alerts)
    by true is rest =
        let weight : LAlert → ℕ = λ alert. 171 + watch_weight alert.spec (notices_by installed metric steps) in
        let one = sum_by-cons weight alert (alerts_at place alerts) in
        let other = sum_by-cons (alert_room installed steps) alert (alerts_at place alerts) in
        let here = alert_is alert is in
        omega (arith, rest, one, other, here)
    by false is rest = rest

  -- the watches of its lane take no more than its alerts may
  pub lane_watches_within : (lane : WatchedLane) → CountsAlong metric installed steps lane
      → All IsWholeWatch lane.watches
      → watches_size lane.watches ≤ sum_by (alert_room installed steps) (alerts_at place installed.linked.alerts)
  lane_watches_within lane along whole =
      let notices = notices_by installed metric steps in
      let alerts = alerts_at place installed.linked.alerts in
      let weight : AlertSpec → ℕ = λ spec. 171 + watch_weight spec notices in
      let watches = watches_within notices lane.watches whole along.watches.stand in
      let specs = ap (sum_by weight) (along.watches.specs place at) in
      let by_alerts : sum_by weight (specs_at place installed.linked.alerts)
      ≡ sum_by (λ (alert : LAlert). weight alert.spec) alerts =
      sum_by-map weight (λ (alert : LAlert). alert.spec) alerts in
      let are = alerts_are installed.linked.alerts in
      omega (arith, watches, specs, by_alerts, are)

-- the alerts on metrics from a place on
abbrev pub alerts_from : ℕ → List LAlert → List LAlert
alerts_from place alerts = filter (λ (alert : LAlert). nat_le place alert.metric) alerts

-- those from a place on are those at the place, and those from the next on
pub alerts_split : (weight : LAlert → ℕ) (place : ℕ) (alerts : List LAlert)
    → sum_by weight (alerts_from place alerts)
    ≡ sum_by weight (alerts_at place alerts) + sum_by weight (alerts_from (suc place) alerts)
alerts_split weight place [] = omega arith
alerts_split weight place (alert ∷ alerts) =
    by (nat_le place alert.metric) (alert.metric == place) (nat_le (suc place) alert.metric) refl refl refl
    (alerts_split weight place alerts) where
      by : (from at after : Bool) → nat_le place alert.metric ≡ from → (alert.metric == place) ≡ at
          → nat_le (suc place) alert.metric ≡ after
          → sum_by weight (alerts_from place alerts)
          ≡ sum_by weight (alerts_at place alerts) + sum_by weight (alerts_from (suc place) alerts)
          → sum_by weight (if from then alert ∷ alerts_from place alerts else alerts_from place alerts)
          ≡ sum_by weight (if at then alert ∷ alerts_at place alerts else alerts_at place alerts)
          + sum_by weight
          (if after then alert ∷ alerts_from (suc place) alerts else alerts_from (suc place) alerts)
      by true true true is_from is_at is_after rest = absurd (let equal = eqb-true alert.metric place is_at in
          let above = leb-true (suc place) alert.metric is_after in
          omega (arith, equal, above))
      by true true false is_from is_at is_after rest =
          let all = sum_by-cons weight alert (alerts_from place alerts) in
          let here = sum_by-cons weight alert (alerts_at place alerts) in
          omega (arith, all, here, rest)
      by true false true is_from is_at is_after rest =
          let all = sum_by-cons weight alert (alerts_from place alerts) in
          let later = sum_by-cons weight alert (alerts_from (suc place) alerts) in
          omega (arith, all, later, rest)
      by true false false is_from is_at is_after rest = absurd (let here = leb-true place alert.metric is_from in
          let below = leb-false (suc place) alert.metric is_after in
          let other = eqb-false alert.metric place is_at in
          other (omega (arith, here, below)))
      by false true after is_from is_at is_after rest = absurd (let below = leb-false place alert.metric is_from in
          let equal = eqb-true alert.metric place is_at in
          omega (arith, below, equal))
      by false false true is_from is_at is_after rest = absurd (let below = leb-false place alert.metric is_from in
          let above = leb-true (suc place) alert.metric is_after in
          omega (arith, below, above))
      by false false false is_from is_at is_after rest = rest
