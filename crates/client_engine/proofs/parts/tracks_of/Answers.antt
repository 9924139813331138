use Rattle.std.proofs.Common.{◌∙◌, ℕ, [], subst}
use Rattle.metric_meaning.specs.Histories.{Installation}
use Rattle.known_conditions.specs.Known.{Known}
use Rattle.client_engine.specs.Opens.{IsOpeningOf}
use Rattle.client_engine.specs.SoundMetrics.{IsInstalledAt}
use Rattle.client_engine.specs.TrackStands.{TrackStandsFor}
use Rattle.client_engine.proofs.TracksLemmas.{placed, one_new}
use Rattle.client_engine.proofs.parts.tracks_of.Goals as goal

-- one more metric has its track
pub loop-metric-preserved : goal.loop-metric-preserved
loop-metric-preserved c =
    let opening = c.args.opening.now in
    let track = c.in_ok-new.field-0 in
    let stands : Known → ℕ → Type 0 =
    λ known place. (installed : Installation) → IsOpeningOf installed opening known
    → IsInstalledAt installed.linked place c.in-Some.metric → TrackStandsFor installed [] track in
    let tracks = c.loop-metric.tracks in (
      rw c.in_ok-push.ensures.items (one_new opening c.args.conditions.now c.loop-metric.yielded tracks.items
          c.in-Some.metric track c.loop-metric.invariant.0 c.in_ok-new.ensures.metric
          (subst (stands c.args.conditions.now)
          (c.len-place.ensures ∙ tracks.ok.0
          ∙ placed c.loop-metric.yielded tracks.items c.loop-metric.invariant.0.metrics_are)
          (subst (λ known. stands known c.len-place.result) c.loop-metric.invariant.1 c.in_ok-new.ensures.stands))),
      c.in_ok-new.ensures.known ∙ c.loop-metric.invariant.1,
    )
