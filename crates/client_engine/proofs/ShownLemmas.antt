-- A frame of the log and the one that is shown for it: alike but for what a pull gave.
use Rattle.std.proofs.Common.{◌≡◌, Bool, List, [], ◌∷◌, ◌++◌, refl, sym, ◌∙◌}
use Rattle.atom_record.specs.declared.log.LogFrame.{LogFrame}
use Rattle.atom_record.specs.declared.log.LogFrame.TheVariants.{Tick, AtomAt, Pull}
use Rattle.config_links.specs.declared.linked.LMetric.{LMetric}
use Rattle.config_links.specs.declared.linked.LPredicate.{LPredicate}
use Rattle.session_frames.specs.FrameReading.{log_time}
use Rattle.metric_meaning.specs.Histories.{Step, moment_of}
use Rattle.metric_meaning.specs.ShownFrames.{shown_as}
use Rattle.metric_meaning.specs.PredicateSteps.{tables_after}
use Rattle.metric_meaning.specs.Scenes.{Scene}
use Rattle.metric_meaning.specs.Arrivals.{arriving_by}
use Rattle.metric_meaning.proofs.PredicateStepsLemmas.{tables_after-idle}
use Rattle.client_engine.specs.NextSteps.{with_logged}
use Rattle.known_conditions.specs.Known.{logged_step}

-- both have the same time
pub shown_time : (log : List LogFrame) (frame : LogFrame) → log_time (shown_as log frame) ≡ log_time frame
shown_time log (Tick at) = refl
shown_time log (AtomAt at atom) = refl
shown_time log (Pull at id outcome) = refl

-- ends of buckets see them alike
pub shown_moment : (log : List LogFrame) (frame : LogFrame)
    → moment_of (shown_as log frame) (log_time (shown_as log frame)) ≡ moment_of frame (log_time frame)
shown_moment log (Tick at) = refl
shown_moment log (AtomAt at atom) = refl
shown_moment log (Pull at id outcome) = refl

-- the same atom arrives with both
pub shown_arriving : (scene : Scene) (metric : LMetric) (log : List LogFrame) (frame : LogFrame) (truths : List Bool)
    → arriving_by scene metric (logged_step (shown_as log frame) truths)
    ≡ arriving_by scene metric (logged_step frame truths)
shown_arriving scene metric log (Tick at) truths = refl
shown_arriving scene metric log (AtomAt at atom) truths = refl
shown_arriving scene metric log (Pull at id outcome) truths = refl

-- they make the same of predicates
pub shown_tables : (predicates : List LPredicate) (steps : List Step) (log : List LogFrame) (frame : LogFrame)
    (truths : List Bool)
    → tables_after predicates (steps ++ logged_step (shown_as log frame) truths ∷ [])
    ≡ tables_after predicates (with_logged steps frame truths)
shown_tables predicates steps log (Tick at) truths = refl
shown_tables predicates steps log (AtomAt at atom) truths = refl
shown_tables predicates steps log (Pull at id outcome) truths =
    tables_after-idle predicates steps (logged_step (shown_as log (Pull at id outcome)) truths) (λ predicate. refl)
    ∙ sym (tables_after-idle predicates steps (logged_step (Pull at id outcome) truths) (λ predicate. refl))
