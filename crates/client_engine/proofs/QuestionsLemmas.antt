-- How many questions each kind of metric asks at a frame of the log.
use Rattle.std.proofs.Common.{◌≡◌, ℕ, ◌+◌, ◌≤◌, Bool, true, false, ◌||◌, List, [], ◌∷◌, ◌++◌, take, if◌then◌else◌, refl, sym, ap, subst, ◌∙◌, arith}
use Rattle.std.specs.List.{sum_by}
use Rattle.std.proofs.lemmas.List.Sums.{sum_by_push, sum_by-take-le}
use Rattle.atom_record.specs.declared.atom.Atom.{Atom}
use Rattle.atom_record.specs.declared.log.LogFrame.{LogFrame}
use Rattle.atom_record.specs.declared.log.LogFrame.TheVariants.{Tick, AtomAt, Pull}
use Rattle.config_links.specs.declared.linked.LMetric.{LMetric}
use Rattle.config_links.specs.declared.linked.LPredicate.{LPredicate}
use Rattle.metric_meaning.specs.Histories.{Step, Installation, truth_at}
use Rattle.metric_meaning.specs.ShownFrames.{shown_as}
use Rattle.metric_meaning.specs.Touched.{names_atom_itself, timed_predicate, acts_below, is_touched}
use Rattle.client_engine.specs.AskedFew.{arrival_questions}
use Rattle.client_engine.specs.Handed.{Handed}
use Rattle.client_engine.specs.NextSteps.{MayLog}
use Rattle.client_engine.specs.Questions.{touched_questions, metric_questions, questions_of}

-- a frame that is shown as another costs as much
pub shown_questions : (metrics : List LMetric) (installed : Installation) (steps : List Step) (log : List LogFrame)
    (frame : LogFrame) (truths : List Bool)
    → questions_of metrics installed steps (shown_as log frame) truths
    ≡ questions_of metrics installed steps frame truths
shown_questions metrics installed steps log (Tick at) truths = refl
shown_questions metrics installed steps log (AtomAt at atom) truths = refl
shown_questions metrics installed steps log (Pull at id outcome) truths = refl

-- nothing and a number
zero_first : (n : ℕ) → 0 + n ≡ n
zero_first n = omega arith

-- the questions of one metric
pub one_questions : (installed : Installation) (steps : List Step) (at : ℕ) (atom : Atom) (truths : List Bool)
    (metric : LMetric)
    → questions_of (metric ∷ []) installed steps (AtomAt at atom) truths
    ≡ metric_questions installed steps truths metric
one_questions installed steps at atom truths metric = zero_first (metric_questions installed steps truths metric)

-- of one metric more
pub more_questions : (metrics : List LMetric) (metric : LMetric) (installed : Installation) (steps : List Step)
    (frame : LogFrame) (truths : List Bool)
    → questions_of (metrics ++ metric ∷ []) installed steps frame truths
    ≡ questions_of metrics installed steps frame truths + questions_of (metric ∷ []) installed steps frame truths
more_questions metrics metric installed steps (Tick at) truths = refl
more_questions metrics metric installed steps (AtomAt at atom) truths =
    sum_by_push (metric_questions installed steps truths) metrics metric
    ∙ ap (λ n. sum_by (metric_questions installed steps truths) metrics + n)
    (sym (zero_first (metric_questions installed steps truths metric)))
more_questions metrics metric installed steps (Pull at id outcome) truths = refl

-- the first ones have no more than all
pub first_questions : (metrics : List LMetric) (index : ℕ) (installed : Installation) (steps : List Step)
    (frame : LogFrame) (truths : List Bool)
    → questions_of (take index metrics) installed steps frame truths ≤ questions_of metrics installed steps frame truths
first_questions metrics index installed steps (Tick at) truths = omega arith
first_questions metrics index installed steps (AtomAt at atom) truths =
    sum_by-take-le (metric_questions installed steps truths) metrics index
first_questions metrics index installed steps (Pull at id outcome) truths = omega arith

-- one question at an atom that matches is one of a touched metric
matching : (matches others : Bool) (many before after : ℕ) → many ≡ 1
    → after ≤ before + (if matches then 1 else 0) → after ≤ before + (if matches || others then many else 0)
matching true others many before after one few = omega (arith, one, few)
matching false true many before after one few = omega (arith, one, few)
matching false false many before after one few = few

-- what is asked of an atom that arrives is no more than the questions of a metric that counts it
pub arrival_few : (installed : Installation) (steps : List Step) (shown : LogFrame) (truths : List Bool)
    (metric : LMetric) → names_atom_itself metric truths ≡ truth_at metric.what truths
    → touched_questions installed steps metric ≡ 1 → (before after : ℕ)
    → after ≤ before + arrival_questions shown truths metric
    → after ≤ before + questions_of (metric ∷ []) installed steps shown truths
arrival_few installed steps (Tick at) truths metric names one before after few = few
arrival_few installed steps (AtomAt at atom) truths metric names one before after few =
    let predicates = installed.linked.predicates in
    subst (λ n. after ≤ before + n) (sym (one_questions installed steps at atom truths metric))
    (matching (names_atom_itself metric truths)
    (acts_below predicates truths metric.condition || acts_below predicates truths (timed_predicate metric))
    (touched_questions installed steps metric) before after one
    (subst (λ (b : Bool). after ≤ before + (if b then 1 else 0)) (sym names) few))
arrival_few installed steps (Pull at id outcome) truths metric names one before after few = few

-- one question of a metric that is touched
pub touched_few : (given : Handed) (installed : Installation) (steps : List Step) (shown frame : LogFrame)
    (truths : List Bool) (metric : LMetric) (at : ℕ) (atom : Atom) → shown ≡ AtomAt at atom
    → is_touched given.known.predicates metric truths ≡ true → MayLog installed steps given shown frame truths
    → touched_questions installed steps metric ≡ 1 → (before after : ℕ) → after ≤ before + 1
    → after ≤ before + questions_of (metric ∷ []) installed steps shown truths
touched_few given installed steps shown frame truths metric at atom is touched may one before after few =
    let there : is_touched installed.linked.predicates metric truths ≡ true =
    sym (ap (λ (ps : List LPredicate). is_touched ps metric truths) may.found.predicates) ∙ touched in
    let many : questions_of (metric ∷ []) installed steps shown truths ≡ 1 =
    ap (λ f. questions_of (metric ∷ []) installed steps f truths) is
    ∙ one_questions installed steps at atom truths metric
    ∙ ap (λ (b : Bool). if b then touched_questions installed steps metric else 0) there ∙ one in
    omega (arith, many, few)
