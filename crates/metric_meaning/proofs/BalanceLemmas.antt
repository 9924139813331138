-- The books of metrics that count, of events and of sums of durations balance.
use Rattle.std.proofs.Common.{◌≡◌, ℕ, ◌+◌, ◌-◌, ◌^◌, ◌==◌, ◌<◌, ◌≤◌, Bool, true, false, List, [], ◌∷◌, ◌++◌, map, length, Option, Some, None, refl, sym, ap, ◌∙◌, arith, option_to_list, if◌then◌else◌, nat_lt, zero, suc, replicate}
use Rattle.std.specs.Cmp.Lexicographic.{pointwise}
use Rattle.std.specs.List.{sum_by, sum}
use Rattle.std.proofs.lemmas.Bool.{true≢false}
use Rattle.std.proofs.lemmas.Bool.Decides.{nat_tests}
use Rattle.std.proofs.lemmas.List.{length-append}
use Rattle.std.proofs.lemmas.List.Concat.{length-flat_map}
use Rattle.std.proofs.lemmas.List.Sums.{sum_by-cons, sum_by-append}
use Rattle.sd_base.specs.Outputs.{outputs_after}
use Rattle.atom_record.specs.Equal.{metric_key_exact}
use Rattle.atom_record.specs.declared.atom.Atom.{Atom}
use Rattle.atom_record.specs.declared.value.MetricKey.{MetricKey}
use Rattle.bucket_meaning.specs.Marks.{Mark, Ends, Came, Lost, Asked, no_edges, boundary_marks}
use Rattle.config_links.specs.declared.linked.LMetric.{LMetric}
use Rattle.config_types.specs.declared.parameters.PredSpec.{PredSpec}
use Rattle.metric_producer.specs.declared.row.CountCell.{CountCell}
use Rattle.metric_producer.specs.declared.row.Row.{Row}
use Rattle.metric_kinds.specs.Counts.{key_cell, overflow_cell, no_key}
use Rattle.metric_kinds.specs.Durations.{turned}
use Rattle.metric_kinds.specs.Events.{EventAtom, event_row}
use Rattle.metric_kinds.specs.Keys.{is_same_key}
use Rattle.metric_kinds.specs.Runs.{Active}
use Rattle.metric_meaning.specs.Histories.{What, Logged, Reported, Step, Installation}
use Rattle.metric_meaning.specs.Arrivals.{arriving}
use Rattle.metric_meaning.specs.CountSteps.{arrival_at, arrival_mark, count_news, count_way}
use Rattle.metric_meaning.specs.EventSteps.{event_marks, event_news, event_way}
use Rattle.metric_meaning.specs.StepMarks.{StepNews, crossed_at, cut_marks, marks_at, marks_of}
use Rattle.metric_meaning.specs.DurationSteps.{inner_after, active_keys, inner_drops, sum_news, sum_way}
use Rattle.metric_meaning.specs.Balance.{arrived_by, drops_by, shown_by_reports, not_kept_by_reports, waiting_for_report, counted_keys, row_counted, row_gathered, row_value, CountsBalance, event_atoms, row_events, EventsBalance, SumsBalance}
use Rattle.metric_meaning.proofs.MarksBalance.{arrived_by_all, asks, lost_at, HasNoReport}
use Rattle.metric_meaning.proofs.StepsBalance.{IsQuietNews, both_quiet, all_in_parts}
use Rattle.metric_meaning.proofs.PartedLemmas.{sum_by-zero}
use Rattle.metric_meaning.proofs.AmountsBalance.{amounts_balance}
use Rattle.metric_meaning.proofs.NumbersBalance.{sum_by-ones, away_fits, numbers_balance, gathered_balance}

-- no step brings more than one
outputs-few : {A : Type 0} (gives : List Step → Step → Option A) (before steps : List Step)
    → length (outputs_after (λ before step. option_to_list (gives before step)) before steps) ≤ length steps
outputs-few gives before [] = omega arith
outputs-few gives before (step ∷ steps) =
    let rest = outputs-few gives (before ++ step ∷ []) steps in
    let others = outputs_after (λ before step. option_to_list (gives before step)) (before ++ step ∷ []) steps in
    by_case (gives before step) others rest where
      by_case : {A : Type 0} (given : Option A) (others : List A) → length others ≤ length steps
          → length (option_to_list given ++ others) ≤ length (step ∷ steps)
      by_case None others rest = omega (arith, rest, length-append (step ∷ []) steps)
      by_case (Some x) others rest =
          omega (arith, rest, length-append (step ∷ []) steps, length-append (x ∷ []) others)

-- where nothing stands at boundaries, nothing comes there, and nothing is lost
quiet_ends : {X : Type 0} (f : Mark X → ℕ) → ((at : ℕ) → f (Ends at) ≡ 0) → (ends : List ℕ)
    → sum_by f (boundary_marks no_edges ends) ≡ 0
quiet_ends f none [] = refl
quiet_ends f none (at ∷ ends) =
    omega (arith, sum_by-cons f (Ends at) (boundary_marks no_edges ends), none at, quiet_ends f none ends)

quiet_cut : {X : Type 0} (f : Mark X → ℕ) → ((at : ℕ) → f (Ends at) ≡ 0) → (size : ℕ) (cut : Bool) (at : ℕ)
    → sum_by f (cut_marks no_edges size cut at) ≡ 0
quiet_cut f none size false at = refl
quiet_cut f none size true at = by_size (nat_lt 0 size) where
  by_size : (b : Bool) → sum_by f (if b then Ends at ∷ [] else []) ≡ 0
  by_size true = omega (arith, sum_by-cons f (Ends at) [], none at)
  by_size false = refl

-- Kinds at whose beginning and boundaries nothing stands, and to which at most one arrival comes at a step.
module _ {X A : Type 0} (gives : List Step → Step → Option A) (marks : Step → Option A → List (Mark X))
    (silent : (before : List Step) (at : ℕ) (cut : Bool) (truths : List Bool)
    → gives before (record { at = at; what = Reported cut; truths = truths }) ≡ None)
    (base size : ℕ) where
  abbrev news : StepNews X
  news = record { begins = []; edges = λ before. no_edges; comes = λ before step. marks step (gives before step) }

  -- by a number of each mark, which is 0 at an end
  module _ (f : Mark X → ℕ) (ends : (at : ℕ) → f (Ends at) ≡ 0) (asked : f Asked ≡ 0) (worth : ℕ)
      (none : (step : Step) → sum_by f (marks step None) ≡ 0)
      (some : (step : Step) (x : A) → sum_by f (marks step (Some x)) ≡ worth) where
    one_step : (before : List Step) (at : ℕ) (what : What) (truths : List Bool)
        → let step : Step = record { at = at; what = what; truths = truths } in
        sum_by f (marks_at news base size before step) ≡ sum_by (λ (x : A). worth) (option_to_list (gives before step))
    one_step before at (Logged frame) truths =
        let step : Step = record { at = at; what = Logged frame; truths = truths } in
        let crossed = crossed_at base size before step in
        let apart = sum_by-append f (boundary_marks no_edges crossed) (marks step (gives before step)) in
        let quiet = quiet_ends f ends crossed in
        let here = by_case step (gives before step) in
        omega (arith, apart, quiet, here) where
          by_case : (step : Step) (given : Option A)
              → sum_by f (marks step given) ≡ sum_by (λ (x : A). worth) (option_to_list given)
          by_case step None = none step
          by_case step (Some x) = some step x ∙ sym (sum_by-cons (λ (x : A). worth) x [] ∙ omega arith)
    one_step before at (Reported cut) truths =
        let step : Step = record { at = at; what = Reported cut; truths = truths } in
        let cuts : List (Mark X) = cut_marks no_edges size cut at in
        let apart = sum_by-append f cuts (Asked ∷ []) in
        let last = sum_by-cons f Asked [] in
        let nothing = ap (λ given. sum_by (λ (x : A). worth) (option_to_list given)) (silent before at cut truths) in
        omega (arith, apart, quiet_cut f ends size cut at, last, asked, nothing)

    all_steps : (before steps : List Step)
        → sum_by f (outputs_after (marks_at news base size) before steps)
        ≡ sum_by (λ (x : A). worth) (outputs_after (λ before step. option_to_list (gives before step)) before steps)
    all_steps before [] = refl
    all_steps before (step ∷ steps) =
        let later = before ++ step ∷ [] in
        let apart = sum_by-append f (marks_at news base size before step)
        (outputs_after (marks_at news base size) later steps) in
        let each = sum_by-append (λ (x : A). worth) (option_to_list (gives before step))
        (outputs_after (λ before step. option_to_list (gives before step)) later steps) in
        omega (arith, apart, each, one_step before step.at step.what step.truths, all_steps later steps)

-- at a metric of counts
module _ (installed : Installation) (metric : LMetric) where
  counts_silent : (before : List Step) (at : ℕ) (cut : Bool) (truths : List Bool)
      → arrival_at installed metric before (record { at = at; what = Reported cut; truths = truths }) ≡ None
  counts_silent before at cut truths = refl

  count_quiet : IsQuietNews (count_news installed metric)
  count_quiet = record {
    begins = refl;
    edges = λ before. record { closing = λ at. refl; closing_again = λ at. refl; opening = λ at. refl };
    comes = λ before step. by_case (arrival_at installed metric before step);
  } where
    by_case : (given : Option MetricKey) → sum_by asks (arrival_mark given) ≡ 0
    by_case None = refl
    by_case (Some key) = refl

  -- all that its marks bring are the keys that arrived
  count_came : (steps : List Step)
      → length (arrived_by_all (marks_of (count_news installed metric) installed.base metric.size steps))
      ≡ length (counted_keys installed metric steps)
  count_came steps =
      let marks = marks_of (count_news installed metric) installed.base metric.size steps in
      length-flat_map arrived_by marks
      ∙ all_steps (arrival_at installed metric) (λ step. arrival_mark) counts_silent installed.base metric.size
      (λ mark. length (arrived_by mark)) (λ at. refl) refl 1 (λ step. refl) (λ step key. refl) [] steps
      ∙ sum_by-ones (counted_keys installed metric steps)

  -- and none is lost before it arrives
  count_lost : (steps : List Step)
      → sum_by lost_at (marks_of (count_news installed metric) installed.base metric.size steps) ≡ 0
  count_lost steps =
      all_steps (arrival_at installed metric) (λ step. arrival_mark) counts_silent installed.base metric.size lost_at
      (λ at. refl) refl 0 (λ step. refl) (λ step key. refl) [] steps ∙ sum_by-zero (counted_keys installed metric steps)

  -- the row of a key has its arrivals, and none that was dropped
  count_row : (overflow : Bool) (start end : ℕ) (key : MetricKey) (ones : List ℕ) → length ones < 2 ^ 64
      → sum_by row_counted ((count_way installed metric overflow).kind.row start end key ones) ≡ length ones
  count_row overflow start end key ones fits =
      let row : Row CountCell =
      record { key = key; start = start; end = end; value = key_cell (length ones) } in
      sum_by-cons row_counted row [] ∙ omega (arith, fits)

  none_in_row : (overflow : Bool) (start end : ℕ) (key : MetricKey) (ones : List ℕ)
      → sum_by row_gathered ((count_way installed metric overflow).kind.row start end key ones) ≡ 0
  none_in_row overflow start end key ones =
      let row : Row CountCell =
      record { key = key; start = start; end = end; value = key_cell (length ones) } in
      sum_by-cons row_gathered row []

  -- an overflow row has what was dropped, and no arrival of a key of its own
  none_counted : (overflow : Bool) (start end : ℕ) (others : List (MetricKey × ℕ))
      → sum_by row_counted ((count_way installed metric overflow).kind.others start end others) ≡ 0
  none_counted false start end others = refl
  none_counted true start end [] = refl
  none_counted true start end (first ∷ more) =
      let row : Row CountCell =
      record { key = no_key; start = start; end = end; value = overflow_cell (length (first ∷ more)) } in
      sum_by-cons row_counted row []

  all_gathered : (start end : ℕ) (others : List (MetricKey × ℕ)) → length others < 2 ^ 64
      → sum_by row_gathered ((count_way installed metric true).kind.others start end others) ≡ length others
  all_gathered start end [] fits = refl
  all_gathered start end (first ∷ more) fits =
      let row : Row CountCell =
      record { key = no_key; start = start; end = end; value = overflow_cell (length (first ∷ more)) } in
      sum_by-cons row_gathered row [] ∙ omega (arith, fits)

  -- its books balance
  pub counts_balance : (overflow : Bool) (steps : List Step) (now : ℕ) → length steps < 2 ^ 64
      → CountsBalance installed metric overflow steps now
  counts_balance overflow steps now fits =
      let few = outputs-few (arrival_at installed metric) [] steps in
      let fit : length (arrived_by_all (marks_of (count_news installed metric) installed.base metric.size steps))
      < 2 ^ 64 =
      omega (arith, count_came steps, few, fits) in
      record {
        arrived = sym (count_came steps)
            ∙ numbers_balance (count_way installed metric overflow) count_quiet metric_key_exact (λ came end. refl)
            (λ came. refl) row_counted (none_counted overflow) (count_row overflow) steps now fit (count_lost steps);
        gathered = gathered overflow fit;
      } where
        gathered : (overflow : Bool)
            → length (arrived_by_all (marks_of (count_news installed metric) installed.base metric.size steps)) < 2 ^ 64
            → overflow ≡ true
            → let way = count_way installed metric overflow in
            drops_by way steps
            ≡ shown_by_reports way row_gathered steps + not_kept_by_reports way row_gathered steps
            + waiting_for_report way row_gathered steps now
        gathered false fit is = absurd (true≢false (sym is))
        gathered true fit is =
            gathered_balance (count_way installed metric true) count_quiet metric_key_exact (λ came end. refl)
            (λ came. refl) row_gathered all_gathered (none_in_row true) steps now
            (away_fits (count_way installed metric true) count_quiet metric_key_exact (λ came end. refl)
            (λ came. refl) row_counted (none_counted true) (count_row true) steps now fit) (count_lost steps)

  events_silent : (before : List Step) (at : ℕ) (cut : Bool) (truths : List Bool)
      → arriving installed metric before (record { at = at; what = Reported cut; truths = truths }) ≡ None
  events_silent before at cut truths = refl

  event_quiet : IsQuietNews (event_news installed metric)
  event_quiet = record {
    begins = refl;
    edges = λ before. record { closing = λ at. refl; closing_again = λ at. refl; opening = λ at. refl };
    comes = λ before step. by_case step (arriving installed metric before step);
  } where
    by_case : (step : Step) (given : Option Atom) → sum_by asks (event_marks step.at given) ≡ 0
    by_case step None = refl
    by_case step (Some atom) = refl

  -- the books of a metric of events balance
  pub events_balance : (steps : List Step) (now : ℕ) → length steps < 2 ^ 64 → EventsBalance installed metric steps now
  events_balance steps now fits =
      let gives = arriving installed metric in
      let marks = marks_of (event_news installed metric) installed.base 0 steps in
      let atoms = event_atoms installed metric steps in
      let came : length (arrived_by_all marks) ≡ length atoms =
      length-flat_map arrived_by marks
      ∙ all_steps gives (λ (step : Step). event_marks step.at) events_silent installed.base 0
      (λ mark. length (arrived_by mark)) (λ at. refl) refl 1 (λ step. refl) (λ step atom. refl) [] steps
      ∙ sum_by-ones atoms in
      let lost : sum_by lost_at marks ≡ 0 =
      all_steps gives (λ (step : Step). event_marks step.at) events_silent installed.base 0 lost_at (λ at. refl) refl 0
      (λ step. refl) (λ step atom. refl) [] steps ∙ sum_by-zero atoms in
      let few = outputs-few gives [] steps in
      sym came
      ∙ numbers_balance (event_way installed metric) event_quiet metric_key_exact (λ came end. refl) (λ came. refl)
      row_events (λ start end others. refl) event_rows steps now (omega (arith, came, few, fits)) lost where
        event_rows : (start end : ℕ) (key : MetricKey) (events : List EventAtom) → length events < 2 ^ 64
            → sum_by row_events ((event_way installed metric).kind.row start end key events) ≡ length events
        event_rows start end key [] fits = refl
        event_rows start end key (event ∷ events) fits =
            let rest = event_rows start end key events (omega (arith, length-append (event ∷ []) events, fits)) in
            omega (
              arith,
              sum_by-cons row_events (event_row event) (map event_row events),
              rest,
              length-append
                  (event ∷ []) events,
            )

  sum_quiet : (spec : PredSpec) → IsQuietNews (sum_news installed metric spec)
  sum_quiet spec = record {
    begins = refl;
    edges = λ before. record { closing = λ at. refl; closing_again = λ at. refl; opening = λ at. refl };
    comes = λ before step.
        both_quiet (inner_drops installed metric spec before step)
        (turned step.at (active_keys installed metric spec before)
        (active_keys installed metric spec (before ++ step ∷ [])))
        (lost_quiet ((inner_after installed metric spec (before ++ step ∷ [])).dropped
        - (inner_after installed metric spec before).dropped))
        (turn_quiet step.at (active_keys installed metric spec (before ++ step ∷ []))
        (pointwise is_same_key (active_keys installed metric spec before)
        (active_keys installed metric spec (before ++ step ∷ []))));
  } where
    lost_quiet : (n : ℕ) → HasNoReport {X = Active MetricKey} (replicate n Lost)
    lost_quiet zero = refl
    lost_quiet (suc n) =
        omega (arith, sum_by-cons (asks {X = Active MetricKey}) Lost (replicate n Lost), lost_quiet n)

    turn_quiet : (at : ℕ) (keys : List MetricKey) (same : Bool)
        → HasNoReport {X = Active MetricKey} (if same then [] else Came (record { at = at; keys = keys }) ∷ [])
    turn_quiet at keys true = refl
    turn_quiet at keys false = refl

  -- the books of sums of durations balance
  pub sums_balance : (spec : PredSpec) (steps : List Step) (now : ℕ) → SumsBalance installed metric spec steps now
  sums_balance spec steps now = record {
    parts = all_in_parts (sum_way installed metric spec) (sum_quiet spec) steps now;
    times = amounts_balance (sum_way installed metric spec) metric_key_exact row_value
        (λ start end others. refl) (λ time. time) (λ n. n ≡ n) (λ m n le fits. refl) time_row steps now refl;
  } where
    time_row : (start end : ℕ) (key : MetricKey) (times : List ℕ)
        → sum_by (λ time. time) times ≡ sum_by (λ time. time) times
        → sum_by row_value ((sum_way installed metric spec).kind.row start end key times) ≡ sum_by (λ time. time) times
    time_row start end key times fits = by_case (sum times) (sum times == 0) refl where
      by_case : (time : ℕ) (b : Bool) → (time == 0) ≡ b
          → sum_by row_value (if b then [] else record { key = key; start = start; end = end; value = time } ∷ [])
          ≡ time
      by_case time true is = grind (arith, nat_tests, is)
      by_case time false is = sum_by-cons row_value (record { key = key; start = start; end = end; value = time }) []
          ∙ omega arith
