-- On specs/EndedBooks.antt: after a report with a cut nothing waits.
use Rattle.std.proofs.Common.{◌≡◌, ℕ, zero, suc, ◌+◌, ◌<◌, ◌^◌, Bool, true, false, cond, List, [], ◌∷◌, ◌++◌, length, take, Option, None, Some, refl, sym, ap, ◌∙◌, append_assoc, arith, length-append}
use Rattle.std.specs.Prelude.{nat_lt}
use Rattle.std.specs.List.{flat_map, sum_by}
use Rattle.std.proofs.lemmas.Bool.Decides.{nat_tests}
use Rattle.sd_base.specs.Outputs.{outputs, outputs_after}
use Rattle.sd_base.proofs.OutputsLemmas.{outputs-push}
use Rattle.atom_record.specs.declared.atom.Atom.{Atom}
use Rattle.bucket_meaning.specs.Marks.{Mark, Ends, Asked, Part, Books, no_edges, boundary, boundary_marks, after, books_from, books_of}
use Rattle.bucket_meaning.specs.Rows.{drops, row_of}
use Rattle.bucket_meaning.proofs.MarksLemmas.{books-append}
use Rattle.config_links.specs.declared.linked.LMetric.{LMetric}
use Rattle.atom_record.specs.declared.value.MetricKey.{MetricKey}
use Rattle.metric_kinds.specs.Counts.{gathered}
use Rattle.metric_kinds.specs.Events.{EventAtom}
use Rattle.metric_producer.specs.declared.row.CountCell.{CountCell}
use Rattle.metric_producer.specs.declared.row.Row.{Row}
use Rattle.metric_meaning.specs.Histories.{What, Logged, Reported, Step, Installation}
use Rattle.metric_meaning.specs.StepMarks.{crossed_at, marks_at}
use Rattle.metric_meaning.specs.Ways.{Way}
use Rattle.metric_meaning.specs.Arrivals.{arriving}
use Rattle.metric_meaning.specs.CountSteps.{arrival_at, count_way}
use Rattle.metric_meaning.specs.EventSteps.{event_marks, event_way}
use Rattle.metric_meaning.specs.Balance.{books_after, part_until, rows_in, waiting_for_report, counted_keys, row_counted, row_gathered, event_atoms, row_events}
use Rattle.metric_meaning.proofs.BalanceLemmas.{counts_balance, events_balance}
use Rattle.std.specs.Prelude.{option_to_list}
use Rattle.hub_meaning.specs.EndedBooks.{ended_after, EndedCountsBalance, EndedEventsBalance}

-- the step that a last report is
abbrev last_step : ℕ → Step
last_step clock = record { at = clock; what = Reported true; truths = [] }

module _ {X K C R : Type 0} (way : Way X K C R) where
  -- how many are dropped when something comes
  abbrev dropping : List X → X → ℕ
  dropping = drops way.kind way.bound

  -- the books after one more step
  books-push : (steps : List Step) (step : Step)
      → books_after way (steps ++ step ∷ [])
      ≡ books_from dropping (books_after way steps) (marks_at way.shown way.base way.size steps step)
  books-push steps step =
      let before = outputs (marks_at way.shown way.base way.size) steps in
      let here = marks_at way.shown way.base way.size steps step in
      ap (λ marks. books_of dropping way.base (way.shown.begins ++ marks))
      (outputs-push (marks_at way.shown way.base way.size) steps step)
      ∙ ap (books_of dropping way.base) (sym (append_assoc way.shown.begins before here))
      ∙ books-append dropping (record { start = way.base; came = []; closed = []; dropped = 0; missing = 0 })
      (way.shown.begins ++ before) here

-- there is nothing to take of no keys
none_taken : (bound : ℕ) → take {A = MetricKey} bound [] ≡ []
none_taken zero = refl
none_taken (suc bound) = refl

module _ (installed : Installation) (metric : LMetric) (steps : List Step) (clock : ℕ) where
  -- after a last report the open part of a metric of counts is empty, and nothing is closed or dropped
  ended_empty : (overflow : Bool) → 0 < metric.size
      → books_after (count_way installed metric overflow) (ended_after steps clock)
      ≡ record { start = clock; came = []; closed = []; dropped = 0; missing = 0 }
  ended_empty overflow sized =
      let way = count_way installed metric overflow in
      let is_sized : nat_lt 0 metric.size ≡ true = grind (arith, nat_tests, sized) in
      books-push way steps (last_step clock)
      ∙ ap (λ b. books_from (dropping way) (books_after way steps) (cond b (boundary no_edges clock) [] ++ Asked ∷ []))
      is_sized

  -- so no row of it waits
  none_wait : (overflow : Bool) (worth : Row CountCell → ℕ) → 0 < metric.size
      → waiting_for_report (count_way installed metric overflow) worth (ended_after steps clock) clock ≡ 0
  none_wait overflow worth sized =
      let way = count_way installed metric overflow in
      let part : Part (MetricKey × ℕ) = record { start = clock; end = clock; came = [] } in
      ap (λ (b : Books (MetricKey × ℕ)). sum_by worth (rows_in way (b.closed ++ part_until b clock ∷ [])))
      (ended_empty overflow sized)
      ∙ ap (λ keys. sum_by worth
      ((flat_map (row_of way.kind metric.bound part) keys ++ gathered overflow clock clock []) ++ []))
      (none_taken metric.bound)
      ∙ ap (λ rows. sum_by worth (rows ++ [])) (none_gathered overflow)
    where
      none_gathered : (overflow : Bool) → gathered overflow clock clock [] ≡ []
      none_gathered true = refl
      none_gathered false = refl

  -- a last report brings nothing to a metric of counts, and nothing waits after it
  pub counts_ended : (overflow : Bool) → 0 < metric.size → length steps + 1 < 2 ^ 64
      → EndedCountsBalance installed metric overflow steps clock
  counts_ended overflow sized few =
      let way = count_way installed metric overflow in
      let ended = ended_after steps clock in
      let none_dropped = ap (λ (b : Books (MetricKey × ℕ)). b.dropped) (ended_empty overflow sized) in
      let same : counted_keys installed metric ended ≡ counted_keys installed metric steps ++ [] =
      outputs-push (λ before step. option_to_list (arrival_at installed metric before step)) steps (last_step clock) in
      let all = counts_balance installed metric overflow ended clock
      (omega (arith, few, length-append steps (last_step clock ∷ []))) in
      record {
        arrived = omega (
          arith,
          all.arrived,
          none_wait overflow row_counted sized,
          none_dropped,
          ap length same,
          length-append (counted_keys installed metric steps) [],
        );
        gathered = λ is. omega (
          arith,
          all.gathered is,
          none_wait overflow row_gathered sized,
          none_dropped,
        );
      }

-- At a metric of events, whose parts end with what comes.
module _ (installed : Installation) (metric : LMetric) where
  abbrev way : Way (MetricKey × EventAtom) MetricKey EventAtom (Row (List Atom))
  way = event_way installed metric

  -- the books of it
  abbrev EventBooks : Type 0
  EventBooks = Books (MetricKey × EventAtom)

  -- the books after these marks
  abbrev over : EventBooks → List (Mark (MetricKey × EventAtom)) → EventBooks
  over = books_from (dropping way)

  -- boundaries leave nothing in the open part
  none_over : (ends : List ℕ) (books : EventBooks) → books.came ≡ []
      → (over books (boundary_marks no_edges ends)).came ≡ []
  none_over [] books none = none
  none_over (at ∷ ends) books none = none_over ends (after (dropping way) books (Ends at)) refl

  -- what arrives leaves nothing there
  none_come : (at : ℕ) (atom : Option Atom) (books : EventBooks) → books.came ≡ []
      → (over books (event_marks at atom)).came ≡ []
  none_come at None books none = none
  none_come at (Some atom) books none = refl

  -- nor does one step more
  none_here : (before : List Step) (at : ℕ) (what : What) (truths : List Bool) (books : EventBooks) → books.came ≡ []
      → (over books (marks_at way.shown way.base 0 before (record { at = at; what = what; truths = truths }))).came ≡ []
  none_here before at (Logged frame) truths books none =
      let step : Step = record { at = at; what = Logged frame; truths = truths } in
      let ends = crossed_at way.base 0 before step in
      let come = event_marks at (arriving installed metric before step) in
      ap (λ (b : EventBooks). b.came) (books-append (dropping way) books (boundary_marks no_edges ends) come)
      ∙ none_come at (arriving installed metric before step) (over books (boundary_marks no_edges ends))
      (none_over ends books none)
  none_here before at (Reported true) truths books none = none
  none_here before at (Reported false) truths books none = none

  -- nor do all steps
  none_after : (before steps : List Step) (books : EventBooks) → books.came ≡ []
      → (over books (outputs_after (marks_at way.shown way.base 0) before steps)).came ≡ []
  none_after before [] books none = none
  none_after before (step ∷ steps) books none =
      let here = marks_at way.shown way.base 0 before step in
      let later = outputs_after (marks_at way.shown way.base 0) (before ++ step ∷ []) steps in
      ap (λ (b : EventBooks). b.came) (books-append (dropping way) books here later)
      ∙ none_after (before ++ step ∷ []) steps (over books here)
      (none_here before step.at step.what step.truths books none)

  -- a last report brings nothing to it, and nothing waits after it
  pub events_ended : (steps : List Step) (clock : ℕ) → length steps + 1 < 2 ^ 64
      → EndedEventsBalance installed metric steps clock
  events_ended steps clock few =
      let ended = ended_after steps clock in
      let none : (books_after way steps).came ≡ [] =
      none_after [] steps (record { start = way.base; came = []; closed = []; dropped = 0; missing = 0 }) refl in
      let books : books_after way ended ≡ record {
        start = (books_after way steps).start;
        came = (books_after way steps).came;
        closed = [];
        dropped = 0;
        missing = 0;
      } = books-push way steps (last_step clock) in
      let empty : EventBooks = record {
        start = (books_after way steps).start;
        came = [];
        closed = [];
        dropped = 0;
        missing = 0;
      } in
      let is_empty : books_after way ended ≡ empty =
      books ∙ ap (λ came. record empty { came = came }) none in
      let waits : waiting_for_report way row_events ended clock ≡ 0 =
      ap (λ (b : EventBooks). sum_by row_events (rows_in way (b.closed ++ part_until b clock ∷ []))) is_empty in
      let same : event_atoms installed metric ended ≡ event_atoms installed metric steps ++ [] =
      outputs-push (λ before step. option_to_list (arriving installed metric before step)) steps (last_step clock) in
      let all = events_balance installed metric ended clock
      (omega (arith, few, length-append steps (last_step clock ∷ []))) in
      omega (
        arith,
        all,
        waits,
        ap (λ (b : EventBooks). b.dropped) is_empty,
        ap length same,
        length-append (event_atoms installed metric steps) [],
      )
