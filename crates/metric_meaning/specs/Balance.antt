-- The books of a metric balance: what arrived since its installation is shown in reports, or stood in rows that weren't
-- kept, or was turned away and counted, or waits for the next report. Nothing is lost, and nothing is told twice.
use Rattle.std.specs.Prelude.{◌≡◌, ℕ, ◌+◌, Bool, true, if◌then◌else◌, List, [], ◌∷◌, ◌++◌, length, drop, option_to_list}
use Rattle.std.specs.List.{flat_map, sum_by, sum}
use Rattle.sd_base.specs.Outputs.{outputs}
use Rattle.atom_record.specs.declared.atom.Atom.{Atom}
use Rattle.atom_record.specs.declared.value.MetricKey.{MetricKey}
use Rattle.bucket_meaning.specs.Guard.{turned_away}
use Rattle.bucket_meaning.specs.Marks.{Mark, Ends, Came, Lost, Missed, Asked, Part, Books, books_of}
use Rattle.bucket_meaning.specs.Rows.{drops, rows_of}
use Rattle.config_links.specs.declared.linked.LMetric.{LMetric}
use Rattle.config_types.specs.declared.parameters.PredSpec.{PredSpec}
use Rattle.metric_producer.specs.declared.row.CountCell.{CountCell}
use Rattle.metric_producer.specs.declared.row.Row.{Row}
use Rattle.metric_meaning.specs.Histories.{What, Logged, Reported, Step, Installation}
use Rattle.metric_meaning.specs.Arrivals.{arriving}
use Rattle.metric_meaning.specs.CountSteps.{arrival_at, count_way}
use Rattle.metric_meaning.specs.DurationSteps.{sum_way}
use Rattle.metric_meaning.specs.EventSteps.{event_way}
use Rattle.metric_meaning.specs.StepMarks.{marks_of, marks_to}
use Rattle.metric_meaning.specs.Ways.{Way, shown_by_steps}

-- what comes with a mark
abbrev pub arrived_by : {X : Type 0} → Mark X → List X
arrived_by (Ends at) = []
arrived_by (Came what) = what ∷ []
arrived_by Lost = []
arrived_by Missed = []
arrived_by Asked = []

-- an open part, as if it ended now
abbrev pub part_until : {X : Type 0} → Books X → ℕ → Part X
part_until books now = record { start = books.start; end = now; came = books.came }

module _ {X K C R : Type 0} (way : Way X K C R) where
  -- the books after these steps
  abbrev pub books_after : List Step → Books X
  books_after steps = books_of (drops way.kind way.bound) way.base (marks_of way.shown way.base way.size steps)

  -- the books of a report that is made after these steps, with or without a cut
  abbrev pub books_told : List Step → Bool → ℕ → Books X
  books_told steps include_current now =
      books_of (drops way.kind way.bound) way.base (marks_to way.shown way.base way.size steps include_current now)

  -- the parts of which a step tells, if it is a report: those that were closed since the report before
  abbrev pub told_parts : List Step → Step → List (Part X)
  told_parts before step = of_what step.what where
    of_what : What → List (Part X)
    of_what (Logged frame) = []
    of_what (Reported include_current) = (books_told before include_current step.at).closed

  -- the rows of some parts
  abbrev pub rows_in : List (Part X) → List R
  rows_in parts = flat_map (rows_of way.kind way.bound) parts

  -- the rows that a step shows, if it is a report
  abbrev pub shown_rows : List Step → Step → List R
  shown_rows before step = of_what step.what where
    of_what : What → List R
    of_what (Logged frame) = []
    of_what (Reported include_current) = (shown_by_steps way before include_current step.at).rows

  -- the rows of the parts of which it tells that weren't kept: those past the ones that it shows
  abbrev pub unkept_rows : List Step → Step → List R
  unkept_rows before step = drop (length (shown_rows before step)) (rows_in (told_parts before step))

  -- how many arrivals a step tells as dropped, if it is a report
  abbrev pub told_drops : List Step → Step → List ℕ
  told_drops before step = of_what step.what where
    of_what : What → List ℕ
    of_what (Logged frame) = []
    of_what (Reported include_current) = (shown_by_steps way before include_current step.at).dropped ∷ []

  -- how many were dropped by these steps: those that reports told, and those that the next one will tell
  abbrev pub drops_by : List Step → ℕ
  drops_by steps = sum (outputs told_drops steps) + (books_after steps).dropped

  -- the parts that wait for the next report; the open one is among them, as if it ended now
  abbrev pub waiting_parts : List Step → ℕ → List (Part X)
  waiting_parts steps now = (books_after steps).closed ++ part_until (books_after steps) now ∷ []

  -- all parts since the installation, each of which is told by one report, or waits
  abbrev pub all_parts : List Step → ℕ → List (Part X)
  all_parts steps now = outputs told_parts steps ++ waiting_parts steps now

  -- all that came by these steps, in order
  abbrev pub came_by : List Step → List X
  came_by steps = flat_map arrived_by (marks_of way.shown way.base way.size steps)

  -- all of it is in these parts, in order, each once
  abbrev pub IsAllInParts : List Step → ℕ → Type 0
  IsAllInParts steps now = flat_map (λ (part : Part X). part.came) (all_parts steps now) ≡ came_by steps

  -- by what a row comes to
  module _ (worth : R → ℕ) where
    -- what the rows come to that reports showed
    abbrev pub shown_by_reports : List Step → ℕ
    shown_by_reports steps = sum_by worth (outputs shown_rows steps)

    -- those that weren't kept
    abbrev pub not_kept_by_reports : List Step → ℕ
    not_kept_by_reports steps = sum_by worth (outputs unkept_rows steps)

    -- and those that wait, with the open part as if it ended now
    abbrev pub waiting_for_report : List Step → ℕ → ℕ
    waiting_for_report steps now = sum_by worth (rows_in (waiting_parts steps now))

  -- by what an arrival comes to
  module _ (amount : C → ℕ) where
    -- what the arrivals of a part come to
    abbrev pub arrived_in : Part X → ℕ
    arrived_in part = sum_by (λ (arrival : K × C). amount arrival.1) (way.kind.arrivals part.came part.end)

    -- and those of them that were turned away
    abbrev pub turned_away_in : Part X → ℕ
    turned_away_in part =
        sum_by (λ (arrival : K × C). amount arrival.1)
        (turned_away way.kind.same way.bound (way.kind.arrivals part.came part.end))

-- the keys that arrived at a metric of counts by these steps, in order
abbrev pub counted_keys : Installation → LMetric → List Step → List MetricKey
counted_keys installed metric =
    outputs (λ before step. option_to_list (arrival_at installed metric before step))

-- how many arrivals of its key a row of counts has; an overflow row has none, since it is of what was dropped
abbrev pub row_counted : Row CountCell → ℕ
row_counted row = if row.value.overflow then 0 else row.value.number

-- how many dropped arrivals a row of counts has: those that an overflow row gathers
abbrev pub row_gathered : Row CountCell → ℕ
row_gathered row = if row.value.overflow then row.value.number else 0

-- Of counts: each key that arrived is in a count of its own that was shown, or in one that wasn't kept, or was dropped,
-- or waits; and those that were dropped are those of overflow rows, where the metric gathers them, shown, not kept or
-- waiting.
pub record CountsBalance (installed : Installation) (metric : LMetric) (overflow : Bool) (steps : List Step) (now : ℕ)
    : Type 0 where
  pub arrived :
      let way = count_way installed metric overflow in
      length (counted_keys installed metric steps)
      ≡ shown_by_reports way row_counted steps + not_kept_by_reports way row_counted steps + drops_by way steps
      + waiting_for_report way row_counted steps now
  pub gathered : overflow ≡ true →
      let way = count_way installed metric overflow in
      drops_by way steps
      ≡ shown_by_reports way row_gathered steps + not_kept_by_reports way row_gathered steps
      + waiting_for_report way row_gathered steps now

-- the atoms that arrived at a metric of events by these steps, in order
abbrev pub event_atoms : Installation → LMetric → List Step → List Atom
event_atoms installed metric = outputs (λ before step. option_to_list (arriving installed metric before step))

-- how many events a row is
abbrev pub row_events : Row (List Atom) → ℕ
row_events row = length row.value

-- Of events: each was shown, or not kept, or dropped, or waits.
abbrev pub EventsBalance : Installation → LMetric → List Step → ℕ → Type 0
EventsBalance installed metric steps now =
    let way = event_way installed metric in
    length (event_atoms installed metric steps)
    ≡ shown_by_reports way row_events steps + not_kept_by_reports way row_events steps + drops_by way steps
    + waiting_for_report way row_events steps now

-- what a row of times comes to
abbrev pub row_value : Row ℕ → ℕ
row_value row = row.value

-- Of summed durations: wherever the active keys changed, it is told in one of the parts; and the time of all runs
-- in these parts was shown, or not kept, or is that of runs that were turned away, or waits.
pub record SumsBalance (installed : Installation) (metric : LMetric) (spec : PredSpec) (steps : List Step) (now : ℕ)
    : Type 0 where
  pub parts : IsAllInParts (sum_way installed metric spec) steps now
  pub times :
      let way = sum_way installed metric spec in
      let time : ℕ → ℕ = λ time. time in
      sum_by (arrived_in way time) (all_parts way steps now)
      ≡ shown_by_reports way row_value steps + not_kept_by_reports way row_value steps
      + sum_by (turned_away_in way time) (all_parts way steps now) + waiting_for_report way row_value steps now
