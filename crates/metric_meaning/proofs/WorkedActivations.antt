-- Worked histories of metrics with activations, and what reports show of them, by computing. The matcher at 0 means
-- what is counted, those at 1 and 3 start an activation, and the one at 2 cancels the first.
use Rattle.std.proofs.Common.{◌≡◌, ℕ, pos, true, false, List, [], ◌∷◌, Option, Some, None, refl}
use Rattle.atom_record.specs.declared.atom.Atom.{Atom}
use Rattle.config_links.specs.declared.linked.LActivation.{LActivation}
use Rattle.config_links.specs.declared.linked.LMetric.{LMetric}
use Rattle.config_links.specs.declared.linked.LKind.TheVariants.{Event}
use Rattle.report_writer.specs.AtomMessage.{message_of}
use Rattle.report_writer.specs.declared.tree.EventTree.{EventTree}
use Rattle.report_writer.specs.declared.tree.MetricBody.TheVariants.{Events}
use Rattle.report_writer.specs.declared.tree.MetricTree.{MetricTree}
use Rattle.metric_meaning.specs.Histories.{Step}
use Rattle.metric_meaning.specs.Reports.{metric_tree}
use Rattle.metric_meaning.proofs.WorkedHistories.{under, tick, asked}
use Rattle.metric_meaning.proofs.WorkedMetrics.{no_fields, metric_of, conditioned, switch, told_with}

-- an activation by the matcher at a place, which lasts for ten nanoseconds
abbrev lasting_ten : ℕ → Option ℕ → LActivation
lasting_ten start cancel = record { start = start; ttl = 10; cancel = cancel }

-- a metric of events with these activations
abbrev events : List LActivation → LMetric
events activations = record (metric_of Event no_fields 0 1) { activations = activations }

-- one that the first starts and cancels, and one that either starts
abbrev cancelled : LMetric
cancelled = events (lasting_ten 1 (Some 2) ∷ [])

abbrev either : LMetric
either = events (lasting_ten 1 (Some 2) ∷ lasting_ten 3 None ∷ [])

-- an atom without entries
abbrev plain : Atom
plain = record { id = 5; fields = [] }

-- it is counted; it starts the first activation; it cancels it; it starts the second one
abbrev counted : ℕ → Step
counted at = told_with (true ∷ false ∷ false ∷ false ∷ []) at plain

abbrev starts : ℕ → Step
starts at = told_with (false ∷ true ∷ false ∷ false ∷ []) at plain

abbrev cancels : ℕ → Step
cancels at = told_with (false ∷ false ∷ true ∷ false ∷ []) at plain

abbrev starts_second : ℕ → Step
starts_second at = told_with (false ∷ false ∷ false ∷ true ∷ []) at plain

-- an event at a time
abbrev event : ℕ → EventTree
event at = record { at = at; atom = record { id = 5; parts = [] } }

-- what a report shows
abbrev shown : List EventTree → MetricTree
shown trees = record {
  id = pos 100;
  base = 0;
  size = 0;
  dropped = 0;
  not_kept = 0;
  missing = 0;
  body = Events trees;
}

-- nothing arrives before a start, and none from the end on, which is the start's time and the ttl
runs_out : metric_tree (under []) (counted 1 ∷ starts 2 ∷ counted 3 ∷ counted 11 ∷ counted 12 ∷ []) false 12 cancelled
    ≡ shown (event 3 ∷ event 11 ∷ [])
unfolding message_of
runs_out = refl

-- a second start begins anew, and doesn't add up
begins_anew : metric_tree (under []) (starts 2 ∷ starts 8 ∷ counted 17 ∷ counted 18 ∷ []) false 18 cancelled
    ≡ shown (event 17 ∷ [])
unfolding message_of
begins_anew = refl

-- a cancel ends it from its own atom on, and a later start begins it again
is_cancelled : metric_tree (under [])
    (starts 2 ∷ counted 3 ∷ cancels 4 ∷ counted 5 ∷ starts 6 ∷ counted 7 ∷ []) false 7 cancelled
    ≡ shown (event 3 ∷ event 7 ∷ [])
unfolding message_of
is_cancelled = refl

-- an atom that is counted and starts it arrives itself; one that also cancels it doesn't
counts_itself : metric_tree (under []) (told_with (true ∷ true ∷ false ∷ false ∷ []) 2 plain ∷ []) false 2 cancelled
    ≡ shown (event 2 ∷ [])
unfolding message_of
counts_itself = refl

cancels_itself : metric_tree (under [])
    (told_with (true ∷ true ∷ true ∷ false ∷ []) 2 plain ∷ counted 3 ∷ []) false 3 cancelled ≡ shown []
cancels_itself = refl

-- one of several is enough, and the cancel of one leaves the others
one_is_enough : metric_tree (under [])
    (starts 2 ∷ starts_second 5 ∷ cancels 6 ∷ counted 14 ∷ counted 15 ∷ []) false 15 either ≡ shown (event 14 ∷ [])
unfolding message_of
one_is_enough = refl

-- a start before its condition is true counts as well, and its time goes on while the condition isn't
under_a_condition : metric_tree (under (switch ∷ []))
    (told_with (false ∷ false ∷ false ∷ true ∷ []) 1 plain ∷ told_with (true ∷ []) 2 plain
    ∷ told_with (true ∷ true ∷ []) 3 plain ∷ told_with (true ∷ []) 11 plain ∷ []) false 11
    (conditioned (events (lasting_ten 3 None ∷ []))) ≡ shown (event 3 ∷ [])
unfolding message_of
under_a_condition = refl

-- ticks and reports say nothing
time_alone : metric_tree (under []) (starts 2 ∷ tick 4 ∷ asked 5 false ∷ counted 6 ∷ []) false 6 cancelled
    ≡ shown (event 6 ∷ [])
unfolding message_of
time_alone = refl

-- without activations a metric is always active
always : metric_tree (under []) (counted 1 ∷ []) false 1 (events []) ≡ shown (event 1 ∷ [])
unfolding message_of
always = refl
