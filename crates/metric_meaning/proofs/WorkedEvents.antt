-- Worked histories of metrics of events, and what reports show of them, by computing.
use Rattle.std.proofs.Common.{◌≡◌, ℕ, pos, true, false, List, [], ◌∷◌, map, refl}
use Rattle.std.specs.List.{range_with_len}
use Rattle.atom_record.specs.declared.log.PullOutcome.TheVariants.{Atoms}
use Rattle.atom_record.specs.declared.log.LogFrame.TheVariants as frames
use Rattle.atom_record.specs.declared.value.Value.TheVariants.{Int, Str}
use Rattle.bucket_meaning.specs.Kept.{kept}
use Rattle.config_links.specs.declared.linked.LMetric.{LMetric}
use Rattle.config_links.specs.declared.linked.LKind.TheVariants.{Event}
use Rattle.proto_wire.specs.Spelling.{varint}
use Rattle.report_writer.specs.AtomMessage.{message_of}
use Rattle.report_writer.specs.declared.tree.EventTree.{EventTree}
use Rattle.report_writer.specs.declared.tree.Part.{Part}
use Rattle.report_writer.specs.declared.tree.PartBody.TheVariants.{Num, Chunk}
use Rattle.report_writer.specs.declared.tree.MetricBody.TheVariants.{Events}
use Rattle.report_writer.specs.declared.tree.MetricTree.{MetricTree}
use Rattle.metric_kinds.specs.Events.{event_kind, event_row}
use Rattle.metric_meaning.specs.Reports.{metric_tree}
use Rattle.metric_meaning.proofs.WorkedHistories.{under, logged, tick, asked}
use Rattle.metric_meaning.proofs.WorkedMetrics.{no_fields, metric_of, conditioned, switch, entry, holding, meant, unmeant, told_with}

-- a metric of events has no dimensions, no buckets and one key
abbrev events : LMetric
events = metric_of Event no_fields 0 1

-- what a report shows of it
abbrev shown : List EventTree → MetricTree
shown trees = record {
  id = pos 100;
  base = 0;
  size = 0;
  dropped = 0;
  not_kept = 0;
  missing = 0;
  body = Events trees;
}

-- an event at a time, with an atom of an id and these parts
abbrev event : ℕ → ℕ → List Part → EventTree
event at id parts = record { at = at; atom = record { id = id; parts = parts } }

-- field 1 with a number
abbrev number : ℕ → List Part
number n = record { number = 1; body = Num n } ∷ []

-- one atom is shown with its time, at once: a report needs no cut
one_event : metric_tree (under []) (meant 4 (holding (Int (pos 7))) ∷ []) false 4 events
    ≡ shown (event 4 5 (number 7) ∷ [])
unfolding message_of
one_event = refl

-- a cut changes nothing
with_a_cut : metric_tree (under []) (meant 4 (holding (Int (pos 7))) ∷ []) true 4 events
    ≡ shown (event 4 5 (number 7) ∷ [])
unfolding message_of
with_a_cut = refl

-- an id above every field number is shown as the greatest of these
great_id : metric_tree (under [])
    (meant 4 (record { id = 600000000; fields = entry 1 (Int (pos 7)) ∷ [] }) ∷ []) false 4 events
    ≡ shown (event 4 536870911 (number 7) ∷ [])
unfolding message_of
great_id = refl

-- each atom is a row, in the order in which they came, also two that are the same at the same time; neither a tick
-- nor an atom that isn't meant is one
each_is_a_row : metric_tree (under [])
    (meant 4 (holding (Int (pos 7))) ∷ meant 4 (holding (Int (pos 7))) ∷ unmeant 5 (holding (Int (pos 8))) ∷ tick 6
    ∷ meant 9 (record { id = 6; fields = [] }) ∷ []) false 9 events
    ≡ shown (event 4 5 (number 7) ∷ event 4 5 (number 7) ∷ event 9 6 [] ∷ [])
unfolding message_of
each_is_a_row = refl

-- an event is shown in the next report and in no later one
shown_once : metric_tree (under [])
    (meant 4 (holding (Int (pos 7))) ∷ asked 5 false ∷ meant 6 (holding (Int (pos 8))) ∷ asked 6 true ∷ []) false 6
    events ≡ shown []
shown_once = refl

-- the atom that starts the condition is an event, and the one that stops it isn't
under_a_condition : metric_tree (under (switch ∷ []))
    (told_with (true ∷ []) 1 (holding (Int (pos 1))) ∷ told_with (true ∷ true ∷ []) 2 (holding (Int (pos 2)))
    ∷ told_with (true ∷ []) 3 (holding (Int (pos 3)))
    ∷ told_with (true ∷ false ∷ true ∷ []) 4 (holding (Int (pos 4))) ∷ []) false 4 (conditioned events)
    ≡ shown (event 2 5 (number 2) ∷ event 3 5 (number 3) ∷ [])
unfolding message_of
under_a_condition = refl

-- the whole atom is shown: entries of one message stand in it together, flags aren't shown, and a text is its bytes
whole_atom : metric_tree (under []) (meant 2 (record {
  id = 5;
  fields = record { field = 1; index = 1; sub = 1; flags = 0; value = Int (pos 7) }
      ∷ record { field = 1; index = 1; sub = 2; flags = 2; value = Int (pos 8) }
      ∷ record { field = 2; index = 0; sub = 0; flags = 1; value = Int (pos 9) }
      ∷ record { field = 3; index = 0; sub = 0; flags = 0; value = Str (97 ∷ 98 ∷ []) } ∷ [];
}) ∷ []) false 2 events
    ≡ shown (event 2 5
    (record { number = 1; body = Chunk (8 ∷ 7 ∷ 16 ∷ 8 ∷ []) } ∷ record { number = 2; body = Num 9 }
    ∷ record { number = 3; body = Chunk (97 ∷ 98 ∷ []) } ∷ []) ∷ [])
unfolding message_of varint
whole_atom = refl

-- the atoms of a pull are no events, whatever they are
no_pulled_event : metric_tree (under [])
    (logged 4 (frames.Pull 4 5 (Atoms (holding (Int (pos 7)) ∷ []))) [] ∷ []) true 4 events ≡ shown []
no_pulled_event = refl

-- but an atom that is logged is one, also of an id that is pulled
logged_though_pulled : metric_tree (under []) (meant 4 (record { id = 10001; fields = [] }) ∷ []) false 4 events
    ≡ shown (event 4 10001 [] ∷ [])
unfolding message_of
logged_though_pulled = refl

-- each row weighs the same, whatever the atom is: of four events three are kept where three have room
each_weighs_one : kept event_kind.weight 3
    (map (λ at. event_row (record { at = at; atom = holding (Int (pos at)) })) (range_with_len 0 4))
    ≡ map (λ at. event_row (record { at = at; atom = holding (Int (pos at)) })) (range_with_len 0 3)
each_weighs_one = refl
