-- A kind of metric with an opening call and with marks at boundaries: the law holds for it, with buckets and without.
use Rattle.std.proofs.Common.{◌≡◌, ℕ, Bool, true, false, List, [], ◌∷◌, ◌++◌, Option, None, refl, ap, ◌∙◌}
use Rattle.std.specs.Prelude.{map}
use Rattle.std.proofs.lemmas.List.{append-nil}
use Rattle.atom_record.specs.declared.log.LogFrame.{LogFrame}
use Rattle.atom_record.specs.declared.log.LogFrame.TheVariants.{Tick}
use Rattle.bucket_meaning.specs.Marks.{Mark, Came, Ends, Asked, Edges}
use Rattle.bucket_meaning.specs.Guard.{arrival_key}
use Rattle.bucket_meaning.specs.Rows.{Kind, not_shown}
use Rattle.metric_producer.specs.Calls.{Learned, Crossed, CutAt, Took, Demands}
use Rattle.metric_producer.specs.LaneCalls.{run_asks, run_demands}
use Rattle.metric_producer.specs.Collecting.{Collecting}
use Rattle.metric_meaning.specs.Histories.{What, Logged, Reported, Step, truth_at}
use Rattle.metric_meaning.specs.StepMarks.{marks_to}
use Rattle.metric_meaning.specs.Ways.{shown_by_steps}
use Rattle.metric_calls.specs.Askings.{Asking, frame_step, calls_by_steps, calls_crossed, calls_cut, shown_by_calls, AsksWell, Agrees}
use Rattle.metric_calls.specs.Memories.{last_told, remembered, Follows}
use Rattle.metric_calls.proofs.AskingsLemmas.{calls_mean_steps}
use Rattle.metric_calls.proofs.MemoriesLemmas.{remembered-is, remembered-crossed}

-- a frame of the log
abbrev logged : ℕ → LogFrame → List Bool → Step
logged at frame truths = record { at = at; what = Logged frame; truths = truths }

-- a report at the clock
abbrev asked : ℕ → Bool → Step
asked at include_current = record { at = at; what = Reported include_current; truths = [] }

-- the truth after a step: a frame tells its own, and a report leaves it
abbrev truth_by : Bool → What → List Bool → Bool
truth_by was (Logged frame) truths = truth_at 0 truths
truth_by was (Reported include_current) truths = was

-- the truth after steps
abbrev truth_now : Bool → List Step → Bool
truth_now was [] = was
truth_now was (step ∷ steps) = truth_now (truth_by was step.what step.truths) steps

-- one more step
truth_now-push : (was : Bool) (steps : List Step) (step : Step)
    → truth_now was (steps ++ step ∷ []) ≡ truth_by (truth_now was steps) step.what step.truths
truth_now-push was [] step = refl
truth_now-push was (first ∷ steps) step = truth_now-push (truth_by was first.what first.truths) steps step

-- a truth that began is a mark
abbrev begun : Bool → Bool → List (Mark Bool)
begun false true = Came true ∷ []
begun _ _ = []

-- a truth that stands is a mark where a part begins
abbrev standing : Bool → Edges Bool
standing truth = record { closing = λ at. []; closing_again = λ at. []; opening = λ at. begun false truth }

-- what the producer of such a metric is made with
record Made : Type 0 where
  base : ℕ
  size : ℕ

abbrev made_demands : Made → Demands (Unit {0}) Bool
made_demands made = run_demands made.base made.size (λ event. true)

module _ {K C R : Type 0} (kind : Kind Bool K C R) (bound : ℕ) where
  abbrev truths_collected : Collecting Made (Unit {0}) Bool Bool K C R
  truths_collected = record {
    demands = made_demands;
    bound = λ params. bound;
    kind = λ params. kind;
    comes = λ params before at event. [];
    learns = λ params before at now. begun (remembered last_told false before) now;
    edges = λ params before. standing (remembered last_told false before);
  }

  module _ (base size : ℕ) (first : Bool) where
    -- the metric tells the truth that stands when it begins, and then that after each frame
    abbrev truth_asking : Asking Made (Option (Unit {0}) × Bool) (Unit {0}) Bool Bool K C R
    truth_asking = record {
      way = record {
        base = base;
        size = size;
        bound = bound;
        kind = kind;
        shown = record {
          begins = begun false first;
          edges = λ before. standing (truth_now first before);
          comes = λ before step. begun (truth_now first before) (truth_now first (before ++ step ∷ []));
        };
      };
      params = record { base = base; size = size };
      opens = Learned base first ∷ [];
      news = λ before step. (None, truth_now first (before ++ step ∷ []));
      asks = run_asks;
    }

    truth_follows : Follows truth_asking last_told false (truth_now first)
    truth_follows = record {
      opens = refl;
      at_frame = λ before frame at truths. refl;
      at_report = λ before at include_current truths.
          truth_now-push first before (record { at = at; what = Reported include_current; truths = truths });
    }

    truths_agree : Agrees truth_asking truths_collected
    truths_agree = record {
      made = record { base = refl; size = refl; bound = refl; kind = refl };
      opens = append-nil (begun false first);
      at_frame = λ before frame at truths.
          let after = truth_now first (before ++ frame_step frame at truths ∷ []) in
          let told = remembered last_told false (calls_crossed truth_asking truths_collected before frame at) in
          append-nil (begun told after)
          ∙ ap (λ t. begun t after)
          (remembered-crossed truth_asking truths_collected last_told false (truth_now first) truth_follows before frame
          at);
      at_boundary = λ before. record {
        closing = λ at. refl;
        closing_again = λ at. refl;
        opening = λ at. ap (begun false)
            (remembered-is truth_asking truths_collected last_told false (truth_now first) truth_follows before);
      };
    }

    truths_ask_well : AsksWell truth_asking truths_collected
    truths_ask_well = record {
      opens = ((refl, tt), (refl, tt));
      at_frame = λ before frame at truths. ((refl, tt), (refl, tt));
    }

    -- calls mean for it what steps mean
    truths_mean : (steps : List Step) (include_current : Bool) (now : ℕ)
        → shown_by_calls truth_asking truths_collected steps include_current now
        ≡ shown_by_steps truth_asking.way steps include_current now
    truths_mean = calls_mean_steps truth_asking truths_collected truths_agree

-- a kind in which all that comes has one key
abbrev one_key : Kind Bool ℕ Bool ℕ
one_key = record {
  same = λ key other. true;
  arrivals = λ came end. map (λ truth. (0, truth)) came;
  keys = λ came. map arrival_key (map (λ (truth : Bool). (0, truth)) came);
  keys_are = λ came end. refl;
  row = λ start end key truths. end ∷ [];
  others = not_shown;
  weight = λ row. 1;
}

-- the truth holds from the beginning on, a frame crosses an end, a report cuts, and then a frame ends the truth
abbrev seen : List Step
seen =
    logged 12 (Tick 12) (true ∷ []) ∷ asked 12 true ∷ logged 13 (Tick 13) (false ∷ []) ∷ []

-- what began before all steps stands in the first part too, and what stands at a boundary in the part after it
with_buckets : marks_to (truth_asking one_key 800 0 10 true).way.shown 0 10 seen false 13
    ≡ Came true ∷ (Ends 10 ∷ Came true ∷ (Ends 12 ∷ Came true ∷ (Asked ∷ [])))
with_buckets = refl

calls_with_buckets : calls_by_steps (truth_asking one_key 800 0 10 true) (truths_collected one_key 800) seen
    ≡ Learned 0 true ∷ (Crossed (record { start = 0; first_end = 10; full_buckets = 0; size = 10 })
    ∷ (Learned 12 true ∷ (CutAt 12 ∷ (Took ∷ (Learned 13 false ∷ [])))))
calls_with_buckets = refl

-- without buckets nothing is crossed and nothing is cut
without_buckets : marks_to (truth_asking one_key 800 0 0 true).way.shown 0 0 seen true 13 ≡ Came true ∷ (Asked ∷ [])
without_buckets = refl

calls_without : calls_cut (truth_asking one_key 800 0 0 true) (truths_collected one_key 800) seen true 13
    ≡ Learned 0 true ∷ (Learned 12 true ∷ (Took ∷ (Learned 13 false ∷ [])))
calls_without = refl
