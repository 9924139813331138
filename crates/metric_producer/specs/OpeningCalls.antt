-- Opening calls, which tell a producer what stood when it was made, before any step of its lane; and what a kind may
-- ask at the frames after them.
use Rattle.std.specs.Prelude.{List, [], ◌∷◌, ◌++◌}
use Rattle.bucket_meaning.specs.Ends.{Moment}
use Rattle.metric_producer.specs.Calls.{Call, Demands}
use Rattle.metric_producer.specs.Rules.{AreTold}
use Rattle.metric_producer.specs.LaneCalls.{LaneStep, Logged, Reported, told_by, crossing, calls_of, AreAskedAt}

module _ {Event After : Type 0} (demands : Demands Event After) where
  -- opening calls are what a kind may ask at a frame, when the producer's time begins: events that it takes, and
  -- conditions that may be told, each event followed by its condition where that has to be
  abbrev pub AreOpening : List (Call Event After) → Type 0
  AreOpening calls = AreAskedAt demands demands.base calls × AreTold demands [] calls

  module _ {News : Type 0} (asks : List (LaneStep News) → Moment → News → List (Call Event After))
      (opening : List (Call Event After)) where
    -- the calls of all steps, after opening calls
    abbrev pub calls_with : List (LaneStep News) → List (Call Event After)
    calls_with steps = opening ++ calls_of demands asks steps

    -- the calls up to what a frame crosses, before what is asked at it
    abbrev pub calls_before : List (LaneStep News) → Moment → List (Call Event After)
    calls_before before moment = calls_with before ++ crossing demands.base demands.size (told_by before) moment

    -- what is asked at each frame of these steps is what may be asked at its time, and tells what may be told then
    abbrev pub AskWell : List (LaneStep News) → List (LaneStep News) → Type 0
    AskWell before [] = Unit {0}
    AskWell before (Logged moment news ∷ steps) =
        (AreAskedAt demands moment.at (asks before moment news)
        × AreTold demands (calls_before before moment) (asks before moment news))
        × AskWell (before ++ Logged moment news ∷ []) steps
    AskWell before (Reported at include_current ∷ steps) = AskWell (before ++ Reported at include_current ∷ []) steps
