-- What a call does to a producer: it stands for its calls so far, and then for this one too.
use Rattle.std.specs.Prelude.{List, [], ◌∷◌, ◌++◌}
use Rattle.metric_producer.specs.Calls.{Call}
use Rattle.metric_producer.specs.Rules.{IsAdmitted, AreAdmitted}
use Rattle.metric_producer.specs.Collecting.{Law, demands_of}

module _ {P Params Event After X K C R : Type 0} (law : Law P Params Event After X K C R) where
  -- whatever the old one was made with and has got, if the call may come, the new one has got it too
  abbrev pub Moves : P → P → Call Event After → Type 0
  Moves old new call =
      (params : Params) (calls : List (Call Event After)) → law.stands old params calls
      → IsAdmitted (demands_of law params) calls call → law.stands new params (calls ++ call ∷ [])

  -- the same of several calls
  abbrev pub MovesAll : P → P → List (Call Event After) → Type 0
  MovesAll old new calls =
      (params : Params) (before : List (Call Event After)) → law.stands old params before
      → AreAdmitted (demands_of law params) before calls → law.stands new params (before ++ calls)
