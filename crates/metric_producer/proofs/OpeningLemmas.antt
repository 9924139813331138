-- The calls of a lane after opening calls: they are admitted as those of a lane without.
use Rattle.std.proofs.Common.{◌+◌, ◌<◌, List, [], ◌∷◌, ◌++◌, None, refl, sym, subst, arith, append-nil}
use Rattle.sd_base.proofs.OutputsLemmas.{outputs-push}
use Rattle.bucket_meaning.specs.Limits.{time_limit}
use Rattle.bucket_meaning.specs.Ends.{Moment}
use Rattle.bucket_clock.specs.Sound.{times}
use Rattle.bucket_clock.specs.Clock.{ClockStandsFor}
use Rattle.metric_producer.specs.Calls.{Call, Demands, standing_of, first_standing}
use Rattle.metric_producer.specs.Rules.{AreAdmitted, AreTold}
use Rattle.metric_producer.specs.LaneCalls.{LaneStep, calls_at, calls_of, AreTimely, last_of}
use Rattle.metric_producer.specs.OpeningCalls.{AreOpening, calls_with, AskWell}
use Rattle.metric_producer.proofs.RuleLemmas.{MayComeAll, may_come-append, may_come-back, standing_from-append, admitted, told-append, told-back}
use Rattle.metric_producer.proofs.LaneCrossing.{IsAlong, HasAsked, Owes, asked_come}
use Rattle.metric_producer.proofs.LaneCallsLemmas.{walk, walk_on, walk_told}

module _ {Event After : Type 0} (demands : Demands Event After) (fits : demands.base < time_limit) where
  module _ (opening : List (Call Event After)) (opens : AreOpening demands opening) where
    -- they may come, and they leave the open part where it begins, with no condition owed
    opened : MayComeAll demands (first_standing demands) opening
        × HasAsked demands demands.base (demands.base + demands.size) demands.base (standing_of demands opening)
    unfolding Owes
    opened = asked_come demands demands.base (demands.base + demands.size) demands.base None demands.base opening
        opens.0 tt (omega arith) (omega arith) (λ sized. omega arith) fits

    -- opening calls are admitted
    pub opening_admits : AreAdmitted demands [] opening
    opening_admits = admitted demands [] opening opened.0 opens.1

    module _ {News : Type 0} (asks : List (LaneStep News) → Moment → News → List (Call Event After)) where
      -- what holds after them is what holds at the beginning
      opened_along : IsAlong demands {News = News} [] demands.base (standing_of demands opening)
      opened_along =
          let has = opened.1 in
          let standing = standing_of demands opening in
          record {
            settled = has.settled;
            not_before = has.not_before;
            from_start = omega (arith, has.start_is);
            fits = fits;
            in_bucket = λ _. omega (arith, has.end_is);
            some_end = λ sized. omega (arith, has.end_is, sized);
            bucket = omega (arith, has.start_is, has.end_is);
            stands = λ sized.
                subst (λ start. ClockStandsFor (times demands.base demands.size start standing.next_end) [])
                (sym has.start_is)
                (subst (λ end. ClockStandsFor (times demands.base demands.size demands.base end) []) (sym has.end_is)
                (record {
                  start = refl;
                  next_end = record {
                    passed = 0;
                    at = omega arith;
                    uncrossed = refl;
                    crossed = λ i within. absurd (omega (arith, within));
                  };
                }));
          }

      -- what the calls of all steps tell may be told after opening calls
      told_after : (steps : List (LaneStep News)) → AskWell demands asks opening [] steps
          → AreTold demands opening (calls_of demands asks steps)
      told_after steps well =
          subst (λ before. AreTold demands before (calls_of demands asks steps)) (append-nil opening)
          (walk_told demands asks opening [] steps well)

      -- what holds of opening calls and the calls of all steps
      pub all_along_opened : (steps : List (LaneStep News)) → AreTimely demands.base steps
          → AskWell demands asks opening [] steps
          → IsAlong demands steps (last_of demands.base steps) (standing_of demands
          (calls_with demands asks opening steps))
      all_along_opened steps timely well =
          subst (IsAlong demands steps (last_of demands.base steps))
          (sym (standing_from-append demands (first_standing demands) opening (calls_of demands asks steps)))
          (walk_on demands asks opening [] steps demands.base (standing_of demands opening) opened_along timely well)

      -- the law: opening calls and all calls that a lane makes of timely steps are admitted, each after those before it
      pub opened_admits : (steps : List (LaneStep News)) → AreTimely demands.base steps
          → AskWell demands asks opening [] steps
          → AreAdmitted demands [] (calls_with demands asks opening steps)
      opened_admits steps timely well =
          admitted demands [] (calls_with demands asks opening steps)
          (may_come-append demands (first_standing demands) opening (calls_of demands asks steps) opened.0
          (walk demands asks opening [] steps demands.base (standing_of demands opening) opened_along timely well))
          (told-append demands [] opening (calls_of demands asks steps) opens.1 (told_after steps well))

      -- the same of one step's calls, after the opening calls and those of the steps before
      pub opened_step_admits : (steps : List (LaneStep News)) (step : LaneStep News)
          → AreTimely demands.base (steps ++ step ∷ []) → AskWell demands asks opening [] (steps ++ step ∷ [])
          → AreAdmitted demands (calls_with demands asks opening steps) (calls_at demands asks steps step)
      opened_step_admits steps step timely well =
          let before = calls_of demands asks steps in
          let own = calls_at demands asks steps step in
          admitted demands (calls_with demands asks opening steps) own
          (subst (λ s. MayComeAll demands s own)
          (sym (standing_from-append demands (first_standing demands) opening before))
          (may_come-back demands (standing_of demands opening) before own
          (subst (λ calls. MayComeAll demands (standing_of demands opening) calls)
          (outputs-push (calls_at demands asks) steps step)
          (walk demands asks opening [] (steps ++ step ∷ []) demands.base (standing_of demands opening) opened_along
          timely well))))
          (told-back demands opening before own
          (subst (AreTold demands opening) (outputs-push (calls_at demands asks) steps step)
          (told_after (steps ++ step ∷ []) well)))
