-- One more frame, one more report: what the lane's clock and its producer do together.
use Rattle.std.proofs.Common.{◌≡◌, ℕ, Bool, List, [], ◌∷◌, ◌++◌, ◌<◌, length, Option, Some, None, refl, sym, ap, subst, ◌∙◌, append_assoc, append-nil, arith}
use Rattle.bucket_meaning.specs.Ends.{Moment, crosses, ends_at}
use Rattle.bucket_clock.specs.declared.crossings.Crossings.{Crossings}
use Rattle.bucket_clock.specs.Sound.{Times}
use Rattle.bucket_clock.specs.Clock.{Told, Saw, Answers, ClockStandsFor, boundaries_at, boundaries, last_time, moments_told}
use Rattle.bucket_clock.proofs.ClockLemmas.{none_made}
use Rattle.metric_producer.specs.Calls.{Call, Crossed, Took}
use Rattle.metric_producer.specs.Moves.{Moves, MovesAll}
use Rattle.metric_producer.specs.LaneCalls.{crossing, crossing_of, cutting, handed_on}
use Rattle.metric_producer.proofs.RuleLemmas.{admits-front, admits-back}
use Rattle.metric_producer.proofs.LaneReach.{no_ends, reach_of, reaches, reach-le}
use Rattle.metric_producer.proofs.ClockOfCalls.{handed_on_is}
use Rattle.metric_producer.specs.declared.row.Row.{Row}
use Rattle.bucket_meaning.specs.Kept.{Taken}
use Rattle.metric_producer.specs.Collecting.{Law, demands_of, Gives}
use Rattle.metric_lane.specs.LaneClock.{HasClock, MayCross, ClockCrosses, CountsEnds, NoEndBefore}
use Rattle.metric_lane.specs.LaneStands.{GetsFrame, GetsCut, GetsReport, told_at}
use Rattle.metric_lane.specs.declared.lane.Lane.{Lane}
use Rattle.metric_lane.proofs.JoinedEnds.{beyond}

-- a clock's base stays
base_kept : (old new : Times) (moment : Moment) (answer : Option Crossings) → Answers old moment answer new
    → new.base ≡ old.base
base_kept old new moment None answers = ap (λ clock. clock.base) answers.1
base_kept old new moment (Some crossings) answers = ap (λ clock. clock.base) answers.moved

-- so does its size
size_kept : (old new : Times) (moment : Moment) (answer : Option Crossings) → Answers old moment answer new
    → new.size ≡ old.size
size_kept old new moment None answers = ap (λ clock. clock.size) answers.1
size_kept old new moment (Some crossings) answers = ap (λ clock. clock.size) answers.moved

-- what a frame does to a clock: its answer is the crossing of the definition, and it was told of the frame
record Answered (Event After : Type 0) (new : Option Times) (base size : ℕ) (told : List Told) (moment : Moment)
    (answer : Option Crossings) : Type 0 where
  crossed : (let calls : List (Call Event After) = handed_on answer in calls ≡ crossing base size told moment)
  clock : HasClock new base size (told ++ Saw moment ∷ [])

-- a clock answers a frame, if there is one
answered : (Event After : Type 0) (old new : Option Times) (base size : ℕ) (told : List Told) (moment : Moment)
    (answer : Option Crossings) → ClockCrosses old new moment answer → HasClock old base size told
    → MayCross old moment.at → Answered Event After new base size told moment answer
answered Event After None new base size told moment answer crosses has may = record {
  crossed =
      ap handed_on crosses.1
      ∙ ap (crossing_of (last_time base (boundaries base size told)) size)
      (sym (no_ends base size (moments_told told) moment (omega (arith, has))));
  clock = subst (λ clock. HasClock clock base size (told ++ Saw moment ∷ [])) (sym crosses.0) has;
}
answered Event After (Some old) None base size told moment answer crosses has may = absurd (crosses may)
answered Event After (Some old) (Some new) base size told moment answer crosses has may =
    let both = crosses may in
    let made = both.1 told has.stands in
    record {
      crossed =
          handed_on_is old new told moment answer has.stands both.0 made.0
          ∙ ap (λ b. crossing b old.size told moment) has.base_is ∙ ap (λ k. crossing base k told moment) has.size_is;
      clock = record {
        base_is = base_kept old new moment answer both.0 ∙ has.base_is;
        size_is = size_kept old new moment answer both.0 ∙ has.size_is;
        sized = has.sized;
        stands = made.1;
      };
    }

-- where there are no buckets a frame crosses no end
pub counts_none : (moment : Moment) → CountsEnds None moment 0
counts_none moment base size told has may =
    ap length (sym (no_ends base size (moments_told told) moment (omega (arith, has))))

-- a lane's clock crosses as many ends as it tells, whatever it was told
pub counts_some : (clock : Times) (moment : Moment) (n : ℕ)
    → ((told : List Told) → ClockStandsFor clock told
    → n ≡ length (boundaries_at clock.base clock.size told (Saw moment)))
    → CountsEnds (Some clock) moment n
counts_some clock moment n tells base size told has may =
    tells told has.stands
    ∙ ap (λ b. length (ends_at b clock.size (moments_told told) moment)) has.base_is
    ∙ ap (λ k. length (ends_at base k (moments_told told) moment)) has.size_is

-- a frame before the next end crosses none, and the clock stays as it is
none_crossed : (clock : Option Times) (moment : Moment) (time : ℕ) → NoEndBefore time clock → moment.at < time
    → ClockCrosses clock clock moment None
none_crossed None moment time later before = (refl, refl)
none_crossed (Some clock) moment time none before = λ may.
    let later = none (omega (arith, before)) in
    let end = later.later in
    let most = reach-le moment in (
      (beyond moment clock.next_end (omega (arith, end, before)), refl),
      none_made clock moment later.sound.least_size later.sound.in_bucket may.0 (reach_of moment)
          (omega (arith, end, before)) (reaches moment) (omega (arith, end, before, most)),
    )

-- For callers: so it crosses none of the ends that the clock was made for.
pub no_ends_before : (clock : Option Times) (base size : ℕ) (told : List Told) (moment : Moment) (time : ℕ)
    → HasClock clock base size told → NoEndBefore time clock → moment.at < time → MayCross clock moment.at
    → ends_at base size (moments_told told) moment ≡ []
no_ends_before None base size told moment time has later before may =
    no_ends base size (moments_told told) moment (omega (arith, has))
no_ends_before (Some clock) base size told moment time has later before may =
    let made = (none_crossed (Some clock) moment time later before may).1 told has.stands in
    sym (made.0 ∙ ap (λ b. ends_at b clock.size (moments_told told) moment) has.base_is
    ∙ ap (λ k. ends_at base k (moments_told told) moment) has.size_is)

-- one call, as a list of calls
pub moves_one : {P Params Event After X K C R : Type 0} (law : Law P Params Event After X K C R) (old new : P)
    (call : Call Event After) → Moves law old new call → MovesAll law old new (call ∷ [])
moves_one law old new call moves params calls has admitted = moves params calls has admitted.0

module _ {P Params Event After X K C Value : Type 0} (law : Law P Params Event After X K C (Row Value)) where
  -- a frame: the producer was handed what the clock answered
  pub frame_on : (old new : Lane P Event After Value) (moment : Moment) (answer : Option Crossings)
      → ClockCrosses old.clock new.clock moment answer
      → MovesAll law old.producer new.producer (handed_on answer)
      → GetsFrame law old new moment
  frame_on old new moment answer crosses moves params told calls has may admitted =
      let base = (demands_of law params).base in
      let size = (demands_of law params).size in
      let both = answered Event After old.clock new.clock base size told moment answer crosses has.clock may in
      record {
        clock = both.clock;
        producer = subst (λ crossed. MovesAll law old.producer new.producer crossed) both.crossed moves
            params calls has.producer admitted;
      }

  -- a frame that crosses ends: the producer was handed just that
  pub crossing_on : (old new : Lane P Event After Value) (moment : Moment) (crossings : Crossings)
      → ClockCrosses old.clock new.clock moment (Some crossings)
      → Moves law old.producer new.producer (Crossed crossings)
      → GetsFrame law old new moment
  crossing_on old new moment crossings crosses moves =
      frame_on old new moment (Some crossings) crosses
      (moves_one law old.producer new.producer (Crossed crossings) moves)

  -- a frame before the next end leaves the lane as it is
  pub frame_before_end : (lane : Lane P Event After Value) (moment : Moment) (time : ℕ) → NoEndBefore time lane.clock
      → moment.at < time → GetsFrame law lane lane moment
  frame_before_end lane moment time later before =
      frame_on lane lane moment None (none_crossed lane.clock moment time later before)
      (λ params calls stands admitted. subst (law.stands lane.producer params) (sym (append-nil calls)) stands)

  -- a report: the cut first, and then what is kept
  pub report_on : (old middle new : Lane P Event After Value) (at : ℕ) (include_current : Bool)
      (closed : Taken (Row Value))
      → GetsCut law old middle at include_current → new.clock ≡ middle.clock
      → Gives law middle.producer closed
      → Moves law middle.producer new.producer Took
      → GetsReport law old new at include_current closed
  report_on old middle new at include_current closed cuts clock gives moves params told calls has may
      admitted =
      let demands = demands_of law params in
      let cut : List (Call Event After) = cutting demands.size include_current at in
      let took : List (Call Event After) = Took ∷ [] in
      let after_cut = cuts params told calls has may (admits-front (demands_of law params) calls cut took admitted) in
      let taking = admits-back (demands_of law params) calls cut took admitted in (
        record {
          clock = subst
              (λ now. HasClock now demands.base demands.size (told ++ told_at include_current at))
              (sym clock) after_cut.clock;
          producer = subst (law.stands new.producer params) (append_assoc calls cut took)
              (moves params (calls ++ cut) after_cut.producer taking.0);
        },
        gives params (calls ++ cut) after_cut.producer,
      )
