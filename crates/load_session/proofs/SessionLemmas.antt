-- The session of each seed is good: its frames have no fault, and their times don't fall.
use Rattle.std.proofs.Common.{if◌then◌else◌, ◌≡◌, ℕ, zero, suc, ◌+◌, ◌-◌, ◌*◌, ◌/◌, ◌%◌, ◌==◌, ◌<◌, ◌≤◌, ◌^◌, Bool, true, false, pos, List, [], ◌∷◌, ◌++◌, length, refl, arith}
use Rattle.std.proofs.lemmas.Bool.{false≢true}
use Rattle.std.proofs.lemmas.List.Elements.{All-nil, All-push}
use Rattle.atom_record.specs.declared.atom.AtomField.{AtomField}
use Rattle.atom_record.specs.declared.value.Value.TheVariants as values
use Rattle.atom_record.specs.AtomSound.{IsEntry, HasNoFault}
use Rattle.load_session.specs.declared.frame.LoadFrame.{LoadFrame}
use Rattle.load_session.specs.declared.frame.LoadFrame.TheVariants.{Tick, Int5}
use Rattle.load_session.specs.declared.session.Turn.TheVariants.{FirstInstall}
use Rattle.load_session.specs.Numbers.{draw_at, step_time}
use Rattle.load_session.specs.Frames.{most_frames, reports, reports_after, frames_after, load_frames, int5}
use Rattle.load_session.specs.Good.{AreGood}
use Rattle.load_session.specs.Steps.{no_step_yet, left_at}

-- less than a second passes at each step
pub time_at_most : (seed i : ℕ) → step_time seed i ≤ i * 999000000
time_at_most seed zero = omega arith
time_at_most seed (suc i) =
    let before = time_at_most seed i in
    let draw = draw_at seed (suc i) in omega (arith, before)

-- no time is too late
early : (seed i : ℕ) → i ≤ most_frames → step_time seed i < 2 ^ 63
early seed i few = omega (arith, few, time_at_most seed i)

-- the one entry of an atom
abbrev entry : ℕ → AtomField
entry value = record { field = 1; index = 0; sub = 0; flags = 0; value = values.Int (pos value) }

is_entry : (value : ℕ) → value < 50 → IsEntry (entry value)
is_entry value few = record {
  field = omega arith;
  index = omega arith;
  sub = omega arith;
  flags = omega arith;
  state = λ set. absurd (false≢true set);
  reset = λ set. absurd (false≢true set);
  value = omega (arith, few);
}

has_no_fault : (value : ℕ) → value < 50 → HasNoFault (int5 (pos value))
has_no_fault value few = record {
  id = omega arith;
  entries = record {
    each = All-push IsEntry [] (entry value) (All-nil IsEntry) (is_entry value few);
    rising = λ i j d less below. absurd (omega (arith, less, below));
    one_state = omega arith;
  };
  fits = omega arith;
}

-- what is logged has no fault, where its time is no earlier than the clock
logged_good : (is_tick : Bool) (draw at clock : ℕ) (rest : List LoadFrame) → clock ≤ at → at < 2 ^ 63 → AreGood at rest
    → AreGood clock ((if is_tick then Tick at else Int5 at (pos ((draw / 1000) % 50))) ∷ rest)
logged_good true draw at clock rest later timely good =
    (record { timely = timely; atoms = tt }, later, good)
logged_good false draw at clock rest later timely good =
    (record { timely = timely; atoms = has_no_fault ((draw / 1000) % 50) (omega arith) }, later, good)

-- requests for reports have no fault
reports_good : (any : Bool) (clock : ℕ) (rest : List LoadFrame) → AreGood clock rest
    → AreGood clock ((if any then reports false else []) ++ rest)
reports_good true clock rest good = (tt, tt, (tt, tt, good))
reports_good false clock rest good = good

-- what comes after so many steps is good
later_good : (seed done more : ℕ) → done + more ≤ most_frames
    → AreGood (step_time seed done) (frames_after seed done more)
later_good seed done zero few = (tt, tt, (tt, tt, tt))
later_good seed done (suc more) few =
    let at = step_time seed (suc done) in
    let rest = reports_after (suc done) ++ frames_after seed (suc done) more in
    logged_good (draw_at seed (suc done) % 4 == 0) (draw_at seed (suc done)) at (step_time seed done) rest
    (omega arith) (early seed (suc done) (omega (arith, few)))
    (reports_good (suc done % 1000 == 0) at (frames_after seed (suc done) more)
    (later_good seed (suc done) more (omega (arith, few))))

pub session_good : (seed frames : ℕ) → frames ≤ most_frames → AreGood 0 (load_frames seed frames)
unfolding load_frames
session_good seed frames few = (tt, tt, (tt, tt, later_good seed 0 frames (omega (arith, few))))

-- before the first step the whole session is left
pub whole_left : (seed frames : ℕ) → left_at FirstInstall (no_step_yet seed frames) ≡ load_frames seed frames
unfolding load_frames
whole_left seed frames = let all : frames - 0 ≡ frames = omega arith in rw all refl

-- two requests for reports come at most after a step
reports_few : (any : Bool) (rest : List LoadFrame)
    → length ((if any then reports false else []) ++ rest) ≤ 2 + length rest
reports_few true rest = omega arith
reports_few false rest = omega arith

later_few : (seed done more : ℕ) → length (frames_after seed done more) ≤ 2 + 3 * more
later_few seed done zero = omega arith
later_few seed done (suc more) =
    omega (
      arith,
      reports_few (suc done % 1000 == 0) (frames_after seed (suc done) more),
      later_few seed (suc done) more,
    )

-- a session has at most three frames a step, and four more
pub session_few : (seed frames : ℕ) → frames ≤ most_frames → length (load_frames seed frames) < 2 ^ 34
unfolding load_frames
session_few seed frames few = omega (arith, few, later_few seed 0 frames)
