-- The frames of the session.
use Rattle.std.specs.Prelude.{ℕ, zero, suc, ◌/◌, ◌%◌, ◌==◌, Bool, true, false, ℤ, pos, List, [], ◌∷◌, ◌++◌, if◌then◌else◌}
use Rattle.atom_record.specs.declared.atom.Atom.{Atom}
use Rattle.atom_record.specs.declared.log.LogFrame.TheVariants as logs
use Rattle.atom_record.specs.declared.value.Value.TheVariants as values
use Rattle.session_frames.specs.declared.frame.Frame.{Frame}
use Rattle.session_frames.specs.declared.frame.Frame.TheVariants as frames
use Rattle.load_session.specs.declared.frame.LoadFrame.{LoadFrame}
use Rattle.load_session.specs.declared.frame.LoadFrame.TheVariants.{Tick, Int5, Install, Report}
use Rattle.load_session.specs.Numbers.{draw_at, step_time}

-- the most steps of a session
abbrev pub most_frames : ℕ
most_frames = 4000000000

-- the first of two clients
abbrev pub first_uid : ℤ
first_uid = pos 10

-- the second of two clients
abbrev pub second_uid : ℤ
second_uid = pos 20

-- what is logged at a draw and a time: time passes where four divides the draw, else an atom has one of fifty values
abbrev pub logged : ℕ → ℕ → LoadFrame
logged draw at = if draw % 4 == 0 then Tick at else Int5 at (pos ((draw / 1000) % 50))

-- both clients ask for a report
abbrev pub reports : Bool → List LoadFrame
reports current = Report first_uid current ∷ Report second_uid current ∷ []

-- what comes after a step: a report of each client at each thousandth
abbrev pub reports_after : ℕ → List LoadFrame
reports_after i = if i % 1000 == 0 then reports false else []

-- what comes after so many steps, where so many more follow: at the end a report of each client with the open bucket
abbrev pub frames_after : ℕ → ℕ → ℕ → List LoadFrame
frames_after seed done zero = reports true
frames_after seed done (suc more) =
    logged (draw_at seed (suc done)) (step_time seed (suc done))
    ∷ (reports_after (suc done) ++ frames_after seed (suc done) more)

-- the session of a seed and of so many steps
unfoldable pub load_frames : ℕ → ℕ → List LoadFrame
load_frames seed frames = Install first_uid ∷ Install second_uid ∷ frames_after seed 0 frames

-- an atom of id 5 with a number in its field 1
abbrev pub int5 : ℤ → Atom
int5 value = record {
  id = 5;
  fields = (record { field = 1; index = 0; sub = 0; flags = 0; value = values.Int value }) ∷ [];
}

-- the configuration of both clients: atoms of id 5 are counted by their field 1, in at most 16 rows
abbrev pub config : List ℕ
config = 58 ∷ 6 ∷ 8 ∷ 1 ∷ 18 ∷ 2 ∷ 8 ∷ 5 ∷ 26 ∷ 17 ∷ 8 ∷ 100 ∷ 16 ∷ 1 ∷ 34 ∷ 6 ∷ 8 ∷ 5 ∷ 26 ∷ 2 ∷ 8 ∷ 1 ∷ 40 ∷ 2 ∷ 200
    ∷ 62 ∷ 16 ∷ []

-- a frame of the session as the hub takes it
abbrev pub loaded_frame : LoadFrame → Frame
loaded_frame (Tick at) = frames.Log (logs.Tick at)
loaded_frame (Int5 at value) = frames.Log (logs.AtomAt at (int5 value))
loaded_frame (Install uid) = frames.Install uid (pos 1) config
loaded_frame (Report uid current) = frames.Report uid (pos 1) current
