-- What holds of each session of the word `load`.
use Rattle.std.specs.Prelude.{ℕ, List, [], ◌∷◌}
use Rattle.session_frames.specs.Frames.{clock_after, IsFaultless, IsInTime}
use Rattle.load_session.specs.declared.frame.LoadFrame.{LoadFrame}
use Rattle.load_session.specs.Frames.{loaded_frame}

-- frames that have no fault, and whose times don't fall from a clock on
abbrev pub AreGood : ℕ → List LoadFrame → Type 0
AreGood clock [] = Unit {0}
AreGood clock (frame ∷ frames) =
    IsFaultless (loaded_frame frame) × IsInTime clock (loaded_frame frame)
    × AreGood (clock_after clock (loaded_frame frame)) frames
