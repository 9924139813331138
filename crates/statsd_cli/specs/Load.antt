-- The session of the word `load`: what is counted of it, and how the command ends.
use Rattle.std.specs.Prelude.{◌≡◌, ℕ, ◌+◌, ◌*◌, ◌<◌, ◌≤◌, ◌^◌, List, [], ◌++◌, length, map, codes, decimal, Option, option_to_list}
use Rattle.std.specs.List.{flat_map}
use Rattle.sd_io.specs.States.{Output, Ports}
use Rattle.sd_io.specs.Causes.{Gains, GainsFront, Rose}
use Rattle.session_frames.specs.declared.frame.Frame.{Frame}
use Rattle.session_frames.specs.declared.reply.Reply.{Reply}
use Rattle.session_frames.specs.Replies.{reply_bytes}
use Rattle.matcher_eval.specs.AtomTests.{matcher_holds}
use Rattle.hub_meaning.specs.ClientAnswers.{replies, text}
use Rattle.load_session.specs.Frames.{loaded_frame, load_frames}
use Rattle.statsd_cli.specs.declared.load.Totals.{Totals}
use Rattle.statsd_cli.specs.declared.ending.Ending.{Ending}
use Rattle.statsd_cli.specs.declared.ending.Ending.TheVariants.{Done, WriteFault, NoMemory}

-- the session of a seed and of so many steps
abbrev pub session_of : ℕ → ℕ → List Frame
session_of seed frames = map loaded_frame (load_frames seed frames)

-- how many frames a session has, how many replies, and how many bytes these have
abbrev pub totals_of : List Frame → Totals
totals_of frames = record {
  frames = length frames;
  replies = length (replies matcher_holds frames);
  bytes = length (text matcher_holds frames);
}

-- the line that tells these numbers, with its newline
abbrev pub totals_line : Totals → List ℕ
totals_line totals =
    codes "frames " ++ decimal totals.frames ++ codes " replies " ++ decimal totals.replies ++ codes " bytes "
    ++ decimal totals.bytes ++ codes "\n"

-- what was written of a line, by how the command ended: it is put, or memory was wanting before
abbrev pub IsLineTold : List ℕ → Output → Output → Ending → Type 0
IsLineTold line old new Done = Gains old new line
IsLineTold line old new WriteFault = GainsFront old new line × Rose old.faults new.faults
IsLineTold line old new NoMemory = Gains old new []
IsLineTold line old new _ = ⊥

-- A session of the engine's own was answered, and nothing was read: its numbers were told in one line.
pub record IsLoaded (seed frames : ℕ) (old new : Ports) (ending : Ending) : Type 0 where
  pub unread : new.input ≡ old.input
  pub told : IsLineTold (totals_line (totals_of (session_of seed frames))) old.output new.output ending

-- one more frame is counted, and its reply where it has one
abbrev pub totals_with : Totals → Option Reply → Totals
totals_with totals reply = record {
  frames = totals.frames + 1;
  replies = totals.replies + length (option_to_list reply);
  bytes = totals.bytes + length (flat_map reply_bytes (option_to_list reply));
}

-- Each frame has one reply at most, and each reply fewer than 2^64 bytes.
pub record AreInBounds (totals : Totals) : Type 0 where
  pub replies : totals.replies ≤ totals.frames
  pub bytes : totals.bytes ≤ totals.frames * 2 ^ 64

-- one more frame may be counted
abbrev pub MayCountOne : Totals → Type 0
MayCountOne totals = (totals.frames < 2 ^ 34) × AreInBounds totals
