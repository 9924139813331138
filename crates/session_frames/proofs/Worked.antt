-- Worked sessions and replies, by computing.
use Rattle.std.proofs.Common.{◌≡◌, ℕ, true, false, List, [], ◌∷◌, ◌++◌, refl, pos, negsuc}
use Rattle.sd_base.specs.Reads.{many}
use Rattle.atom_record.specs.declared.log.LogFrame.TheVariants.{Tick, AtomAt, Pull}
use Rattle.atom_record.specs.declared.log.PullOutcome.TheVariants.{Atoms, Failed}
use Rattle.atom_record.specs.declared.value.Value.TheVariants.{Int}
use Rattle.atom_record.specs.AtomReading.{atom_at, id_at, entries_in, entry_at, value_at}
use Rattle.session_frames.specs.declared.frame.Frame.{Frame}
use Rattle.session_frames.specs.declared.frame.Frame.TheVariants.{Log, Install, Remove, Report}
use Rattle.session_frames.specs.declared.frame.SessionFault.TheVariants.{Cut, TooLong, BadLength, UnknownKind, BadBody, BadAtom, TimeBackwards, TooManyFrames}
use Rattle.session_frames.specs.declared.reply.ReplyBody.TheVariants.{Installed, Replaced, Removed, NoConfig}
use Rattle.session_frames.specs.FrameReading.{time_at, tick_body, atom_body, pull_id_at, payload_at, pulled_at, snapshot_at, outcome_at, pull_body, install_body, remove_body, report_body}
use Rattle.session_frames.specs.Frames.{next_frame, needed, Ended, Broken, Whole, Place, start, Reads, Clean}
use Rattle.session_frames.specs.Replies.{reply_bytes}

-- an install, two atoms and a report with a cut
abbrev install : List ℕ
install = 27 ∷ 0 ∷ 0 ∷ 0 ∷ 16 ∷ 10 ∷ 0 ∷ 0 ∷ 0 ∷ 7 ∷ 0 ∷ 0 ∷ 0 ∷ 0 ∷ 0 ∷ 0 ∷ 0 ∷ 58 ∷ 6 ∷ 8 ∷ 1 ∷ 18 ∷ 2 ∷ 8 ∷ 5 ∷ 26
    ∷ 4 ∷ 8 ∷ 100 ∷ 16 ∷ 1 ∷ []

abbrev further : List ℕ
further = 13 ∷ 0 ∷ 0 ∷ 0 ∷ 2 ∷ 2 ∷ 0 ∷ 0 ∷ 0 ∷ 0 ∷ 0 ∷ 0 ∷ 0 ∷ 5 ∷ 0 ∷ 0 ∷ 0 ∷ 13 ∷ 0 ∷ 0 ∷ 0 ∷ 2 ∷ 3 ∷ 0 ∷ 0 ∷ 0 ∷ 0
    ∷ 0 ∷ 0 ∷ 0 ∷ 5 ∷ 0 ∷ 0 ∷ 0 ∷ 14 ∷ 0 ∷ 0 ∷ 0 ∷ 18 ∷ 10 ∷ 0 ∷ 0 ∷ 0 ∷ 7 ∷ 0 ∷ 0 ∷ 0 ∷ 0 ∷ 0 ∷ 0 ∷ 0 ∷ 1 ∷ []

abbrev config : List ℕ
config = 58 ∷ 6 ∷ 8 ∷ 1 ∷ 18 ∷ 2 ∷ 8 ∷ 5 ∷ 26 ∷ 4 ∷ 8 ∷ 100 ∷ 16 ∷ 1 ∷ []

abbrev frames : List Frame
frames =
    Install (pos 10) (pos 7) config ∷ Log (AtomAt 2 (record { id = 5; fields = [] }))
    ∷ Log (AtomAt 3 (record { id = 5; fields = [] })) ∷ Report (pos 10) (pos 7) true ∷ []

least_session : Reads start (install ++ further) frames Clean
unfolding next_frame time_at atom_body atom_at id_at entries_in install_body report_body
least_session = (_, refl, (_, refl, (_, refl, (_, refl, refl))))

-- the beginning of a session, but for the clock
abbrev with_clock : ℕ → Place
with_clock clock = record { bytes = 0; clock = clock; frames = 0 }

-- a place with so many frames before it
abbrev with_frames : ℕ → Place
with_frames frames = record { bytes = 70000000000; clock = 0; frames = frames }

-- a session has 2^32 frames at most: a byte more is a fault, whatever it is
last_frame : next_frame (with_frames 4294967295) (9 ∷ 0 ∷ 0 ∷ 0 ∷ 1 ∷ 3 ∷ 0 ∷ 0 ∷ 0 ∷ 0 ∷ 0 ∷ 0 ∷ 0 ∷ [])
    ≡ Whole (Log (Tick 3)) []
unfolding next_frame time_at tick_body
last_frame = refl

one_too_many : next_frame (with_frames 4294967296) (9 ∷ []) ≡ Broken TooManyFrames
unfolding next_frame
one_too_many = refl

end_of_the_longest : next_frame (with_frames 4294967296) [] ≡ Ended
unfolding next_frame
end_of_the_longest = refl

-- how many bytes are asked for: of a length, of what it counts, of none that may not be, and of a frame too many
asks_for_length : needed start (9 ∷ 0 ∷ 0 ∷ []) ≡ 4
unfolding needed
asks_for_length = refl

asks_for_content : needed start (9 ∷ 0 ∷ 0 ∷ 0 ∷ []) ≡ 13
unfolding needed
asks_for_content = refl

asks_for_most : needed start (0 ∷ 0 ∷ 16 ∷ 0 ∷ []) ≡ 1048580
unfolding needed
asks_for_most = refl

asks_no_more : needed start (1 ∷ 0 ∷ 16 ∷ 0 ∷ []) ≡ 4
unfolding needed
asks_no_more = refl

asks_for_one : needed (with_frames 4294967296) [] ≡ 1
unfolding needed
asks_for_one = refl

-- a uid and an id below 0
below_zero : next_frame (with_clock 0)
    (14 ∷ 0 ∷ 0 ∷ 0 ∷ 18 ∷ 255 ∷ 255 ∷ 255 ∷ 255 ∷ 254 ∷ 255 ∷ 255 ∷ 255 ∷ 255 ∷ 255 ∷ 255 ∷ 255
    ∷ 0 ∷ 9 ∷ []) ≡ Whole (Report (negsuc 0) (negsuc 1) false) (9 ∷ [])
unfolding next_frame report_body
below_zero = refl

cut_length : next_frame (with_clock 0) (14 ∷ 0 ∷ 0 ∷ []) ≡ Broken Cut
unfolding next_frame
cut_length = refl

cut_body : next_frame (with_clock 0) (14 ∷ 0 ∷ 0 ∷ 0 ∷ 18 ∷ []) ≡ Broken Cut
unfolding next_frame
cut_body = refl

-- a length is judged before more is asked for
no_length : next_frame (with_clock 0) (0 ∷ 0 ∷ 0 ∷ 0 ∷ []) ≡ Broken BadLength
unfolding next_frame
no_length = refl

long : next_frame (with_clock 0) (1 ∷ 0 ∷ 16 ∷ 0 ∷ []) ≡ Broken (TooLong 1048577)
unfolding next_frame
long = refl

longest : next_frame (with_clock 0) (0 ∷ 0 ∷ 16 ∷ 0 ∷ []) ≡ Broken Cut
unfolding next_frame
longest = refl

kind_nine : next_frame (with_clock 0) (1 ∷ 0 ∷ 0 ∷ 0 ∷ 9 ∷ []) ≡ Broken (UnknownKind 9)
unfolding next_frame
kind_nine = refl

-- a tick, at the clock, and its faults: a byte short, a byte over, a time of 2^63, a time before the clock
a_tick : next_frame (with_clock 3) (9 ∷ 0 ∷ 0 ∷ 0 ∷ 1 ∷ 3 ∷ 0 ∷ 0 ∷ 0 ∷ 0 ∷ 0 ∷ 0 ∷ 0 ∷ 7 ∷ [])
    ≡ Whole (Log (Tick 3)) (7 ∷ [])
unfolding next_frame time_at tick_body
a_tick = refl

tick_short : next_frame (with_clock 0) (8 ∷ 0 ∷ 0 ∷ 0 ∷ 1 ∷ 3 ∷ 0 ∷ 0 ∷ 0 ∷ 0 ∷ 0 ∷ 0 ∷ []) ≡ Broken (BadBody 1)
unfolding next_frame time_at tick_body
tick_short = refl

tick_over : next_frame (with_clock 0) (10 ∷ 0 ∷ 0 ∷ 0 ∷ 1 ∷ 3 ∷ 0 ∷ 0 ∷ 0 ∷ 0 ∷ 0 ∷ 0 ∷ 0 ∷ 0 ∷ []) ≡ Broken (BadBody 2)
unfolding next_frame time_at tick_body
tick_over = refl

tick_late : next_frame (with_clock 0) (10 ∷ 0 ∷ 0 ∷ 0 ∷ 1 ∷ 0 ∷ 0 ∷ 0 ∷ 0 ∷ 0 ∷ 0 ∷ 0 ∷ 128 ∷ 0 ∷ [])
    ≡ Broken (BadBody 4)
unfolding next_frame time_at tick_body
tick_late = refl

tick_backwards : next_frame (with_clock 4) (9 ∷ 0 ∷ 0 ∷ 0 ∷ 1 ∷ 3 ∷ 0 ∷ 0 ∷ 0 ∷ 0 ∷ 0 ∷ 0 ∷ 0 ∷ [])
    ≡ Broken (TimeBackwards 4 3)
unfolding next_frame time_at tick_body
tick_backwards = refl

-- times go to 2^63 - 1
tick_hour : next_frame (with_clock 0) (9 ∷ 0 ∷ 0 ∷ 0 ∷ 1 ∷ 0 ∷ 160 ∷ 184 ∷ 48 ∷ 70 ∷ 3 ∷ 0 ∷ 0 ∷ [])
    ≡ Whole (Log (Tick 3600000000000)) []
unfolding next_frame time_at tick_body
tick_hour = refl

last_tick : next_frame (with_clock 0) (9 ∷ 0 ∷ 0 ∷ 0 ∷ 1 ∷ 255 ∷ 255 ∷ 255 ∷ 255 ∷ 255 ∷ 255 ∷ 255 ∷ 127 ∷ [])
    ≡ Whole (Log (Tick 9223372036854775807)) []
unfolding next_frame time_at tick_body
last_tick = refl

-- an atom with an entry; a late time is told before the id 0, and the id before time that falls
an_atom : next_frame (with_clock 0)
    (22 ∷ 0 ∷ 0 ∷ 0 ∷ 2 ∷ 2 ∷ 0 ∷ 0 ∷ 0 ∷ 0 ∷ 0 ∷ 0 ∷ 0 ∷ 5 ∷ 0 ∷ 0 ∷ 0 ∷ 1 ∷ 0 ∷ 0 ∷ 0 ∷ 1 ∷ 7 ∷ 0
    ∷ 0 ∷ 0 ∷ [])
    ≡ Whole (Log (AtomAt 2 (record {
      id = 5;
      fields = record { field = 1; index = 0; sub = 0; flags = 0; value = Int (pos 7) }
          ∷ [];
    }))) []
unfolding next_frame time_at atom_body atom_at id_at entries_in entry_at value_at
an_atom = refl

late_before_the_atom : next_frame (with_clock 0)
    (13 ∷ 0 ∷ 0 ∷ 0 ∷ 2 ∷ 0 ∷ 0 ∷ 0 ∷ 0 ∷ 0 ∷ 0 ∷ 0 ∷ 128 ∷ 0 ∷ 0 ∷ 0 ∷ 0 ∷ [])
    ≡ Broken (BadBody 4)
unfolding next_frame time_at atom_body atom_at id_at entries_in entry_at value_at
late_before_the_atom = refl

id_zero : next_frame (with_clock 3) (13 ∷ 0 ∷ 0 ∷ 0 ∷ 2 ∷ 2 ∷ 0 ∷ 0 ∷ 0 ∷ 0 ∷ 0 ∷ 0 ∷ 0 ∷ 0 ∷ 0 ∷ 0 ∷ 0 ∷ [])
    ≡ Broken (BadAtom 2)
unfolding next_frame time_at atom_body atom_at id_at entries_in entry_at value_at
id_zero = refl

id_short : next_frame (with_clock 0) (12 ∷ 0 ∷ 0 ∷ 0 ∷ 2 ∷ 2 ∷ 0 ∷ 0 ∷ 0 ∷ 0 ∷ 0 ∷ 0 ∷ 0 ∷ 5 ∷ 0 ∷ 0 ∷ [])
    ≡ Broken (BadAtom 2)
unfolding next_frame time_at atom_body atom_at id_at entries_in entry_at value_at
id_short = refl

entry_cut : next_frame (with_clock 0) (14 ∷ 0 ∷ 0 ∷ 0 ∷ 2 ∷ 2 ∷ 0 ∷ 0 ∷ 0 ∷ 0 ∷ 0 ∷ 0 ∷ 0 ∷ 5 ∷ 0 ∷ 0 ∷ 0 ∷ 1 ∷ [])
    ≡ Broken (BadAtom 3)
unfolding next_frame time_at atom_body atom_at id_at entries_in entry_at value_at
entry_cut = refl

backwards : next_frame (with_clock 3) (13 ∷ 0 ∷ 0 ∷ 0 ∷ 2 ∷ 2 ∷ 0 ∷ 0 ∷ 0 ∷ 0 ∷ 0 ∷ 0 ∷ 0 ∷ 5 ∷ 0 ∷ 0 ∷ 0 ∷ [])
    ≡ Broken (TimeBackwards 3 2)
unfolding next_frame time_at atom_body atom_at id_at entries_in entry_at value_at
backwards = refl

-- a pull of two atoms, of none, and one that failed
a_pull : next_frame (with_clock 0)
    (37 ∷ 0 ∷ 0 ∷ 0 ∷ 3 ∷ 2 ∷ 0 ∷ 0 ∷ 0 ∷ 0 ∷ 0 ∷ 0 ∷ 0 ∷ 17 ∷ 39 ∷ 0 ∷ 0 ∷ 0 ∷ 2 ∷ 0 ∷ 4 ∷ 0 ∷ 17
    ∷ 39 ∷ 0 ∷ 0 ∷ 13 ∷ 0 ∷ 17 ∷ 39 ∷ 0 ∷ 0 ∷ 1 ∷ 0 ∷ 0 ∷ 0 ∷ 1 ∷ 7 ∷ 0 ∷ 0 ∷ 0 ∷ [])
    ≡ Whole (Log (Pull 2 10001 (Atoms (record { id = 10001; fields = [] }
    ∷ record { id = 10001; fields = record { field = 1; index = 0; sub = 0; flags = 0; value = Int (pos 7) } ∷ [] }
    ∷ [])))) []
unfolding next_frame time_at pull_body pull_id_at outcome_at snapshot_at many pulled_at payload_at atom_at id_at
    entries_in entry_at value_at
a_pull = refl

pull_of_none : next_frame (with_clock 0)
    (16 ∷ 0 ∷ 0 ∷ 0 ∷ 3 ∷ 2 ∷ 0 ∷ 0 ∷ 0 ∷ 0 ∷ 0 ∷ 0 ∷ 0 ∷ 17 ∷ 39 ∷ 0 ∷ 0 ∷ 0 ∷ 0 ∷ 0 ∷ [])
    ≡ Whole (Log (Pull 2 10001 (Atoms []))) []
unfolding next_frame time_at pull_body pull_id_at outcome_at snapshot_at many pulled_at payload_at atom_at id_at
    entries_in entry_at value_at
pull_of_none = refl

pull_failed : next_frame (with_clock 0) (14 ∷ 0 ∷ 0 ∷ 0 ∷ 3 ∷ 2 ∷ 0 ∷ 0 ∷ 0 ∷ 0 ∷ 0 ∷ 0 ∷ 0 ∷ 17 ∷ 39 ∷ 0 ∷ 0 ∷ 1 ∷ [])
    ≡ Whole (Log (Pull 2 10001 Failed)) []
unfolding next_frame time_at pull_body pull_id_at outcome_at snapshot_at many pulled_at payload_at atom_at id_at
    entries_in entry_at value_at
pull_failed = refl

pull_failed_over : next_frame (with_clock 0)
    (15 ∷ 0 ∷ 0 ∷ 0 ∷ 3 ∷ 2 ∷ 0 ∷ 0 ∷ 0 ∷ 0 ∷ 0 ∷ 0 ∷ 0 ∷ 17 ∷ 39 ∷ 0 ∷ 0 ∷ 1 ∷ 0 ∷ [])
    ≡ Broken (BadBody 2)
unfolding next_frame time_at pull_body pull_id_at outcome_at snapshot_at many pulled_at payload_at atom_at id_at
    entries_in entry_at value_at
pull_failed_over = refl

-- a pull's id is judged before its flag, its count before its atoms
id_before_flag : next_frame (with_clock 0) (14 ∷ 0 ∷ 0 ∷ 0 ∷ 3 ∷ 2 ∷ 0 ∷ 0 ∷ 0 ∷ 0 ∷ 0 ∷ 0 ∷ 0 ∷ 0 ∷ 0 ∷ 0 ∷ 0 ∷ 2 ∷ [])
    ≡ Broken (BadAtom 2)
unfolding next_frame time_at pull_body pull_id_at outcome_at snapshot_at many pulled_at payload_at atom_at id_at
    entries_in entry_at value_at
id_before_flag = refl

flag_two : next_frame (with_clock 0) (15 ∷ 0 ∷ 0 ∷ 0 ∷ 3 ∷ 2 ∷ 0 ∷ 0 ∷ 0 ∷ 0 ∷ 0 ∷ 0 ∷ 0 ∷ 17 ∷ 39 ∷ 0 ∷ 0 ∷ 2 ∷ 0 ∷ [])
    ≡ Broken (BadBody 3)
unfolding next_frame time_at pull_body pull_id_at outcome_at snapshot_at many pulled_at payload_at atom_at id_at
    entries_in entry_at value_at
flag_two = refl

no_flag : next_frame (with_clock 0) (13 ∷ 0 ∷ 0 ∷ 0 ∷ 3 ∷ 2 ∷ 0 ∷ 0 ∷ 0 ∷ 0 ∷ 0 ∷ 0 ∷ 0 ∷ 17 ∷ 39 ∷ 0 ∷ 0 ∷ [])
    ≡ Broken (BadBody 1)
unfolding next_frame time_at pull_body pull_id_at outcome_at snapshot_at many pulled_at payload_at atom_at id_at
    entries_in entry_at value_at
no_flag = refl

too_many_atoms : next_frame (with_clock 0)
    (16 ∷ 0 ∷ 0 ∷ 0 ∷ 3 ∷ 2 ∷ 0 ∷ 0 ∷ 0 ∷ 0 ∷ 0 ∷ 0 ∷ 0 ∷ 17 ∷ 39 ∷ 0 ∷ 0 ∷ 0 ∷ 201 ∷ 0
    ∷ []) ≡ Broken (BadBody 5)
unfolding next_frame time_at pull_body pull_id_at outcome_at snapshot_at many pulled_at payload_at atom_at id_at
    entries_in entry_at value_at
too_many_atoms = refl

atoms_short : next_frame (with_clock 0)
    (16 ∷ 0 ∷ 0 ∷ 0 ∷ 3 ∷ 2 ∷ 0 ∷ 0 ∷ 0 ∷ 0 ∷ 0 ∷ 0 ∷ 0 ∷ 17 ∷ 39 ∷ 0 ∷ 0 ∷ 0 ∷ 200 ∷ 0 ∷ [])
    ≡ Broken (BadBody 1)
unfolding next_frame time_at pull_body pull_id_at outcome_at snapshot_at many pulled_at payload_at atom_at id_at
    entries_in entry_at value_at
atoms_short = refl

-- a payload that isn't whole is told before its id, another id before the entries, an id that none has before both
payload_cut : next_frame (with_clock 0)
    (22 ∷ 0 ∷ 0 ∷ 0 ∷ 3 ∷ 2 ∷ 0 ∷ 0 ∷ 0 ∷ 0 ∷ 0 ∷ 0 ∷ 0 ∷ 17 ∷ 39 ∷ 0 ∷ 0 ∷ 0 ∷ 1 ∷ 0 ∷ 5 ∷ 0
    ∷ 0 ∷ 0 ∷ 0 ∷ 0 ∷ []) ≡ Broken (BadBody 1)
unfolding next_frame time_at pull_body pull_id_at outcome_at snapshot_at many pulled_at payload_at atom_at id_at
    entries_in entry_at value_at
payload_cut = refl

other_id : next_frame (with_clock 0)
    (23 ∷ 0 ∷ 0 ∷ 0 ∷ 3 ∷ 2 ∷ 0 ∷ 0 ∷ 0 ∷ 0 ∷ 0 ∷ 0 ∷ 0 ∷ 17 ∷ 39 ∷ 0 ∷ 0 ∷ 0 ∷ 1 ∷ 0 ∷ 5 ∷ 0 ∷ 18
    ∷ 39 ∷ 0 ∷ 0 ∷ 1 ∷ []) ≡ Broken (BadAtom 8)
unfolding next_frame time_at pull_body pull_id_at outcome_at snapshot_at many pulled_at payload_at atom_at id_at
    entries_in entry_at value_at
other_id = refl

no_id_before_other : next_frame (with_clock 0)
    (22 ∷ 0 ∷ 0 ∷ 0 ∷ 3 ∷ 2 ∷ 0 ∷ 0 ∷ 0 ∷ 0 ∷ 0 ∷ 0 ∷ 0 ∷ 17 ∷ 39 ∷ 0 ∷ 0 ∷ 0 ∷ 1 ∷ 0
    ∷ 4 ∷ 0 ∷ 0 ∷ 0 ∷ 0 ∷ 0 ∷ []) ≡ Broken (BadAtom 2)
unfolding next_frame time_at pull_body pull_id_at outcome_at snapshot_at many pulled_at payload_at atom_at id_at
    entries_in entry_at value_at
no_id_before_other = refl

entry_before_left_over : next_frame (with_clock 0)
    (24 ∷ 0 ∷ 0 ∷ 0 ∷ 3 ∷ 2 ∷ 0 ∷ 0 ∷ 0 ∷ 0 ∷ 0 ∷ 0 ∷ 0 ∷ 17 ∷ 39 ∷ 0 ∷ 0 ∷ 0 ∷ 1
    ∷ 0 ∷ 5 ∷ 0 ∷ 17 ∷ 39 ∷ 0 ∷ 0 ∷ 1 ∷ 9 ∷ []) ≡ Broken (BadAtom 3)
unfolding next_frame time_at pull_body pull_id_at outcome_at snapshot_at many pulled_at payload_at atom_at id_at
    entries_in entry_at value_at
entry_before_left_over = refl

pull_left_over : next_frame (with_clock 3)
    (17 ∷ 0 ∷ 0 ∷ 0 ∷ 3 ∷ 2 ∷ 0 ∷ 0 ∷ 0 ∷ 0 ∷ 0 ∷ 0 ∷ 0 ∷ 17 ∷ 39 ∷ 0 ∷ 0 ∷ 0 ∷ 0 ∷ 0 ∷ 9
    ∷ []) ≡ Broken (BadBody 2)
unfolding next_frame time_at pull_body pull_id_at outcome_at snapshot_at many pulled_at payload_at atom_at id_at
    entries_in entry_at value_at
pull_left_over = refl

-- commands have no time
a_remove : next_frame (with_clock 9) (13 ∷ 0 ∷ 0 ∷ 0 ∷ 17 ∷ 10 ∷ 0 ∷ 0 ∷ 0 ∷ 7 ∷ 0 ∷ 0 ∷ 0 ∷ 0 ∷ 0 ∷ 0 ∷ 0 ∷ [])
    ≡ Whole (Remove (pos 10) (pos 7)) []
unfolding next_frame remove_body
a_remove = refl

remove_over : next_frame (with_clock 0) (14 ∷ 0 ∷ 0 ∷ 0 ∷ 17 ∷ 10 ∷ 0 ∷ 0 ∷ 0 ∷ 7 ∷ 0 ∷ 0 ∷ 0 ∷ 0 ∷ 0 ∷ 0 ∷ 0 ∷ 0 ∷ [])
    ≡ Broken (BadBody 2)
unfolding next_frame remove_body
remove_over = refl

remove_short : next_frame (with_clock 0) (12 ∷ 0 ∷ 0 ∷ 0 ∷ 17 ∷ 10 ∷ 0 ∷ 0 ∷ 0 ∷ 7 ∷ 0 ∷ 0 ∷ 0 ∷ 0 ∷ 0 ∷ 0 ∷ [])
    ≡ Broken (BadBody 1)
unfolding next_frame remove_body
remove_short = refl

install_short : next_frame (with_clock 0) (12 ∷ 0 ∷ 0 ∷ 0 ∷ 16 ∷ 10 ∷ 0 ∷ 0 ∷ 0 ∷ 7 ∷ 0 ∷ 0 ∷ 0 ∷ 0 ∷ 0 ∷ 0 ∷ [])
    ≡ Broken (BadBody 1)
unfolding next_frame install_body
install_short = refl

install_empty : next_frame (with_clock 0) (13 ∷ 0 ∷ 0 ∷ 0 ∷ 16 ∷ 10 ∷ 0 ∷ 0 ∷ 0 ∷ 7 ∷ 0 ∷ 0 ∷ 0 ∷ 0 ∷ 0 ∷ 0 ∷ 0 ∷ [])
    ≡ Whole (Install (pos 10) (pos 7) []) []
unfolding next_frame install_body
install_empty = refl

-- a flag of 2 is told before a byte that is left over
report_flag_two : next_frame (with_clock 0)
    (15 ∷ 0 ∷ 0 ∷ 0 ∷ 18 ∷ 10 ∷ 0 ∷ 0 ∷ 0 ∷ 7 ∷ 0 ∷ 0 ∷ 0 ∷ 0 ∷ 0 ∷ 0 ∷ 0 ∷ 2 ∷ 0 ∷ [])
    ≡ Broken (BadBody 3)
unfolding next_frame report_body
report_flag_two = refl

report_over : next_frame (with_clock 0)
    (15 ∷ 0 ∷ 0 ∷ 0 ∷ 18 ∷ 10 ∷ 0 ∷ 0 ∷ 0 ∷ 7 ∷ 0 ∷ 0 ∷ 0 ∷ 0 ∷ 0 ∷ 0 ∷ 0 ∷ 1 ∷ 0 ∷ [])
    ≡ Broken (BadBody 2)
unfolding next_frame report_body
report_over = refl

report_no_flag : next_frame (with_clock 0) (13 ∷ 0 ∷ 0 ∷ 0 ∷ 18 ∷ 10 ∷ 0 ∷ 0 ∷ 0 ∷ 7 ∷ 0 ∷ 0 ∷ 0 ∷ 0 ∷ 0 ∷ 0 ∷ 0 ∷ [])
    ≡ Broken (BadBody 1)
unfolding next_frame report_body
report_no_flag = refl

-- replies without a body
installed : reply_bytes (record { uid = pos 10; id = pos 7; body = Installed }) ≡ 13 ∷ 0 ∷ 0 ∷ 0 ∷ 0 ∷ 0 ∷ 0 ∷ 0 ∷ 1
    ∷ 10 ∷ 0 ∷ 0 ∷ 0 ∷ 7 ∷ 0 ∷ 0 ∷ 0 ∷ 0 ∷ 0 ∷ 0 ∷ 0 ∷ []
installed = refl

no_config : reply_bytes (record { uid = negsuc 0; id = negsuc 1; body = NoConfig }) ≡ 13 ∷ 0 ∷ 0 ∷ 0 ∷ 0 ∷ 0 ∷ 0 ∷ 0
    ∷ 5 ∷ 255 ∷ 255 ∷ 255 ∷ 255 ∷ 254 ∷ 255 ∷ 255 ∷ 255 ∷ 255 ∷ 255 ∷ 255 ∷ 255 ∷ []
no_config = refl

-- a last report, of a configuration that is replaced and of one that is removed: kinds of their own, and never 2 or 4
replaced : reply_bytes (record {
  uid = pos 10;
  id = pos 3;
  body = Replaced (10 ∷ 4 ∷ 8 ∷ 10 ∷ 16 ∷ 3 ∷ 18 ∷ 4 ∷ 24 ∷ 0 ∷ 32 ∷ 0
      ∷ []);
}) ≡ 25 ∷ 0 ∷ 0 ∷ 0 ∷ 0 ∷ 0 ∷ 0 ∷ 0 ∷ 8 ∷ 10 ∷ 0 ∷ 0 ∷ 0 ∷ 3 ∷ 0 ∷ 0 ∷ 0 ∷ 0 ∷ 0 ∷ 0 ∷ 0 ∷ 10 ∷ 4 ∷ 8 ∷ 10 ∷ 16 ∷ 3 ∷ 18
    ∷ 4 ∷ 24 ∷ 0 ∷ 32 ∷ 0 ∷ []
replaced = refl

removed : reply_bytes (record { uid = pos 10; id = pos 7; body = Removed (7 ∷ []) }) ≡ 14 ∷ 0 ∷ 0 ∷ 0 ∷ 0 ∷ 0 ∷ 0 ∷ 0
    ∷ 9
    ∷ 10 ∷ 0 ∷ 0 ∷ 0 ∷ 7 ∷ 0 ∷ 0 ∷ 0 ∷ 0 ∷ 0 ∷ 0 ∷ 0 ∷ 7 ∷ []
removed = refl
