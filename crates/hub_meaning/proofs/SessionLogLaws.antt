-- The log, own frames and the clock of a session with one more frame.
use Rattle.std.proofs.Common.{◌≡◌, ℕ, ℤ, Bool, true, false, cond, List, [], ◌∷◌, ◌++◌, refl, ap, ◌∙◌}
use Rattle.std.proofs.lemmas.List.{append-nil}
use Rattle.std.proofs.lemmas.List.Elements.{filter-append}
use Rattle.std.proofs.lemmas.List.Concat.{flat_map-append}
use Rattle.session_frames.specs.declared.frame.Frame.{Frame}
use Rattle.session_frames.specs.declared.frame.Frame.TheVariants.{Log, Install, Remove, Report}
use Rattle.session_frames.specs.Frames.{clock_after}
use Rattle.hub_meaning.specs.SessionLog.{is_own, log_frame_in, log_frames, own, clock_from, clock_of}

-- a frame of the client comes after its own frames
pub own-push_own : (client : ℤ) (frames : List Frame) (frame : Frame) → is_own client frame ≡ true
    → own client (frames ++ frame ∷ []) ≡ own client frames ++ frame ∷ []
own-push_own client frames frame is =
    filter-append (is_own client) frames (frame ∷ [])
    ∙ ap (λ (mine : Bool). own client frames ++ cond mine (frame ∷ []) []) is

-- a command of another client is none of its own frames
pub own-push_other : (client : ℤ) (frames : List Frame) (frame : Frame) → is_own client frame ≡ false
    → own client (frames ++ frame ∷ []) ≡ own client frames
own-push_other client frames frame is =
    filter-append (is_own client) frames (frame ∷ [])
    ∙ ap (λ (mine : Bool). own client frames ++ cond mine (frame ∷ []) []) is ∙ append-nil (own client frames)

clock_from-push : (clock : ℕ) (frames : List Frame) (frame : Frame)
    → clock_from clock (frames ++ frame ∷ []) ≡ clock_after (clock_from clock frames) frame
clock_from-push clock [] frame = refl
clock_from-push clock (first ∷ frames) frame = clock_from-push (clock_after clock first) frames frame

-- the clock after one more frame
pub clock_of-push : (frames : List Frame) (frame : Frame)
    → clock_of (frames ++ frame ∷ []) ≡ clock_after (clock_of frames) frame
clock_of-push frames frame = clock_from-push 0 frames frame

-- a command may be left out
skipped : (mine : Bool) (clock : ℕ) (frame : Frame) (rest : List Frame) → clock_after clock frame ≡ clock
    → clock_from clock (cond mine (frame ∷ rest) rest) ≡ clock_from clock rest
skipped true clock frame rest same = ap (λ (time : ℕ). clock_from time rest) same
skipped false clock frame rest same = refl

clock_from-own : (client : ℤ) (clock : ℕ) (frames : List Frame)
    → clock_from clock (own client frames) ≡ clock_from clock frames
clock_from-own client clock [] = refl
clock_from-own client clock (Log frame ∷ frames) = clock_from-own client (clock_after clock (Log frame)) frames
clock_from-own client clock (Install uid id config ∷ frames) =
    skipped (is_own client (Install uid id config)) clock (Install uid id config) (own client frames) refl
    ∙ clock_from-own client clock frames
clock_from-own client clock (Remove uid id ∷ frames) =
    skipped (is_own client (Remove uid id)) clock (Remove uid id) (own client frames) refl
    ∙ clock_from-own client clock frames
clock_from-own client clock (Report uid id include_current ∷ frames) =
    skipped (is_own client (Report uid id include_current)) clock (Report uid id include_current) (own client frames)
    refl ∙ clock_from-own client clock frames

-- a client's own frames have the clock of all
pub clock_of-own : (client : ℤ) (frames : List Frame) → clock_of (own client frames) ≡ clock_of frames
clock_of-own client frames = clock_from-own client 0 frames

-- the frames of the log after one more frame
pub log_frames-push : (frames : List Frame) (frame : Frame)
    → log_frames (frames ++ frame ∷ []) ≡ log_frames frames ++ log_frame_in frame
log_frames-push frames frame =
    flat_map-append log_frame_in frames (frame ∷ [])
    ∙ ap (λ l. log_frames frames ++ l) (append-nil (log_frame_in frame))

-- a command may be left out of them
passed_over : (mine : Bool) (frame : Frame) (rest : List Frame) → log_frame_in frame ≡ []
    → log_frames (cond mine (frame ∷ rest) rest) ≡ log_frames rest
passed_over true frame rest none = ap (λ l. l ++ log_frames rest) none
passed_over false frame rest none = refl

-- a client's own frames have the log of all
pub log_frames-own : (client : ℤ) (frames : List Frame) → log_frames (own client frames) ≡ log_frames frames
log_frames-own client [] = refl
log_frames-own client (Log frame ∷ frames) = ap (λ l. frame ∷ l) (log_frames-own client frames)
log_frames-own client (Install uid id config ∷ frames) =
    passed_over (is_own client (Install uid id config)) (Install uid id config) (own client frames) refl
    ∙ log_frames-own client frames
log_frames-own client (Remove uid id ∷ frames) =
    passed_over (is_own client (Remove uid id)) (Remove uid id) (own client frames) refl
    ∙ log_frames-own client frames
log_frames-own client (Report uid id include_current ∷ frames) =
    passed_over (is_own client (Report uid id include_current)) (Report uid id include_current) (own client frames)
    refl ∙ log_frames-own client frames
