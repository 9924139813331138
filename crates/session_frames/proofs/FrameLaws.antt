-- Laws of the frames of a byte string, for statsd_cli too: any bytes are read in one way, and more bytes after whole
-- frames, or after a fault, change none of them.
use Rattle.std.proofs.Common.{◌≡◌, ℕ, zero, suc, ◌+◌, ◌-◌, ◌<◌, ◌≤◌, Bool, true, false, ◌==◌, nat_le, nat_lt, if◌then◌else◌, fold, List, [], ◌∷◌, ◌++◌, length, take, drop, Result, Ok, Err, refl, sym, ap, ap₂, ◌∙◌, subst, subst₂, arith}
use Rattle.std.proofs.lemmas.Bool.Decides.{nat_tests}
use Rattle.std.proofs.lemmas.List.{take-take, take-append-le, drop-append-le, length-append, length-drop, length-take-le, nil_from_length}
use Rattle.std.specs.Int.{w32, from_le_bytes}
use Rattle.session_frames.specs.declared.frame.Frame.{Frame}
use Rattle.session_frames.specs.declared.frame.FrameFault.{FrameFault}
use Rattle.session_frames.specs.declared.frame.FrameFault.TheVariants as own
use Rattle.session_frames.specs.declared.frame.SessionFault.{SessionFault}
use Rattle.session_frames.specs.declared.frame.SessionFault.TheVariants.{Cut, TooLong, BadLength, TooManyFrames}
use Rattle.session_frames.specs.FrameLimits.{most_body, most_pending, most_session_frames}
use Rattle.session_frames.specs.FrameReading.{frame_of}
use Rattle.session_frames.specs.SessionFaults.{session_fault}
use Rattle.session_frames.specs.Frames.{clock_after, Next, Ended, Broken, Whole, followed_by, size_at, next_frame, needed, Place, start, past, End, Clean, Bad, Reads, Begins, frames_of}
use Rattle.session_frames.specs.Reader.{IsUnfinished}

-- A frame stands whole in front: its length, its content, and what comes after it.
pub record StandsWhole (place : Place) (left : List ℕ) (frame : Frame) (rest : List ℕ) : Type 0 where
  pub room : place.frames < most_session_frames
  pub long : 4 ≤ length left
  pub some : 1 ≤ size_at left
  pub small : size_at left ≤ most_body
  pub here : size_at left ≤ length (drop 4 left)
  pub reads : frame_of place.clock (take (size_at left) (drop 4 left)) ≡ Ok frame
  pub after : drop (size_at left) (drop 4 left) ≡ rest

-- The judgement by its six tests: what they say where a frame is found.
record FoundSo (empty over short none long cut : Bool) (read : Result Frame FrameFault) (after : List ℕ) (frame : Frame)
    (rest : List ℕ) : Type 0 where
  pub not_empty : empty ≡ false
  pub not_over : over ≡ false
  pub not_short : short ≡ false
  pub not_none : none ≡ false
  pub not_long : long ≡ false
  pub not_cut : cut ≡ false
  pub reads : read ≡ Ok frame
  pub leaves : after ≡ rest

abbrev judged : Bool → Bool → Bool → Bool → Bool → Bool → ℕ → Next → Next
judged empty over short none long cut size read =
    if empty then Ended
    else if over then Broken TooManyFrames
    else if short then Broken Cut
    else if none then Broken BadLength
    else if long then Broken (TooLong size)
    else if cut then Broken Cut
    else read

found_so : (empty over short none long cut : Bool) (size : ℕ) (read : Result Frame FrameFault) (after : List ℕ)
    (frame : Frame) (rest : List ℕ)
    → judged empty over short none long cut size (followed_by after read) ≡ Whole frame rest
    → FoundSo empty over short none long cut read after frame rest
found_so true over short none long cut size read after frame rest e = absurd (cc)
found_so false true short none long cut size read after frame rest e = absurd (cc)
found_so false false true none long cut size read after frame rest e = absurd (cc)
found_so false false false true long cut size read after frame rest e = absurd (cc)
found_so false false false false true cut size read after frame rest e = absurd (cc)
found_so false false false false false true size read after frame rest e = absurd (cc)
found_so false false false false false false size (Err fault) after frame rest e = absurd (cc)
found_so false false false false false false size (Ok found) after frame rest e =
    record {
      not_empty = refl;
      not_over = refl;
      not_short = refl;
      not_none = refl;
      not_long = refl;
      not_cut = refl;
      reads = cc;
      leaves = cc;
    }

judged_so : (empty over short none long cut : Bool) (size : ℕ) (read : Result Frame FrameFault) (after : List ℕ)
    (frame : Frame) (rest : List ℕ)
    → FoundSo empty over short none long cut read after frame rest
    → judged empty over short none long cut size (followed_by after read) ≡ Whole frame rest
judged_so empty over short none long cut size read after frame rest h =
    rw (h.not_empty, h.not_over, h.not_short, h.not_none, h.not_long, h.not_cut, h.reads, h.leaves) refl

-- the tests, as facts on numbers
tests_tell : (len before over size most rest : ℕ)
    → (len == 0) ≡ false
    → nat_le over before ≡ false
    → nat_lt len 4 ≡ false
    → (size == 0) ≡ false
    → nat_lt most size ≡ false
    → nat_lt rest size ≡ false
    → (before < over) × (4 ≤ len) × (1 ≤ size) × (size ≤ most) × (size ≤ rest)
tests_tell len before over size most rest e0 e1 e2 e3 e4 e5 = (
  grind (arith, nat_tests),
  grind (arith, nat_tests),
  grind (arith, nat_tests),
  grind (arith, nat_tests),
  grind (arith, nat_tests),
)

told_by_tests : (len before over size most rest : ℕ)
    → before < over
    → 4 ≤ len
    → 1 ≤ size
    → size ≤ most
    → size ≤ rest
    → ((len == 0) ≡ false) × (nat_le over before ≡ false) × (nat_lt len 4 ≡ false) × ((size == 0) ≡ false)
    × (nat_lt most size ≡ false) × (nat_lt rest size ≡ false)
told_by_tests len before over size most rest h0 h1 h2 h3 h4 = (
  grind (arith, nat_tests),
  grind (arith, nat_tests),
  grind (arith, nat_tests),
  grind (arith, nat_tests),
  grind (arith, nat_tests),
  grind (arith, nat_tests),
)

-- what is judged a frame stands whole in front
pub StandsWhole-from_next : (place : Place) (left : List ℕ) (frame : Frame) (rest : List ℕ)
    → next_frame place left ≡ Whole frame rest
    → StandsWhole place left frame rest
unfolding next_frame
StandsWhole-from_next place left frame rest e =
    let size = size_at left in
    let so : FoundSo (length left == 0) (nat_le most_session_frames place.frames) (nat_lt (length left) 4) (size == 0)
    (nat_lt most_body size) (nat_lt (length (drop 4 left)) size)
    (frame_of place.clock (take size (drop 4 left))) (drop size (drop 4 left)) frame rest =
    found_so _ _ _ _ _ _ size _ _ frame rest e in
    let told = tests_tell (length left) place.frames most_session_frames size most_body (length (drop 4 left))
    so.not_empty so.not_over so.not_short so.not_none so.not_long so.not_cut in
    record {
      room = told.0;
      long = told.1;
      some = told.2;
      small = told.3;
      here = told.4;
      reads = so.reads;
      after = so.leaves;
    }

-- what stands whole in front is judged a frame
pub next-from_StandsWhole : (place : Place) (left : List ℕ) (frame : Frame) (rest : List ℕ)
    → StandsWhole place left frame rest
    → next_frame place left ≡ Whole frame rest
unfolding next_frame
next-from_StandsWhole place left frame rest h =
    let size = size_at left in
    let told = told_by_tests (length left) place.frames most_session_frames size most_body (length (drop 4 left))
    h.room h.long h.some h.small h.here in
    judged_so (length left == 0) (nat_le most_session_frames place.frames) (nat_lt (length left) 4) (size == 0)
    (nat_lt most_body size) (nat_lt (length (drop 4 left)) size) size
    (frame_of place.clock (take size (drop 4 left))) (drop size (drop 4 left)) frame rest
    (record {
      not_empty = told.0;
      not_over = told.1;
      not_short = told.2;
      not_none = told.3;
      not_long = told.4;
      not_cut = told.5;
      reads = h.reads;
      leaves = h.after;
    })

-- a frame takes its length and one byte at least
pub whole_takes : (place : Place) (left : List ℕ) (frame : Frame) (rest : List ℕ)
    → next_frame place left ≡ Whole frame rest
    → length rest + 5 ≤ length left
whole_takes place left frame rest e =
    let h = StandsWhole-from_next place left frame rest e in
    let long : 4 ≤ length left = h.long in
    let some : 1 ≤ size_at left = h.some in
    let here : size_at left ≤ length (drop 4 left) = h.here in
    omega (arith, sym (length-drop 4 left), sym (length-drop (size_at left) (drop 4 left)), sym (ap length h.after))

-- more bytes after a whole frame stay after it
pub whole_more : (place : Place) (left : List ℕ) (frame : Frame) (rest more : List ℕ)
    → next_frame place left ≡ Whole frame rest
    → next_frame place (left ++ more) ≡ Whole frame (rest ++ more)
whole_more place left frame rest more e =
    let h = StandsWhole-from_next place left frame rest e in
    let long : 4 ≤ length left = h.long in
    let here : size_at left ≤ length (drop 4 left) = h.here in
    let body_more : drop 4 (left ++ more) ≡ drop 4 left ++ more = drop-append-le 4 left more long in
    let size_more : size_at (left ++ more) ≡ size_at left = ap (from_le_bytes w32) (take-append-le 4 left more long) in
    let content_more : take (size_at (left ++ more)) (drop 4 (left ++ more)) ≡ take (size_at left) (drop 4 left) =
    ap₂ take size_more body_more ∙ take-append-le (size_at left) (drop 4 left) more here in
    next-from_StandsWhole place (left ++ more) frame (rest ++ more) (record {
      room = h.room;
      long = omega (arith, length-append left more);
      some = subst (λ n. 1 ≤ n) (sym size_more) h.some;
      small = subst (λ n. n ≤ most_body) (sym size_more) h.small;
      here = subst (λ n. n ≤ length (drop 4 (left ++ more))) (sym size_more)
          (omega (arith, ap length body_more, length-append (drop 4 left) more));
      reads = ap (frame_of place.clock) content_more ∙ h.reads;
      after = ap₂ drop size_more body_more
          ∙ drop-append-le (size_at left) (drop 4 left) more here
          ∙ ap (λ l. l ++ more) h.after;
    })

-- the place after a frame is the same with more bytes after it
past-more : (place : Place) (left : List ℕ) (frame : Frame) (rest more : List ℕ)
    → past place (left ++ more) frame (rest ++ more) ≡ past place left frame rest
past-more place left frame rest more =
    let taken : place.bytes + (length (left ++ more) - length (rest ++ more))
    ≡ place.bytes + (length left - length rest) =
    omega (arith, length-append left more, length-append rest more) in
    let at : ℕ → Place = λ n. record {
      bytes = n;
      clock = clock_after place.clock frame;
      frames = place.frames + 1;
    } in
    ap at taken

-- more bytes after frames stay after them
pub Begins-more : (place : Place) (left : List ℕ) (frames : List Frame) (new : Place) (rest more : List ℕ)
    → Begins place left frames new rest
    → Begins place (left ++ more) frames new (rest ++ more)
Begins-more place left [] new rest more h = (ap (λ l. l ++ more) h.0, h.1)
Begins-more place left (frame ∷ frames) new rest more h = (
  h.0 ++ more,
  whole_more place left frame h.0 more h.1,
  subst (λ p. Begins p (h.0 ++ more) frames new (rest ++ more)) (sym (past-more place left frame h.0 more))
      (Begins-more (past place left frame h.0) h.0 frames new rest more h.2),
)

-- one more frame after frames
pub Begins-push : (place : Place) (left : List ℕ) (frames : List Frame) (new : Place) (rest : List ℕ) (frame : Frame)
    (after : List ℕ)
    → Begins place left frames new rest
    → next_frame new rest ≡ Whole frame after
    → Begins place left (frames ++ frame ∷ []) (past new rest frame after) after
Begins-push place left [] new rest frame after h whole = (
  after,
  ap₂ next_frame h.1 h.0 ∙ whole,
  (refl, ap₂ (λ (p : Place) l. past p l frame after) h.1 h.0),
)
Begins-push place left (first ∷ frames) new rest frame after h whole =
    (h.0, h.1, Begins-push (past place left first h.0) h.0 frames new rest frame after h.2 whole)

-- what is read at the place after frames is read after them
pub Reads-from_Begins : (place : Place) (left : List ℕ) (frames : List Frame) (new : Place) (rest : List ℕ)
    (others : List Frame) (end : End)
    → Begins place left frames new rest
    → Reads new rest others end
    → Reads place left (frames ++ others) end
Reads-from_Begins place left [] new rest others end h reads =
    subst₂ (λ p l. Reads p l others end) (sym h.1) (sym h.0) reads
Reads-from_Begins place left (frame ∷ frames) new rest others end h reads =
    (h.0, h.1, Reads-from_Begins (past place left frame h.0) h.0 frames new rest others end h.2 reads)

-- the clock after frames
pub Begins_clock : (place : Place) (left : List ℕ) (frames : List Frame) (new : Place) (rest : List ℕ)
    → Begins place left frames new rest
    → new.clock ≡ fold clock_after place.clock frames
Begins_clock place left [] new rest h = ap (λ (p : Place). p.clock) (sym h.1)
Begins_clock place left (frame ∷ frames) new rest h = Begins_clock (past place left frame h.0) h.0 frames new rest h.2

-- what was read and what is left are all the bytes
pub Begins_bytes : (place : Place) (left : List ℕ) (frames : List Frame) (new : Place) (rest : List ℕ)
    → Begins place left frames new rest
    → new.bytes + length rest ≡ place.bytes + length left
Begins_bytes place left [] new rest h = ap₂ (λ (p : Place) l. p.bytes + length l) (sym h.1) (sym h.0)
Begins_bytes place left (frame ∷ frames) new rest h =
    let takes : length h.0 + 5 ≤ length left = whole_takes place left frame h.0 h.1 in
    Begins_bytes (past place left frame h.0) h.0 frames new rest h.2 ∙ omega arith

-- frames with an end are frames in front, and the end after them
pub Begins-from_Reads : (place : Place) (left : List ℕ) (frames : List Frame) (end : End)
    → Reads place left frames end
    → (new : Place) × (rest : List ℕ) × Begins place left frames new rest × Reads new rest [] end
Begins-from_Reads place left [] end h = (place, left, (refl, refl), h)
Begins-from_Reads place left (frame ∷ frames) end h =
    let more = Begins-from_Reads (past place left frame h.0) h.0 frames end h.2 in
    (more.0, more.1, (h.0, h.1, more.2), more.3)

-- Bytes are read in one way.
pub one_reading : (place : Place) (left : List ℕ) (frames others : List Frame) (end other : End)
    → Reads place left frames end
    → Reads place left others other
    → (frames ≡ others) × (end ≡ other)
one_reading place left [] [] Clean Clean h k = (refl, refl)
one_reading place left [] [] Clean (Bad at fault) h k = absurd (cc (h, k.1))
one_reading place left [] [] (Bad at fault) Clean h k = absurd (cc (h.1, k))
one_reading place left [] [] (Bad at fault) (Bad there other) h k =
    let same : fault ≡ other = cc (h.1, k.1) in
    (refl, ap₂ Bad (h.0 ∙ sym k.0) same)
one_reading place left [] (frame ∷ frames) Clean other h k = absurd (cc (h, k.1))
one_reading place left [] (frame ∷ frames) (Bad at fault) other h k = absurd (cc (h.1, k.1))
one_reading place left (frame ∷ frames) [] end Clean h k = absurd (cc (h.1, k))
one_reading place left (frame ∷ frames) [] end (Bad at fault) h k = absurd (cc (h.1, k.1))
one_reading place left (frame ∷ frames) (other ∷ others) end last h k =
    let same : frame ≡ other = cc (h.1, k.1) in
    let after : h.0 ≡ k.0 = cc (h.1, k.1) in
    let there : Reads (past place left frame h.0) h.0 others last =
    subst₂ (λ f l. Reads (past place left f l) l others last) (sym same) (sym after) k.2 in
    let rest = one_reading (past place left frame h.0) h.0 frames others end last h.2 there in
    (ap₂ (λ f fs. f ∷ fs) same rest.0, rest.1)

-- Any bytes are read: by what stands next, and a number that bounds their length.
read_on : (most : ℕ) (place : Place) (left : List ℕ)
    → length left ≤ most
    → (next : Next)
    → next_frame place left ≡ next
    → (frames : List Frame) × (end : End) × Reads place left frames end
read_on most place left bound Ended e = ([], Clean, e)
read_on most place left bound (Broken fault) e = ([], Bad place.bytes fault, (refl, e))
read_on zero place left bound (Whole frame rest) e = absurd (omega (arith, whole_takes place left frame rest e))
read_on (suc most) place left bound (Whole frame rest) e =
    let shorter : length rest ≤ most = omega (arith, whole_takes place left frame rest e) in
    let others = read_on most (past place left frame rest) rest shorter
    (next_frame (past place left frame rest) rest) refl in
    (frame ∷ others.0, others.1, (rest, e, others.2))

pub some_reading : (place : Place) (left : List ℕ) → (frames : List Frame) × (end : End) × Reads place left frames end
some_reading place left = read_on (length left) place left (omega arith) (next_frame place left) refl

-- Any bytes have frames and an end.
pub some_frames : (bytes : List ℕ) → (frames : List Frame) × (end : End) × frames_of bytes frames end
some_frames bytes = some_reading start bytes

-- Bytes have their frames and their end in one way.
pub one_frames : (bytes : List ℕ) (frames others : List Frame) (end other : End)
    → frames_of bytes frames end
    → frames_of bytes others other
    → (frames ≡ others) × (end ≡ other)
one_frames bytes frames others end other h k = one_reading start bytes frames others end other h k

-- A fault stays, whatever comes after its bytes, unless it is that they end.
not_empty_more : (len more : ℕ) → (len == 0) ≡ false → ((len + more) == 0) ≡ false
not_empty_more len more e = grind (arith, nat_tests)

not_short_more : (len more : ℕ) → nat_lt len 4 ≡ false → (4 ≤ len) × (nat_lt (len + more) 4 ≡ false)
not_short_more len more e = (grind (arith, nat_tests), grind (arith, nat_tests))

not_cut_more : (len size more : ℕ) → nat_lt len size ≡ false → (size ≤ len) × (nat_lt (len + more) size ≡ false)
not_cut_more len size more e = (grind (arith, nat_tests), grind (arith, nat_tests))

module _ (left more : List ℕ) (long : 4 ≤ length left) where
  size_stays : size_at (left ++ more) ≡ size_at left
  size_stays = ap (from_le_bytes w32) (take-append-le 4 left more long)

  body_grows : drop 4 (left ++ more) ≡ drop 4 left ++ more
  body_grows = drop-append-le 4 left more long

-- by the tests of the bytes and of those with more: each test before the one that decides stays as it was
broken_by : (empty over short none long cut : Bool) (size : ℕ) (read : Next) (empty_more short_more none_more long_more
    cut_more : Bool) (size_more : ℕ) (read_more : Next) (fault : SessionFault)
    → (empty ≡ false → empty_more ≡ false)
    → (short ≡ false
    → (short_more ≡ false) × (none_more ≡ none) × (long_more ≡ long) × (size_more ≡ size))
    → (short ≡ false → cut ≡ false → (cut_more ≡ false) × (read ≡ Broken fault → read_more ≡ Broken fault))
    → judged empty over short none long cut size read ≡ Broken fault
    → (fault ≡ Cut → ⊥)
    → judged empty_more over short_more none_more long_more cut_more size_more read_more ≡ Broken fault
broken_by true over short none long cut size read em sm nm lm cm zm rm fault h k c e other = absurd (cc)
broken_by false true short none long cut size read em sm nm lm cm zm rm fault h k c e other = rw (h refl) e
broken_by false false true none long cut size read em sm nm lm cm zm rm fault h k c e other =
    let is : fault ≡ Cut = cc in
    absurd (other is)
broken_by false false false true long cut size read em sm nm lm cm zm rm fault h k c e other =
    let stays = k refl in
    rw (h refl, stays.0, stays.1) e
broken_by false false false false true cut size read em sm nm lm cm zm rm fault h k c e other =
    let stays = k refl in
    rw (h refl, stays.0, stays.1, stays.2, stays.3) e
broken_by false false false false false true size read em sm nm lm cm zm rm fault h k c e other =
    let is : fault ≡ Cut = cc in
    absurd (other is)
broken_by false false false false false false size read em sm nm lm cm zm rm fault h k c e other =
    let stays = k refl in
    let goes = c refl refl in
    rw (h refl, stays.0, stays.1, stays.2, goes.0) (goes.1 e)

followed_more : (rest other : List ℕ) (read : Result Frame FrameFault) (fault : SessionFault)
    → followed_by rest read ≡ Broken fault
    → followed_by other read ≡ Broken fault
followed_more rest other (Ok frame) fault e = absurd (cc)
followed_more rest other (Err own) fault e = e

pub broken_more : (place : Place) (left more : List ℕ) (fault : SessionFault)
    → next_frame place left ≡ Broken fault
    → (fault ≡ Cut → ⊥)
    → next_frame place (left ++ more) ≡ Broken fault
unfolding next_frame
broken_more place left more fault e other =
    let size = size_at left in
    let body = drop 4 left in
    broken_by (length left == 0) (nat_le most_session_frames place.frames) (nat_lt (length left) 4) (size == 0)
    (nat_lt most_body size) (nat_lt (length body) size) size
    (followed_by (drop size body) (frame_of place.clock (take size body)))
    (length (left ++ more) == 0) (nat_lt (length (left ++ more)) 4) (size_at (left ++ more) == 0)
    (nat_lt most_body (size_at (left ++ more))) (nat_lt (length (drop 4 (left ++ more))) (size_at (left ++ more)))
    (size_at (left ++ more))
    (followed_by (drop (size_at (left ++ more)) (drop 4 (left ++ more)))
    (frame_of place.clock (take (size_at (left ++ more)) (drop 4 (left ++ more))))) fault
    (λ empty. ap (λ n. n == 0) (length-append left more) ∙ not_empty_more (length left) (length more) empty)
    (λ short.
    let long = not_short_more (length left) (length more) short in
    let same = size_stays left more long.0 in (
      ap (λ n. nat_lt n 4) (length-append left more) ∙ long.1,
      ap (λ n. n == 0) same,
      ap (λ n. nat_lt most_body n) same,
      same,
    ))
    (λ short cut.
    let long = not_short_more (length left) (length more) short in
    let same = size_stays left more long.0 in
    let grows = body_grows left more long.0 in
    let here = not_cut_more (length body) size (length more) cut in
    let content : take (size_at (left ++ more)) (drop 4 (left ++ more)) ≡ take size body = ap₂ take same grows
    ∙ take-append-le size body more here.0 in (
      ap₂ nat_lt (ap length grows ∙ length-append body more) same ∙ here.1,
      λ broken. ap (λ l. followed_by (drop (size_at (left ++ more)) (drop 4 (left ++ more))) (frame_of place.clock l))
          content
          ∙ followed_more (drop size body) (drop (size_at (left ++ more)) (drop 4 (left ++ more)))
          (frame_of place.clock (take size body)) fault broken,
    )) e other

pub Reads-more : (place : Place) (left more : List ℕ) (frames : List Frame) (at : ℕ) (fault : SessionFault)
    → Reads place left frames (Bad at fault)
    → (fault ≡ Cut → ⊥)
    → Reads place (left ++ more) frames (Bad at fault)
Reads-more place left more [] at fault h other = (h.0, broken_more place left more fault h.1 other)
Reads-more place left more (frame ∷ frames) at fault h other = (
  h.0 ++ more,
  whole_more place left frame h.0 more h.1,
  subst (λ p. Reads p (h.0 ++ more) frames (Bad at fault)) (sym (past-more place left frame h.0 more))
      (Reads-more (past place left frame h.0) h.0 more frames at fault h.2 other),
)

-- no frame's own fault is that the bytes end
own_not_cut : (fault : FrameFault) → session_fault fault ≡ Cut → ⊥
own_not_cut own.BadLength e = cc
own_not_cut (own.UnknownKind kind) e = cc
own_not_cut (own.BadBody reason) e = cc
own_not_cut (own.BadAtom reason) e = cc
own_not_cut (own.TimeBackwards last now) e = cc

followed_not_cut : (rest : List ℕ) (read : Result Frame FrameFault) → followed_by rest read ≡ Broken Cut → ⊥
followed_not_cut rest (Ok frame) e = cc
followed_not_cut rest (Err fault) e =
    let is : session_fault fault ≡ Cut = cc in
    own_not_cut fault is

followed_not_ended : (rest : List ℕ) (read : Result Frame FrameFault) → followed_by rest read ≡ Ended → ⊥
followed_not_ended rest (Ok frame) e = cc
followed_not_ended rest (Err fault) e = cc

-- How many bytes are asked for, by the tests.
abbrev asked : Bool → Bool → Bool → ℕ → ℕ
asked over short long size = if over then 1 else if short then 4 else if long then 4 else 4 + size

none_of_no_length : (left : List ℕ) → (length left == 0) ≡ true → left ≡ []
none_of_no_length [] e = refl
none_of_no_length (x ∷ left) e = absurd (grind (arith, nat_tests))

ended_by : (empty over short none long cut : Bool) (size : ℕ) (read : Next)
    → (read ≡ Ended → ⊥)
    → judged empty over short none long cut size read ≡ Ended
    → empty ≡ true
ended_by true over short none long cut size read other e = refl
ended_by false true short none long cut size read other e = absurd (cc)
ended_by false false true none long cut size read other e = absurd (cc)
ended_by false false false true long cut size read other e = absurd (cc)
ended_by false false false false true cut size read other e = absurd (cc)
ended_by false false false false false true size read other e = absurd (cc)
ended_by false false false false false false size read other e = absurd (other e)

-- The end stands next only where nothing is left.
pub next_ended : (place : Place) (left : List ℕ) → next_frame place left ≡ Ended → left ≡ []
unfolding next_frame
next_ended place left e =
    none_of_no_length left (ended_by (length left == 0) _ _ _ _ _ _ _
    (followed_not_ended (drop (size_at left) (drop 4 left)) (frame_of place.clock (take (size_at left) (drop 4 left))))
    e)

short_len : (len : ℕ) → nat_lt len 4 ≡ true → len < 4
short_len len e = grind (arith, nat_tests)

cut_len : (len body size : ℕ) → body ≡ len - 4 → nat_lt len 4 ≡ false → nat_lt body size ≡ true → len < 4 + size
cut_len len body size is short e = grind (arith, nat_tests)

cut_by : (empty over short none long cut : Bool) (len body size : ℕ) (read : Next)
    → (read ≡ Broken Cut → ⊥)
    → body ≡ len - 4
    → nat_lt len 4 ≡ short
    → nat_lt body size ≡ cut
    → judged empty over short none long cut size read ≡ Broken Cut
    → len < asked over short long size
cut_by true over short none long cut len body size read other is s c e = absurd (cc)
cut_by false true short none long cut len body size read other is s c e = absurd (cc)
cut_by false false true none long cut len body size read other is s c e = short_len len s
cut_by false false false true long cut len body size read other is s c e = absurd (cc)
cut_by false false false false true cut len body size read other is s c e = absurd (cc)
cut_by false false false false false true len body size read other is s c e = cut_len len body size is s c
cut_by false false false false false false len body size read other is s c e = absurd (other e)

-- What is cut has fewer bytes than the judgement asks for.
pub cut_is_short : (place : Place) (left : List ℕ)
    → next_frame place left ≡ Broken Cut
    → length left < needed place left
unfolding next_frame needed
cut_is_short place left e =
    cut_by (length left == 0) (nat_le most_session_frames place.frames) (nat_lt (length left) 4) (size_at left == 0)
    (nat_lt most_body (size_at left)) (nat_lt (length (drop 4 left)) (size_at left)) (length left)
    (length (drop 4 left)) (size_at left) _
    (followed_not_cut (drop (size_at left) (drop 4 left)) (frame_of place.clock (take (size_at left) (drop 4 left))))
    (length-drop 4 left) refl refl e

not_below_one : (len : ℕ) → (len == 0) ≡ false → len < 1 → ⊥
not_below_one len e h = grind (arith, nat_tests)

not_below_four : (len : ℕ) → nat_lt len 4 ≡ false → len < 4 → ⊥
not_below_four len e h = grind (arith, nat_tests)

not_below_none : (len size : ℕ) → (size == 0) ≡ true → nat_lt len 4 ≡ false → len < 4 + size → ⊥
not_below_none len size n e h = grind (arith, nat_tests)

not_below_size : (len body size : ℕ) → body ≡ len - 4 → nat_lt body size ≡ false → len < 4 + size → 4 ≤ len → ⊥
not_below_size len body size is e h long = grind (arith, nat_tests)

four_at_least : (len : ℕ) → nat_lt len 4 ≡ false → 4 ≤ len
four_at_least len e = grind (arith, nat_tests)

unfinished_by : (empty over short none long cut : Bool) (len body size : ℕ) (read : Next)
    → body ≡ len - 4
    → (len == 0) ≡ empty
    → nat_lt len 4 ≡ short
    → (size == 0) ≡ none
    → nat_lt body size ≡ cut
    → len < asked over short long size
    → IsUnfinished (judged empty over short none long cut size read)
unfinished_by true over short none long cut len body size read is m s n c h = tt
unfinished_by false true short none long cut len body size read is m s n c h = absurd (not_below_one len m h)
unfinished_by false false true none long cut len body size read is m s n c h = refl
unfinished_by false false false none true cut len body size read is m s n c h = absurd (not_below_four len s h)
unfinished_by false false false true false cut len body size read is m s n c h = absurd (not_below_none len size n s h)
unfinished_by false false false false false true len body size read is m s n c h = refl
unfinished_by false false false false false false len body size read is m s n c h =
    absurd (not_below_size len body size is c h (four_at_least len s))

-- Fewer bytes than the judgement asks for may become a frame.
pub short_is_unfinished : (place : Place) (left : List ℕ)
    → length left < needed place left
    → IsUnfinished (next_frame place left)
unfolding next_frame needed
short_is_unfinished place left h =
    unfinished_by (length left == 0) (nat_le most_session_frames place.frames) (nat_lt (length left) 4)
    (size_at left == 0) (nat_lt most_body (size_at left)) (nat_lt (length (drop 4 left)) (size_at left)) (length left)
    (length (drop 4 left)) (size_at left) _ (length-drop 4 left) refl refl refl refl h

asked_whole : (over short long : Bool) (size : ℕ)
    → over ≡ false
    → short ≡ false
    → long ≡ false
    → asked over short long size ≡ 4 + size
asked_whole over short long size o s l = rw (o, s, l) refl

-- A frame has no fewer bytes than the judgement asks for; where it has no more, nothing comes after it.
pub whole_is_all : (place : Place) (left : List ℕ) (frame : Frame) (rest : List ℕ)
    → next_frame place left ≡ Whole frame rest
    → length left ≤ needed place left
    → rest ≡ []
unfolding needed
whole_is_all place left frame rest e few =
    let h = StandsWhole-from_next place left frame rest e in
    let told = told_by_tests (length left) place.frames most_session_frames (size_at left) most_body
    (length (drop 4 left)) h.room h.long h.some h.small h.here in
    let asks : asked (nat_le most_session_frames place.frames) (nat_lt (length left) 4)
    (nat_lt most_body (size_at left)) (size_at left) ≡ 4 + size_at left =
    asked_whole _ _ _ (size_at left) told.1 told.2 told.4 in
    let within : length left ≤ 4 + size_at left = subst (λ n. length left ≤ n) asks few in
    let len : length rest ≡ 0 = omega
    (arith, within, sym (length-drop 4 left), sym (length-drop (size_at left) (drop 4 left)), sym (ap length h.after))
    in
    nil_from_length rest len

asked_some : (over short long : Bool) (size : ℕ) → 1 ≤ asked over short long size
asked_some true short long size = omega arith
asked_some false true long size = omega arith
asked_some false false true size = omega arith
asked_some false false false size = omega arith

pub needed_some : (place : Place) (left : List ℕ) → 1 ≤ needed place left
unfolding needed
needed_some place left = asked_some (nat_le most_session_frames place.frames) (nat_lt (length left) 4)
    (nat_lt most_body (size_at left)) (size_at left)

size_within : (most size : ℕ) → nat_lt most size ≡ false → size ≤ most
size_within most size e = grind (arith, nat_tests)

asked_most : (over short long : Bool) (size : ℕ) → nat_lt most_body size ≡ long
    → asked over short long size ≤ most_pending
asked_most true short long size e = omega arith
asked_most false true long size e = omega arith
asked_most false false true size e = omega arith
asked_most false false false size e = omega (arith, size_within most_body size e)

pub needed_most : (place : Place) (left : List ℕ) → needed place left ≤ most_pending
unfolding needed
needed_most place left = asked_most (nat_le most_session_frames place.frames) (nat_lt (length left) 4)
    (nat_lt most_body (size_at left)) (size_at left) refl

asked_more : (over short long short_more long_more : Bool) (len len_more size size_more : ℕ)
    → nat_lt len 4 ≡ short
    → (short ≡ false → (short_more ≡ false) × (long_more ≡ long) × (size_more ≡ size))
    → len_more ≤ asked over short long size
    → len_more ≤ asked over short_more long_more size_more
asked_more true short long sm lm len len_more size size_more s k h = h
asked_more false true long true lm len len_more size size_more s k h = h
asked_more false true long false true len len_more size size_more s k h = h
asked_more false true long false false len len_more size size_more s k h = omega (arith, h)
asked_more false false long sm lm len len_more size size_more s k h =
    let stays = k refl in
    rw (stays.0, stays.1, stays.2) h

-- More bytes, up to those that the judgement asks for, are no more than it asks for of them all.
pub needed_more : (place : Place) (left more : List ℕ)
    → length (left ++ more) ≤ needed place left
    → length (left ++ more) ≤ needed place (left ++ more)
unfolding needed
needed_more place left more h =
    asked_more (nat_le most_session_frames place.frames) (nat_lt (length left) 4) (nat_lt most_body (size_at left))
    (nat_lt (length (left ++ more)) 4) (nat_lt most_body (size_at (left ++ more))) (length left)
    (length (left ++ more)) (size_at left) (size_at (left ++ more)) refl
    (λ short.
    let long = not_short_more (length left) (length more) short in
    let same = size_stays left more long.0 in (
      ap (λ n. nat_lt n 4) (length-append left more) ∙ long.1,
      ap (λ n. nat_lt most_body n) same,
      same,
    )) h

asks_four : (long : Bool) (size : ℕ) → 4 ≤ asked false false long size
asks_four true size = omega arith
asks_four false size = omega arith

asked_front : (over short long short_front long_front : Bool) (len len_front size size_front : ℕ)
    → nat_lt len 4 ≡ short
    → nat_lt len_front 4 ≡ short_front
    → len_front ≡ asked over short long size
    → asked over short long size ≤ len
    → (4 ≤ len_front → (long_front ≡ long) × (size_front ≡ size))
    → asked over short_front long_front size_front ≡ asked over short long size
asked_front true short long sf lf len len_front size size_front s f is here k = refl
asked_front false true long sf lf len len_front size size_front s f is here k =
    absurd (omega (arith, short_len len s, here))
asked_front false false long true lf len len_front size size_front s f is here k =
    absurd (omega (arith, short_len len_front f, is, asks_four long size))
asked_front false false long false lf len len_front size size_front s f is here k =
    let same = k (omega (arith, is, asks_four long size)) in
    rw (same.0, same.1) refl

-- Where there are as many bytes as the judgement asks for, it asks for as many of these.
pub needed_front : (place : Place) (left : List ℕ)
    → needed place left ≤ length left
    → needed place (take (needed place left) left) ≡ needed place left
unfolding needed
needed_front place left here =
    let count = asked (nat_le most_session_frames place.frames) (nat_lt (length left) 4)
    (nat_lt most_body (size_at left))
    (size_at left) in
    let front = take count left in
    let len : length front ≡ count = length-take-le count left here in
    asked_front (nat_le most_session_frames place.frames) (nat_lt (length left) 4) (nat_lt most_body (size_at left))
    (nat_lt (length front) 4) (nat_lt most_body (size_at front)) (length left) (length front) (size_at left)
    (size_at front) refl refl len here
    (λ four.
    let same : size_at front ≡ size_at left =
    ap (from_le_bytes w32) (take-take 4 count left (omega (arith, four, len))) in
    (ap (λ n. nat_lt most_body n) same, same))
