-- On specs/Reader.antt, for the reader: bytes behind those that are held, how far the taking came, and a frame that was
-- judged.
use Rattle.std.proofs.Common.{◌≡◌, ℕ, ◌+◌, ◌-◌, ◌*◌, ◌<◌, ◌≤◌, Bool, true, false, List, [], ◌++◌, length, take, Option, None, Some, Result, Ok, Err, refl, sym, ap, ◌∙◌, subst, append_assoc, arith}
use Rattle.std.specs.Prelude.{IfSome}
use Rattle.std.proofs.lemmas.List.{take-take, take_all, take-append-le, length-append, length-take, length-take-le, append-nil}
use Rattle.std.proofs.Math.Seq.{take-append-add}
use Rattle.sd_io.specs.States.{Input}
use Rattle.sd_io.specs.Causes.{Consumes, ComesNext, IsFrontOf, IsHeld, IsSkip, Takes, TakesCount}
use Rattle.sd_io.proofs.CausesLemmas.{Takes-nil, Takes-trans}
use Rattle.session_frames.specs.declared.frame.Frame.{Frame}
use Rattle.session_frames.specs.declared.frame.FrameError.{FrameError}
use Rattle.session_frames.specs.declared.frame.FrameError.TheVariants as failed
use Rattle.session_frames.specs.FrameLimits.{most_pending}
use Rattle.session_frames.specs.Frames.{Ended, Broken, Whole, clock_after, next_frame, needed, Place, past}
use Rattle.session_frames.specs.Reader.{Reading, GivesFrame, Refuses, IsAtRest}
use Rattle.session_frames.specs.Bodies.{FindsNext, IsOutside, StopsShort, TakesNext, TakesSome}
use Rattle.session_frames.proofs.FrameLaws.{StandsWhole-from_next, next_ended, cut_is_short, short_is_unfinished, whole_is_all, needed_front, needed_more, needed_most, needed_some}

-- what holds of what was found, and what follows from it
pub where_some : {A : Type 0} (found : Option A) (P Q : A → Type 0)
    → ((a : A) → P a → Q a)
    → IfSome found P
    → IfSome found Q
where_some None P Q follows holds = tt
where_some (Some a) P Q follows holds = follows a holds

-- a part of the room behind what is held was filled
pub filled_behind : (front held buffer over back : List ℕ) (len count size : ℕ)
    → front ≡ held
    → length held ≡ len
    → count ≤ length buffer
    → len + count ≤ size
    → take (len + count) (take size ((front ++ (buffer ++ over)) ++ back)) ≡ held ++ take count buffer
filled_behind front held buffer over back len count size is is_len within fits =
    let whole : (front ++ (buffer ++ over)) ++ back ≡ held ++ (buffer ++ (over ++ back)) =
    ap (λ l. (l ++ (buffer ++ over)) ++ back) is
    ∙ append_assoc held (buffer ++ over) back
    ∙ ap (λ l. held ++ l) (append_assoc buffer over back) in
    take-take (len + count) size ((front ++ (buffer ++ over)) ++ back) fits
    ∙ ap (take (len + count)) whole
    ∙ ap (λ n. take (n + count) (held ++ (buffer ++ (over ++ back)))) (sym is_len)
    ∙ take-append-add held (buffer ++ (over ++ back)) count
    ∙ ap (λ l. held ++ l) (take-append-le count buffer (over ++ back) within)

-- what was held stays in front where there is more room
pub held_in_front : (room grown : List ℕ) (held : ℕ)
    → IsFrontOf room grown
    → held ≤ length room
    → take held grown ≡ take held room
held_in_front room grown held front within =
    ap (take held) front.1 ∙ take-append-le held room front.0 within

-- So much was taken: no more than the judgement asks for.
pub record IsTakenSo (old new : Input) (place : Place) (held : List ℕ) : Type 0 where
  pub consumes : Takes old new held
  pub no_more : length held ≤ needed place held
  pub later : old.faults ≤ new.faults

-- nothing was taken yet
pub none_taken : (input : Input) (place : Place) (held : List ℕ) → held ≡ [] → IsTakenSo input input place held
none_taken input place held is = record {
  consumes = subst (Takes input input) (sym is) (Takes-nil input);
  no_more = omega (arith, ap length is);
  later = omega arith;
}

module _ (old mid new : Input) (place : Place) (before after : List ℕ) (most count : ℕ)
    (so : IsTakenSo old mid place before) (some : TakesSome mid new before after most count)
    (fits : length before + most ≤ needed place before) where
  grows : length after ≡ length before + count
  grows = ap length some.grown ∙ length-append before some.more ∙ ap (λ n. length before + n) some.counted

  -- more was taken
  pub more_taken : mid.faults ≤ new.faults → IsTakenSo old new place after
  more_taken later = record {
    consumes = subst (Takes old new) (sym some.grown)
        (Takes-trans old mid new before some.more so.consumes some.consumes);
    no_more = subst (λ l. length l ≤ needed place l) (sym some.grown)
        (needed_more place before some.more
        (subst (λ l. length l ≤ needed place before) some.grown (omega (arith, grows, some.few, fits))));
    later = omega (arith, so.later, later);
  }

  -- there was no more
  pub all_taken : mid.faults ≤ new.faults → count ≡ 0 → TakesNext old new place after
  all_taken later none = record {
    consumes = (more_taken later).consumes;
    no_more = (more_taken later).no_more;
    end = λ short. some.end none;
  }

-- there is as much as is asked for
pub enough_taken : (old new : Input) (place : Place) (held : List ℕ)
    → IsTakenSo old new place held
    → needed place held ≤ length held
    → TakesNext old new place held
enough_taken old new place held so enough = record {
  consumes = so.consumes;
  no_more = so.no_more;
  end = λ short. absurd (omega (arith, short, enough));
}

-- the taking broke off
pub broken_off : (old mid new : Input) (place : Place) (held : List ℕ) (e : FrameError)
    → IsTakenSo old mid place held
    → length held < needed place held
    → Takes mid new []
    → IsOutside e
    → StopsShort old new place e
broken_off old mid new place held e so short nothing outside = record {
  taken = held;
  consumes = subst (Takes old new) (append-nil held) (Takes-trans old mid new held [] so.consumes nothing);
  short = short;
  outside = outside;
}

-- So many bytes stand in front of the room, and were taken: no more than the judgement asks for.
pub record IsHeldSo (old new : Input) (place : Place) (room : List ℕ) (held : ℕ) : Type 0 where
  pub taken : IsTakenSo old new place (take held room)
  pub within : held ≤ length room

-- none is held yet
pub none_held : (input : Input) (place : Place) (room : List ℕ) → IsHeldSo input input place room 0
none_held input place room = record {
  taken = none_taken input place (take 0 room) refl;
  within = omega arith;
}

module _ (old mid new : Input) (place : Place) (room grown : List ℕ) (held goal count : ℕ)
    (so : IsHeldSo old mid place room held)
    (some : TakesSome mid new (take held room) (take (held + count) grown) (goal - held) count)
    (is_goal : goal ≡ needed place (take held room)) (short : held < goal) where
  held_long : length (take held room) ≡ held
  held_long = length-take-le held room so.within

  fits : length (take held room) + (goal - held) ≤ needed place (take held room)
  fits = omega (arith, held_long, is_goal, short)

  -- more is held
  pub more_held : mid.faults ≤ new.faults → IsHeldSo old new place grown (held + count)
  more_held later = record {
    taken = more_taken old mid new place (take held room) (take (held + count) grown) (goal - held) count so.taken some
        fits later;
    within = omega (
      arith,
      held_long,
      length-take (held + count) grown,
      ap length some.grown ∙ length-append (take held room) some.more,
      some.counted,
    );
  }

  -- each turn comes nearer to the most that is asked for
  pub held_nearer : 0 < count → most_pending - (held + count) < most_pending - held
  held_nearer none = omega (arith, is_goal, short, none, needed_most place (take held room))

  -- there was no more
  pub all_held : mid.faults ≤ new.faults → count ≡ 0 → TakesNext old new place (take held grown)
  all_held later none = subst (λ n. TakesNext old new place (take n grown)) (omega (arith, none))
      (all_taken old mid new place (take held room) (take (held + count) grown) (goal - held) count so.taken some fits
      later none)

-- A reader after a frame that was judged.
module _ (before : Place) (len : ℕ) (after : Place) (left : List ℕ) (frame : Frame) (is_len : len ≡ length left)
    (moved : after ≡ record {
      bytes = before.bytes + len;
      clock = clock_after before.clock frame;
      frames = before.frames + 1;
    }) where
  place_past : after ≡ past before left frame []
  place_past =
      let far : before.bytes + len ≡ before.bytes + (length left - 0) = omega (arith, is_len) in
      moved
      ∙ ap (λ (n : ℕ). let place : Place = record {
        bytes = n;
        clock = clock_after before.clock frame;
        frames = before.frames + 1;
      } in
      place) far

  -- it stands after the frame
  pub reading_past : (ended : Bool) → ended ≡ false
      → let made : Reading = record { pending = []; place = after; ended = ended } in
      made ≡ record { pending = []; place = past before left frame []; ended = false }
  reading_past ended unended =
      let made : Bool → Place → Reading = λ b place. record { pending = []; place = place; ended = b } in
      ap (λ b. made b after) unended ∙ ap (made false) place_past

  -- it is at rest
  pub rests_past : (rest : List ℕ)
      → before.bytes ≤ before.frames * most_pending
      → length left ≤ needed before left
      → next_frame before left ≡ Whole frame rest
      → IsAtRest after
  rests_past rest placed few whole =
      let far : before.bytes + len ≤ (before.frames + 1) * most_pending =
      omega (arith, is_len, few, placed, needed_most before left) in
      subst IsAtRest (sym moved)
      (record { counted = omega (arith, (StandsWhole-from_next before left frame rest whole).room); placed = far })

-- what was found in a slice stands next in the bytes
pub found_whole : (place : Place) (slice left : List ℕ) (found : Option Frame) (frame : Frame)
    → slice ≡ left
    → found ≡ Some frame
    → FindsNext place (Ok found) (next_frame place slice)
    → (rest : List ℕ) × (next_frame place left ≡ Whole frame rest)
found_whole place slice left found frame same is finds =
    let there : FindsNext place (Ok (Some frame)) (next_frame place slice) =
    subst (λ f. FindsNext place (Ok f) (next_frame place slice)) is finds in
    (there.0, ap (next_frame place) (sym same) ∙ there.1)

-- A call in its two steps: as many bytes were taken as the judgement asks for, and these were judged.
module _ (old new : Input) (slice taken : List ℕ) (place : Place) (ended : Bool) (same : slice ≡ taken)
    (takes : TakesNext old new place taken) where
  found_in : (found : Result (Option Frame) FrameError)
      → FindsNext place found (next_frame place slice)
      → FindsNext place found (next_frame place taken)
  found_in found = subst (λ l. FindsNext place found (next_frame place l)) same

  -- nothing was there
  pub gives_end : FindsNext place (Ok None) (next_frame place slice)
      → GivesFrame old new (record { pending = []; place = place; ended = ended })
      (record { pending = []; place = place; ended = true }) None
  gives_end finds =
      let is : next_frame place taken ≡ Ended = found_in (Ok None) finds in
      record {
        taken = taken;
        consumes = takes.consumes;
        no_more = takes.no_more;
        next = (is, refl);
        at_end = takes.end (omega (arith, ap length (next_ended place taken is), needed_some place taken));
      }

  -- a frame was there, and no more
  pub gives_frame : (after : Reading) (frame : Frame)
      → FindsNext place (Ok (Some frame)) (next_frame place slice)
      → after ≡ record { pending = []; place = past place taken frame []; ended = false }
      → GivesFrame old new (record { pending = []; place = place; ended = ended }) after (Some frame)
  gives_frame after frame finds is =
      let whole = found_in (Ok (Some frame)) finds in
      record {
        taken = taken;
        consumes = takes.consumes;
        no_more = takes.no_more;
        next = (
          whole.1 ∙ ap (Whole frame) (whole_is_all place taken frame whole.0 whole.1 takes.no_more),
          is,
        );
        at_end = tt;
      }

  -- a fault was there, or memory was wanting
  pub refuses : (e : FrameError)
      → FindsNext place (Err e) (next_frame place slice)
      → Refuses old new (record { pending = []; place = place; ended = ended }) e
  refuses (failed.Session at fault) finds =
      let there = found_in (Err (failed.Session at fault)) finds in
      record {
        taken = taken;
        consumes = takes.consumes;
        no_more = takes.no_more;
        cause = record {
          placed = there.0;
          broken = there.1;
          at_end = λ cut. takes.end (cut_is_short place taken (there.1 ∙ ap Broken cut));
        };
      }
  refuses failed.Read finds = absurd finds
  refuses failed.Memory finds = record {
    taken = taken;
    consumes = takes.consumes;
    no_more = takes.no_more;
    cause = tt;
  }

-- A call whose taking broke off.
pub refuses_before : (old new : Input) (place : Place) (ended : Bool) (e : FrameError)
    → StopsShort old new place e
    → Refuses old new (record { pending = []; place = place; ended = ended }) e
refuses_before old new place ended (failed.Session at fault) breaks = absurd breaks.outside
refuses_before old new place ended failed.Read breaks = record {
  taken = breaks.taken;
  consumes = breaks.consumes;
  no_more = omega (arith, breaks.short);
  cause = short_is_unfinished place breaks.taken breaks.short;
}
refuses_before old new place ended failed.Memory breaks = record {
  taken = breaks.taken;
  consumes = breaks.consumes;
  no_more = omega (arith, breaks.short);
  cause = tt;
}

-- what a source holds comes next
held_consumed : (old new : Option (List ℕ)) (held : List ℕ) (count : ℕ)
    → ComesNext old held
    → TakesCount old new count
    → count ≤ length held
    → Consumes old new (take count held)
held_consumed None new held count next takes within = tt
held_consumed (Some left) None held count next takes within = absurd takes.1
held_consumed (Some left) (Some after) held count next takes within =
    let front : take count left ≡ take count held =
    ap (take count) next.1 ∙ take-append-le count held next.0 within in
    let own : take count left ≡ takes.0 =
    ap (take count) takes.1
    ∙ take-append-le count takes.0 after (omega (arith, takes.2))
    ∙ take_all count takes.0 (omega (arith, takes.2)) in
    takes.1 ∙ ap (λ l. l ++ after) (sym own ∙ front)

-- As many bytes as the judgement asks for were held, and skipped.
pub held_taken : (old new : Input) (place : Place) (held slice : List ℕ) (count : ℕ)
    → IsHeld old held
    → IsSkip old new true count
    → count ≡ needed place held
    → count ≤ length held
    → slice ≡ take count held
    → TakesNext old new place slice
held_taken old new place held slice count next skip is within taken =
    let len : length slice ≡ count = ap length taken ∙ length-take-le count held within in
    let asks : needed place slice ≡ count =
    ap (needed place) (taken ∙ ap (λ n. take n held) is)
    ∙ needed_front place held (omega (arith, is, within))
    ∙ sym is in
    record {
      consumes = subst (Takes old new) (sym taken)
          (held_consumed old.left new.left held count next skip.bytes within);
      no_more = omega (arith, len, asks);
      end = λ short. absurd (omega (arith, short, len, asks));
    }
