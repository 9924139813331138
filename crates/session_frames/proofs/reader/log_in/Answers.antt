-- What comes after the frame is what comes after its content.
use Rattle.std.proofs.Common.{◌≡◌, ◌-◌, length, take, drop, arith, refl, sym, ap, ◌∙◌}
use Rattle.std.proofs.lemmas.List.{take_rest}
use Rattle.session_frames.specs.declared.frame.Frame.TheVariants.{Log}
use Rattle.session_frames.specs.FrameReading.{frame_of}
use Rattle.session_frames.specs.Frames.{size_at}
use Rattle.session_frames.specs.LogRooms.{frame_in}
use Rattle.session_frames.proofs.FrameLaws.{next-from_StandsWhole}
use Rattle.session_frames.proofs.ReaderLemmas.{where_some}
use Rattle.session_frames.proofs.reader.log_in.Goals as goal

pub returns-clause-finds : goal.returns-clause-finds
returns-clause-finds c =
    let left = c.args.left.now in
    let place = c.args.place.now in
    let size : c.size_of-size.result ≡ size_at left = c.size_of-size.ensures in
    let body : take (length left - 4) (drop 4 left) ≡ drop 4 left = take_rest left 4 in
    where_some c.read.result _ _ (λ kind exact. (
      drop (size_at left) (drop 4 left),
      next-from_StandsWhole place left (Log (frame_in kind c.read.new.self)) _ (record {
        room = omega (arith, c.if-place-ge-MAX_FRAMES.false);
        long = omega (arith, c.if-left-lt4.false);
        some = omega (arith, size, c.if-size-eq0.false);
        small = omega (arith, size, c.if-size-gt-MAX_BODY.false);
        here = omega (arith, size, ap length body, c.if-after-size.false);
        reads = ap (λ n. frame_of place.clock (take n (drop 4 left))) (sym size)
            ∙ ap (λ l. frame_of place.clock (take c.size_of-size.result l)) (sym body)
            ∙ exact;
        after = refl;
      }),
    )) c.read.ensures.exact
