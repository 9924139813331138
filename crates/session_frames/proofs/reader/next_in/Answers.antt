-- What comes after the frame is what comes after its content.
use Rattle.std.proofs.Common.{◌≡◌, ◌-◌, length, take, drop, arith, refl, sym, ap, ◌∙◌}
use Rattle.std.proofs.lemmas.List.{take_rest}
use Rattle.session_frames.specs.FrameReading.{frame_of}
use Rattle.session_frames.specs.Frames.{size_at}
use Rattle.session_frames.proofs.FrameLaws.{next-from_StandsWhole}
use Rattle.session_frames.proofs.reader.next_in.Goals as goal

pub returns-in-Ok-clause-finds : goal.returns-in-Ok-clause-finds
returns-in-Ok-clause-finds c =
    let left = c.args.left.now in
    let size : c.size_of-size.result ≡ size_at left = c.size_of-size.ensures in
    let body : take (length left - 4) (drop 4 left) ≡ drop 4 left = take_rest left 4 in (
      drop (size_at left) (drop 4 left),
      next-from_StandsWhole c.args.place.now left c.in-Ok.frame _ (record {
        room = omega arith;
        long = omega arith;
        some = omega (arith, size, c.if-size-eq0.false);
        small = omega (arith, size, c.if-size-gt-MAX_BODY.false);
        here = omega (arith, size, ap length body, c.if-after-size.false);
        reads = ap (λ n. frame_of c.args.place.now.clock (take n (drop 4 left))) (sym size)
            ∙ ap (λ l. frame_of c.args.place.now.clock (take c.size_of-size.result l)) (sym body)
            ∙ c.in-Ok.ensures.exact;
        after = refl;
      }),
    )
