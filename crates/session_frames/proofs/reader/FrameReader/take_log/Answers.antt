-- A frame that is taken where it stands: what was held is what the judgement asks for, and was skipped.
use Rattle.std.proofs.Common.{◌≡◌, ◌≤◌, true, false, [], Some, length, take, refl, sym, subst, arith, rules}
use Rattle.std.proofs.lemmas.List.{length-take-le}
use Rattle.sd_io.specs.Causes.{IsSkip}
use Rattle.session_frames.specs.declared.frame.Frame.TheVariants.{Log}
use Rattle.session_frames.specs.Bodies.{TakesNext}
use Rattle.session_frames.specs.LogRooms.{frame_in}
use Rattle.session_frames.specs.Reader.{Reading, GivesFrame}
use Rattle.session_frames.proofs.ReaderLemmas.{gives_frame, found_whole, held_taken, reading_past, rests_past}
use Rattle.session_frames.proofs.reader.FrameReader.take_log.Goals as goal

pub invariant_of-self : goal.invariant_of-self
invariant_of-self g c =
    let old = g.S.Source.state c.args.src.now in
    let new = g.S.Source.state c.skip.new.self in
    let is = c.self.inside in
    let count = c.needed-count.result in
    let held = c.held-held.result.now in
    let frame = Log (frame_in c.in_ok-kind.kind c.log_in.new.room) in
    let within : count ≤ length held = omega (arith, c.if-held-count.false) in
    let done : c.skip.result ≡ true = search rules in
    let takes : TakesNext old new is.place (take count held) = held_taken old new is.place held (take count held) count
    c.held-held.ensures (subst (λ b. IsSkip old new b count) done c.skip.ensures) c.needed-count.ensures within refl in
    let whole = found_whole is.place (take count held) (take count held) (Some frame) frame refl refl
    c.in_ok-kind.ensures.finds in
    rests_past is.place count c.place_at-self-inside.result (take count held) frame
    (sym (length-take-le count held within)) (rw c.time.ensures at c.place_at-self-inside.ensures) whole.0
    c.self.invariant.placed takes.no_more whole.1

pub returns-clause-gives : goal.returns-clause-gives
returns-clause-gives g c =
    let old = g.S.Source.state c.args.src.now in
    let new = g.S.Source.state c.skip.new.self in
    let is = c.self.inside in
    let count = c.needed-count.result in
    let held = c.held-held.result.now in
    let frame = Log (frame_in c.in_ok-kind.kind c.log_in.new.room) in
    let within : count ≤ length held = omega (arith, c.if-held-count.false) in
    let done : c.skip.result ≡ true = search rules in
    let takes : TakesNext old new is.place (take count held) = held_taken old new is.place held (take count held) count
    c.held-held.ensures (subst (λ b. IsSkip old new b count) done c.skip.ensures) c.needed-count.ensures within refl in
    let after : Reading = record { pending = []; place = c.place_at-self-inside.result; ended = is.ended } in
    subst (λ (r : Reading). GivesFrame old new r after (Some frame)) c.self.view_is
    (gives_frame old new (take count held) (take count held) is.place is.ended refl takes after frame
    c.in_ok-kind.ensures.finds
    (reading_past is.place count c.place_at-self-inside.result (take count held) frame
    (sym (length-take-le count held within)) (rw c.time.ensures at c.place_at-self-inside.ensures) is.ended
    (search rules)))
