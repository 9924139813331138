-- A frame that is read where it stands: what was held is what the judgement asks for, and was skipped.
use Rattle.std.proofs.Common.{◌≡◌, ◌≤◌, true, false, [], None, Some, Ok, IfErr, length, take, refl, sym, subst, arith, rules}
use Rattle.std.proofs.lemmas.List.{length-take-le}
use Rattle.std.proofs.lemmas.Result.{err_from_is_err_and}
use Rattle.sd_io.specs.Causes.{IsSkip}
use Rattle.session_frames.specs.Bodies.{FindsNext, TakesNext}
use Rattle.session_frames.specs.Frames.{next_frame}
use Rattle.session_frames.specs.Reader.{Reading, GivesFrame, Refuses}
use Rattle.session_frames.proofs.ReaderLemmas.{gives_end, gives_frame, refuses, found_whole, held_taken, reading_past, rests_past}
use Rattle.session_frames.proofs.reader.FrameReader.read.Goals as goal

pub returns-in_err-frame-clause-refuses : goal.returns-in_err-frame-clause-refuses
returns-in_err-frame-clause-refuses g c =
    let old = g.S.Source.state c.args.src.now in
    let new = g.S.Source.state c.skip.new.self in
    let is = c.self.inside in
    let count = c.needed-count.result in
    let held = c.held-held.result.now in
    let within : count ≤ length held = omega (arith, c.if-held-count.false) in
    let done : c.skip.result ≡ true = search rules in
    let takes : TakesNext old new is.place (take count held) = held_taken old new is.place held (take count held) count
    c.held-held.ensures (subst (λ b. IsSkip old new b count) done c.skip.ensures) c.needed-count.ensures within refl in
    let p = err_from_is_err_and c.from_residual.result c.from_residual.ensures.1 in
    subst (λ (r : Reading). r.ended ≡ false → IfErr c.from_residual.result (λ e. Refuses old new r e)) c.self.view_is
    (λ unended. rw (p.1, p.2) (refuses old new (take count held) (take count held) is.place is.ended refl takes _
    c.in_err-frame.ensures.finds))

pub returns-in_default-clause-gives : goal.returns-in_default-clause-gives
returns-in_default-clause-gives g c =
    let old = g.S.Source.state c.args.src.now in
    let new = g.S.Source.state c.skip.new.self in
    let is = c.self.inside in
    let count = c.needed-count.result in
    let held = c.held-held.result.now in
    let within : count ≤ length held = omega (arith, c.if-held-count.false) in
    let done : c.skip.result ≡ true = search rules in
    let takes : TakesNext old new is.place (take count held) = held_taken old new is.place held (take count held) count
    c.held-held.ensures (subst (λ b. IsSkip old new b count) done c.skip.ensures) c.needed-count.ensures within refl in
    let after : Reading = record { pending = []; place = is.place; ended = true } in
    subst (λ (r : Reading). r.ended ≡ false → GivesFrame old new r after None) c.self.view_is
    (λ unended. gives_end old new (take count held) (take count held) is.place is.ended refl takes
    (subst (λ f. FindsNext is.place (Ok f) (next_frame is.place (take count held))) c.in_default.is
    c.in_ok-frame.ensures.finds))

pub invariant_of-self-2 : goal.invariant_of-self-2
invariant_of-self-2 g c =
    let old = g.S.Source.state c.args.src.now in
    let new = g.S.Source.state c.skip.new.self in
    let is = c.self.inside in
    let count = c.needed-count.result in
    let held = c.held-held.result.now in
    let within : count ≤ length held = omega (arith, c.if-held-count.false) in
    let done : c.skip.result ≡ true = search rules in
    let takes : TakesNext old new is.place (take count held) = held_taken old new is.place held (take count held) count
    c.held-held.ensures (subst (λ b. IsSkip old new b count) done c.skip.ensures) c.needed-count.ensures within refl in
    let whole = found_whole is.place (take count held) (take count held) c.in_ok-frame.field-0 c.in-Some.frame refl
    c.in-Some.is c.in_ok-frame.ensures.finds in
    rests_past is.place count c.place_after-self-inside.result (take count held) c.in-Some.frame
    (sym (length-take-le count held within)) c.place_after-self-inside.ensures whole.0 c.self.invariant.placed
    takes.no_more whole.1

pub returns-clause-gives : goal.returns-clause-gives
returns-clause-gives g c =
    let old = g.S.Source.state c.args.src.now in
    let new = g.S.Source.state c.skip.new.self in
    let is = c.self.inside in
    let count = c.needed-count.result in
    let held = c.held-held.result.now in
    let within : count ≤ length held = omega (arith, c.if-held-count.false) in
    let done : c.skip.result ≡ true = search rules in
    let takes : TakesNext old new is.place (take count held) = held_taken old new is.place held (take count held) count
    c.held-held.ensures (subst (λ b. IsSkip old new b count) done c.skip.ensures) c.needed-count.ensures within refl in
    let after : Reading = record { pending = []; place = c.place_after-self-inside.result; ended = is.ended } in
    subst (λ (r : Reading). r.ended ≡ false → GivesFrame old new r after (Some c.in-Some.frame)) c.self.view_is
    (λ unended. gives_frame old new (take count held) (take count held) is.place is.ended refl takes after
    c.in-Some.frame
    (subst (λ f. FindsNext is.place (Ok f) (next_frame is.place (take count held))) c.in-Some.is
    c.in_ok-frame.ensures.finds)
    (reading_past is.place count c.place_after-self-inside.result (take count held) c.in-Some.frame
    (sym (length-take-le count held within)) c.place_after-self-inside.ensures is.ended unended))
