-- A call in its two steps: the frame is all of the bytes that were taken.
use Rattle.std.proofs.Common.{◌≡◌, ◌≤◌, true, false, [], None, Some, Ok, IfErr, length, take, sym, ap, subst, arith}
use Rattle.std.proofs.lemmas.List.{length-take-le}
use Rattle.std.proofs.lemmas.Result.{err_from_is_err_and}
use Rattle.session_frames.specs.Bodies.{FindsNext}
use Rattle.session_frames.specs.Frames.{next_frame}
use Rattle.session_frames.specs.Reader.{Reading, GivesFrame, Refuses}
use Rattle.session_frames.proofs.ReaderLemmas.{gives_end, gives_frame, refuses, refuses_before, found_whole, reading_past, rests_past}
use Rattle.session_frames.proofs.reader.FrameReader.read_on.Goals as goal

pub returns-in_err-count-clause-refuses : goal.returns-in_err-count-clause-refuses
returns-in_err-count-clause-refuses g c =
    let old = g.S.Source.state c.args.src.now in
    let new = g.S.Source.state c.take_next.new.src in
    let is = c.self.inside in
    let p = err_from_is_err_and c.from_residual.result c.from_residual.ensures.1 in
    subst (λ (r : Reading). r.ended ≡ false → IfErr c.from_residual.result (λ e. Refuses old new r e)) c.self.view_is
    (λ unended. rw (p.1, p.2) (refuses_before old new is.place is.ended _ c.in_err-count.ensures.breaks))

pub returns-in_err-frame-clause-refuses : goal.returns-in_err-frame-clause-refuses
returns-in_err-frame-clause-refuses g c =
    let old = g.S.Source.state c.args.src.now in
    let new = g.S.Source.state c.take_next.new.src in
    let is = c.self.inside in
    let count = c.in_ok-count.count in
    let p = err_from_is_err_and c.from_residual-in_err-frame.result c.from_residual-in_err-frame.ensures.1 in
    subst (λ (r : Reading). r.ended ≡ false
    → IfErr c.from_residual-in_err-frame.result (λ e. Refuses old new r e)) c.self.view_is
    (λ unended. rw (p.1, p.2) (refuses old new (take count c.deref.result.now)
    (take count c.take_next.new.room.items) is.place is.ended (ap (take count) c.deref.ensures.value)
    c.in_ok-count.ensures.takes _ c.in_err-frame.ensures.finds))

pub returns-in_default-clause-gives : goal.returns-in_default-clause-gives
returns-in_default-clause-gives g c =
    let old = g.S.Source.state c.args.src.now in
    let new = g.S.Source.state c.take_next.new.src in
    let is = c.self.inside in
    let count = c.in_ok-count.count in
    let after : Reading = record { pending = []; place = is.place; ended = true } in
    subst (λ (r : Reading). r.ended ≡ false → GivesFrame old new r after None) c.self.view_is
    (λ unended. gives_end old new (take count c.deref.result.now) (take count c.take_next.new.room.items) is.place
    is.ended (ap (take count) c.deref.ensures.value) c.in_ok-count.ensures.takes
    (subst (λ f. FindsNext is.place (Ok f) (next_frame is.place (take count c.deref.result.now))) c.in_default.is
    c.in_ok-frame.ensures.finds))

pub invariant_of-self-2 : goal.invariant_of-self-2
invariant_of-self-2 g c =
    let place = c.self.inside.place in
    let count = c.in_ok-count.count in
    let taken = take count c.take_next.new.room.items in
    let whole = found_whole place (take count c.deref.result.now) taken c.in_ok-frame.field-0 c.in-Some.frame
    (ap (take count) c.deref.ensures.value) c.in-Some.is c.in_ok-frame.ensures.finds in
    let within : count ≤ length c.take_next.new.room.items = omega (arith, c.in_ok-count.ensures.within) in
    rests_past place count c.place_after-self-inside.result taken c.in-Some.frame
    (sym (length-take-le count c.take_next.new.room.items within)) c.place_after-self-inside.ensures
    whole.0 c.self.invariant.placed c.in_ok-count.ensures.takes.no_more whole.1

pub returns-clause-gives : goal.returns-clause-gives
returns-clause-gives g c =
    let old = g.S.Source.state c.args.src.now in
    let new = g.S.Source.state c.take_next.new.src in
    let is = c.self.inside in
    let count = c.in_ok-count.count in
    let taken = take count c.take_next.new.room.items in
    let within : count ≤ length c.take_next.new.room.items = omega (arith, c.in_ok-count.ensures.within) in
    let after : Reading = record { pending = []; place = c.place_after-self-inside.result; ended = is.ended } in
    subst (λ (r : Reading). r.ended ≡ false → GivesFrame old new r after (Some c.in-Some.frame)) c.self.view_is
    (λ unended. gives_frame old new (take count c.deref.result.now) taken is.place is.ended
    (ap (take count) c.deref.ensures.value) c.in_ok-count.ensures.takes after c.in-Some.frame
    (subst (λ f. FindsNext is.place (Ok f) (next_frame is.place (take count c.deref.result.now))) c.in-Some.is
    c.in_ok-frame.ensures.finds)
    (reading_past is.place count c.place_after-self-inside.result taken c.in-Some.frame
    (sym (length-take-le count c.take_next.new.room.items within)) c.place_after-self-inside.ensures is.ended unended))
