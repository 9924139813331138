-- What was read stands behind what was held.
use Rattle.std.proofs.Common.{◌≡◌, ◌≤◌, length, take, sym, ap, ◌∙◌, arith}
use Rattle.std.proofs.lemmas.List.{length-take-le}
use Rattle.session_frames.proofs.ReaderLemmas.{filled_behind, held_in_front}
use Rattle.session_frames.proofs.reader.take_some.Goals as goal

pub returns-clause-takes : goal.returns-clause-takes
returns-clause-takes g c =
    let room = c.args.room.now.items in
    let held = c.args.held in
    let count = c.in_ok-read.field-0 in
    let buffer = c.read.new.buf in
    let within : held ≤ length room = omega (arith, c.requires.within) in
    let front : take held c.deref_mut.result.now ≡ take held room = ap (take held) c.deref_mut.ensures.value
    ∙ held_in_front room c.make_room.new.room.items held c.in_ok-make_room.ensures.kept within in
    let long : length (take held room) ≡ held = length-take-le held room within in
    let given = c.in_ok-read.ensures.bound.0 in
    let size = c.min-end.ensures in
    let kept = c.read.auto.buf in
    let enough = c.in_ok-make_room.ensures.enough in
    record {
      more = take count buffer;
      consumes = c.in_ok-read.ensures.bytes.0;
      grown = filled_behind _ (take held room) buffer _ _ held count _ front long given
          (omega (arith, given, size, kept, enough, c.deref_mut.ensures.len));
      counted = sym c.in_ok-read.ensures.bound.1;
      few = omega (arith, given, size, kept, enough, c.deref_mut.ensures.len);
      end = λ none. c.in_ok-read.ensures.bytes.1 none
          (omega (arith, size, kept, enough, c.deref_mut.ensures.len, c.requires.some));
    }
