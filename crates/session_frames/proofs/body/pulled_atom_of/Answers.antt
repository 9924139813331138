-- What is read of a payload that isn't of another atom is an atom of the pull.
use Rattle.std.proofs.Common.{sym}
use Rattle.session_frames.proofs.BodyLemmas.{pulled_sound}
use Rattle.session_frames.proofs.body.pulled_atom_of.Goals as goal

pub returns-clause-sound : goal.returns-clause-sound
returns-clause-sound c =
    pulled_sound c.args.id c.args.payload.now c.atom_of.result (sym c.if-has_other_id.ensures) c.atom_of.ensures.exact
    c.atom_of.ensures.sound
