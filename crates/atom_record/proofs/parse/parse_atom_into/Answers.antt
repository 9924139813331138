use Rattle.std.proofs.Common.{ap, ◌∙◌, subst, arith}
use Rattle.sd_base.specs.Reads.{GivesBy}
use Rattle.atom_record.specs.AtomReading.{reason_of, atom_at}
use Rattle.atom_record.proofs.AtomReadingPayloads.{atom_again, read_is_sound, read_is_spelled}
use Rattle.atom_record.proofs.parse.parse_atom_into.Goals as goal

-- what is read has no fault
pub returns-clause-sound : goal.returns-clause-sound
returns-clause-sound c =
    read_is_sound c.read_into.new.atom c.args.bytes.now c.read_into.result (λ i. omega (arith, c.type_inv.bytes i))
    c.read_into.ensures

-- what is read is spelled so
pub returns-clause-spelled : goal.returns-clause-spelled
returns-clause-spelled c =
    read_is_spelled c.read_into.new.atom c.args.bytes.now c.read_into.result (λ i. omega (arith, c.type_inv.bytes i))
    c.read_into.ensures

-- what has no fault and is spelled so is read
pub returns-clause-only : goal.returns-clause-only
returns-clause-only c =
    λ other sound spelled. subst (GivesBy reason_of (λ _. c.read_into.new.atom) c.read_into.result)
    (ap atom_at spelled ∙ atom_again other sound) c.read_into.ensures
