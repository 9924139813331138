-- There was room, and no refusal.
use Rattle.std.proofs.Common.{SFits, w32, rules, ◌≡◌, nat_le, false, arith, sym, ap, ◌∙◌}
use Rattle.std.proofs.lemmas.Int.{to_z-of_z}
use Rattle.std.proofs.lemmas.Bool.Decides.{nat_tests}
use Rattle.hub_core.specs.CarriedConfigs.{linked_by}
use Rattle.hub_core.specs.Sleeping.{moment_of_clock}
use Rattle.hub_core.specs.Slots.{others_at}
use Rattle.hub_core.specs.Commands.{accepted_of, others}
use Rattle.hub_core.proofs.CommandLemmas.{installs}
use Rattle.hub_core.proofs.lives.Lives.install.Goals as goal

pub put_in-requires-clause-accepted : goal.put_in-requires-clause-accepted
put_in-requires-clause-accepted c =
    let uid_fits : SFits w32 c.args.offer.name.uid = search rules in
    let linked = simp to_z-of_z at c.in_ok-linked.ensures.linked in
    record {
      sound = rw c.in-Ok-2.is at c.in_ok-linked.ensures.sound;
      read = ap (linked_by c.args.offer.name.uid) (sym c.requires ∙ c.in-Ok.is) ∙ sym linked ∙ c.in-Ok-2.is;
    }

pub returns-in-Ok-2 : goal.returns-in-Ok-2
returns-in-Ok-2 c =
    let uid_fits : SFits w32 c.args.offer.name.uid = search rules in
    let count = simp to_z-of_z at c.others_of.ensures in
    let linked = simp to_z-of_z at c.in_ok-linked.ensures.linked in
    let same : c.others_of.result ≡ others c.args.offer.name c.args.self =
    count ∙ ap (λ b. others_at c.args.offer.name.uid b c.args.self.counts.entries) c.contains_key-there.ensures in
    let room : nat_le 10 c.others_of.result ≡ false = grind (arith, nat_tests, c.if-others_of-ge-MOST_CONFIGS.false) in
    rw c.in-Ok.is (installs (moment_of_clock c.args.clock) c.args.books.now
    (accepted_of c.args.offer.name c.args.offer.config c.in-Ok-2.linked) c.in-Ok.decoded c.args.self
    c.put_in.result (ap (nat_le 10) (sym same) ∙ room) (sym linked ∙ c.in-Ok-2.is)
    c.put_in.ensures)
