-- An atom is told as it stands.
use Rattle.std.proofs.Common.{◌∙◌, map, length, sym, ap, subst}
use Rattle.metric_activation.specs.Timers.{heard_of, HearsAtom}
use Rattle.client_engine.specs.Activity.{starts_by, cancels_by, TellsFrame}
use Rattle.client_engine.proofs.ActivityLemmas.{atom_told}
use Rattle.client_engine.proofs.activity.tell.Goals as goal

pub returns-in-AtomAt : goal.returns-in-AtomAt
returns-in-AtomAt c =
    let metric = c.args.metric.now in
    let truths = c.args.brought.now.matched.now in
    let at = c.in-AtomAt.at in
    let old = c.args.acts.now in
    let new = c.tell_atom.new.acts in
    subst (λ shown. TellsFrame metric shown truths old new) (sym c.in-AtomAt.is)
    (atom_told metric at c.in-AtomAt.atom truths old new c.tell_atom.ensures.ttls
    (λ in_time long. subst (λ ones. HearsAtom old new
    (heard_of at (map (starts_by truths) ones) (map (cancels_by truths) ones))) c.as_slice.ensures
    (c.tell_atom.ensures.stands in_time (long ∙ ap length (sym c.as_slice.ensures)))))
