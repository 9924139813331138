-- All timers were told.
use Rattle.metric_activation.proofs.TimersLemmas.{all_told}
use Rattle.metric_activation.proofs.book.ActBook.apply.Goals as goal

pub returns-clause-stands : goal.returns-clause-stands
returns-clause-stands c =
    rw (← c.self.view_is)
    (λ in_time. all_told c.self.inside.timers.items c.tell_all.new.timers.items c.args.at c.args.started.now
    c.args.cancelled.now c.tell_all.ensures.len (c.tell_all.ensures.told in_time))
