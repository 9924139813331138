-- Before the first step the whole session is left, and each session is good and not long.
use Rattle.std.proofs.Common.{◌<◌, ◌^◌, length, sym, ap, subst, ◌∙◌}
use Rattle.load_session.specs.declared.session.Turn.TheVariants.{FirstInstall}
use Rattle.load_session.specs.Good.{AreGood}
use Rattle.load_session.specs.Steps.{left_at}
use Rattle.load_session.proofs.SessionLemmas.{whole_left, session_good, session_few}
use Rattle.load_session.proofs.session.LoadFrames.new.Goals as goal

pub returns-clause-whole : goal.returns-clause-whole
returns-clause-whole c = ap (left_at FirstInstall) c.new.ensures ∙ whole_left c.args.seed c.args.frames

pub returns-clause-good : goal.returns-clause-good
returns-clause-good c =
    subst (AreGood 0) (sym (ap (left_at FirstInstall) c.new.ensures ∙ whole_left c.args.seed c.args.frames))
    (session_good c.args.seed c.args.frames c.requires)

pub returns-clause-few : goal.returns-clause-few
returns-clause-few c =
    subst (λ left. length left < 2 ^ 34)
    (sym (ap (left_at FirstInstall) c.new.ensures ∙ whole_left c.args.seed c.args.frames))
    (session_few c.args.seed c.args.frames c.requires)
