use Rattle.std.proofs.Common.{◌<◌, sym, subst, arith}
use Rattle.kept_rows.specs.KeptRows.{Keeping}
use Rattle.kept_rows.proofs.KeptRowsLemmas.{passes}
use Rattle.kept_rows.proofs.kept.KeptRows.pass.Goals as goal

-- a row wasn't kept
pub returns : goal.returns
returns g c = λ weigh more is.
    rw (← c.self.view_is) (passes weigh (record {
      rows = c.self.inside.rows;
      used = c.self.inside.used;
      others = c.self.inside.others;
    }) more c.args.number c.saturating_add-self-inside.result
    (subst (λ (it : Keeping _). 0 < it.others) (sym c.self.view_is) c.requires.full) is
    (omega (arith, c.saturating_add-self-inside.ensures)))
