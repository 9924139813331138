use Rattle.std.proofs.Common.{length, arith}
use Rattle.link_graph.proofs.UnrollingLaws.{equation}
use Rattle.link_graph.proofs.laws.values_come_from_below.Goals as goal

pub returns : goal.returns
returns g c links ends step deeper down x here =
    equation links step deeper down (length links) x (length links) (ends x here) (omega arith)
