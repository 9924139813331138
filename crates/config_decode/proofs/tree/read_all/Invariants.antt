use Rattle.std.proofs.Common.{◌≡◌, ◌++◌, map, drop}
use Rattle.config_decode.proofs.tree.read_all.Given as goal

-- what was read, and what the messages that are left will say
abbrev pub invariant-loop-inner : goal.invariant-loop-inner
invariant-loop-inner g l =
    l.read ++ map g.T.FromMessage.tree (drop l.inner-index l.messages) ≡ map g.T.FromMessage.tree l.messages
