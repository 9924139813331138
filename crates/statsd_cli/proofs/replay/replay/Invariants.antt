-- The ledger of the questions is the one of the blank.
use Rattle.statsd_cli.proofs.replay.replay.Given as goal

abbrev pub ghosts-counted_replay : goal.ghosts-counted_replay
ghosts-counted_replay g a = record { name = a.blank.name; parts = a.blank.parts }
