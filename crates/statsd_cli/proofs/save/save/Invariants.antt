-- The ledger of the questions is the one of the blank.
use Rattle.statsd_cli.proofs.save.save.Given as goal

abbrev pub ghosts-counted_save : goal.ghosts-counted_save
ghosts-counted_save g a = record { name = a.blank.name; parts = a.blank.parts }
