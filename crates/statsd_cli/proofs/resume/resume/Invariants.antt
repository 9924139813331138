-- The ledger of the questions is the one of the blank.
use Rattle.statsd_cli.proofs.resume.resume.Given as goal

abbrev pub ghosts-run_on : goal.ghosts-run_on
ghosts-run_on g a = record { name = a.blank.name; parts = a.blank.parts }
