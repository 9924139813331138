-- The ledger is the one of the blank.
use Rattle.condition_links_tests.proofs.samples.asked.Given as goal

abbrev pub ghosts-counted : goal.ghosts-counted
ghosts-counted a = record { name = a.blank.name; parts = a.blank.parts }
