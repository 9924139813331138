-- The ledger is the one of the blank.
use Rattle.client_engine_tests.proofs.fed.log.Given as goal

abbrev pub ghosts-feed : goal.ghosts-feed
ghosts-feed a = record { name = a.blank.name; parts = a.blank.parts }
