-- The ledger is the one of the blank.
use Rattle.client_engine.proofs.first_truth.first_truth.Given as goal

abbrev pub ghosts-counted_truth : goal.ghosts-counted_truth
ghosts-counted_truth a = record { name = a.blank.name; parts = a.blank.parts }
