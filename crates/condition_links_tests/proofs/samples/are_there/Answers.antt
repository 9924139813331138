use Rattle.condition_links_tests.proofs.samples.are_there.Goals as goal

pub returns : goal.returns
returns c = c.are_in_range.ensures.yes
