use Rattle.std.proofs.lemmas.Int.{to_z-of_z}
use Rattle.config_links.proofs.JudgedLemmas.{links_by_verdict}
use Rattle.config_links.proofs.SoundLemmas.{answer_sound}
use Rattle.config_links.proofs.linker.link.Goals as goal

-- what was judged is the first fault of all
pub returns-clause-linked : goal.returns-clause-linked
returns-clause-linked c =
    links_by_verdict c.linked_config.result c.args.config c.args.uid
    (simp (to_z-of_z, c.ranges.uid) at c.linked_config.ensures)

-- what is answered is the linked form of a configuration without faults
pub returns-clause-sound : goal.returns-clause-sound
returns-clause-sound c =
    answer_sound c.linked_config.result c.args.config _
    (links_by_verdict c.linked_config.result c.args.config _ c.linked_config.ensures)
