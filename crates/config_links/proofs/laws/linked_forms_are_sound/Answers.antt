use Rattle.config_links.proofs.SoundLemmas.{form_sound}
use Rattle.config_links.proofs.laws.linked_forms_are_sound.Goals as goal

pub returns : goal.returns
returns c config uid none = form_sound config uid none
