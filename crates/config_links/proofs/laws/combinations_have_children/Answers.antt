use Rattle.config_links.proofs.SoundUses.{have_children}
use Rattle.config_links.proofs.laws.combinations_have_children.Goals as goal

pub returns : goal.returns
returns c linked sound = have_children linked sound
