use Rattle.config_links.proofs.SoundUses.{references_end}
use Rattle.config_links.proofs.laws.references_end.Goals as goal

pub returns : goal.returns
returns c linked sound = references_end linked sound
