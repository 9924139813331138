use Rattle.config_links.proofs.SoundUses.{have_their_leaves}
use Rattle.config_links.proofs.laws.tables_have_their_leaves.Goals as goal

pub returns : goal.returns
returns c linked sound = have_their_leaves linked sound
