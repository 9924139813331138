use Rattle.config_links.proofs.SoundUses.{sound_at_places}
use Rattle.config_links.proofs.laws.each_entity_is_sound.Goals as goal

pub returns : goal.returns
returns c linked sound = sound_at_places linked sound
