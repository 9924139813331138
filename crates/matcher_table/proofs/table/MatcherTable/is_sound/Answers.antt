use Rattle.matcher_table.proofs.TableLaws.{had, sound_table}
use Rattle.matcher_table.proofs.table.MatcherTable.is_sound.Goals as goal

pub returns : goal.returns
returns c = sound_table c.args.self.now.store (had c.args.self.now.store c.args.self.now.sound)
