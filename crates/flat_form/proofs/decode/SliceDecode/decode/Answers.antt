-- Each answer is that of the reader of what stands after the tag.
use Rattle.flat_form.proofs.TagLemmas.{tag_first}
use Rattle.flat_form.proofs.decode.SliceDecode.decode.Goals as goal

pub returns-in-1 : goal.returns-in-1
returns-in-1 c = rw (tag_first c.args.bytes.now 1 c.in-len1-up.len_at_least c.in-1.is) c.plain_of.ensures

pub returns-in-2 : goal.returns-in-2
returns-in-2 c = rw (tag_first c.args.bytes.now 2 c.in-len1-up.len_at_least c.in-2.is) c.group_of.ensures
