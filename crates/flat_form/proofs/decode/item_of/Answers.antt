-- Each answer is that of the reader of what stands after the tag.
use Rattle.flat_form.proofs.TagLemmas.{tag_first}
use Rattle.flat_form.proofs.decode.item_of.Goals as goal

pub returns-in-1 : goal.returns-in-1
returns-in-1 c = rw (tag_first c.args.bytes.now 1 c.in-len1-up.len_at_least c.in-1.is) c.num_of.ensures

pub returns-in-2 : goal.returns-in-2
returns-in-2 c = rw (tag_first c.args.bytes.now 2 c.in-len1-up.len_at_least c.in-2.is) c.dims_of.ensures

pub returns-in-3 : goal.returns-in-3
returns-in-3 c = rw (tag_first c.args.bytes.now 3 c.in-len1-up.len_at_least c.in-3.is) c.slices_of.ensures

pub returns-in-4 : goal.returns-in-4
returns-in-4 c = rw (tag_first c.args.bytes.now 4 c.in-len1-up.len_at_least c.in-4.is) c.atom_of.ensures

pub returns-in-5 : goal.returns-in-5
returns-in-5 c = rw (tag_first c.args.bytes.now 5 c.in-len1-up.len_at_least c.in-5.is) c.chunk_of.ensures
