mod AddedLemmas
mod NoEmptyLemmas
