-- Which slot an index has for a matcher. No public clause cites this.
use Rattle.std.specs.Prelude.{ℕ, ◌<◌, Option}
use Rattle.indexmap.specs.IndexMap.{get, spare}
use Rattle.matcher_table.specs.declared.shared.SharedMatcher.{SharedMatcher}
use Rattle.matcher_table.specs.declared.index.SlotIndex.{SlotIndex}
use Rattle.matcher_table.specs.contracts.shared.SharedMatcherPartialEq.TheImpl as shared

-- the slot that an index has for a matcher
abbrev pub slot_for : SlotIndex → SharedMatcher → Option ℕ
slot_for index wanted = get shared.ghosts.eq index.slots wanted

-- one matcher more needs no memory
abbrev pub HasSpare : SlotIndex → Type 0
HasSpare index = 0 < spare index.slots
