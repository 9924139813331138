-- Which lists by id keep no empty list. No public clause cites this.
use Rattle.std.specs.Prelude.{ℕ, ◌<◌, nat_eq, List, length, IfSome}
use Rattle.std.specs.Global.{Vec}
use Rattle.std.specs.Map.{lookup}

-- an id that has a list has a slot on it: one under which no slot hangs has none
abbrev pub KeepsNoEmptyList : List (ℕ × Vec ℕ) → Type 0
KeepsNoEmptyList lists = (id : ℕ) → IfSome (lookup (nat_eq id) lists) (λ slots. 0 < length slots.items)
