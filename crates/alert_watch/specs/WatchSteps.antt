-- What one arrival does to what a watch holds: for private clauses.
use Rattle.std.specs.Prelude.{◌≡◌, ℕ, ◌+◌, Bool, true, nat_lt, nat_le, if◌then◌else◌, List, [], ◌∷◌, ◌++◌, length, slice_index_or, slice_set, Option, Some, None}
use Rattle.atom_record.specs.declared.value.MetricKey.{MetricKey}
use Rattle.bucket_meaning.specs.Kept.{count_in_u64}
use Rattle.alert_watch.specs.declared.alarm.Alarm.{Alarm}
use Rattle.alert_watch.specs.Windows.{most_alarms}
use Rattle.alert_watch.specs.Watches.{KeyCounts, WatchContents}
use Rattle.alert_watch.specs.WindowParts.{finds_room, CountsOne}

-- the table of no part
abbrev pub no_table : KeyCounts
no_table = record { rows = []; bound = 0; dropped = 0 }

-- the table of the open part
abbrev pub open_table : List KeyCounts → KeyCounts
open_table tables = slice_index_or tables 0 no_table

-- a key has a row in the open part, or finds room there
abbrev pub CanCount : WatchContents → MetricKey → Type 0
CanCount watch key = finds_room key (open_table watch.tables) ≡ true

-- an arrival is counted in the open part, and nothing else changes
pub record CountsIn (old new : WatchContents) (key : MetricKey) : Type 0 where
  pub table : KeyCounts
  pub counted : CountsOne (open_table old.tables) table key
  pub new_is : new ≡ record old { tables = slice_set old.tables 0 table }

-- the refractory time is over, where the last alarm came at this time
abbrev pub is_over_after : ℕ → Option ℕ → ℕ → Bool
is_over_after refractory None at = true
is_over_after refractory (Some last) at = nat_le (last + refractory) at

-- it is over for a watch
abbrev pub is_over_at : WatchContents → ℕ → Bool
is_over_at watch at = is_over_after watch.spec.refractory watch.last at

-- one alarm more, which is listed while there is room, and else counted
abbrev pub rung_with : WatchContents → Alarm → WatchContents
rung_with watch alarm =
    if nat_lt (length watch.listed) most_alarms
    then record watch { last = Some alarm.at; listed = watch.listed ++ alarm ∷ [] }
    else record watch { last = Some alarm.at; not_kept = count_in_u64 (watch.not_kept + 1) }

-- an arrival is counted in the open part, and is an alarm
pub record RingsWith (old new : WatchContents) (at sum : ℕ) (key : MetricKey) : Type 0 where
  pub mid : WatchContents
  pub counted : CountsIn old mid key
  pub rung : new ≡ rung_with mid (record { at = at; sum = sum; key = key })
