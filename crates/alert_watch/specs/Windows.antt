-- The alarms of an alert, read from all that its metric was told since the installation.
use Rattle.std.specs.Prelude.{ℕ, ◌+◌, ◌-◌, Bool, ◌&&◌, nat_lt, nat_le, if◌then◌else◌, List, [], ◌∷◌, ◌++◌, map, length, take, replicate, Option, Some, None, true}
use Rattle.std.specs.List.{sum_by, last_or}
use Rattle.atom_record.specs.declared.value.MetricKey.{MetricKey}
use Rattle.bucket_meaning.specs.Guard.{is_among, admitted, of_key, arrival_key}
use Rattle.bucket_meaning.specs.Kept.{count_in_u64}
use Rattle.config_types.specs.declared.parameters.AlertSpec.{AlertSpec}
use Rattle.metric_kinds.specs.Keys.{is_same_key}
use Rattle.alert_watch.specs.declared.alarm.Alarm.{Alarm}
use Rattle.alert_watch.specs.declared.alarm.Alarms.{Alarms}

-- the most alarms of one alert that one report lists
abbrev pub most_alarms : ℕ
most_alarms = 100

-- One thing that an alert is told of its metric.
pub data Notice : Type 0 where
  KeyArrived : (at : ℕ) → (key : MetricKey) → Notice  -- an atom counts, with this key
  PartsEnded : (parts : ℕ) → Notice  -- so many parts ended: the open one, and others in which nothing arrived
  AlarmsTold : Notice  -- a report told the alarms

-- an arrival is its key and its time
abbrev pub Arrival : Type 0
Arrival = MetricKey × ℕ

-- how many arrivals of a part have this key, or none where the guardrail doesn't admit the key in the part
abbrev pub admitted_of : ℕ → MetricKey → List Arrival → ℕ
admitted_of bound key part =
    if is_among is_same_key key (admitted is_same_key bound (map arrival_key part))
    then length (of_key is_same_key key part) else 0

-- What an alert knows after some notices: what arrived in the open part; what arrived in each part before it, the
-- latest first; all alarms; and those of them that no report told yet.
pub record AlertBooks : Type 0 where
  pub current : List Arrival
  pub closed : List (List Arrival)
  pub rung : List Alarm
  pub untold : List Alarm

-- how often a key was admitted in the window: in the open part and in those before it, as many in all as the alert says
abbrev pub window_sum : AlertSpec → AlertBooks → MetricKey → ℕ
window_sum spec books key =
    count_in_u64 (sum_by (admitted_of spec.bound key) (take spec.parts (books.current ∷ books.closed)))

-- the refractory time after an alarm is over
abbrev pub is_over : ℕ → Option Alarm → ℕ → Bool
is_over refractory None at = true
is_over refractory (Some last) at = nat_le (last.at + refractory) at

-- the last arrival of these books is an alarm: the guardrail admits its key in its part, the key came more often in the
-- window than the threshold says, and the refractory time after the last alarm is over, whatever key that one had
abbrev pub rings : AlertSpec → AlertBooks → ℕ → MetricKey → Bool
rings spec books at key =
    is_among is_same_key key (admitted is_same_key spec.bound (map arrival_key books.current))
    && (nat_lt spec.threshold (window_sum spec books key) && is_over spec.refractory (last_or None books.rung) at)

-- one alarm more
abbrev pub with_alarm : AlertBooks → Alarm → AlertBooks
with_alarm books alarm = record books { rung = books.rung ++ alarm ∷ []; untold = books.untold ++ alarm ∷ [] }

-- one arrival more
abbrev pub with_arrival : AlertBooks → ℕ → MetricKey → AlertBooks
with_arrival books at key = record books { current = books.current ++ (key, at) ∷ [] }

-- the books after one notice more
abbrev pub with_notice : AlertSpec → AlertBooks → Notice → AlertBooks
with_notice spec books (KeyArrived at key) =
    let all = with_arrival books at key in
    if rings spec all at key
    then with_alarm all (record { at = at; sum = window_sum spec all key; key = key }) else all
with_notice spec books (PartsEnded parts) =
    record books { current = []; closed = replicate (parts - 1) [] ++ (books.current ∷ books.closed) }
with_notice spec books AlarmsTold = record books { untold = [] }

-- the books of an alert that was told nothing
abbrev pub no_alert_books : AlertBooks
no_alert_books = record { current = []; closed = []; rung = []; untold = [] }

-- the books after some notices more
abbrev pub alert_books_from : AlertSpec → AlertBooks → List Notice → AlertBooks
alert_books_from spec books [] = books
alert_books_from spec books (notice ∷ more) = alert_books_from spec (with_notice spec books notice) more

-- the books after all notices since the installation
abbrev pub alert_books : AlertSpec → List Notice → AlertBooks
alert_books spec notices = alert_books_from spec no_alert_books notices

-- the alarms that the next report tells: the first of those that no report told yet, and how many came after these
abbrev pub alarms_told : AlertSpec → List Notice → Alarms
alarms_told spec notices =
    let untold = (alert_books spec notices).untold in
    record { listed = take most_alarms untold; not_kept = count_in_u64 (length untold - most_alarms) }
