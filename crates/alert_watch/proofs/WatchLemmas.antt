-- A watch, with one thing more that it notice.
use Rattle.std.proofs.Common.{◌≡◌, ℕ, zero, suc, ◌+◌, ◌-◌, ◌^◌, ◌<◌, ◌≤◌, min, Bool, true, false, not, ◌&&◌, ◌||◌, ◌==◌, nat_lt, if◌then◌else◌, List, [], ◌∷◌, ◌++◌, length, take, drop, replicate, set, get_or, All, Option, Some, None, refl, sym, ap, subst, ◌∙◌, arith, ⊎_elim, ◌⊎◌, inl, inr}
use Rattle.std.specs.List.{sum_by, last_or}
use Rattle.std.specs.Option.{option_map}
use Rattle.std.proofs.lemmas.Bool.{cases_lt, lt-ltb, le-ltb}
use Rattle.std.proofs.lemmas.List.{length-append, length-take, take_all, drop_all, take-append-le, get_or_default, append-nil}
use Rattle.std.proofs.lemmas.List.Sums.{sum_by-cons}
use Rattle.atom_record.specs.declared.value.MetricKey.{MetricKey}
use Rattle.bucket_meaning.specs.Guard.{is_among}
use Rattle.bucket_meaning.specs.Kept.{count_in_u64}
use Rattle.metric_kinds.specs.Keys.{is_same_key}
use Rattle.config_types.specs.declared.parameters.AlertSpec.{AlertSpec}
use Rattle.alert_watch.specs.declared.alarm.Alarm.{Alarm}
use Rattle.alert_watch.specs.Windows.{Arrival, Notice, KeyArrived, PartsEnded, AlarmsTold, admitted_of, AlertBooks, window_sum, is_over, with_alarm, with_arrival, with_notice, alert_books_from, alert_books, no_alert_books, most_alarms}
use Rattle.alert_watch.specs.Watches.{KeyCounts, WatchContents, IsPartTable, IsWatch, CountsPart, CountParts, HasAlertBooks, WatchStandsFor, TakesNotice, TellsAlarms}
use Rattle.alert_watch.specs.WindowParts.{IsEmptyTable, table_sum, finds_room, CountsOne, Turns}
use Rattle.alert_watch.specs.WatchSteps.{no_table, open_table, CountsIn, is_over_after, rung_with, RingsWith}
use Rattle.alert_watch.proofs.CountedLemmas.{admitted_keys, is_admitted, admitted_more, not_admitted, turned_away, room_is}
use Rattle.alert_watch.proofs.SumsLemmas.{sum_counted}
use Rattle.alert_watch.proofs.TurnsLemmas.{all_turned, new_counted}

last_or-append : {X : Type 0} (other : Option X) (xs ys : List X)
    → last_or other (xs ++ ys) ≡ last_or (last_or other xs) ys
last_or-append other [] ys = refl
last_or-append other (x ∷ xs) ys = last_or-append (Some x) xs ys

-- what was notice, with one thing more
pub alert_books_push : (spec : AlertSpec) (books : AlertBooks) (before : List Notice) (notice : Notice)
    → alert_books_from spec books (before ++ notice ∷ []) ≡ with_notice spec (alert_books_from spec books before) notice
alert_books_push spec books [] notice = refl
alert_books_push spec books (first ∷ before) notice = alert_books_push spec (with_notice spec books first) before notice

-- and with some more
alert_books_append : (spec : AlertSpec) (books : AlertBooks) (before more : List Notice)
    → alert_books_from spec books (before ++ more) ≡ alert_books_from spec (alert_books_from spec books before) more
alert_books_append spec books [] more = refl
alert_books_append spec books (first ∷ before) more = alert_books_append spec (with_notice spec books first) before more

-- it is enough to say what one thing makes of what was books
pub takes_notice : (old new : WatchContents) (notice : Notice) → new.spec ≡ old.spec
    → ((books : AlertBooks) → HasAlertBooks old books → HasAlertBooks new (with_notice old.spec books notice))
    → TakesNotice old new notice
takes_notice old new notice same step before stands =
    subst (λ spec. HasAlertBooks new (alert_books spec (before ++ notice ∷ []))) (sym same)
    (subst (HasAlertBooks new) (sym (alert_books_push old.spec no_alert_books before notice))
    (step (alert_books old.spec before) stands))

-- an arrival with this sum is an alarm, where the last alarm came at this time
abbrev pub rings_by : AlertSpec → Option ℕ → ℕ → ℕ → Bool
rings_by spec last at sum = nat_lt spec.threshold sum && is_over_after spec.refractory last at

-- whether the refractory time is over
over_is : (refractory at : ℕ) (last : Option Alarm)
    → is_over_after refractory (option_map (λ (alarm : Alarm). alarm.at) last) at ≡ is_over refractory last at
over_is refractory at None = refl
over_is refractory at (Some alarm) = refl

module _ (spec : AlertSpec) (books : AlertBooks) (at : ℕ) (key : MetricKey) where
  abbrev arrived : AlertBooks
  arrived = with_arrival books at key

  -- nothing rings where the key isn't admitted
  quiet : is_among is_same_key key (admitted_keys spec.bound arrived.current) ≡ false
      → with_notice spec books (KeyArrived at key) ≡ arrived
  quiet off = ap (λ b. if b && (nat_lt spec.threshold (window_sum spec arrived key)
      && is_over spec.refractory (last_or None arrived.rung) at)
      then with_alarm arrived (record { at = at; sum = window_sum spec arrived key; key = key }) else arrived) off

  -- where it is, the sum and the time decide
  decided : (b : Bool) → is_among is_same_key key (admitted_keys spec.bound arrived.current) ≡ true
      → (nat_lt spec.threshold (window_sum spec arrived key)
      && is_over spec.refractory (last_or None arrived.rung) at) ≡ b
      → with_notice spec books (KeyArrived at key) ≡
      (if b then with_alarm arrived (record { at = at; sum = window_sum spec arrived key; key = key }) else arrived)
  decided b on is =
      ap (λ c. if c && (nat_lt spec.threshold (window_sum spec arrived key)
      && is_over spec.refractory (last_or None arrived.rung) at)
      then with_alarm arrived (record { at = at; sum = window_sum spec arrived key; key = key }) else arrived) on
      ∙ ap (λ c. if c then with_alarm arrived (record { at = at; sum = window_sum spec arrived key; key = key })
      else arrived) is

one_in : (a b rest : ℕ) → b ≡ a + 1 → count_in_u64 (count_in_u64 (a + rest) + 1) ≡ count_in_u64 (b + rest)
one_in a b rest is = omega (arith, is)

-- the tables of a watch, of which there is one at least
module _ (watch : WatchContents) (ok : IsWatch watch) where
  pub has_table : 0 < length watch.tables
  has_table = omega (arith, ok.parts, ok.spec.least_parts)

-- the first table alone is another
changes_first : (tables : List KeyCounts) (table : KeyCounts) (opened part : List Arrival)
    (closed : List (List Arrival))
    → CountParts tables (opened ∷ closed) → (CountsPart (get_or tables 0 no_table) opened → CountsPart table part)
    → CountParts (set tables 0 table) (part ∷ closed)
changes_first [] table opened part closed are change = tt
changes_first (first ∷ tables) table opened part closed are change = (change are.0, are.1)

first_counted : (tables : List KeyCounts) (opened : List Arrival) (closed : List (List Arrival)) → 0 < length tables
    → CountParts tables (opened ∷ closed) → CountsPart (get_or tables 0 no_table) opened
first_counted [] opened closed some are = absurd (omega (arith, some))
first_counted (first ∷ tables) opened closed some are = are.0

first_bound : (tables : List KeyCounts) (bound : ℕ) → 0 < length tables → All (IsPartTable bound) tables
    → (get_or tables 0 no_table).bound ≡ bound
first_bound tables bound some all = (all 0 no_table some).has_bound

module _ (watch : WatchContents) (ok : IsWatch watch) (books : AlertBooks) (has : HasAlertBooks watch books) (at : ℕ)
    (key : MetricKey) where
  abbrev bound : ℕ
  bound = watch.spec.bound

  abbrev all : AlertBooks
  all = with_arrival books at key

  first_is : CountsPart (open_table watch.tables) books.current
  first_is = first_counted watch.tables books.current books.closed (has_table watch ok) has.tables

  bound_is : (open_table watch.tables).bound ≡ bound
  bound_is = first_bound watch.tables bound (has_table watch ok) ok.tables

  -- a key that finds room, by the opened part
  finds : (found : Bool) → finds_room key (open_table watch.tables) ≡ found
      → (is_among is_same_key key (admitted_keys bound books.current)
      || not (length (admitted_keys bound books.current) == bound)) ≡ found
  finds found room = subst (λ b. (is_among is_same_key key (admitted_keys b books.current)
      || not (length (admitted_keys b books.current) == b)) ≡ found) bound_is
      (room_is (open_table watch.tables) books.current key found first_is room)

  -- one that finds none changes nothing
  pub stays : finds_room key (open_table watch.tables) ≡ false
      → HasAlertBooks watch (with_notice watch.spec books (KeyArrived at key))
  stays none =
      let off = not_admitted bound books.current key at (finds false none) in
      subst (HasAlertBooks watch) (sym (quiet watch.spec books at key off)) (record {
        tables = same_first watch.tables books.current all.current books.closed has.tables
            (λ is. turned_away (open_table watch.tables) books.current key at is none);
        last = has.last;
        listed = has.listed;
        not_kept = has.not_kept;
      })
    where
      same_first : (tables : List KeyCounts) (opened part : List Arrival) (closed : List (List Arrival))
          → CountParts tables (opened ∷ closed)
          → (CountsPart (get_or tables 0 no_table) opened → CountsPart (get_or tables 0 no_table) part)
          → CountParts tables (part ∷ closed)
      same_first [] opened part closed are change = tt
      same_first (first ∷ tables) opened part closed are change = (change are.0, are.1)

  -- the sum that counts this arrival
  pub sum_is : finds_room key (open_table watch.tables) ≡ true
      → count_in_u64 (table_sum key watch.tables + 1) ≡ window_sum watch.spec all key
  sum_is room =
      ap (λ n. count_in_u64 (n + 1))
      (sum_counted key bound watch.tables (books.current ∷ books.closed) has.tables ok.tables)
      ∙ ap (λ n. count_in_u64
      (count_in_u64 (sum_by (admitted_of bound key) (take n (books.current ∷ books.closed))) + 1)) ok.parts
      ∙ by_parts watch.spec.parts ok.spec.least_parts
    where
      by_parts : (parts : ℕ) → 1 ≤ parts
          → count_in_u64 (count_in_u64 (sum_by (admitted_of bound key) (take parts (books.current ∷ books.closed))) + 1)
          ≡ count_in_u64 (sum_by (admitted_of bound key) (take parts (all.current ∷ books.closed)))
      by_parts zero some = absurd (omega (arith, some))
      by_parts (suc n) some =
          ap (λ s. count_in_u64 (count_in_u64 s + 1))
          (sum_by-cons (admitted_of bound key) books.current (take n books.closed))
          ∙ one_in (admitted_of bound key books.current) (admitted_of bound key all.current)
          (sum_by (admitted_of bound key) (take n books.closed))
          (admitted_more bound books.current key at (finds true room))
          ∙ ap count_in_u64 (sym (sum_by-cons (admitted_of bound key) all.current (take n books.closed)))

  -- whether it is an alarm
  rings_is : (sum : ℕ) → sum ≡ window_sum watch.spec all key → (b : Bool) → rings_by watch.spec watch.last at sum ≡ b
      → (nat_lt watch.spec.threshold (window_sum watch.spec all key)
      && is_over watch.spec.refractory (last_or None all.rung) at) ≡ b
  rings_is sum same b is =
      ap (λ n. nat_lt watch.spec.threshold n && is_over watch.spec.refractory (last_or None books.rung) at) (sym same)
      ∙ ap (λ over. nat_lt watch.spec.threshold sum && over)
      (sym (over_is watch.spec.refractory at (last_or None books.rung))
      ∙ ap (λ last. is_over_after watch.spec.refractory last at) (sym has.last))
      ∙ is

  module _ (room : finds_room key (open_table watch.tables) ≡ true) (sum : ℕ)
      (same : sum ≡ window_sum watch.spec all key) where
    -- the watch has this arrival in its tables
    counted_has : (mid : WatchContents) → CountsIn watch mid key → HasAlertBooks mid all
    counted_has mid one = rw one.new_is (record {
      tables = changes_first watch.tables one.table books.current all.current books.closed has.tables
          (λ is. one.counted.counted books.current at is);
      last = has.last;
      listed = has.listed;
      not_kept = has.not_kept;
    })

    -- no alarm
    pub counts : (new : WatchContents) → rings_by watch.spec watch.last at sum ≡ false → CountsIn watch new key
        → HasAlertBooks new (with_notice watch.spec books (KeyArrived at key))
    counts new off one =
        subst (HasAlertBooks new)
        (sym (decided watch.spec books at key false (is_admitted bound books.current key at (finds true room))
        (rings_is sum same false off)))
        (counted_has new one)

    -- an alarm
    pub alarms : (new : WatchContents) → rings_by watch.spec watch.last at sum ≡ true → RingsWith watch new at sum key
        → HasAlertBooks new (with_notice watch.spec books (KeyArrived at key))
    alarms new on one =
        subst (HasAlertBooks new)
        (sym (decided watch.spec books at key true (is_admitted bound books.current key at (finds true room))
        (rings_is sum same true on)))
        (rw one.rung (subst (λ s. HasAlertBooks (rung_with one.mid (record { at = at; sum = sum; key = key }))
        (with_alarm all (record { at = at; sum = s; key = key }))) same
        (rung_has one.mid all (record { at = at; sum = sum; key = key }) (counted_has one.mid one.counted))))
      where
        few_listed : (untold : List Alarm) (alarm : Alarm) → length (take most_alarms untold) < most_alarms
            → take most_alarms untold ++ alarm ∷ [] ≡ take most_alarms (untold ++ alarm ∷ [])
        few_listed untold alarm few =
            let less : length untold < most_alarms = omega (arith, few, length-take most_alarms untold) in
            ap (λ l. l ++ alarm ∷ []) (take_all most_alarms untold (omega (arith, less)))
            ∙ sym (take_all most_alarms (untold ++ alarm ∷ [])
            (omega (arith, less, length-append untold (alarm ∷ []))))

        rung_has : (mid : WatchContents) (before : AlertBooks) (alarm : Alarm) → HasAlertBooks mid before
            → HasAlertBooks (rung_with mid alarm) (with_alarm before alarm)
        rung_has mid before alarm was =
            let last_is : Some alarm.at ≡ option_map (λ (one : Alarm). one.at)
            (last_or None (before.rung ++ alarm ∷ [])) =
            ap (option_map (λ (one : Alarm). one.at)) (sym (last_or-append None before.rung (alarm ∷ []))) in
            ⊎_elim
            (λ (few : length mid.listed < most_alarms).
            let some : length (take most_alarms before.untold) < most_alarms =
            subst (λ (l : List Alarm). length l < most_alarms) was.listed few in
            rw (lt-ltb (length mid.listed) most_alarms few) (record {
              tables = was.tables;
              last = last_is;
              listed = ap (λ l. l ++ alarm ∷ []) was.listed ∙ few_listed before.untold alarm some;
              not_kept = was.not_kept
                  ∙ none_more (length before.untold) (length (before.untold ++ alarm ∷ []))
                  (omega (arith, some, length-take most_alarms before.untold))
                  (length-append before.untold (alarm ∷ []));
            }))
            (λ (full : most_alarms ≤ length mid.listed).
            let all_full : most_alarms ≤ length before.untold =
            omega (
              arith,
              length-take most_alarms before.untold,
              subst (λ (l : List Alarm). most_alarms ≤ length l) was.listed full,
            ) in
            rw (le-ltb (length mid.listed) most_alarms full) (record {
              tables = was.tables;
              last = last_is;
              listed = was.listed ∙ sym (take-append-le most_alarms before.untold (alarm ∷ []) all_full);
              not_kept = ap (λ n. count_in_u64 (n + 1)) was.not_kept
                  ∙ one_more (length before.untold) (length (before.untold ++ alarm ∷ [])) all_full
                  (length-append before.untold (alarm ∷ []));
            }))
            (cases_lt (length mid.listed) most_alarms)
          where
            none_more : (n m : ℕ) → n < most_alarms → m ≡ n + 1 → count_in_u64 (n - most_alarms) ≡ count_in_u64
                (m - most_alarms)
            none_more n m less is = omega (arith, less, is)

            one_more : (n m : ℕ) → most_alarms ≤ n → m ≡ n + 1
                → count_in_u64 (count_in_u64 (n - most_alarms) + 1) ≡ count_in_u64 (m - most_alarms)
            one_more n m full is = omega (arith, full, is)

-- parts ended
pub ended : (watch new : WatchContents) (ok : IsWatch watch) (books : AlertBooks) (parts : ℕ)
    → HasAlertBooks watch books → 1 ≤ parts
    → new ≡ record watch { tables = new.tables } → length new.tables ≡ length watch.tables
    → Turns watch.tables new.tables (min parts watch.spec.parts)
    → HasAlertBooks new (with_notice watch.spec books (PartsEnded parts))
ended watch new ok books parts has some same len turns = rw same (record {
  tables = subst (λ m. CountParts new.tables (m ++ (books.current ∷ books.closed))) (one_first [] parts some)
      (by_window (cases_lt parts watch.spec.parts));
  last = has.last;
  listed = has.listed;
  not_kept = has.not_kept;
})
  where
    one_first : (nothing : List Arrival) (n : ℕ) → 1 ≤ n → replicate n nothing ≡ nothing ∷ replicate (n - 1) nothing
    one_first nothing zero some = absurd (omega (arith, some))
    one_first nothing (suc n) some = ap (λ m. nothing ∷ replicate m nothing) (omega arith)

    all_parts : List (List Arrival)
    all_parts = books.current ∷ books.closed

    turned : CountParts new.tables (replicate (min parts watch.spec.parts) [] ++ all_parts)
    turned = turns.counted all_parts has.tables

    by_window : (parts < watch.spec.parts) ⊎ (watch.spec.parts ≤ parts)
        → CountParts new.tables (replicate parts [] ++ all_parts)
    by_window (inl fewer) =
        subst (λ n. CountParts new.tables (replicate n [] ++ all_parts)) (omega (arith, fewer)) turned
    by_window (inr more) =
        all_turned new.tables all_parts parts (omega (arith, more, len, ok.parts))
        (subst (λ n. CountParts new.tables (replicate n [] ++ all_parts)) (omega (arith, more, len, ok.parts)) turned)

-- the table at the front of the watch's tables
pub open_is : (tables : List KeyCounts) (table : KeyCounts) → 0 < length tables → table ≡ get_or tables 0 table
    → table ≡ open_table tables
open_is tables table some is = is ∙ get_or_default tables 0 table no_table some

-- an arrival was counted, and its alarm isn't listed
pub rings_counted : (old : WatchContents) (table : KeyCounts) (at sum : ℕ) (key : MetricKey) (n : ℕ)
    → CountsOne (open_table old.tables) table key → most_alarms ≤ length old.listed
    → n ≡ count_in_u64 (old.not_kept + 1)
    → RingsWith old (record old { tables = set old.tables 0 table; last = Some at; not_kept = n }) at sum key
rings_counted old table at sum key n one full is = record {
  mid = record old { tables = set old.tables 0 table };
  counted = record { table = table; counted = one; new_is = refl };
  rung = ap (λ m. record old { tables = set old.tables 0 table; last = Some at; not_kept = m }) is
      ∙ sym (ap (λ b. if b
      then record old {
        tables = set old.tables 0 table;
        last = Some at;
        listed = old.listed ++ record { at = at; sum = sum; key = key } ∷ [];
      }
      else record old { tables = set old.tables 0 table; last = Some at; not_kept = count_in_u64 (old.not_kept + 1) })
      (le-ltb (length old.listed) most_alarms full));
}

-- what the calls make of a watch that has a table at least

-- an arrival that finds no room
pub takes_no_room : (watch : WatchContents) → IsWatch watch → (at : ℕ) (key : MetricKey)
    → finds_room key (open_table watch.tables) ≡ false → TakesNotice watch watch (KeyArrived at key)
takes_no_room watch ok at key none =
    takes_notice watch watch (KeyArrived at key) refl (λ books has. stays watch ok books has at key none)

-- one that is counted
pub takes_counted : (old : WatchContents) → IsWatch old → (table : KeyCounts) (at sum : ℕ) (key : MetricKey)
    → finds_room key (open_table old.tables) ≡ true → sum ≡ count_in_u64 (table_sum key old.tables + 1)
    → rings_by old.spec old.last at sum ≡ false → CountsOne (open_table old.tables) table key
    → TakesNotice old (record old { tables = set old.tables 0 table }) (KeyArrived at key)
takes_counted old ok table at sum key room is off one =
    let new : WatchContents = record old { tables = set old.tables 0 table } in
    takes_notice old new (KeyArrived at key) refl (λ books has.
    counts old ok books has at key room sum (is ∙ sum_is old ok books has at key room) new off
    (record { table = table; counted = one; new_is = refl }))

rung_spec : (mid : WatchContents) (alarm : Alarm) → (rung_with mid alarm).spec ≡ mid.spec
rung_spec mid alarm = by_case (nat_lt (length mid.listed) most_alarms)
  where
    by_case : (b : Bool) → (if b then record mid { last = Some alarm.at; listed = mid.listed ++ alarm ∷ [] }
        else record mid { last = Some alarm.at; not_kept = count_in_u64 (mid.not_kept + 1) }).spec ≡ mid.spec
    by_case true = refl
    by_case false = refl

-- and one that is an alarm
pub takes_alarm : (old new : WatchContents) → IsWatch old → (at sum : ℕ) (key : MetricKey)
    → finds_room key (open_table old.tables) ≡ true → sum ≡ count_in_u64 (table_sum key old.tables + 1)
    → rings_by old.spec old.last at sum ≡ true → RingsWith old new at sum key → TakesNotice old new (KeyArrived at key)
takes_alarm old new ok at sum key room is on one =
    let same : new.spec ≡ old.spec =
    ap (λ (w : WatchContents). w.spec) one.rung ∙ rung_spec one.mid (record { at = at; sum = sum; key = key })
    ∙ ap (λ (w : WatchContents). w.spec) one.counted.new_is in
    takes_notice old new (KeyArrived at key) same (λ books has.
    alarms old ok books has at key room sum (is ∙ sum_is old ok books has at key room) new on one)

-- a report took the alarms
pub takes_told : (old : WatchContents) (listed : List Alarm) (n : ℕ) → listed ≡ [] → n ≡ 0
    → TakesNotice old (record old { listed = listed; not_kept = n }) AlarmsTold
takes_told old listed n none zero_is =
    takes_notice old (record old { listed = listed; not_kept = n }) AlarmsTold refl (λ books has. record {
      tables = has.tables;
      last = has.last;
      listed = none ∙ sym (take_all most_alarms [] (omega arith));
      not_kept = zero_is ∙ omega arith;
    })

-- nothing was notice
pub new_has : (spec : AlertSpec) (tables : List KeyCounts) (listed : List Alarm) (bound : ℕ)
    → All (IsEmptyTable bound) tables → listed ≡ []
    → HasAlertBooks (record { spec = spec; tables = tables; last = None; listed = listed; not_kept = 0 })
    no_alert_books
new_has spec tables listed bound empty none = record {
  tables = new_counted bound tables empty;
  last = refl;
  listed = none ∙ sym (take_all most_alarms [] (omega arith));
  not_kept = omega arith;
}

-- one more, up to the end of the type
pub one_more_is : (sum n more : ℕ) → sum ≡ n → more ≡ min (sum + 1) (2 ^ 64 - 1) → more ≡ count_in_u64 (n + 1)
one_more_is sum n more same is = omega (arith, same, is)

-- a list that was written whole
pub whole : {X : Type 0} (items old : List X) (len : ℕ) → length items ≡ length old → len ≡ length old
    → take len (items ++ drop (length items) old) ≡ items
whole items old len same is =
    ap (λ l. take len (items ++ l)) (drop_all (length items) old (omega (arith, same)))
    ∙ ap (take len) (append-nil items) ∙ take_all len items (omega (arith, same, is))

-- as many parts in which nothing arrived
as_many : (nothing : List Arrival) (parts : List (List Arrival)) (n m : ℕ) → n ≡ m
    → replicate n nothing ++ parts ≡ replicate m nothing ++ parts
as_many nothing parts n m same = ap (λ i. replicate i nothing ++ parts) same

-- some, one, and some more
one_between : (nothing : List Arrival) (parts : List (List Arrival)) (n m : ℕ)
    → replicate n nothing ++ (nothing ∷ (replicate m nothing ++ parts)) ≡ replicate (n + suc m) nothing ++ parts
one_between nothing parts zero m = as_many nothing parts (suc m) (zero + suc m) (omega arith)
one_between nothing parts (suc n) m =
    ap (λ rest. nothing ∷ rest) (one_between nothing parts n m)
    ∙ as_many nothing parts (suc (n + suc m)) (suc n + suc m) (omega arith)

-- For callers: parts that end one after the other, with nothing between, end as well at once.
pub ended_joined : (spec : AlertSpec) (books : AlertBooks) (m n : ℕ) → 1 ≤ m → 1 ≤ n
    → with_notice spec (with_notice spec books (PartsEnded m)) (PartsEnded n)
    ≡ with_notice spec books (PartsEnded (m + n))
ended_joined spec books m n some others =
    ap (λ (parts : List (List Arrival)). record books { current = []; closed = parts })
    (one_between [] (books.current ∷ books.closed) (n - 1) (m - 1)
    ∙ as_many [] (books.current ∷ books.closed) ((n - 1) + suc (m - 1)) ((m + n) - 1) (omega (arith, some, others)))

-- For callers: parts that end singly end as well at once.
pub ended_singly : (spec : AlertSpec) (books : AlertBooks) (n : ℕ) → 1 ≤ n
    → alert_books_from spec books (replicate n (PartsEnded 1)) ≡ with_notice spec books (PartsEnded n)
ended_singly spec books zero some = absurd (omega (arith, some))
ended_singly spec books (suc zero) some = refl
ended_singly spec books (suc (suc n)) some =
    ended_singly spec (with_notice spec books (PartsEnded 1)) (suc n) (omega arith)
    ∙ ended_joined spec books 1 (suc n) (omega arith) (omega arith)
    ∙ ap (λ m. with_notice spec books (PartsEnded m)) (one_and n)
  where
    one_and : (m : ℕ) → 1 + suc m ≡ suc (suc m)
    one_and m = omega arith

-- so many parts of a watch ended at once, as they would have singly
singly_books : (spec : AlertSpec) (notices : List Notice) (n : ℕ) → 1 ≤ n
    → alert_books spec (notices ++ PartsEnded n ∷ []) ≡ alert_books spec (notices ++ replicate n (PartsEnded 1))
singly_books spec notices n some =
    alert_books_push spec no_alert_books notices (PartsEnded n)
    ∙ sym (ended_singly spec (alert_books spec notices) n some)
    ∙ sym (alert_books_append spec no_alert_books notices (replicate n (PartsEnded 1)))

-- For callers: a watch that took the end of so many parts stands for as many ends of one part.
pub stands_singly : (old new : WatchContents) (notices : List Notice) (n : ℕ) → 1 ≤ n → new.spec ≡ old.spec
    → TakesNotice old new (PartsEnded n) → WatchStandsFor old notices
    → WatchStandsFor new (notices ++ replicate n (PartsEnded 1))
stands_singly old new notices n some same takes stands =
    subst (HasAlertBooks new) (singly_books new.spec notices n some) (takes notices stands)

-- For callers: the alarms that a watch lists and counts are those that the next report tells.
pub tells_untold : (watch : WatchContents)
    → TellsAlarms watch (record { listed = watch.listed; not_kept = watch.not_kept })
tells_untold watch notices stands =
    ap (λ (alarms : List Alarm). record { listed = alarms; not_kept = watch.not_kept }) stands.listed
    ∙ ap (λ (n : ℕ). record {
      listed = take most_alarms (alert_books watch.spec notices).untold;
      not_kept = n;
    }) stands.not_kept
