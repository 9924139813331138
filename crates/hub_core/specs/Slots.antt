-- Slots under names, and counts of them. Nothing here names what holds them.
use Rattle.std.specs.Prelude.{◌≡◌, ℕ, ◌+◌, ◌-◌, ◌<◌, ◌==◌, ℤ, Bool, true, false, not, ◌&&◌, List, Option, Some, None, is_some, unwrap_or, count_by, slice_get, if◌then◌else◌}
use Rattle.std.specs.Option.{MatchOption}
use Rattle.std.specs.Map.{lookup, set_value, values_of}
use Rattle.indexmap.specs.IndexMap.{set_value_at}
use Rattle.std.specs.Ordering.{int_eq}
use Rattle.bucket_meaning.specs.Ends.{Moment}
use Rattle.report_writer.specs.declared.tree.ReportTree.{ReportTree}
use Rattle.report_writer.specs.ReportSpelling.{report_message}
use Rattle.client_engine.specs.Handed.{BookOfStates}
use Rattle.client_engine.specs.declared.request.ReportRequest.{ReportRequest}
use Rattle.client_engine.specs.declared.live_id.LiveId.{LiveId}
use Rattle.client_engine.specs.contracts.live_id.LiveIdPartialEq.TheImpl as block
use Rattle.hub_core.specs.declared.live_instance.LiveInstance.{LiveInstance}
use Rattle.hub_core.specs.Sleeping.{ReportsAwake}

-- a client's configuration of an id
abbrev pub live_id : ℤ → ℤ → LiveId
live_id uid id = record { uid = uid; id = id }

-- a report of it at the clock, with or without a cut
abbrev pub request_of : ℤ → ℤ → Bool → ℕ → ReportRequest
request_of uid id include_current clock = record {
  name = live_id uid id;
  include_current = include_current;
  at = clock;
}

-- the last report of it, which is asked for before a command ends it: with a cut
abbrev pub last_asked : LiveId → ℕ → ReportRequest
last_asked name clock = record { name = name; include_current = true; at = clock }

-- two are of one client and one id
abbrev pub same_id : LiveId → LiveId → Bool
same_id = block.ghosts.eq

-- what is held at a client's id
abbrev pub slot_at : LiveId → List (LiveId × LiveInstance) → Option LiveInstance
slot_at name slots = lookup (same_id name) slots

-- A name stands at this place: what is held there is held at the name, and what is written there is written under it.
pub record IsAtPlace (name : LiveId) (place : ℕ) (slots : List (LiveId × LiveInstance)) : Type 0 where
  pub there : slot_at name slots ≡ slice_get (values_of slots) place
  pub written : (live : LiveInstance) → set_value_at slots place live ≡ set_value (same_id name) slots live

-- what is held at a name is this now, and at each other one what was held there
abbrev pub SetsSlot : LiveId → Option LiveInstance → List (LiveId × LiveInstance) → List (LiveId × LiveInstance)
    → Type 0
SetsSlot name slot olds news =
    (other : LiveId) → slot_at other news ≡ (if same_id name other then slot else slot_at other olds)

-- the number that is listed for a client, if one is
abbrev pub listed_at : ℤ → List (ℤ × ℕ) → Option ℕ
listed_at uid counts = lookup (int_eq uid) counts

-- a number as it is listed: 0 isn't
abbrev pub listed : ℕ → Option ℕ
listed count = if count == 0 then None else Some count

-- how many a client has
abbrev pub count_at : ℤ → List (ℤ × ℕ) → ℕ
count_at uid counts = unwrap_or (listed_at uid counts) 0

-- how many of other ids a client has, where one of an id is there or not
abbrev pub others_at : ℤ → Bool → List (ℤ × ℕ) → ℕ
others_at uid there counts = count_at uid counts - (if there then 1 else 0)

-- a name has no slot, and its client has less than ten
abbrev pub HasRoomFor : LiveId → List (LiveId × LiveInstance) → List (ℤ × ℕ) → Type 0
HasRoomFor name slots counts = (slot_at name slots ≡ None) × (others_at name.uid false counts < 10)

-- how many slots a client has
abbrev pub held_by : ℤ → List (LiveId × LiveInstance) → ℕ
held_by uid slots = count_by (λ (row : LiveId × LiveInstance). int_eq row.0.uid uid) slots

-- how many of other ids the client of a name has
abbrev pub others_in : LiveId → List (LiveId × LiveInstance) → List (ℤ × ℕ) → ℕ
others_in name slots counts = others_at name.uid (is_some (slot_at name slots)) counts

-- a client is listed with this number now, and each other one as it was
abbrev pub ListsCount : ℤ → ℕ → List (ℤ × ℕ) → List (ℤ × ℕ) → Type 0
ListsCount uid count olds news =
    (client : ℤ) → listed_at client news ≡ (if int_eq uid client then listed count else listed_at client olds)

-- the client of a name is listed with one more than it has of other ids, and each other one as it was
abbrev pub ListsName : LiveId → List (LiveId × LiveInstance) → List (ℤ × ℕ) → List (ℤ × ℕ) → Type 0
ListsName name slots olds news = ListsCount name.uid (others_in name slots olds + 1) olds news

-- the client of a name has one more than it had of other ids, and each other one as many as it had
abbrev pub CountsName : LiveId → List (LiveId × LiveInstance) → List (ℤ × ℕ) → List (ℤ × ℕ) → Type 0
CountsName name slots olds news =
    (client : ℤ) → count_at client news
    ≡ (if int_eq name.uid client then others_in name slots olds + 1 else count_at client olds)

-- each client has as many slots as before, and that of a name one more where the name had none
abbrev pub HoldsMore : LiveId → List (LiveId × LiveInstance) → List (LiveId × LiveInstance) → Type 0
HoldsMore name olds news =
    (uid : ℤ) → held_by uid news
    ≡ held_by uid olds + (if int_eq name.uid uid && not (is_some (slot_at name olds)) then 1 else 0)

-- each client has as many slots as before, and that of a name one less where the name had one
abbrev pub HoldsLess : LiveId → List (LiveId × LiveInstance) → List (LiveId × LiveInstance) → Type 0
HoldsLess name olds news =
    (uid : ℤ) → held_by uid news + (if int_eq name.uid uid && is_some (slot_at name olds) then 1 else 0)
    ≡ held_by uid olds

-- A report of what stands under a name, which is caught up by the last frame, as the bytes of its message.
pub record ShowsAt (moment : Moment) (request : ReportRequest) (book : BookOfStates) (live : LiveInstance)
    (old new : List (LiveId × LiveInstance)) (report : Option (List ℕ)) : Type 0 where
  pub next : LiveInstance
  pub tree : ReportTree
  pub steps : ReportsAwake moment live.carried.instance request book next.carried.instance tree
  pub config : next.carried.config ≡ live.carried.config
  pub slots : SetsSlot request.name (Some next) old new
  pub told : report ≡ Some (report_message tree)

-- a report of what stands under a name, if something does
abbrev pub ReportsAt : Moment → ReportRequest → BookOfStates → List (LiveId × LiveInstance)
    → List (LiveId × LiveInstance) → Option (List ℕ) → Type 0
ReportsAt moment request book old new report =
    MatchOption (slot_at request.name old) ((new ≡ old) × (report ≡ None))
    (λ live. ShowsAt moment request book live old new report)
