-- Why a configuration is refused: the numbers of faults, the first of several, and a call that names it.
use Rattle.std.specs.Prelude.{◌≡◌, ℕ, ℤ, Bool, true, false, List, [], ◌∷◌, Option, Some, None, Result, Ok, Err}
use Rattle.std.specs.Option.{option_or}
use Rattle.link_rules.specs.declared.fault.LinkFault.{LinkFault}
use Rattle.link_rules.specs.declared.fault.LinkError.{LinkError}
use Rattle.link_rules.specs.declared.fault.LinkError.TheVariants.{Fault, Memory}

-- a fault of this number, with its reason, and the id or the number that is at fault
abbrev pub fault : ℕ → ℕ → ℤ → LinkFault
fault number reason value = record { number = number; reason = reason; value = value }

-- a number is past its limit; the reason says which
abbrev pub past_limit : ℕ
past_limit = 1

-- an entity has no id; the reason is its kind, the value its place in its kind
abbrev pub no_id : ℕ
no_id = 2

-- an id stood earlier in its kind, which is the reason
abbrev pub duplicate_id : ℕ
duplicate_id = 3

-- an id leads to no matcher; the reason is the kind of the entity that names it
abbrev pub unknown_matcher : ℕ
unknown_matcher = 4

-- an id leads to no predicate; the reason is the kind of the entity that names it
abbrev pub unknown_predicate : ℕ
unknown_predicate = 5

-- an id leads to no state; the reason is the kind of the entity that names it
abbrev pub unknown_state : ℕ
unknown_state = 6

-- an alert's id of a metric leads to none; the reason is the kind of alerts
abbrev pub unknown_metric : ℕ
unknown_metric = 10

-- the kind of matchers, which are judged first
abbrev pub matcher_kind : ℕ
matcher_kind = 1

-- the kind of predicates, which are judged after matchers
abbrev pub predicate_kind : ℕ
predicate_kind = 2

-- the kind of states, which are judged after predicates
abbrev pub state_kind : ℕ
state_kind = 3

-- the kind of metrics, which are judged after states
abbrev pub metric_kind : ℕ
metric_kind = 4

-- the kind of alerts, which are judged last
abbrev pub alert_kind : ℕ
alert_kind = 5

-- the first that is there
abbrev pub first_of : {A : Type 0} → List (Option A) → Option A
first_of [] = None
first_of (Some x ∷ others) = Some x
first_of (None ∷ others) = first_of others

-- what the first gives that gives anything
abbrev pub first_in : {A B : Type 0} → (A → Option B) → List A → Option B
first_in gives [] = None
first_in gives (x ∷ xs) = option_or (gives x) (first_in gives xs)

-- the first reason whose test holds
abbrev pub first_reason : {R : Type 0} → List (R × Bool) → Option R
first_reason [] = None
first_reason ((reason, true) ∷ others) = Some reason
first_reason ((reason, false) ∷ others) = first_reason others

-- the call names the fault that there is; or there is none, and it answers what is wanted; or memory is wanting
abbrev pub Links : {T : Type 0} → Result T LinkError → Option LinkFault → T → Type 0
Links (Ok given) judged wanted = (judged ≡ None) × (given ≡ wanted)
Links (Err (Fault found)) judged wanted = judged ≡ Some found
Links (Err Memory) judged wanted = Unit {0}

-- the call answers what is wanted where the test holds, and else names this fault; or memory is wanting
abbrev pub PassesTest : {T : Type 0} → Result T LinkError → Bool → LinkFault → T → Type 0
PassesTest (Ok given) good named wanted = (good ≡ true) × (given ≡ wanted)
PassesTest (Err (Fault found)) good named wanted = (good ≡ false) × (found ≡ named)
PassesTest (Err Memory) good named wanted = Unit {0}
