-- What a matcher, a predicate or a state can't be: each reason with its test.
use Rattle.std.specs.Prelude.{ℕ, ℤ, pos, ◌==◌, Bool, true, false, not, List, [], ◌∷◌, length, Option, Some, None, Result, is_none}
use Rattle.std.specs.Option.{option_map, unwrap_or}
use Rattle.std.specs.List.{list_all}
use Rattle.config_types.specs.declared.fields.FieldMatcher.{FieldMatcher}
use Rattle.config_types.specs.declared.matcher.MatcherDef.{MatcherDef}
use Rattle.config_types.specs.declared.matcher.MatcherBody.{MatcherBody}
use Rattle.config_types.specs.declared.matcher.MatcherBody.TheVariants as matcher
use Rattle.config_types.specs.declared.matcher.Operation.{Operation}
use Rattle.config_types.specs.declared.matcher.Operation.TheVariants.{Not}
use Rattle.config_types.specs.declared.predicate.PredicateDef.{PredicateDef}
use Rattle.config_types.specs.declared.predicate.PredicateBody.{PredicateBody}
use Rattle.config_types.specs.declared.predicate.PredicateBody.TheVariants as predicate
use Rattle.config_types.specs.declared.state.StateDef.{StateDef}
use Rattle.config_types.specs.Askable.{greatest_atom_id, is_set_up_to, is_askable_test}
use Rattle.field_select.specs.declared.leaf.FieldSet.{FieldSet}
use Rattle.field_select.specs.declared.leaf.LeafPath.{LeafPath}
use Rattle.field_select.specs.WellFormed.{is_well_formed, set_of}
use Rattle.link_rules.specs.declared.fault.LinkFault.{LinkFault}
use Rattle.link_rules.specs.declared.fault.LinkError.{LinkError}
use Rattle.link_rules.specs.LinkFaults.{fault, first_reason, PassesTest}
use Rattle.config_links.specs.declared.reasons.Reason.{Reason}
use Rattle.config_links.specs.declared.reasons.Reason.TheVariants.{NoBody, BadCombination, NoAtom, BadTest, BadFields, UnevenLink, LinkNotAsked, LinkOutside, NoWhat, NotTimed, TimedOutside, BadStateLink, BadSlices, NoValue, BadDiff, PulledLinks, NoFilter, BadSampling, UnknownHidden, BadActivation, PulledActivation, BadAlert, NotCounted}

-- an entity isn't what it should be; the value is its id
abbrev pub bad_type : ℕ
bad_type = 9

-- the number by which a refusal names a reason; of several the least is named
abbrev pub reason_number : Reason → ℕ
reason_number NoBody = 1
reason_number BadCombination = 2
reason_number NoAtom = 3
reason_number BadTest = 4
reason_number BadFields = 5
reason_number UnevenLink = 6
reason_number LinkNotAsked = 7
reason_number LinkOutside = 8
reason_number NoWhat = 9
reason_number NotTimed = 10
reason_number TimedOutside = 11
reason_number BadStateLink = 12
reason_number BadSlices = 13
reason_number NoValue = 14
reason_number BadDiff = 15
reason_number PulledLinks = 16
reason_number NoFilter = 17
reason_number BadSampling = 18
reason_number UnknownHidden = 19
reason_number BadActivation = 20
reason_number PulledActivation = 21
reason_number BadAlert = 22
reason_number NotCounted = 23

-- the fault of an entity of this id for a reason
abbrev pub type_fault : Option ℤ → Reason → LinkFault
type_fault id reason = fault bad_type (reason_number reason) (unwrap_or id (pos 0))

-- the call answers these sets where the trees of the entity of this id may stand, and else names its bad fields
abbrev pub HasSets : {T : Type 0} → Result T LinkError → Option ℤ → Bool → T → Type 0
HasSets result id stand sets = PassesTest result stand (type_fault id BadFields) sets

-- the call answers what is wanted where the leaves of the entity of this id are among those, and else names its link
abbrev pub StaysInside : {T : Type 0} → Result T LinkError → Option ℤ → Bool → T → Type 0
StaysInside result id inside wanted = PassesTest result inside (type_fault id LinkOutside) wanted

-- the fault of an entity of this id, for the first reason whose test holds; they stand by their numbers
abbrev pub least_reason : Option ℤ → List (Reason × Bool) → Option LinkFault
least_reason id reasons = option_map (type_fault id) (first_reason reasons)

-- an operation has a child, and NOT has one
abbrev pub takes_children : Operation → ℕ → Bool
takes_children Not count = count == 1
takes_children _ count = not (count == 0)

-- a combination has an operation, which takes so many children
abbrev pub is_combo : Option Operation → ℕ → Bool
is_combo (Some op) count = takes_children op count
is_combo None count = false

-- a number is the id of an atom
abbrev pub names_atom : Option ℤ → Bool
names_atom id = is_set_up_to greatest_atom_id id

-- a tree that is absent has no leaves
abbrev pub set_or_none : Option FieldMatcher → FieldSet
set_or_none (Some tree) = set_of tree
set_or_none None = record { atom_id = 0; leaves = [] }

-- what stands for a leaf where there is none
abbrev pub no_leaf : LeafPath
no_leaf = record { field = 0; position = None; sub = 0 }

-- a tree that is absent isn't ill-formed
abbrev pub may_stand : Option FieldMatcher → Bool
may_stand (Some tree) = is_well_formed tree
may_stand None = true

-- a matcher's combination isn't one
abbrev pub has_bad_combo : Option MatcherBody → Bool
has_bad_combo (Some (matcher.Combo combo)) = not (is_combo combo.op (length combo.children))
has_bad_combo _ = false

-- a simple matcher names no atom
abbrev pub has_bad_atom : Option MatcherBody → Bool
has_bad_atom (Some (matcher.Simple simple)) = not (names_atom simple.atom_id)
has_bad_atom _ = false

-- a simple matcher has a test that can't be asked
abbrev pub has_bad_test : Option MatcherBody → Bool
has_bad_test (Some (matcher.Simple simple)) = not (list_all is_askable_test simple.tests)
has_bad_test _ = false

-- the reasons of a matcher
abbrev pub matcher_reasons : Option MatcherBody → List (Reason × Bool)
matcher_reasons body =
    (NoBody, is_none body)
    ∷ (BadCombination, has_bad_combo body)
    ∷ (NoAtom, has_bad_atom body)
    ∷ (BadTest, has_bad_test body)
    ∷ []

-- a matcher
abbrev pub bad_matcher : MatcherDef → Option LinkFault
bad_matcher def = least_reason def.id (matcher_reasons def.body)

-- a predicate's combination isn't one
abbrev pub has_bad_children : Option PredicateBody → Bool
has_bad_children (Some (predicate.Combo combo)) = not (is_combo combo.op (length combo.children))
has_bad_children _ = false

-- a simple predicate has ill-formed dimensions
abbrev pub has_bad_dims : Option PredicateBody → Bool
has_bad_dims (Some (predicate.Simple simple)) = not (may_stand simple.dims)
has_bad_dims _ = false

-- the reasons of a predicate
abbrev pub predicate_reasons : Option PredicateBody → List (Reason × Bool)
predicate_reasons body =
    (NoBody, is_none body) ∷ (BadCombination, has_bad_children body) ∷ (BadFields, has_bad_dims body) ∷ []

-- a predicate
abbrev pub bad_predicate : PredicateDef → Option LinkFault
bad_predicate def = least_reason def.id (predicate_reasons def.body)

-- the reasons of a state
abbrev pub state_reasons : StateDef → List (Reason × Bool)
state_reasons def = (NoAtom, not (names_atom def.atom_id)) ∷ []

-- a state
abbrev pub bad_state : StateDef → Option LinkFault
bad_state def = least_reason def.id (state_reasons def)
