-- What the activations of a metric can't be, and their linked form.
use Rattle.std.specs.Prelude.{ℤ, pos, ◌*◌, ◌==◌, ◌≤◌, Bool, not, ◌&&◌, ◌||◌, List, [], ◌∷◌, length, map, Option, is_none}
use Rattle.std.specs.Option.{option_map, unwrap_or}
use Rattle.std.specs.List.{All, list_any}
use Rattle.config_types.specs.declared.metric.ActivationDef.{ActivationDef}
use Rattle.config_types.specs.declared.metric.Common.{Common}
use Rattle.config_types.specs.Buckets.{second_nanos}
use Rattle.field_select.specs.WellFormed.{number_or_zero}
use Rattle.link_rules.specs.declared.entities.Kind.{Kind}
use Rattle.link_rules.specs.declared.entities.Kind.TheVariants.{Duration}
use Rattle.link_rules.specs.declared.fault.LinkFault.{LinkFault}
use Rattle.link_rules.specs.EntityIds.{place_in}
use Rattle.link_rules.specs.EntityLimits.{most_lifetime}
use Rattle.config_links.specs.declared.linked.LActivation.{LActivation}
use Rattle.config_links.specs.declared.reasons.Reason.{Reason}
use Rattle.config_links.specs.declared.reasons.Reason.TheVariants.{BadActivation, PulledActivation}
use Rattle.config_links.specs.LinkReasons.{least_reason}

-- an activation doesn't say what begins it, or how long it lasts
abbrev pub is_half : ActivationDef → Bool
is_half def = is_none def.start || is_none def.ttl

-- what the activations of a metric, which acts on what was pulled or not, can't be
abbrev pub activation_reasons : Bool → List ActivationDef → List (Reason × Bool)
activation_reasons pulled defs =
    (BadActivation, list_any is_half defs) ∷ (PulledActivation, pulled && not (length defs == 0)) ∷ []

-- the fault of the activations of a metric
unfoldable pub bad_activations : Common → Bool → Option LinkFault
bad_activations common pulled = least_reason common.id (activation_reasons pulled common.activations)

-- an activation, where matchers have these ids
abbrev pub linked_activation : List ℤ → ActivationDef → LActivation
linked_activation known def = record {
  start = place_in known (unwrap_or def.start (pos 0));
  ttl = number_or_zero def.ttl * second_nanos;
  cancel = option_map (place_in known) def.cancel;
}

-- the activations of a kind of metric, where matchers have these ids; a duration has none
unfoldable pub linked_activations : List ℤ → Kind → List ActivationDef → List LActivation
linked_activations known (Duration max_sparse) defs = []
linked_activations known _ defs = map (linked_activation known) defs

-- an activation lasts no longer than one may
abbrev pub IsBrief : ActivationDef → Type 0
IsBrief def = number_or_zero def.ttl ≤ most_lifetime

-- it is so of each
abbrev pub AreBrief : List ActivationDef → Type 0
AreBrief defs = All IsBrief defs
