-- Where no number is past its limit there are few entities.
use Rattle.std.proofs.Common.{◌≡◌, ℕ, ◌≤◌, nat_lt, Bool, true, false, Some, None, if◌then◌else◌, refl}
use Rattle.std.proofs.lemmas.Bool.{ltb-false}
use Rattle.link_rules.specs.declared.entities.Entities.{Entities}
use Rattle.link_rules.specs.declared.fault.LinkFault.{LinkFault}
use Rattle.link_rules.specs.declared.limits.Limit.{Limit}
use Rattle.link_rules.specs.declared.limits.Limit.TheVariants.{Matchers, Predicates, States, Metrics, Alerts}
use Rattle.link_rules.specs.EntityLimits.{limit_fault, limits, most_of, count_limit, AreFew}
use Rattle.link_rules.proofs.LinkFaultLemmas.{none_of}

-- a count that isn't past its limit
within : (most count : ℕ) (past : Bool) (found : LinkFault) → nat_lt most count ≡ past
    → (if past then Some found else None) ≡ None → count ≤ most
within most count false found is h = ltb-false most count is
within most count true found is h = absurd (cc)

pub count_fits : (limit : Limit) (count : ℕ) → count_limit limit count ≡ None → count ≤ most_of limit
count_fits limit count h = within (most_of limit) count (nat_lt (most_of limit) count) _ refl h

-- where no number is past its limit there are few entities
pub few : (entities : Entities) → limit_fault entities ≡ None → AreFew entities
unfolding limit_fault
few entities h = let parts = none_of (limits entities) h in record {
  matchers = count_fits Matchers _ parts.0;
  predicates = count_fits Predicates _ parts.1.0;
  states = count_fits States _ parts.1.1.0;
  metrics = count_fits Metrics _ parts.1.1.1.0;
  alerts = count_fits Alerts _ parts.1.1.1.1.1.1.0;
}
