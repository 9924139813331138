-- Lemmas on the first fault: where there is none, none of the parts has one.
use Rattle.std.proofs.Common.{◌≡◌, Bool, true, false, List, [], ◌∷◌, Option, Some, None, Err, refl}
use Rattle.std.specs.Option.{option_or}
use Rattle.std.specs.List.{AllByRecursion}
use Rattle.link_rules.specs.declared.fault.LinkFault.{LinkFault}
use Rattle.link_rules.specs.declared.fault.LinkError.{LinkError}
use Rattle.link_rules.specs.declared.fault.LinkError.TheVariants.{Fault, Memory}
use Rattle.link_rules.specs.LinkFaults.{Links, first_of, first_in, first_reason}

-- of two of which the first goes before
neither : {A : Type 0} (one other : Option A) → option_or one other ≡ None → (one ≡ None) × (other ≡ None)
neither None other h = (refl, h)
neither (Some x) other h = absurd (cc)

module _ {A B : Type 0} (gives : A → Option B) where
  -- where none gives anything, each gives nothing
  pub none_in : (xs : List A) → first_in gives xs ≡ None → AllByRecursion (λ x. gives x ≡ None) xs
  none_in [] h = tt
  none_in (x ∷ xs) h = let both = neither (gives x) (first_in gives xs) h in (both.0, none_in xs both.1)

-- each part of a table has none
pub none_of : {A : Type 0} (parts : List (Option A)) → first_of parts ≡ None
    → AllByRecursion (λ part. part ≡ None) parts
none_of [] h = tt
none_of (None ∷ parts) h = (refl, none_of parts h)
none_of (Some x ∷ parts) h = absurd (cc)

-- no test of a table of reasons holds
pub no_reason : {R : Type 0} (rows : List (R × Bool)) → first_reason rows ≡ None
    → AllByRecursion (λ row. row.1 ≡ false) rows
no_reason [] h = tt
no_reason ((reason, false) ∷ rows) h = (refl, no_reason rows h)
no_reason ((reason, true) ∷ rows) h = absurd (cc)

-- a call names the fault of all, where what was judged before it has none
pub breaks_second : {T : Type 0} (early second : Option LinkFault) (error : LinkError) (wanted : T)
    → early ≡ None → Links {T = Unit {0}} (Err error) second tt
    → Links (Err error) (first_of (early ∷ second ∷ [])) wanted
breaks_second early second (Fault found) wanted none is = rw (none, is) refl
breaks_second early second Memory wanted none is = tt

-- and so where four were judged before it
pub breaks_fifth : {S T : Type 0} (first second third fourth last : Option LinkFault) (error : LinkError) (given : S)
    (wanted : T) → first ≡ None → second ≡ None → third ≡ None → fourth ≡ None → Links (Err error) last given
    → Links (Err error) (first_of (first ∷ second ∷ third ∷ fourth ∷ last ∷ [])) wanted
breaks_fifth first second third fourth last (Fault found) given wanted a b c d is = rw (a, b, c, d, is) refl
breaks_fifth first second third fourth last Memory given wanted a b c d is = tt
