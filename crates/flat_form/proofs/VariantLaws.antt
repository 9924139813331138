-- For builds of values of several kinds: such a value is saved as the number of its kind, and after it what it holds.
use Rattle.std.proofs.Common.{◌≡◌, ℕ, ◌+◌, List, ◌∷◌, length, Err, sym, ap, subst, ◌∙◌, arith}
use Rattle.flat_form.specs.declared.item.Item.{Item}
use Rattle.flat_form.specs.declared.item.Item.TheVariants.{Num}
use Rattle.flat_form.specs.declared.flat_error.FlatError.{FlatError}
use Rattle.flat_form.specs.declared.flat_error.FlatError.TheVariants.{Bad, Memory}
use Rattle.flat_form.specs.Flat.{Anything, StandsAt, IsBuilt, Builds, number_items}
use Rattle.flat_form.proofs.FlatLaws as laws

module _ {Y : Type 0} (whole_valid : Y → Type 0) (kind : Y → ℕ) (rest : Y → List Item) (items : List Item) (place : ℕ)
  where
    -- the number of its kind, and what it holds
    abbrev whole : Y → List Item
    whole y = Num (kind y) ∷ rest y

    -- where a value stands, the number of its kind does
    kind_here : (y : Y) → StandsAt items place (whole y) → StandsAt items place (number_items (kind y))
    kind_here y there = laws.StandsAt-front items place (number_items (kind y)) (rest y) there

    -- no number stands there, so no value does
    pub kind_fails : (e : FlatError)
        → Builds Anything number_items items place (Err e)
        → Builds whole_valid whole items place (Err e)
    kind_fails Bad never = λ y is there. never (kind y) tt (kind_here y there)
    kind_fails Memory none = tt

    module _ (number middle : ℕ) (one : IsBuilt Anything number_items items place number middle) where
      -- a value that stands there is of the kind that the number names
      same_kind : (y : Y) → StandsAt items place (whole y) → kind y ≡ number
      same_kind y there = one.only (kind y) tt (kind_here y there)

      -- the number names no kind, so no value stands there
      pub other_kind : ((y : Y) → whole_valid y → ¬ (kind y ≡ number)) → Builds whole_valid whole items place (Err Bad)
      other_kind never = λ y is there. never y is (same_kind y there)

      -- the kind that the number names: its values are `wrap` of what they hold
      module _ {X : Type 0} (valid : X → Type 0) (flat : X → List Item) (wrap : X → Y)
          (as_kind : (x : X) → kind (wrap x) ≡ number) (as_rest : (x : X) → rest (wrap x) ≡ flat x)
          (is_whole : (x : X) → valid x → whole_valid (wrap x))
          (of_kind : (y : Y) → whole_valid y → kind y ≡ number → (x : X) × (valid x × (y ≡ wrap x))) where
        -- a value that stands there is of this kind, and what it holds stands after the number
        holds_there : (y : Y)
            → whole_valid y
            → StandsAt items place (whole y)
            → (x : X) × (valid x × ((y ≡ wrap x) × StandsAt items middle (flat x)))
        holds_there y is there =
            let w = of_kind y is (same_kind y there) in
            let back = laws.StandsAt-back items place (number_items (kind y)) (rest y) there in
            let held : rest y ≡ flat w.0 = ap rest w.1.1 ∙ as_rest w.0 in
            let begins : place + 1 ≡ middle = sym one.ends in (
              w.0,
              (
                w.1.0,
                (w.1.1, subst (λ p. StandsAt items p (flat w.0)) begins (subst (StandsAt items (place + 1)) held back)),
              ),
            )

        -- a value of this kind, built from what stands after the number
        pub variant_built : (x : X) (next : ℕ)
            → IsBuilt valid flat items middle x next
            → IsBuilt whole_valid whole items place (wrap x) next
        variant_built x next b =
            let same : Num number ∷ flat x ≡ whole (wrap x) = λ i. Num (sym (as_kind x) i) ∷ sym (as_rest x) i in
            let size : length (rest (wrap x)) ≡ length (flat x) = ap length (as_rest x) in
            let begins = one.ends in
            let ends = b.ends in
            record {
              is_valid = is_whole x b.is_valid;
              stands = subst (StandsAt items place) same (laws.StandsAt-join items place (number_items number) (flat x)
                  one.stands (subst (λ p. StandsAt items p (flat x)) one.ends b.stands));
              ends = omega (arith, begins, ends, size);
              only = λ other valid_other there.
                  let w = holds_there other valid_other there in
                  w.1.1.0 ∙ ap wrap (b.only w.0 w.1.0 w.1.1.1);
            }

        -- nothing that this kind holds stands after the number, so no value stands there
        pub variant_fails : (e : FlatError)
            → Builds valid flat items middle (Err e)
            → Builds whole_valid whole items place (Err e)
        variant_fails Bad never = λ y is there. let w = holds_there y is there in never w.0 w.1.0 w.1.1.1
        variant_fails Memory none = tt
