-- A value that is saved as its form: it is built from the form, where the form is one of a value.
use Rattle.std.proofs.Common.{◌≡◌, ℕ, List, Option, Some, None, Err, sym, ap, subst, ◌∙◌}
use Rattle.std.proofs.lemmas.Option.{none-some, same_Some}
use Rattle.flat_form.specs.declared.item.Item.{Item}
use Rattle.flat_form.specs.declared.flat_error.FlatError.TheVariants.{Bad}
use Rattle.flat_form.specs.Flat.{StandsAt, IsBuilt, Builds}
use Rattle.flat_form.proofs.FlatLaws as laws

module _ {X Y : Type 0} (inner_valid : X → Type 0) (inner : X → List Item) (outer_valid : Y → Type 0)
    (outer : Y → List Item) (form : Y → X) (back : X → Option Y)
    (as_form : (y : Y) → outer y ≡ inner (form y))
    (form_valid : (y : Y) → outer_valid y → inner_valid (form y))
    (valid_back : (y : Y) → inner_valid (form y) → outer_valid y)
    (leads_back : (y : Y) → back (form y) ≡ Some y) (is_form : (x : X) (y : Y) → back x ≡ Some y → form y ≡ x)
    (items : List Item) (place : ℕ) (x : X) (next : ℕ) (one : IsBuilt inner_valid inner items place x next) where
  -- the value of the form that stands there
  pub form_found : (y : Y) → back x ≡ Some y → IsBuilt outer_valid outer items place y next
  form_found y is =
      let same : form y ≡ x = is_form x y is in
      laws.form_built inner_valid inner outer_valid outer form as_form form_valid items place x next one y
      (valid_back y (subst inner_valid (sym same) one.is_valid)) same
      (λ z ok has. same_Some z y (sym (leads_back z) ∙ ap back has ∙ is))

  -- the form that stands there is none of a value
  pub form_strange : back x ≡ None → Builds outer_valid outer items place (Err Bad)
  form_strange none y ok there =
      let same : form y ≡ x = one.only (form y) (form_valid y ok) (subst (StandsAt items place) (as_form y) there) in
      none-some y (sym none ∙ sym (ap back same) ∙ leads_back y)
