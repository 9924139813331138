-- On specs/Forms.antt: bytes of which nothing is read or built are the saved form of no hub.
use Rattle.std.proofs.Common.{◌≡◌, ℕ, List, ◌++◌, length, Ok, Err, sym, ap, subst, ◌∙◌, arith}
use Rattle.std.proofs.lemmas.List.{append-nil, length-append, nil_from_length}
use Rattle.flat_form.specs.declared.flat_error.FlatError.{FlatError}
use Rattle.flat_form.specs.declared.flat_error.FlatError.TheVariants.{Bad, Memory}
use Rattle.flat_form.specs.declared.item.Item.{Item}
use Rattle.flat_form.specs.ItemRange.{AreRead, CanBeSpelled, ReadsItems}
use Rattle.flat_form.specs.ItemSpelling.{spelled_items}
use Rattle.hub_core.specs.SavedHubs.{saved_items}
use Rattle.hub_core.specs.declared.hub.Hub.{Hub}
use Rattle.hub_core.specs.HubSaving.{saved_of, BuildsHub}
use Rattle.checkpoint.specs.Forms.{IsFormOf}
use Rattle.checkpoint.specs.Refusals.{resume_error}
use Rattle.checkpoint.specs.Saves.{Resumes}

module _ (J : Type 0) (bytes : List ℕ) where
  -- the bytes are the spelling of no items
  pub unread : (e : FlatError) → ReadsItems bytes (Err e) → Resumes {J = J} bytes (Err (resume_error e))
  unread Bad none = λ saved form. none (saved_items saved) form.can_be form.spelled
  unread Memory none = tt

  -- no hub has the items
  pub unbuilt : (items : List Item) (e : FlatError) → AreRead bytes items → BuildsHub {J = J} items (Err e)
      → Resumes {J = J} bytes (Err (resume_error e))
  unbuilt items Bad read none =
      λ saved form. none saved form.valid (read.only (saved_items saved) form.can_be form.spelled)
  unbuilt items Memory read none = tt

  module _ (items : List Item) (hub : Hub J) (built : BuildsHub items (Ok hub)) where
    -- the hub has all of the items
    pub same_items : saved_items (saved_of hub) ≡ items
    same_items =
        let own = saved_items (saved_of hub) in
        let here : items ≡ own ++ built.stands.after = built.stands.here in
        let ends = built.ends in
        let size = ap length here ∙ length-append own built.stands.after in
        let none = nil_from_length built.stands.after (omega (arith, size, ends)) in
        sym (here ∙ ap (λ after. own ++ after) none ∙ append-nil own)

    -- so these bytes are its saved form
    pub form_there : AreRead bytes items → IsFormOf (saved_of hub) bytes
    form_there read = record {
      valid = built.is_valid;
      can_be = subst CanBeSpelled (sym same_items) read.can_be;
      spelled = read.spelled ∙ ap spelled_items (sym same_items);
    }
