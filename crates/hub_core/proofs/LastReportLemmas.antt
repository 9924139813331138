-- What is reported before a command ends it: it is the last report, and what else is held stays.
use Rattle.bucket_meaning.specs.Ends.{Moment}
use Rattle.std.proofs.Common.{◌≡◌, ℕ, Bool, true, false, cond, List, Option, Some, None, is_some, refl, sym, ap, subst, ◌∙◌, arith}
use Rattle.std.specs.Option.{MatchOption}
use Rattle.session_frames.specs.declared.reply.ReplyBody.{ReplyBody}
use Rattle.session_frames.specs.declared.reply.ReplyBody.TheVariants as answers
use Rattle.client_engine.specs.Handed.{BookOfStates}
use Rattle.client_engine.specs.declared.live_id.LiveId.{LiveId}
use Rattle.hub_core.specs.declared.live_instance.LiveInstance.{LiveInstance}
use Rattle.matcher_table.specs.Tables.{SlotTable}
use Rattle.hub_core.specs.SharedTable.{IsHeldTable, KeepsSlots}
use Rattle.hub_core.specs.Slots.{last_asked, same_id, slot_at, ShowsAt, ReportsAt}
use Rattle.hub_core.specs.Commands.{IsEnded, Replaces, body_of_install, body_of_remove}

-- a table that is held by what was reported is held by what is left
pub keeps_held : (table : SlotTable) (olds news : List (LiveId × LiveInstance)) → KeepsSlots olds news
    → IsHeldTable table olds → IsHeldTable table news
keeps_held table olds news keeps held = record {
  all = keeps.all table held.all;
  uses = λ s. omega (arith, held.uses s, keeps.places s);
}

module _ (moment : Moment) (book : BookOfStates) (name : LiveId) (olds news : List (LiveId × LiveInstance))
    (last : Option (List ℕ)) where
  -- what was found, and what was reported of it
  abbrev Shown : Option LiveInstance → Type 0
  Shown slot = MatchOption slot ((news ≡ olds) × (last ≡ None))
      (λ live. ShowsAt moment (last_asked name moment.at) book live olds news last)

  -- it is replaced, and answered so
  replaces_found : (slot : Option LiveInstance) (body : ReplyBody) → Shown slot → body ≡ body_of_install last
      → Replaces moment book name slot body
  replaces_found None body r is = is ∙ ap body_of_install r.1
  replaces_found (Some live) body r is = record {
    next = r.next;
    tree = r.tree;
    steps = r.steps;
    answer = is ∙ ap body_of_install r.told;
  }

  -- it is removed, and answered so
  removed_found : (live : LiveInstance) (body : ReplyBody) → Shown (Some live) → body ≡ body_of_remove last
      → IsEnded moment book name live answers.Removed body
  removed_found live body r is = record {
    next = r.next;
    tree = r.tree;
    steps = r.steps;
    answer = is ∙ ap body_of_remove r.told;
  }

  -- what is written at the name afterwards hides what the report left there
  hidden_found : (slot : Option LiveInstance) → Shown slot → (found : Option LiveInstance) (other : LiveId)
      → cond (same_id name other) found (slot_at other news) ≡ cond (same_id name other) found (slot_at other olds)
  hidden_found None r found other = ap (λ rows. cond (same_id name other) found (slot_at other rows)) r.0
  hidden_found (Some live) r found other =
      ap (cond (same_id name other) found) (r.slots other) ∙ twice (same_id name other) where
        twice : (same : Bool) → cond same found (cond same (Some r.next) (slot_at other olds))
            ≡ cond same found (slot_at other olds)
        twice true = refl
        twice false = refl

  -- what was found is still there
  there_found : (slot : Option LiveInstance) → slot_at name olds ≡ slot → Shown slot
      → is_some (slot_at name news) ≡ is_some (slot_at name olds)
  there_found None e r = ap (λ rows. is_some (slot_at name rows)) r.0
  there_found (Some live) e r = ap is_some (r.slots name) ∙ by_case (same_id name name) where
    by_case : (same : Bool) → is_some (cond same (Some r.next) (slot_at name olds)) ≡ is_some (slot_at name olds)
    by_case true = ap is_some (sym e)
    by_case false = refl

  -- The report was made of what stood under the name.
  module _ (r : ReportsAt moment (last_asked name moment.at) book olds news last) where
    pub replaces_old : (body : ReplyBody) → body ≡ body_of_install last
        → Replaces moment book name (slot_at name olds) body
    replaces_old body is = replaces_found (slot_at name olds) body r is

    pub removes_old : (live : LiveInstance) → slot_at name olds ≡ Some live → (body : ReplyBody)
        → body ≡ body_of_remove last → IsEnded moment book name live answers.Removed body
    removes_old live e body is = removed_found live body (subst Shown e r) is

    pub hides_old : (found : Option LiveInstance) (other : LiveId)
        → cond (same_id name other) found (slot_at other news) ≡ cond (same_id name other) found (slot_at other olds)
    hides_old = hidden_found (slot_at name olds) r

    pub still_there : is_some (slot_at name news) ≡ is_some (slot_at name olds)
    still_there = there_found (slot_at name olds) refl r
