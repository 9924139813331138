-- The message of one atom more is added.
use Rattle.std.proofs.Common.{◌≡◌, ℕ, ◌+◌, ◌<◌, List, [], ◌∷◌, ◌++◌, length, take, get_or, map, All, append_assoc, sym, ap, subst, ◌∙◌}
use Rattle.std.proofs.lemmas.List.{map_push, take_more}
use Rattle.std.proofs.lemmas.List.Elements.{All-push}
use Rattle.report_writer.specs.Writable.{IsWritableEvent}
use Rattle.report_writer.specs.declared.tree.AtomMsg.{AtomMsg}
use Rattle.report_writer.specs.declared.tree.EventTree.{EventTree}
use Rattle.client_engine.specs.EventsAlong.{event_at}
use Rattle.client_engine.proofs.kinds.events.add_events.Goals as goal

-- one more comes after those so far
one_more : {A B : Type 0} (f : A → B) (xs : List A) (i : ℕ) (x : A) → i < length xs → x ≡ get_or xs i x
    → (old before now : List B) → before ≡ old ++ map f (take i xs) → now ≡ before ++ f x ∷ []
    → now ≡ old ++ map f (take (i + 1) xs)
one_more f xs i x below here old before now so_far added =
    added ∙ ap (λ l. l ++ f x ∷ []) so_far ∙ append_assoc old (map f (take i xs)) (f x ∷ [])
    ∙ ap (λ l. old ++ l) (sym (map_push f (take i xs) x))
    ∙ ap (λ l. old ++ map f l) (sym (take_more xs i x below ∙ ap (λ y. take i xs ++ y ∷ []) (sym here)))

pub loop-atom-preserved : goal.loop-atom-preserved
loop-atom-preserved c =
    let event : EventTree = record { at = c.args.at; atom = c.in_ok-atom.atom } in (
      one_more (event_at c.args.at) c.args.atoms.now c.loop-atom.atom-index c.atom-item.result c.loop-atom-test.true
          c.atom-item.is c.args.events.now c.loop-atom.events c.push.new.self c.loop-atom.invariant.0
          (c.in_ok-push.ensures.added
          ∙ ap (λ (message : AtomMsg). c.loop-atom.events ++ record { at = c.args.at; atom = message } ∷ [])
          c.in_ok-atom.ensures.message),
      subst (All IsWritableEvent) (sym c.in_ok-push.ensures.added)
          (All-push IsWritableEvent c.loop-atom.events event c.loop-atom.invariant.1 c.in_ok-atom.ensures.writable),
    )
