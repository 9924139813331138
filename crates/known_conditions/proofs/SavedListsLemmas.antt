-- What stands after the old items, where one call has added some and the next adds others.
use Rattle.std.proofs.Common.{◌≡◌, List, ◌++◌, Result, Ok, Err, ap, ◌∙◌, append_assoc}
use Rattle.std.specs.Prelude.{OnErr}
use Rattle.flat_form.specs.declared.item.Item.{Item}
use Rattle.flat_form.specs.Flat.{IsFront}

-- two parts, one after the other
pub adds_two : {A : Type 0} (old middle new x y : List A) → middle ≡ old ++ x → new ≡ middle ++ y
    → new ≡ old ++ (x ++ y)
adds_two old middle new x y first second = second ∙ ap (λ l. l ++ y) first ∙ append_assoc old x y

-- the old items are the front of what was made of them and a part
pub front_before : (old middle new x : List Item) → middle ≡ old ++ x → IsFront middle new → IsFront old new
front_before old middle new x first front = record {
  more = x ++ front.more;
  parts = adds_two old middle new x front.more first front.parts;
}

-- what holds at all holds on failure
pub on_failure : {T E P : Type 0} (result : Result T E) → P → OnErr result P
on_failure (Ok x) holds = tt
on_failure (Err e) holds = holds
