-- Lemmas on `specs/Tree.antt`, for `field_matcher` and `field_test`: one level of messages, and what is below it.
use Rattle.std.proofs.Common.{◌≡◌, ℕ, zero, suc, ◌+◌, ◌-◌, ◌<◌, List, [], ◌∷◌, ◌++◌, length, map, drop, get_or, refl, arith, append_assoc, add-one}
use Rattle.std.proofs.Math.Seq.{drop-cons}
use native.Mathlib.Numerals.{unary_clauses}
use Rattle.proto_wire.specs.Fields.{FieldOf}
use Rattle.config_decode.specs.Tree.{field_matcher_with, field_matcher_in, children_in, field_test_with, field_test_in, tests_in}

pub field_matcher_step : (levels : ℕ) (fields : List FieldOf)
    → field_matcher_in levels fields ≡ field_matcher_with (children_in levels) fields
unfolding field_matcher_in
field_matcher_step zero fields = refl
field_matcher_step (suc levels) fields = refl

pub children_step : (levels : ℕ) (messages : List (List FieldOf)) → 0 < levels
    → children_in levels messages ≡ map (field_matcher_in (levels - 1)) messages
children_step zero messages h = absurd (omega arith)
children_step (suc levels) messages h = simp unary_clauses refl

pub field_test_step : (levels : ℕ) (fields : List FieldOf)
    → field_test_in levels fields ≡ field_test_with (tests_in levels) fields
unfolding field_test_in
field_test_step zero fields = refl
field_test_step (suc levels) fields = refl

pub tests_step : (levels : ℕ) (messages : List (List FieldOf)) → 0 < levels
    → tests_in levels messages ≡ map (field_test_in (levels - 1)) messages
tests_step zero messages h = absurd (omega arith)
tests_step (suc levels) messages h = simp unary_clauses refl

-- one more item is read, and the rest is left
pub one_more : {A B : Type 0} (read : A → B) (items : List A) (i : ℕ) (d : A) (before now : List B) (next : B)
    → i < length items → next ≡ read (get_or items i d) → now ≡ before ++ next ∷ []
    → before ++ map read (drop i items) ≡ map read items
    → now ++ map read (drop (i + 1) items) ≡ map read items
one_more read items i d before now next below is added done =
    rw (add-one, added, append_assoc, is) (rw (drop-cons items i d) at done)
