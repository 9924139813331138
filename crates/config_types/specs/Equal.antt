-- The derived `==` of matchers and their tests holds exactly where contracts see the same value.
use Rattle.std.specs.Prelude.{◌≡◌, ℕ, ℤ, Bool, true, false, List, [], ◌∷◌, map, Option, Some, None, refl, nat_eq}
use Rattle.std.specs.Ordering.{int_eq}
use Rattle.std.specs.Option.{option_eq}
use Rattle.std.specs.Bool.{Decides, beq}
use Rattle.std.specs.Cmp.{first_so, second_so, booleans_Decides, unsigned_Decides, signed_Decides}
use Rattle.std.specs.Cmp.Rules.{comparing, hashing}
use Rattle.std.specs.Cmp.Lexicographic.{pointwise, pointwise_decides}
use Rattle.std.proofs.Common.{rules, arith, ap, sym, ◌∙◌, subst}
use Rattle.config_types.specs.declared.fields.Position.{Position}
use Rattle.config_types.specs.declared.matcher.FieldTest.{FieldTest}
use Rattle.config_types.specs.declared.matcher.SimpleMatcher.{SimpleMatcher}
use Rattle.config_types.specs.declared.matcher.Test.{Test}
use Rattle.config_types.specs.declared.matcher.Test.TheBlock.{member-FieldTest}
use Rattle.config_types.specs.declared.matcher.Test.TheShapes.{former-FieldTest-test}
use Rattle.config_types.specs.declared.matcher.Test.TheOpen.{Test-F, FieldTest-F, EqBool, EqStr, EqInt, LtInt, GtInt, LteInt, GteInt, Tuple, AnyOf, NoneOf}
use Rattle.config_types.specs.declared.matcher.Test.TheViews.{out-Test, roll-Test, out-roll-Test, roll-out-Test, roll-FieldTest}
use Rattle.config_types.specs.declared.matcher.Test.TheFolds.{ind-Test, ind-FieldTest, map-Test, map-FieldTest}
use Rattle.config_types.specs.contracts.fields.PositionPartialEq.TheImpl as position
use Rattle.config_types.specs.contracts.fields.PositionExact.TheImpl.Laws.{exact-law as position_exact}
use Rattle.config_types.specs.contracts.matcher.TestPartialEq.TheImpl as condition
use Rattle.config_types.specs.contracts.matcher.TestPartialEq.TheImpl.Laws as condition_laws
use Rattle.config_types.specs.contracts.matcher.TestEq.TheImpl.Laws.{laws-law as condition_equiv}
use Rattle.config_types.specs.contracts.matcher.FieldTestPartialEq.TheImpl as field_test
use Rattle.config_types.specs.contracts.matcher.FieldTestEq.TheImpl.Laws.{laws-law as field_test_equiv}
use Rattle.config_types.specs.contracts.matcher.SimpleMatcherPartialEq.TheImpl as simple_matcher
use denote.Hole.Compared.{compared_is}

-- `==` of tests of fields, as `==` of conditions uses it
abbrev same_test : FieldTest → FieldTest → Bool
same_test = condition_laws.family member-FieldTest

-- whether two conditions are of one kind, and ask for the same
abbrev same_condition : Test-F Test FieldTest → Test-F Test FieldTest → Bool
same_condition (EqBool a) (EqBool b) = beq a b
same_condition (EqStr a) (EqStr b) = pointwise nat_eq a b
same_condition (EqInt a) (EqInt b) = int_eq a b
same_condition (LtInt a) (LtInt b) = int_eq a b
same_condition (GtInt a) (GtInt b) = int_eq a b
same_condition (LteInt a) (LteInt b) = int_eq a b
same_condition (GteInt a) (GteInt b) = int_eq a b
same_condition (Tuple a) (Tuple b) = pointwise same_test a b
same_condition (AnyOf a) (AnyOf b) = pointwise (pointwise nat_eq) a b
same_condition (NoneOf a) (NoneOf b) = pointwise (pointwise nat_eq) a b
same_condition _ _ = false

-- one step of the derived `==` compares two conditions that are open
one_step : (a b : Test-F Test FieldTest) (x y : Test) → out-Test x ≡ a → out-Test y ≡ b
    → condition_laws.unfolded x y ≡ same_condition a b
one_step (EqBool a) (EqBool b) x y first second = rw (first, second) refl
one_step (EqStr a) (EqStr b) x y first second = rw (first, second) refl
one_step (EqInt a) (EqInt b) x y first second = rw (first, second) refl
one_step (LtInt a) (LtInt b) x y first second = rw (first, second) refl
one_step (GtInt a) (GtInt b) x y first second = rw (first, second) refl
one_step (LteInt a) (LteInt b) x y first second = rw (first, second) refl
one_step (GteInt a) (GteInt b) x y first second = rw (first, second) refl
one_step (Tuple a) (Tuple b) x y first second = rw (first, second) refl
one_step (AnyOf a) (AnyOf b) x y first second = rw (first, second) refl
one_step (NoneOf a) (NoneOf b) x y first second = rw (first, second) refl
one_step _ _ x y first second = rw (first, second) refl

-- what equals this condition is this condition
abbrev OnlyCondition : Test → Type 0
OnlyCondition x = (y : Test) → condition.ghosts.eq x y ≡ true → x ≡ y

-- what equals this test is this test
abbrev OnlyTest : FieldTest → Type 0
OnlyTest x = (y : FieldTest) → same_test x y ≡ true → x ≡ y

-- a condition and a test of which that is known
abbrev KnownCondition : Type 0
KnownCondition = (x : Test) × OnlyCondition x

abbrev KnownTest : Type 0
KnownTest = (x : FieldTest) × OnlyTest x

-- the layers without what is known
abbrev plain : Test-F KnownCondition KnownTest → Test-F Test FieldTest
plain = map-Test KnownCondition KnownTest Test FieldTest (λ e. e.0) (λ e. e.0)

abbrev plain_test : FieldTest-F KnownCondition KnownTest → FieldTest-F Test FieldTest
plain_test = map-FieldTest KnownCondition KnownTest Test FieldTest (λ e. e.0) (λ e. e.0)

tests_same : (xs : List KnownTest) (ys : List FieldTest) → pointwise same_test (map (λ e. e.0) xs) ys ≡ true
    → map (λ e. e.0) xs ≡ ys
tests_same [] [] equal = refl
tests_same [] (y ∷ ys) equal = cc
tests_same (x ∷ xs) [] equal = cc
tests_same (x ∷ xs) (y ∷ ys) equal = grind (arith, equal, x.1 y, tests_same xs ys)

texts_decide : (xs ys : List ℕ) → Decides (pointwise nat_eq xs ys) (xs ≡ ys)
texts_decide = pointwise_decides unsigned_Decides

-- equal layers are the same where the tests inside are
layers_same : (x : Test-F KnownCondition KnownTest) (y : Test-F Test FieldTest) → same_condition (plain x) y ≡ true
    → plain x ≡ y
layers_same (EqBool a) (EqBool b) equal = ap (λ z. EqBool z) ((booleans_Decides a b).0 equal)
layers_same (EqStr a) (EqStr b) equal = ap (λ z. EqStr z) ((texts_decide a b).0 equal)
layers_same (EqInt a) (EqInt b) equal = ap (λ z. EqInt z) ((signed_Decides a b).0 equal)
layers_same (LtInt a) (LtInt b) equal = ap (λ z. LtInt z) ((signed_Decides a b).0 equal)
layers_same (GtInt a) (GtInt b) equal = ap (λ z. GtInt z) ((signed_Decides a b).0 equal)
layers_same (LteInt a) (LteInt b) equal = ap (λ z. LteInt z) ((signed_Decides a b).0 equal)
layers_same (GteInt a) (GteInt b) equal = ap (λ z. GteInt z) ((signed_Decides a b).0 equal)
layers_same (Tuple a) (Tuple b) equal = ap (λ z. Tuple z) (tests_same a b equal)
layers_same (AnyOf a) (AnyOf b) equal = ap (λ z. AnyOf z) ((pointwise_decides texts_decide a b).0 equal)
layers_same (NoneOf a) (NoneOf b) equal = ap (λ z. NoneOf z) ((pointwise_decides texts_decide a b).0 equal)
layers_same _ _ equal = cc

condition_step : (x : Test-F Test FieldTest) (y : Test-F KnownCondition KnownTest) → plain y ≡ x
    → OnlyCondition (roll-Test x)
condition_step x y is z equal =
    let opens = one_step x (out-Test z) (roll-Test x) z (out-roll-Test x) refl in
    let same = sym opens ∙ sym (condition_laws.is (roll-Test x) z) ∙ equal in
    let layer = layers_same y (out-Test z) (ap (λ w. same_condition w (out-Test z)) is ∙ same) in
    ap roll-Test (sym is ∙ layer) ∙ roll-out-Test z

numbers_decide : (x y : Option ℤ) → Decides (option_eq int_eq x y) (x ≡ y)
numbers_decide x y = search (comparing, hashing, rules)

positions_decide : (x y : Option Position) → Decides (option_eq position.ghosts.eq x y) (x ≡ y)
positions_decide None None = (λ equal. refl, λ same. refl)
positions_decide (Some x) (Some y) =
    let exact = position_exact x y in (λ equal. ap (λ z. Some z) (exact.0 equal), λ same. exact.1 (cc))
positions_decide _ _ = (λ equal. cc, λ same. cc)

-- what is asked, without what is known
abbrev plain_asked : Option KnownCondition → Option Test
plain_asked = former-FieldTest-test.map KnownCondition Test (λ e. e.0)

conditions_same : (x : Option KnownCondition) (y : Option Test)
    → option_eq condition.ghosts.eq (plain_asked x) y ≡ true → plain_asked x ≡ y
conditions_same None None equal = refl
conditions_same None (Some y) equal = cc
conditions_same (Some x) None equal = cc
conditions_same (Some x) (Some y) equal = ap (λ z. Some z) (x.1 y equal)

test_step : (x : FieldTest-F Test FieldTest) (y : FieldTest-F KnownCondition KnownTest) → plain_test y ≡ x
    → OnlyTest (roll-FieldTest x)
test_step x y is z equal =
    let opens = compared_is _ _ _ _ _ _ condition_laws.local member-FieldTest (roll-FieldTest x) z in
    let parts = sym opens ∙ equal in
    let fields = option_eq int_eq x.field z.field in
    let places = option_eq position.ghosts.eq x.position z.position in
    let field = (numbers_decide x.field z.field).0 (first_so fields _ parts) in
    let rest = second_so fields _ parts in
    let place = (positions_decide x.position z.position).0 (first_so places _ rest) in
    let asked = ap (λ w. w.test) is in
    let asks = ap (λ w. option_eq condition.ghosts.eq w z.test) asked ∙ second_so places _ rest in
    let asking = sym asked ∙ conditions_same y.test z.test asks in
    (λ i. record { field = field i; position = place i; test = asking i })

-- `==` of conditions
pub condition_exact : (x y : Test) → Decides (condition.ghosts.eq x y) (x ≡ y)
condition_exact x y = (
  ind-Test OnlyCondition OnlyTest condition_step test_step x y,
  λ same. subst (λ z. condition.ghosts.eq x z ≡ true) same (condition_equiv.refl x),
)

-- `==` of tests of fields
pub field_test_exact : (x y : FieldTest) → Decides (field_test.ghosts.eq x y) (x ≡ y)
field_test_exact x y = (
  ind-FieldTest OnlyCondition OnlyTest condition_step test_step x y,
  λ same. subst (λ z. field_test.ghosts.eq x z ≡ true) same (field_test_equiv.refl x),
)

-- `==` of simple matchers
pub simple_matcher_exact : (x y : SimpleMatcher) → Decides (simple_matcher.ghosts.eq x y) (x ≡ y)
simple_matcher_exact x y =
    let tests = pointwise_decides field_test_exact x.tests y.tests in search (comparing, hashing, rules, tests)
