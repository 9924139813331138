-- Lemmas on specs/FieldSets.antt: a walk that keeps the leaves before it finds a repeat where there is one.
use Rattle.std.proofs.Common.{◌≡◌, ◌≢◌, Bool, true, false, true≢false, ◌||◌, List, [], ◌∷◌, ◌++◌, All, AllPairs, refl, sym, ap, ◌∙◌, arith}
use Rattle.std.specs.List.{list_any}
use Rattle.std.proofs.lemmas.Bool.Decides.{same_from_decides}
use Rattle.std.proofs.lemmas.List.Folds.{list_any-append}
use Rattle.std.proofs.lemmas.List.Elements.{All-cons}
use Rattle.std.proofs.lemmas.List.Kept.{AllPairs-cons}
use Rattle.field_select.specs.declared.leaf.LeafPath.{LeafPath}
use Rattle.field_select.specs.contracts.leaf.LeafPathExact.TheImpl.Laws.{exact-law as leaf_exact}
use Rattle.field_select.specs.FieldSets.{same_leaf, has_repeat}

-- neither test holds
first_fails : (a b : Bool) → (a || b) ≡ false → a ≡ false
first_fails true b neither = neither
first_fails false b neither = refl

second_fails : (a b : Bool) → (a || b) ≡ false → b ≡ false
second_fails true b neither = cc
second_fails false b neither = neither

-- each of no items
pub All-none : {X : Type 0} (P : X → Type 0) → All P []
All-none P k d within = absurd (omega arith)

-- whether one of these stands among those before it, where others came before all
abbrev pub repeat_after : List LeafPath → List LeafPath → Bool
repeat_after before [] = false
repeat_after before (leaf ∷ more) = list_any (same_leaf leaf) before || repeat_after (before ++ leaf ∷ []) more

-- whether one of these is among others
abbrev among : List LeafPath → List LeafPath → Bool
among before leaves = list_any (λ leaf. list_any (same_leaf leaf) before) leaves

same_symm : (x y : LeafPath) → same_leaf x y ≡ same_leaf y x
same_symm x y = same_from_decides _ _ (leaf_exact x y)
    (let other = leaf_exact y x in (λ h. sym (other.0 h), λ e. other.1 (sym e)))

-- four tests in another order
four_tests : (a b c d : Bool) → ((a || (b || false)) || (c || d)) ≡ ((a || c) || (b || d))
four_tests true b c d = refl
four_tests false true true d = refl
four_tests false true false d = refl
four_tests false false c d = refl

-- one more leaf before them
among-append : (before : List LeafPath) (x : LeafPath) (leaves : List LeafPath)
    → among (before ++ x ∷ []) leaves ≡ (among before leaves || list_any (same_leaf x) leaves)
among-append before x [] = refl
among-append before x (y ∷ more) =
    ap (λ found. found || among (before ++ x ∷ []) more) (list_any-append (same_leaf y) before (x ∷ []))
    ∙ ap (λ rest. (list_any (same_leaf y) before || (same_leaf y x || false)) || rest) (among-append before x more)
    ∙ ap (λ same. (list_any (same_leaf y) before || (same || false))
    || (among before more || list_any (same_leaf x) more)) (same_symm y x)
    ∙ four_tests (list_any (same_leaf y) before) (same_leaf x y) (among before more) (list_any (same_leaf x) more)

-- four tests, grouped otherwise
grouped_tests : (a b c d : Bool) → (a || ((b || c) || d)) ≡ ((a || b) || (c || d))
grouped_tests true b c d = refl
grouped_tests false true c d = refl
grouped_tests false false c d = refl

-- a repeat is one with a leaf before them, or one among themselves
after_is : (before leaves : List LeafPath) → repeat_after before leaves ≡ (among before leaves || has_repeat leaves)
after_is before [] = refl
after_is before (x ∷ more) =
    ap (λ rest. list_any (same_leaf x) before || rest)
    (after_is (before ++ x ∷ []) more ∙ ap (λ found. found || has_repeat more) (among-append before x more))
    ∙ grouped_tests (list_any (same_leaf x) before) (among before more) (list_any (same_leaf x) more) (has_repeat more)

none_among : (leaves : List LeafPath) → among [] leaves ≡ false
none_among [] = refl
none_among (x ∷ more) = none_among more

-- for `repeats`: with nothing before them the walk finds a repeat where there is one
pub repeat_after_nothing : (leaves : List LeafPath) → repeat_after [] leaves ≡ has_repeat leaves
repeat_after_nothing leaves = after_is [] leaves ∙ ap (λ found. found || has_repeat leaves) (none_among leaves)

-- a leaf that isn't among others differs from each
apart : (leaf : LeafPath) (others : List LeafPath) → list_any (same_leaf leaf) others ≡ false
    → All (λ other. leaf ≢ other) others
apart leaf [] none = All-none (λ other. leaf ≢ other)
apart leaf (x ∷ more) none =
    All-cons (λ other. leaf ≢ other) x more
    (λ is. true≢false (sym ((leaf_exact leaf x).1 is) ∙ first_fails (same_leaf leaf x) _ none))
    (apart leaf more (second_fails (same_leaf leaf x) _ none))

-- for sets: where there is no repeat, each leaf differs from each later one
pub all_apart : (leaves : List LeafPath) → has_repeat leaves ≡ false → AllPairs (λ leaf later. leaf ≢ later) leaves
all_apart [] none = λ i j d before within. absurd (omega arith)
all_apart (x ∷ more) none =
    AllPairs-cons (λ leaf later. leaf ≢ later) x more
    (apart x more (first_fails _ (has_repeat more) none))
    (all_apart more (second_fails (list_any (same_leaf x) more) _ none))
