-- A function of places that is given by its values at the places that each names.
use Rattle.std.specs.Prelude.{◌≡◌, ℕ, zero, suc, ◌<◌, List, length}
use Rattle.link_graph.specs.Links.{Refers}

module _ {V : Type 0} where
  -- the function, followed so many references deep, and one value for what lies deeper
  abbrev pub unroll : ((ℕ → V) → ℕ → V) → V → ℕ → ℕ → V
  unroll step deeper zero x = deeper
  unroll step deeper (suc depth) x = step (unroll step deeper depth) x

  -- a place's value comes from the values at the places that it names, and from no others
  abbrev pub LooksDown : List (List ℕ) → ((ℕ → V) → ℕ → V) → Type 0
  LooksDown links step =
      (f g : ℕ → V) (x : ℕ) → ((y : ℕ) → Refers links x y → f y ≡ g y) → step f x ≡ step g x

  -- followed as many references deep as there are places, the function has at each place the value of its step
  abbrev pub MeetsItsStep : List (List ℕ) → ((ℕ → V) → ℕ → V) → V → Type 0
  MeetsItsStep links step deeper =
      (x : ℕ) → x < length links
      → unroll step deeper (length links) x ≡ step (unroll step deeper (length links)) x

-- every such function has those values
abbrev pub AllMeetTheirStep : (V : Type 0) → List (List ℕ) → Type 0
AllMeetTheirStep V links =
    (step : (ℕ → V) → ℕ → V) (deeper : V) → LooksDown links step → MeetsItsStep links step deeper
