-- A hasher that is fed the values of a list one by one.
use Rattle.std.proofs.Common.{◌≡◌, ℕ, ◌+◌, ◌<◌, List, [], ◌∷◌, ◌++◌, length, take, get_or, sym, ap, ◌∙◌, append-nil}
use Rattle.std.specs.Prelude.{fold}
use Rattle.std.specs.List.{flat_map}
use Rattle.std.specs.Hash.{HashWrites}
use Rattle.std.proofs.lemmas.List.Sums.{fold-append}
use Rattle.std.proofs.lemmas.List.Concat.{flat_map-append}
use Rattle.std.proofs.lemmas.List.{take_more}

-- one value more
pub fed_more : {S X : Type 0} (write : S → List ℕ → S) (feeds : X → HashWrites) (state : S) (values : List X) (at : ℕ)
    (value : X) → at < length values → value ≡ get_or values at value
    → fold write state (flat_map feeds (take (at + 1) values))
    ≡ fold write (fold write state (flat_map feeds (take at values))) (feeds value)
fed_more write feeds state values at value within stands =
    ap (λ l. fold write state (flat_map feeds l)) (take_more values at value within)
    ∙ ap (λ last. fold write state (flat_map feeds (take at values ++ last ∷ []))) (sym stands)
    ∙ ap (fold write state) (flat_map-append feeds (take at values) (value ∷ []))
    ∙ fold-append write state (flat_map feeds (take at values)) (flat_map feeds (value ∷ []))
    ∙ ap (λ last. fold write (fold write state (flat_map feeds (take at values))) last) (append-nil (feeds value))
