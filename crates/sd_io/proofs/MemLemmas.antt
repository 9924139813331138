-- Lemmas on `specs/MemSource.antt` and `specs/MemSink.antt`, for the two objects: what they do, in the words of all
-- sources and sinks.
use Rattle.std.proofs.Common.{◌≡◌, ℕ, ◌+◌, ◌-◌, ◌<◌, ◌≤◌, min, Some, List, [], ◌++◌, length, take, drop, refl, sym, ap, ◌∙◌, append-nil, arith}
use Rattle.std.proofs.lemmas.List.{take-append-le, take-append-drop, take-take, take_rest, drop-drop, length-take}
use Rattle.std.proofs.Math.ListN.{drop_of_length-le}
use Rattle.sd_io.specs.Causes.{AppendsFront}
use Rattle.sd_io.specs.MemSource.{SourceContents, GivesPiece}

-- what is copied from a place in the bytes that a source holds
pub GivesPiece-at : (bytes held : List ℕ) (at : ℕ) (source : SourceContents) (buffer : List ℕ) (count : ℕ)
    (buffer_after : List ℕ)
    → source.left ≡ drop at bytes
    → held ≡ bytes
    → let rest = take (length held - at) (drop at held) in
    count ≡ min source.piece (min (length buffer) (length rest))
    → buffer_after ≡ take count rest ++ drop count buffer
    → GivesPiece source buffer count (drop (at + count) bytes) buffer_after
GivesPiece-at bytes held at source buffer count buffer_after left same most given =
    let rest_is : take (length held - at) (drop at held) ≡ source.left =
    take_rest held at ∙ ap (drop at) same ∙ sym left in
    record {
      most = most ∙ ap (λ l. min source.piece (min (length buffer) (length l))) rest_is;
      given = given ∙ ap (λ l. take count l ++ drop count buffer) rest_is;
      left = sym (drop-drop count at bytes) ∙ ap (drop count) (sym left);
    }

module _ (source : SourceContents) (buffer : List ℕ) (count : ℕ) (left buffer_after : List ℕ)
    (h : GivesPiece source buffer count left buffer_after) where
  -- what stands in the front of the buffer is the front of what was left
  taken : take count buffer_after ≡ take count source.left
  taken =
      let within : count ≤ length (take count source.left) = omega (arith, length-take count source.left, h.most) in
      ap (take count) h.given
      ∙ take-append-le count (take count source.left) (drop count buffer) within
      ∙ take-take count count source.left (omega arith)

  pub left-given : source.left ≡ take count buffer_after ++ left
  left-given =
      let parts = take-append-drop count source.left in
      sym (ap (λ l. l ++ left) taken ∙ ap (λ l. take count source.left ++ l) h.left ∙ parts)

  -- nothing is given only at the end, or for a buffer with no room
  pub ended-given : 1 ≤ source.piece → count ≡ 0 → 0 < length buffer → left ≡ []
  ended-given some none room =
      let short : length source.left ≤ count = omega (arith, h.most) in
      h.left ∙ drop_of_length-le source.left short

-- what fits of a piece is a front of it
pub AppendsFront-take : (old piece : List ℕ) (count : ℕ) (new : List ℕ)
    → new ≡ old ++ take count piece
    → AppendsFront (Some old) (Some new) piece
AppendsFront-take old piece count new e = (take count piece, (drop count piece, sym (take-append-drop count piece)), e)

-- nothing is a front of every piece
pub AppendsFront-nil : (old piece new : List ℕ) → new ≡ old → AppendsFront (Some old) (Some new) piece
AppendsFront-nil old piece new e = ([], (piece, refl), e ∙ sym (append-nil old))
