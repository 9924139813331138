-- A field that was begun and ended, for callers: it holds what was added between.
use Rattle.std.proofs.Common.{◌≡◌, ℕ, ◌+◌, List, [], ◌∷◌, ◌++◌, length, take, drop, sym, ap, ◌∙◌, append_assoc, arith}
use Rattle.std.proofs.lemmas.List.{length-append}
use Rattle.std.proofs.Math.Seq.{take-append_seam, drop-append_seam}
use Rattle.proto_wire.specs.declared.tag.WireType.TheVariants as wire
use Rattle.proto_wire.specs.Spelling.{varint, tag_bytes, bytes_field, begun_field}

-- what is counted at the place where a field was begun is the field
pub field_ended : (number place : ℕ) (old begun full new bytes : List ℕ) → begun ≡ old ++ begun_field number
    → place + 1 ≡ length begun → full ≡ begun ++ bytes
    → new ≡ take place full ++ (varint (length (drop (place + 1) full)) ++ drop (place + 1) full)
    → new ≡ old ++ bytes_field number bytes
field_ended number place old begun full new bytes begins there fills ends =
    let tag = tag_bytes number wire.Bytes in
    let front : begun ≡ (old ++ tag) ++ 0 ∷ [] = begins ∙ sym (append_assoc old tag (0 ∷ [])) in
    let whole : full ≡ (old ++ tag) ++ 0 ∷ bytes =
    fills ∙ ap (λ (b : List ℕ). b ++ bytes) front ∙ append_assoc (old ++ tag) (0 ∷ []) bytes in
    let at : place ≡ length (old ++ tag) = omega
    (arith, there, ap length front, length-append (old ++ tag) (0 ∷ [])) in
    let before : take place full ≡ old ++ tag =
    ap (take place) whole
    ∙ ap (λ (n : ℕ). take n ((old ++ tag) ++ 0 ∷ bytes)) at
    ∙ take-append_seam (old ++ tag) (0 ∷ bytes) in
    let after : drop (place + 1) full ≡ bytes =
    ap (λ (n : ℕ). drop n full) there ∙ ap (drop (length begun)) fills ∙ drop-append_seam begun bytes in
    ends
    ∙ ap (λ (b : List ℕ). b ++ (varint (length (drop (place + 1) full)) ++ drop (place + 1) full)) before
    ∙ ap (λ (b : List ℕ). (old ++ tag) ++ (varint (length b) ++ b)) after
    ∙ append_assoc old tag (varint (length bytes) ++ bytes)
    ∙ ap (λ (b : List ℕ). old ++ b) (sym (append_assoc tag (varint (length bytes)) bytes))
