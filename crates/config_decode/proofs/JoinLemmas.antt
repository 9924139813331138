-- Lemmas on `specs/Laws.antt`, for the laws of joined payloads: a message and what comes after it are one message,
-- wherever that begins.
use Rattle.std.proofs.Common.{◌≡◌, ℕ, zero, suc, ◌+◌, ◌-◌, ◌<◌, ◌≤◌, List, [], ◌∷◌, ◌++◌, length, None, Result, Ok, Err, refl, sym, ap, ◌∙◌, subst, arith, append_assoc}
use Rattle.std.specs.List.{concat}
use Rattle.std.specs.Result.{IfOk}
use Rattle.std.proofs.lemmas.List.{length-append, map-append, append-nil}
use Rattle.std.proofs.lemmas.List.Elements.{All-head, All-tail}
use Rattle.proto_wire.specs.declared.fault.WireFault.{WireFault}
use Rattle.proto_wire.specs.Fields.{BodyOf, FieldOf, Rest}
use Rattle.proto_wire.specs.WireReading.{Walk, with_field, walk_end, walk_on, walk_from, field_at}
use Rattle.proto_wire.specs.Grammar.{IsGroup, StartsWith}
use Rattle.proto_wire.proofs.RestReading.{field_at-read, field_at-only, shorter, walk_from-some, walk_from-none}
use Rattle.config_decode.specs.Values.{records_of, records_of_all}
use Rattle.config_decode.specs.Laws.{content, contents, read_at, IsReadWholeAt, IsReadWhole, AreReadAsOne, PayloadsAreReadAsOne, MessagesSayTheSameAnywhere}
use Rattle.config_decode.proofs.GroupLemmas.{laid_out-more, group-more}

-- The whole says what the first walk says, and then what the second says, and has the fault of the second.
record GoesOn (first second whole : Walk) : Type 0 where
  same : contents whole.fields ≡ contents first.fields ++ contents second.fields
  fault : whole.fault ≡ second.fault

-- a field in front, with further bytes after its message, which begins elsewhere and isn't deeper
module _ (rest : Rest) (field : FieldOf) (new : Rest) (stands : StartsWith rest field new)
    (after : List ℕ) (at depth : ℕ) (shallow : depth ≤ rest.depth) where
  abbrev there : Rest
  there = record { bytes = rest.bytes ++ after; at = at; depth = depth }

  abbrev field_there : FieldOf
  field_there = record {
    number = field.number;
    at = at;
    payload_at = at + length stands.tag + length stands.count;
    body = field.body;
  }

  abbrev next_at : ℕ
  next_at = at + length stands.tag + length stands.count + length stands.payload

  abbrev left_there : Rest
  left_there = record { bytes = new.bytes ++ after; at = next_at; depth = depth }

  regroup : (tag count payload left after : List ℕ)
      → (tag ++ (count ++ (payload ++ left))) ++ after ≡ tag ++ (count ++ (payload ++ (left ++ after)))
  regroup tag count payload left after = simp append_assoc

  stands_there : StartsWith there field_there left_there
  stands_there = record {
    tag = stands.tag;
    count = stands.count;
    payload = stands.payload;
    parts = ap (λ (l : List ℕ). l ++ after) stands.parts
        ∙ regroup stands.tag stands.count stands.payload new.bytes after;
    laid_out = laid_out-more (IsGroup (100 - rest.depth)) (IsGroup (100 - depth))
        (group-more (100 - rest.depth) (100 - depth) (omega arith))
        field.number field.body stands.tag stands.count stands.payload stands.laid_out;
    at = refl;
    payload_at = refl;
    moved = refl;
  }

  some_there : 0 < length (rest.bytes ++ after)
  some_there = omega (arith, shorter there field_there left_there stands_there)

  walk_there : walk_from there ≡ with_field field_there (walk_from left_there)
  walk_there = walk_from-some there some_there
      ∙ ap (walk_on walk_from) (field_at-only there field_there left_there stands_there)

  end_there : next_at + length new.bytes ≡ at + length rest.bytes
  end_there = omega (
    arith,
    ap length stands.parts,
    length-append stands.tag (stands.count ++ (stands.payload ++ new.bytes)),
    length-append stands.count (stands.payload ++ new.bytes),
    length-append stands.payload new.bytes,
  )

  -- if what comes after the field goes on, so does the whole
  one_more : GoesOn (walk_from new) (read_at (next_at + length new.bytes) depth after) (walk_from left_there)
      → GoesOn (with_field field (walk_from new)) (read_at (at + length rest.bytes) depth after) (walk_from there)
  one_more others =
      let rest_on : GoesOn (walk_from new) (read_at (at + length rest.bytes) depth after) (walk_from left_there) =
      subst (λ (place : ℕ). GoesOn (walk_from new) (read_at place depth after) (walk_from left_there))
      end_there others in
      record {
        same = ap (λ (walk : Walk). contents walk.fields) walk_there
            ∙ ap (λ (l : List (ℕ × BodyOf)). content field ∷ l) rest_on.same;
        fault = ap (λ (walk : Walk). walk.fault) walk_there ∙ rest_on.fault;
      }

-- a message goes on if what comes after its first field does
starts_on : (rest : Rest) (after : List ℕ) (at depth : ℕ) → depth ≤ rest.depth
    → ((new : Rest) → length new.bytes < length rest.bytes → depth ≤ new.depth → (walk_from new).fault ≡ None
    → (place : ℕ) → GoesOn (walk_from new) (read_at (place + length new.bytes) depth after)
    (read_at place depth (new.bytes ++ after)))
    → (read : Result (FieldOf × Rest) WireFault) → IfOk read (λ read. StartsWith rest read.0 read.1)
    → (walk_on walk_from read).fault ≡ None
    → GoesOn (walk_on walk_from read) (read_at (at + length rest.bytes) depth after)
    (read_at at depth (rest.bytes ++ after))
starts_on rest after at depth shallow others (Ok (field, new)) stands whole =
    let less = shorter rest field new stands in
    let same_depth : new.depth ≡ rest.depth = ap (λ (r : Rest). r.depth) stands.moved in
    one_more rest field new stands after at depth shallow
    (others new less (omega arith) whole (next_at rest field new stands after at depth shallow))
starts_on rest after at depth shallow others (Err fault) stands whole = absurd (cc)

-- the end of the bytes
nothing : (at depth : ℕ) → read_at at depth [] ≡ walk_end None
nothing at depth = walk_from-none (record { bytes = []; at = at; depth = depth }) refl

-- A message without a fault goes on with what comes after it, in at most so many turns.
goes_on_in : (turns : ℕ) (bytes : List ℕ) (here deep : ℕ) → length bytes ≤ turns → IsReadWholeAt here deep bytes
    → (after : List ℕ) (at depth : ℕ) → depth ≤ deep
    → GoesOn (read_at here deep bytes) (read_at (at + length bytes) depth after) (read_at at depth (bytes ++ after))
goes_on_in turns [] here deep enough whole after at depth shallow =
    let same_place : at + 0 ≡ at = omega arith in
    subst (λ (walk : Walk). GoesOn walk (read_at (at + 0) depth after) (read_at at depth after))
    (sym (nothing here deep))
    (subst (λ (place : ℕ). GoesOn (walk_end None) (read_at place depth after) (read_at at depth after))
    (sym same_place) (record { same = refl; fault = refl }))
goes_on_in zero (byte ∷ bytes) here deep enough whole after at depth shallow = absurd (omega arith)
goes_on_in (suc turns) (byte ∷ bytes) here deep enough whole after at depth shallow =
    let rest : Rest = record { bytes = byte ∷ bytes; at = here; depth = deep } in
    let walk_is : walk_from rest ≡ walk_on walk_from (field_at rest) = walk_from-some rest (omega arith) in
    subst (λ (walk : Walk). GoesOn walk (read_at (at + length rest.bytes) depth after)
    (read_at at depth (rest.bytes ++ after))) (sym walk_is)
    (starts_on rest after at depth shallow
    (λ new less deeper new_whole place.
    goes_on_in turns new.bytes new.at new.depth (omega arith) new_whole after place depth deeper)
    (field_at rest) (field_at-read rest) (ap (λ (walk : Walk). walk.fault) (sym walk_is) ∙ whole))

-- a message without a fault goes on with what comes after it
goes_on : (bytes : List ℕ) (here deep : ℕ) → IsReadWholeAt here deep bytes
    → (after : List ℕ) (at depth : ℕ) → depth ≤ deep
    → GoesOn (read_at here deep bytes) (read_at (at + length bytes) depth after) (read_at at depth (bytes ++ after))
goes_on bytes here deep = goes_on_in (length bytes) bytes here deep (omega arith)

-- The second walk has no fault and says what the first says.
record IsLike (first second : Walk) : Type 0 where
  whole : second.fault ≡ None
  same : contents second.fields ≡ contents first.fields

-- a message without a fault, read elsewhere and no deeper
elsewhere : (bytes : List ℕ) (here deep : ℕ) → IsReadWholeAt here deep bytes → (at depth : ℕ) → depth ≤ deep
    → IsLike (read_at here deep bytes) (read_at at depth bytes)
elsewhere bytes here deep whole at depth shallow =
    let on = goes_on bytes here deep whole [] at depth shallow in
    let bytes_are : read_at at depth bytes ≡ read_at at depth (bytes ++ []) =
    ap (read_at at depth) (sym (append-nil bytes)) in
    let end : read_at (at + length bytes) depth [] ≡ walk_end None = nothing (at + length bytes) depth in
    record {
      whole = ap (λ (walk : Walk). walk.fault) bytes_are ∙ on.fault ∙ ap (λ (walk : Walk). walk.fault) end;
      same = ap (λ (walk : Walk). contents walk.fields) bytes_are
          ∙ on.same
          ∙ ap (λ (walk : Walk). contents (read_at here deep bytes).fields ++ contents walk.fields) end
          ∙ append-nil (contents (read_at here deep bytes).fields);
    }

-- a message without a fault at some place says the same by itself
pub same_anywhere : MessagesSayTheSameAnywhere
same_anywhere bytes at depth whole =
    let top = elsewhere bytes at depth whole 0 0 (omega arith) in
    record { whole = top.whole; same = top.same }

-- a payload in front of others that are read as one
with_others : (payload : List ℕ) (others : List (List ℕ)) → IsReadWhole payload → AreReadAsOne others
    → AreReadAsOne (payload ∷ others)
with_others payload others whole one =
    let on = goes_on payload 0 0 whole (concat others) 0 0 (omega arith) in
    let moved = elsewhere (concat others) 0 0 one.whole (0 + length payload) 0 (omega arith) in
    record {
      whole = on.fault ∙ moved.whole;
      same = on.same
          ∙ ap (λ (others : List (ℕ × BodyOf)). contents (records_of payload) ++ others) (moved.same ∙ one.same)
          ∙ sym (map-append content (records_of payload) (records_of_all others));
    }

-- payloads without a fault are read as one
pub read_as_one : PayloadsAreReadAsOne
read_as_one [] whole =
    let end : read_at 0 0 [] ≡ walk_end None = nothing 0 0 in
    record {
      whole = ap (λ (walk : Walk). walk.fault) end;
      same = ap (λ (walk : Walk). contents walk.fields) end;
    }
read_as_one (payload ∷ others) whole =
    with_others payload others (All-head IsReadWhole payload others whole)
    (read_as_one others (All-tail IsReadWhole payload others whole))
