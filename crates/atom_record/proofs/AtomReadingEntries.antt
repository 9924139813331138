-- Entries, for `AtomReadingPayloads`: what is read is spelled so and has no fault after the entries before it,
-- and what has no fault and is spelled so is read.
use Rattle.std.proofs.Common.{◌≡◌, ℕ, suc, true, false, not, List, [], ◌∷◌, ◌++◌, Result, Ok, Err, refl, sym, ap, subst, ◌∙◌}
use Rattle.std.specs.Prelude.{if◌then◌else◌}
use Rattle.std.specs.List.{list_any}
use Rattle.std.proofs.lemmas.Bool.{not-false, not_from_true}
use Rattle.std.proofs.lemmas.List.Elements.{All-push}
use Rattle.std.proofs.lemmas.List.Quantifiers.{all_pairs_push}
use Rattle.sd_base.specs.Reads.{◌>>=◌}
use Rattle.atom_record.specs.declared.atom.AtomField.{AtomField}
use Rattle.atom_record.specs.declared.value.Value.{Value}
use Rattle.atom_record.specs.AtomReasons.{reason_bad_place, reason_not_above, reason_bad_flags}
use Rattle.atom_record.specs.declared.parse.Place.{Place}
use Rattle.atom_record.specs.declared.parse.Kind.{Kind}
use Rattle.atom_record.specs.Flags.{is_exclusive}
use Rattle.atom_record.specs.AtomReading.{kind_at, value_at, is_in_range, is_after_last, may_have, place_of, entry_at}
use Rattle.atom_record.specs.AtomSpelling.{type_of, value_bytes, entry_bytes}
use Rattle.atom_record.specs.AtomSound.{IsInRange, IsEntry, IsBelow, AreEntries}
use Rattle.sd_base.proofs.ReadsLemmas.{bind-ok, choice-passed, ok-same}
use Rattle.sd_base.proofs.NumbersLemmas.{IsBytes, Takes}
use Rattle.atom_record.proofs.AtomReadingValues.{kind_of, value_takes, value_again, type_is, kind_takes, kind_again}
use Rattle.atom_record.proofs.AtomReadingPlaces.{in_range_is, in_range_again, after_all, after_last_again}
use Rattle.atom_record.proofs.AtomReadingFlags.{may_have_is, may_have_again, one_state-push}

-- the steps of reading an entry, from the last to the first
abbrev pub with_value : Place → ℕ → Value × List ℕ → Result (AtomField × List ℕ) ℕ
with_value place flags value =
    Ok (record { field = place.field; index = place.index; sub = place.sub; flags = flags; value = value.0 }, value.1)

-- what is read once the type is known: the flags are judged, and the value is read
abbrev pub after_flags : List AtomField → Place → ℕ → List ℕ → Kind → Result (AtomField × List ℕ) ℕ
after_flags before place flags bytes kind =
    if not (may_have (list_any is_exclusive before) place kind flags) then Err reason_bad_flags
    else (value_at kind bytes >>= with_value place flags)

-- what is read once the place is judged
abbrev pub after_place : List AtomField → Place → ℕ → ℕ → List ℕ → Result (AtomField × List ℕ) ℕ
after_place before place flags number bytes = kind_at number >>= after_flags before place flags bytes

-- what was read as an entry, after these
pub record TakesEntry (before : List AtomField) (bytes : List ℕ) (entry : AtomField) (rest : List ℕ) : Type 0 where
  pub took : Takes bytes (entry_bytes entry) rest
  pub are : AreEntries (before ++ entry ∷ [])

-- the five leading bytes of an entry, and its value
spelled_entry : (entry : AtomField) (number : ℕ) (bytes rest : List ℕ)
    → number ≡ type_of entry.value
    → Takes bytes (value_bytes entry.value) rest
    → Takes (entry.field ∷ entry.index ∷ entry.sub ∷ entry.flags ∷ number ∷ bytes) (entry_bytes entry) rest
spelled_entry entry number bytes rest is took = record { parts = rw (is, took.parts) refl; fits = took.fits }

-- an entry that choice-passed all tests
passes_all : (before : List AtomField) (entry : AtomField) (number : ℕ) (bytes rest : List ℕ)
    → AreEntries before
    → is_in_range (place_of entry) ≡ true
    → is_after_last before (place_of entry) ≡ true
    → kind_at number ≡ Ok (kind_of entry.value)
    → may_have (list_any is_exclusive before) (place_of entry) (kind_of entry.value) entry.flags ≡ true
    → Takes bytes (value_bytes entry.value) rest
    → IsInRange entry.value
    → TakesEntry before (entry.field ∷ entry.index ∷ entry.sub ∷ entry.flags ∷ number ∷ bytes) entry rest
passes_all before entry number bytes rest are in_range after kind may took fits =
    let place = in_range_is (place_of entry) in_range in
    let flags = may_have_is before entry may in
    let is_entry : IsEntry entry = record {
      field = place.field;
      index = place.index;
      sub = place.sub;
      flags = flags.known;
      state = flags.state;
      reset = flags.reset;
      value = fits;
    } in
    record {
      took = spelled_entry entry number bytes rest (kind_takes number (kind_of entry.value) kind
          ∙ sym (type_is entry.value)) took;
      are = record {
        each = All-push IsEntry before entry are.each is_entry;
        rising = all_pairs_push IsBelow before entry are.rising (after_all before entry are.rising after);
        one_state = one_state-push before entry are.one_state flags.first;
      };
    }

-- an entry that is read is spelled so, and has no fault after those before it
pub entry_takes : (before : List AtomField) (bytes : List ℕ) (x : AtomField × List ℕ)
    → IsBytes bytes
    → AreEntries before
    → entry_at before bytes ≡ Ok x
    → TakesEntry before bytes x.0 x.1
unfolding entry_at
entry_takes before (field ∷ index ∷ sub ∷ flags ∷ number ∷ bytes) x fits are read =
    let place : Place = record { field = field; index = index; sub = sub } in
    let rest_fits : IsBytes bytes = λ i. fits (suc (suc (suc (suc (suc i))))) in
    let in_range = choice-passed (not (is_in_range place)) reason_bad_place
    (if not (is_after_last before place) then Err reason_not_above else after_place before place flags number
    bytes) x read in
    let after = choice-passed (not (is_after_last before place)) reason_not_above
    (after_place before place flags number bytes) x in_range.1 in
    let kind = bind-ok (kind_at number) (after_flags before place flags bytes) x after.1 in
    let may = choice-passed (not (may_have (list_any is_exclusive before) place kind.0 flags)) reason_bad_flags
    (value_at kind.0 bytes >>= with_value place flags) x kind.2 in
    let value = bind-ok (value_at kind.0 bytes) (with_value place flags) x may.1 in
    let took = value_takes kind.0 bytes value.0 rest_fits value.1 in
    let entry : AtomField = record { field = field; index = index; sub = sub; flags = flags; value = value.0.0 } in
    let named : kind_at number ≡ Ok (kind_of entry.value) = kind.1 ∙ ap (λ (k : Kind). Ok k) (sym took.same) in
    let may_be : may_have (list_any is_exclusive before) (place_of entry) (kind_of entry.value) entry.flags ≡ true =
    rw took.same (not-false (may_have (list_any is_exclusive before) place kind.0 flags) may.0) in
    let whole = passes_all before entry number bytes value.0.1 are (not-false (is_in_range place) in_range.0)
    (not-false (is_after_last before place) after.0) named may_be took.took took.fits in
    subst (λ (y : AtomField × List ℕ). TakesEntry before (field ∷ index ∷ sub ∷ flags ∷ number ∷ bytes) y.0 y.1)
    (ok-same (entry, value.0.1) x value.2) whole
entry_takes before _ x fits are read = absurd cc

-- an entry without fault is read from its spelling
pub entry_again : (before : List AtomField) (entry : AtomField) (later : List AtomField) (rest : List ℕ)
    → IsEntry entry
    → AreEntries (before ++ entry ∷ later)
    → entry_at before (entry_bytes entry ++ rest) ≡ Ok (entry, rest)
unfolding entry_at
entry_again before entry later rest is are =
    let in_range : not (is_in_range (place_of entry)) ≡ false = not_from_true _ (in_range_again entry is) in
    let after : not (is_after_last before (place_of entry)) ≡ false =
    not_from_true _ (after_last_again before entry later are.rising) in
    let may : not (may_have (list_any is_exclusive before) (place_of entry) (kind_of entry.value) entry.flags)
    ≡ false = not_from_true _ (may_have_again before entry later is are.one_state) in
    rw (in_range, after, kind_again entry.value, may, value_again entry.value rest is.value) refl
