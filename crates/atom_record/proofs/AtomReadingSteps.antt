-- The steps of reading an entry, for the code that takes them: what the whole gives where the next step fails,
-- and where all are taken.
use Rattle.std.proofs.Common.{◌≡◌, ℕ, ◌-◌, ◌≤◌, true, false, List, ◌∷◌, length, length-drop, get_or, take, drop, take_all, drop-cons, Option, Some, None, Result, Ok, Err, refl, ap, ◌∙◌, arith}
use Rattle.std.specs.List.{list_any}
use Rattle.sd_base.specs.Reads.{◌>>=◌, FailsBy}
use Rattle.atom_record.specs.declared.atom.AtomField.{AtomField}
use Rattle.atom_record.specs.declared.value.Value.{Value}
use Rattle.atom_record.specs.declared.parse.Place.{Place}
use Rattle.atom_record.specs.declared.parse.Kind.{Kind}
use Rattle.atom_record.specs.AtomReasons.{reason_bad_place, reason_not_above, reason_bad_flags}
use Rattle.atom_record.specs.Flags.{is_exclusive}
use Rattle.atom_record.specs.AtomReading.{kind_at, value_at, is_in_range, is_after_last, may_have, entry_at}
use Rattle.atom_record.proofs.AtomReadingEntries.{with_value, after_flags, after_place}

-- a fault of the first reading is that of the whole
fails_first : {A B F : Type 0} (fault : Option F) (read : Result A F) (next : A → Result B F)
    → FailsBy fault read
    → FailsBy fault (read >>= next)
fails_first None read next failed = tt
fails_first (Some f) read next failed = ap (λ r. r >>= next) failed

module _ (before : List AtomField) (bytes : List ℕ) (long : 5 ≤ length bytes) where
  -- where the entry stands
  abbrev place : Place
  place = record { field = get_or bytes 0 0; index = get_or bytes 1 0; sub = get_or bytes 2 0 }

  -- the flags
  abbrev flags : ℕ
  flags = get_or bytes 3 0

  -- the byte of the type
  abbrev number : ℕ
  number = get_or bytes 4 0

  -- what stands after the five leading bytes
  abbrev rest : List ℕ
  rest = take (length bytes - 5) (drop 5 bytes)

  -- the five leading bytes, and the rest
  parts : bytes ≡ get_or bytes 0 0 ∷ get_or bytes 1 0 ∷ get_or bytes 2 0 ∷ flags ∷ number ∷ rest
  parts =
      let first : bytes ≡ get_or bytes 0 0 ∷ drop 1 bytes = drop-cons bytes 0 0 (omega arith) in
      let second : drop 1 bytes ≡ get_or bytes 1 0 ∷ drop 2 bytes = drop-cons bytes 1 0 (omega arith) in
      let third : drop 2 bytes ≡ get_or bytes 2 0 ∷ drop 3 bytes = drop-cons bytes 2 0 (omega arith) in
      let fourth : drop 3 bytes ≡ flags ∷ drop 4 bytes = drop-cons bytes 3 0 (omega arith) in
      let fifth : drop 4 bytes ≡ number ∷ drop 5 bytes = drop-cons bytes 4 0 (omega arith) in
      let all : rest ≡ drop 5 bytes = take_all (length bytes - 5) (drop 5 bytes)
      (omega (arith, length-drop 5 bytes)) in
      cc

  -- the place isn't one of an entry
  pub bad_place : is_in_range place ≡ false → entry_at before bytes ≡ Err reason_bad_place
  unfolding entry_at
  bad_place range = ap (entry_at before) parts ∙ rw range refl

  module _ (range : is_in_range place ≡ true) where
    -- the place isn't above that of the last entry
    pub not_above : is_after_last before place ≡ false → entry_at before bytes ≡ Err reason_not_above
    unfolding entry_at
    not_above above = ap (entry_at before) parts ∙ rw (range, above) refl

    module _ (above : is_after_last before place ≡ true) where
      -- a good place is followed by the type
      judged : entry_at before bytes ≡ after_place before place flags number rest
      unfolding entry_at
      judged = ap (entry_at before) parts ∙ rw (range, above) refl

      -- the type has a fault
      pub bad_type : (fault : Option ℕ) → FailsBy fault (kind_at number) → FailsBy fault (entry_at before bytes)
      bad_type fault failed = rw judged
          (fails_first fault (kind_at number) (after_flags before place flags rest) failed)

      module _ (kind : Kind) (named : kind_at number ≡ Ok kind) where
        -- the flags have a fault
        pub bad_flags : may_have (list_any is_exclusive before) place kind flags ≡ false
            → entry_at before bytes ≡ Err reason_bad_flags
        bad_flags may = judged ∙ rw (named, may) refl

        module _ (may : may_have (list_any is_exclusive before) place kind flags ≡ true) where
          -- good flags are followed by the value
          typed : entry_at before bytes ≡ (value_at kind rest >>= with_value place flags)
          typed = judged ∙ rw (named, may) refl

          -- the value has a fault
          pub bad_value : (fault : Option ℕ) → FailsBy fault (value_at kind rest)
              → FailsBy fault (entry_at before bytes)
          bad_value fault failed = rw typed (fails_first fault (value_at kind rest) (with_value place flags) failed)

          -- all is read
          pub entry_read : (value : Value × List ℕ)
              → value_at kind rest ≡ Ok value
              → entry_at before bytes ≡ with_value place flags value
          entry_read value read = typed ∙ rw read refl
