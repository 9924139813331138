-- Entries are read one after the other, for the loop of `entries_of`: each takes a byte at least,
-- so turns that are left over change nothing.
use Rattle.std.proofs.Common.{◌≡◌, ℕ, zero, suc, ◌≤◌, ◌<◌, Bool, true, false, not, ◌||◌, List, [], ◌∷◌, ◌++◌, length, take, drop, Option, Result, Ok, Err, refl, ap, ◌∙◌, arith, length-drop}
use Rattle.std.proofs.lemmas.List.Folds.{list_any-append}
use Rattle.std.specs.Prelude.{nat_lt, ◌==◌}
use Rattle.std.specs.Int.{Width, w16, w32, w64, byte_len, from_le_bytes}
use Rattle.std.specs.List.{list_any}
use Rattle.std.specs.Option.{ok_or, option_and_then}
use Rattle.std.specs.Result.{IfOk}
use Rattle.sd_base.specs.Reads.{◌>>=◌, FailsBy}
use Rattle.sd_base.specs.Numbers.{front_bytes}
use Rattle.sd_base.proofs.ReadsLemmas.{IfOk-bind, bind-agree, choice-holds}
use Rattle.atom_record.specs.declared.atom.AtomField.{AtomField}
use Rattle.atom_record.specs.declared.fault.AtomFault.{AtomFault}
use Rattle.atom_record.specs.declared.fault.AtomFault.TheVariants.{Bad, Memory}
use Rattle.atom_record.specs.declared.parse.Place.{Place}
use Rattle.atom_record.specs.declared.parse.Kind.{Kind}
use Rattle.atom_record.specs.declared.parse.Kind.TheVariants as kinds
use Rattle.atom_record.specs.Flags.{is_exclusive}
use Rattle.atom_record.specs.AtomReasons.{reason_cut}
use Rattle.atom_record.specs.AtomReading.{reason_of, number_at, text_at, bool_at, kind_at, value_at, is_in_range, is_after_last, may_have, entry_at, entries_in, entries_at}

-- what was read leaves so many bytes at most
abbrev pub Leaves : {X F : Type 0} → ℕ → Result (X × List ℕ) F → Type 0
Leaves most read = IfOk read (λ x. length x.1 ≤ most)

-- a reading after another leaves no more than it, if it leaves no more than what it is given
Leaves-then : {X Y F : Type 0} (most : ℕ) (read : Result (X × List ℕ) F) (next : X × List ℕ → Result (Y × List ℕ) F)
    → Leaves most read
    → ((x : X × List ℕ) → length x.1 ≤ most → Leaves most (next x))
    → Leaves most (read >>= next)
Leaves-then most read next p q = IfOk-bind read next (λ x. length x.1 ≤ most) (λ y. length y.1 ≤ most) p q

-- a number leaves no more bytes than there were
number_leaves : (width : Width) (bytes : List ℕ) → Leaves (length bytes) (number_at width bytes)
number_leaves width bytes =
    choice-holds (λ (found : Option (ℕ × List ℕ)). Leaves (length bytes) (ok_or found reason_cut))
    (nat_lt (length bytes) (byte_len width)) _ _ (λ _. tt) (λ _. omega (arith, length-drop (byte_len width) bytes))

-- a truth leaves no more bytes than there were
bool_leaves : (bytes : List ℕ) → Leaves (length bytes) (bool_at bytes)
bool_leaves [] = tt
bool_leaves (byte ∷ bytes) =
    let leaves : Result (Bool × List ℕ) ℕ → Type 0 = Leaves (suc (length bytes)) in
    choice-holds leaves (byte == 0) _ _ (λ _. omega arith)
    (λ _. choice-holds leaves (byte == 1) _ _ (λ _. omega arith) (λ _. tt))

-- a text leaves no more bytes than there were
text_leaves : (bytes : List ℕ) → Leaves (length bytes) (text_at bytes)
unfolding text_at
text_leaves bytes =
    let size = byte_len w16 in
    let leaves : Option (ℕ × List ℕ) → Type 0 = λ count. Leaves (length bytes)
    (ok_or (option_and_then (λ c. front_bytes c.0 c.1) count) reason_cut) in
    choice-holds leaves (nat_lt (length bytes) size) _ _ (λ _. tt)
    (λ _. choice-holds (λ (found : Option (List ℕ × List ℕ)). Leaves (length bytes) (ok_or found reason_cut))
    (nat_lt (length (drop size bytes)) (from_le_bytes w16 (take size bytes))) _ _ (λ _. tt)
    (λ _. omega (
      arith,
      length-drop size bytes,
      length-drop (from_le_bytes w16 (take size bytes)) (drop size bytes),
    )))

-- a value leaves no more bytes than there were
value_leaves : (kind : Kind) (bytes : List ℕ) → Leaves (length bytes) (value_at kind bytes)
unfolding value_at
value_leaves kinds.Int bytes = Leaves-then (length bytes) (number_at w32 bytes) _ (number_leaves w32 bytes) (λ n le. le)
value_leaves kinds.Long bytes =
    Leaves-then (length bytes) (number_at w64 bytes) _ (number_leaves w64 bytes) (λ n le. le)
value_leaves kinds.Bool bytes = Leaves-then (length bytes) (bool_at bytes) _ (bool_leaves bytes) (λ n le. le)
value_leaves kinds.Str bytes = Leaves-then (length bytes) (text_at bytes) _ (text_leaves bytes) (λ n le. le)
value_leaves kinds.Raw bytes = Leaves-then (length bytes) (text_at bytes) _ (text_leaves bytes) (λ n le. le)
value_leaves kinds.Bits32 bytes =
    Leaves-then (length bytes) (number_at w32 bytes) _ (number_leaves w32 bytes) (λ n le. le)

-- a reading after a step that takes no bytes
Leaves-after : {A Y F : Type 0} (most : ℕ) (read : Result A F) (next : A → Result (Y × List ℕ) F)
    → ((x : A) → Leaves most (next x))
    → Leaves most (read >>= next)
Leaves-after most (Ok x) next p = p x
Leaves-after most (Err fault) next p = tt

-- an entry takes a byte at least
entry_leaves : (before : List AtomField) (byte : ℕ) (bytes : List ℕ)
    → Leaves (length bytes) (entry_at before (byte ∷ bytes))
unfolding entry_at
entry_leaves before field (index ∷ sub ∷ flags ∷ number ∷ bytes) =
    let place : Place = record { field = field; index = index; sub = sub } in
    let leaves : Result (AtomField × List ℕ) ℕ → Type 0 = Leaves (suc (suc (suc (suc (length bytes))))) in
    choice-holds leaves (not (is_in_range place)) _ _ (λ _. tt)
    (λ _. choice-holds leaves (not (is_after_last before place)) _ _ (λ _. tt)
    (λ _. Leaves-after (suc (suc (suc (suc (length bytes))))) (kind_at number) _
    (λ kind. choice-holds leaves (not (may_have (list_any is_exclusive before) place kind flags)) _ _ (λ _. tt)
    (λ _. IfOk-bind (value_at kind bytes) _ (λ value. length value.1 ≤ length bytes)
    (λ x. length x.1 ≤ suc (suc (suc (suc (length bytes))))) (value_leaves kind bytes) (λ value le. omega arith)))))
entry_leaves before field _ = tt

-- no entry is read where there is no byte
none_in_nothing : (before : List AtomField) (x : AtomField × List ℕ) → entry_at before [] ≡ Ok x → ⊥
unfolding entry_at
none_in_nothing before x read = cc

-- what is left after an entry is shorter
pub entry_shortens : (before : List AtomField) (bytes : List ℕ) (x : AtomField × List ℕ)
    → entry_at before bytes ≡ Ok x
    → length x.1 < length bytes
entry_shortens before [] x read = absurd (none_in_nothing before x read)
entry_shortens before (byte ∷ bytes) x read = let le = rw read at (entry_leaves before byte bytes) in omega arith

-- turns that aren't wanted change nothing
more_turns : (few many : ℕ) (before : List AtomField) (bytes : List ℕ)
    → length bytes ≤ few
    → length bytes ≤ many
    → entries_in few before bytes ≡ entries_in many before bytes
unfolding entries_in
more_turns zero zero before bytes p q = refl
more_turns zero (suc many) before [] p q = refl
more_turns zero (suc many) before (byte ∷ bytes) p q = absurd (omega arith)
more_turns (suc few) zero before [] p q = refl
more_turns (suc few) zero before (byte ∷ bytes) p q = absurd (omega arith)
more_turns (suc few) (suc many) before [] p q = refl
more_turns (suc few) (suc many) before (byte ∷ bytes) p q =
    bind-agree (entry_at before (byte ∷ bytes)) _ _ (λ x. length x.1 ≤ length bytes) (entry_leaves before byte bytes)
    (λ x le. more_turns few many (before ++ x.0 ∷ []) x.1 (omega arith) (omega arith))

-- one more entry is read
pub goes_on : (before : List AtomField) (bytes : List ℕ) (entry : AtomField) (after : List ℕ)
    → entry_at before bytes ≡ Ok (entry, after)
    → entries_at (before ++ entry ∷ []) after ≡ entries_at before bytes
unfolding entries_in
goes_on before [] entry after read = absurd (none_in_nothing before (entry, after) read)
goes_on before (byte ∷ bytes) entry after read =
    let shorter = entry_shortens before (byte ∷ bytes) (entry, after) read in
    let rest : entries_in (length after) (before ++ entry ∷ []) after ≡ entries_in (length bytes)
    (before ++ entry ∷ []) after =
    more_turns (length after) (length bytes) (before ++ entry ∷ []) after (omega arith) (omega arith) in
    rw read rest

-- the next entry has a fault
pub ends : (before : List AtomField) (bytes : List ℕ) (e : AtomFault)
    → 0 < length bytes
    → FailsBy (reason_of e) (entry_at before bytes)
    → FailsBy (reason_of e) (entries_at before bytes)
unfolding entries_in
ends before bytes Memory some failed = tt
ends before [] (Bad reason) some failed = absurd (omega arith)
ends before (byte ∷ bytes) (Bad reason) some failed = rw failed refl

-- no byte is left
pub is_done : (before : List AtomField) (bytes : List ℕ) → length bytes ≡ 0 → entries_at before bytes ≡ Ok before
unfolding entries_in
is_done before [] none = refl
is_done before (byte ∷ bytes) none = absurd (omega arith)

-- a truth or false is that truth
or_false : (b : Bool) → (b || false) ≡ b
or_false true = refl
or_false false = refl

-- whether there is an exclusive entry among those before and this one
pub any_exclusive-push : (before : List AtomField) (entry : AtomField)
    → list_any is_exclusive (before ++ entry ∷ []) ≡ (list_any is_exclusive before || is_exclusive entry)
any_exclusive-push before entry =
    list_any-append is_exclusive before (entry ∷ []) ∙ ap (λ b. list_any is_exclusive before || b)
    (or_false (is_exclusive entry))
