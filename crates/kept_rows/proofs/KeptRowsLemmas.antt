-- The kept rows after some rows more.
use Rattle.std.proofs.Common.{◌≡◌, ℕ, ◌+◌, ◌-◌, ◌^◌, ◌<◌, ◌≤◌, min, if◌then◌else◌, List, [], ◌∷◌, ◌++◌, length, refl, sym, ap, subst, ◌∙◌, arith, ⊎_elim}
use Rattle.std.specs.List.{sum_by}
use Rattle.std.proofs.lemmas.Bool.{le-leb, lt-leb, cases_lt}
use Rattle.std.proofs.lemmas.List.{length-append}
use Rattle.std.proofs.lemmas.List.Sums.{sum_by-cons, sum_by_push}
use Rattle.bucket_meaning.specs.Kept.{kept, count_in_u64, most_weight}
use Rattle.kept_rows.specs.KeptRows.{Keeping, nothing_kept, HasRoom, IsKept, AddsRows}

module _ {R : Type 0} (weight : R → ℕ) where
  -- rows that fit together are all kept
  kept_all : (room : ℕ) (rows : List R) → sum_by weight rows ≤ room → kept weight room rows ≡ rows
  kept_all room [] fits = refl
  kept_all room (row ∷ rows) fits =
      let sum = sum_by-cons weight row rows in
      ap (λ b. if b then row ∷ kept weight (room - weight row) rows else []) (le-leb (weight row) room (omega arith))
      ∙ ap (λ l. row ∷ l) (kept_all (room - weight row) rows (omega arith))

  -- the first row that doesn't fit ends what is kept
  kept_stop : (room : ℕ) (rows others : List R) (row : R) → sum_by weight rows ≤ room
      → room < sum_by weight rows + weight row → kept weight room (rows ++ row ∷ others) ≡ rows
  kept_stop room [] others row fits past =
      ap (λ b. if b then row ∷ kept weight (room - weight row) others else [])
      (lt-leb (weight row) room (omega arith))
  kept_stop room (first ∷ rows) others row fits past =
      let sum = sum_by-cons weight first rows in
      ap (λ b. if b then first ∷ kept weight (room - weight first) (rows ++ row ∷ others) else [])
      (le-leb (weight first) room (omega arith))
      ∙ ap (λ l. first ∷ l) (kept_stop (room - weight first) rows others row (omega arith) (omega arith))

  -- no more rows are kept than there are
  pub kept_short : (room : ℕ) (rows : List R) → length (kept weight room rows) ≤ length rows
  kept_short room [] = omega arith
  kept_short room (row ∷ rows) = ⊎_elim
      (λ (past : room < weight row). subst (λ b. length (if b then row ∷ kept weight (room - weight row) rows else [])
      ≤ length (row ∷ rows)) (sym (lt-leb (weight row) room past)) (omega arith))
      (λ (fits : weight row ≤ room). let rest = kept_short (room - weight row) rows in
      subst (λ b. length (if b then row ∷ kept weight (room - weight row) rows else []) ≤ length (row ∷ rows))
      (sym (le-leb (weight row) room fits)) (omega arith))
      (cases_lt room (weight row))

  -- where as many are kept as there are, all are
  kept_whole : (room : ℕ) (rows : List R) → length rows ≤ length (kept weight room rows)
      → kept weight room rows ≡ rows
  kept_whole room [] long = refl
  kept_whole room (row ∷ rows) long = ⊎_elim
      (λ (past : room < weight row). absurd
      (let none = subst (λ b. length (row ∷ rows) ≤ length
      (if b then row ∷ kept weight (room - weight row) rows else []))
      (lt-leb (weight row) room past) long in omega (arith, none)))
      (λ (fits : weight row ≤ room).
      let some = subst (λ b. length (row ∷ rows) ≤ length
      (if b then row ∷ kept weight (room - weight row) rows else []))
      (le-leb (weight row) room fits) long in
      ap (λ b. if b then row ∷ kept weight (room - weight row) rows else []) (le-leb (weight row) room fits)
      ∙ ap (λ l. row ∷ l) (kept_whole (room - weight row) rows (omega (arith, some))))
      (cases_lt room (weight row))

  -- where a row isn't kept, none after it is
  kept_stays : (room : ℕ) (rows more : List R) → length (kept weight room rows) < length rows
      → kept weight room (rows ++ more) ≡ kept weight room rows
  kept_stays room [] more short = absurd (omega (arith, short))
  kept_stays room (row ∷ rows) more short = ⊎_elim
      (λ (past : room < weight row).
      ap (λ b. if b then row ∷ kept weight (room - weight row) (rows ++ more) else []) (lt-leb (weight row) room past)
      ∙ sym (ap (λ b. if b then row ∷ kept weight (room - weight row) rows else []) (lt-leb (weight row) room past)))
      (λ (fits : weight row ≤ room).
      let less = subst (λ b. length (if b then row ∷ kept weight (room - weight row) rows else []) < length
      (row ∷ rows))
      (le-leb (weight row) room fits) short in
      ap (λ b. if b then row ∷ kept weight (room - weight row) (rows ++ more) else []) (le-leb (weight row) room fits)
      ∙ ap (λ l. row ∷ l) (kept_stays (room - weight row) rows more (omega (arith, less)))
      ∙ sym (ap (λ b. if b then row ∷ kept weight (room - weight row) rows else []) (le-leb (weight row) room fits)))
      (cases_lt room (weight row))

  -- no row was closed yet
  pub none_yet : IsKept weight [] nothing_kept
  none_yet = record { rows = refl; used = refl; others = refl }

  -- where no other row was counted, all rows are kept
  pub all_kept : (all : List R) (it : Keeping R) → IsKept weight all it → it.others ≡ 0 → it.rows ≡ all
  all_kept all it is none =
      let long : length all ≤ length it.rows = omega (arith, is.others, none) in
      is.rows ∙ kept_whole most_weight all (subst (λ rows. length all ≤ length rows) is.rows long)

  -- a row that fits is kept
  pub keeps : (it : Keeping R) (row : R) (used : ℕ) → it.others ≡ 0 → it.used + weight row ≤ most_weight
      → used ≡ it.used + weight row
      → AddsRows weight it (record { rows = it.rows ++ row ∷ []; used = used; others = it.others }) (row ∷ [])
  keeps it row used none fits used_is all is =
      let whole : it.rows ≡ all = all_kept all it is none in
      let weighs : sum_by weight all ≡ it.used = ap (sum_by weight) (sym whole) ∙ sym is.used in
      let sum = sum_by_push weight all row in
      let here = sum_by_push weight it.rows row in
      let size = length-append all (row ∷ []) in
      let kept_size = length-append it.rows (row ∷ []) in
      record {
        rows = ap (λ l. l ++ row ∷ []) whole
            ∙ sym (kept_all most_weight (all ++ row ∷ []) (omega (arith, sum, weighs, fits)));
        used = omega (arith, here, used_is, is.used);
        others = omega (arith, is.others, none, size, kept_size);
      }

  -- the first row that doesn't fit is counted
  pub fills : (it : Keeping R) (row : R) (others : ℕ) → it.others ≡ 0 → it.used ≤ most_weight
      → most_weight < it.used + weight row → others ≡ min (it.others + 1) (2 ^ 64 - 1)
      → AddsRows weight it (record { rows = it.rows; used = it.used; others = others }) (row ∷ [])
  fills it row others none bounded past others_are all is =
      let whole : it.rows ≡ all = all_kept all it is none in
      let weighs : sum_by weight all ≡ it.used = ap (sum_by weight) (sym whole) ∙ sym is.used in
      let same : length it.rows ≡ length all = ap length whole in
      let size = length-append all (row ∷ []) in
      record {
        rows = whole ∙ sym
            (kept_stop most_weight all [] row (omega (arith, weighs, bounded)) (omega (arith, weighs, past)));
        used = is.used;
        others = omega (arith, others_are, none, same, size);
      }

  -- once a row wasn't kept, later ones are counted alone, many at a time
  pub passes : (it : Keeping R) (more : List R) (number others : ℕ) → 0 < it.others
      → count_in_u64 (length more) ≡ number → others ≡ min (it.others + number) (2 ^ 64 - 1)
      → AddsRows weight it (record { rows = it.rows; used = it.used; others = others }) more
  passes it more number others some number_is others_are all is =
      let less : length it.rows < length all = omega (arith, is.others, some) in
      let short : length (kept weight most_weight all) < length all =
      subst (λ rows. length rows < length all) is.rows less in
      let size = length-append all more in
      record {
        rows = is.rows ∙ sym (kept_stays most_weight all more short);
        used = is.used;
        others = omega (arith, is.others, others_are, less, size, number_is);
      }

  -- a row that finds no room is counted, whether an earlier one did or not
  pub turns_away : (it : Keeping R) (row : R) (size others : ℕ) → weight row ≡ size → ¬ HasRoom it size
      → it.used ≤ most_weight → others ≡ min (it.others + 1) (2 ^ 64 - 1)
      → AddsRows weight it (record { rows = it.rows; used = it.used; others = others }) (row ∷ [])
  turns_away it row size others size_is no_room bounded others_are = ⊎_elim
      (λ (some : 0 < it.others). passes it (row ∷ []) 1 others some refl others_are)
      (λ (none : it.others ≤ 0).
      let all_fit : it.others ≡ 0 = omega (arith, none) in
      ⊎_elim
      (λ (past : most_weight < it.used + size).
      fills it row others all_fit bounded (omega (arith, past, size_is)) others_are)
      (λ (fits : it.used + size ≤ most_weight).
      absurd (no_room (record { none_turned_away = all_fit; fits = fits })))
      (cases_lt most_weight (it.used + size)))
      (cases_lt 0 it.others)
