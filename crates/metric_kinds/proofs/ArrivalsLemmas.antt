-- Several arrivals at once, as at an interval's end or at a moment of sampling: for the proofs of producers of kinds in
-- which what comes is a key with its contribution.
use Rattle.std.proofs.Common.{◌≡◌, ℕ, ◌+◌, List, [], ◌∷◌, ◌++◌, map, refl, sym, ap, ◌∙◌, arith, append_assoc}
use Rattle.std.specs.Bool.{Decides}
use Rattle.std.proofs.lemmas.List.{append-nil, map-append}
use Rattle.bucket_meaning.specs.Marks.{Came, Books, after, books_from}
use Rattle.bucket_meaning.specs.Guard.{arrival_key, dropped}
use Rattle.bucket_meaning.specs.Rows.{Kind, drops}
use Rattle.bucket_meaning.proofs.GuardLemmas.{dropped-grows}

module _ {K C R : Type 0} (kind : Kind (K × C) K C R) (bound : ℕ) where
  -- how many of these are dropped in a part
  abbrev pub dropped_of : List (K × C) → ℕ
  dropped_of came = dropped kind.same bound (map arrival_key came)

  -- What arrivals make of the books: they come after those that came, and those of them that are dropped are counted.
  pub record HaveCome (books new : Books (K × C)) (arrivals : List (K × C)) : Type 0 where
    pub start : new.start ≡ books.start
    pub came : new.came ≡ books.came ++ arrivals
    pub closed : new.closed ≡ books.closed
    pub counted : new.dropped + dropped_of books.came ≡ books.dropped + dropped_of (books.came ++ arrivals)
    pub missing : new.missing ≡ books.missing

  module _ (exact : (one other : K) → Decides (kind.same one other) (one ≡ other))
      (keys : (came : List (K × C)) → kind.keys came ≡ map arrival_key came) where
    -- what the books count of one arrival
    one_counts : (books : Books (K × C)) (arrival : K × C)
        → let new = after (drops kind bound) books (Came arrival) in
        new.dropped + dropped_of books.came ≡ books.dropped + dropped_of (books.came ++ arrival ∷ [])
    one_counts books arrival =
        let before = ap (dropped kind.same bound) (keys books.came) in
        let now = ap (dropped kind.same bound) (keys (books.came ++ arrival ∷ [])) in
        let pushed = ap (dropped kind.same bound) (map-append arrival_key books.came (arrival ∷ [])) in
        let grows = dropped-grows kind.same exact bound (map arrival_key books.came) arrival.0 in
        omega (arith, before, now, pushed, grows)

    -- The books after several arrivals at once.
    pub have_come : (books : Books (K × C)) (arrivals : List (K × C))
        → HaveCome books (books_from (drops kind bound) books (map Came arrivals)) arrivals
    have_come books [] = record {
      start = refl;
      came = sym (append-nil books.came);
      closed = refl;
      counted = ap (λ came. books.dropped + dropped_of came) (sym (append-nil books.came));
      missing = refl;
    }
    have_come books (arrival ∷ arrivals) =
        let next = after (drops kind bound) books (Came arrival) in
        let rest = have_come next arrivals in
        let one = one_counts books arrival in
        let joined_up = append_assoc books.came (arrival ∷ []) arrivals in
        let all = ap dropped_of joined_up in
        record {
          start = rest.start;
          came = rest.came ∙ joined_up;
          closed = rest.closed;
          counted = omega (arith, rest.counted, one, all);
          missing = rest.missing;
        }
