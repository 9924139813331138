-- Samples of a snapshot, as one moment takes them.
use Rattle.std.proofs.Common.{◌≡◌, ℕ, ◌+◌, List, [], ◌∷◌, ◌++◌, map, Option, Some, None, refl, sym, ap, subst, ◌∙◌, arith}
use Rattle.std.proofs.lemmas.List.{map-append}
use Rattle.atom_record.specs.declared.atom.Atom.{Atom}
use Rattle.atom_record.specs.declared.value.MetricKey.{MetricKey}
use Rattle.atom_record.specs.Equal.{metric_key_exact}
use Rattle.bucket_meaning.specs.Marks.{Came, Books, after, books_from}
use Rattle.bucket_meaning.specs.Rows.{drops}
use Rattle.bucket_meaning.specs.Kept.{count_in_u64}
use Rattle.bucket_meaning.proofs.MarksLemmas.{books-append}
use Rattle.dim_table.specs.Table.{Table}
use Rattle.metric_kinds.specs.Gauges.{gauge_kind}
use Rattle.metric_kinds.proofs.ArrivalsLemmas.{have_come}
use Rattle.metric_kinds.proofs.JumpLemmas.{books_at}
use Rattle.gauge_metric.specs.declared.gauge.KeyedAtom.{KeyedAtom}
use Rattle.gauge_metric.specs.GaugeStands.{AreSampled, TakesSample}
use Rattle.gauge_metric.specs.PulledSampling.{keyed, moment_marks}
use Rattle.gauge_metric.specs.PulledStands.{TakesSamples, Brings}

-- no sample came yet
pub takes_none : (samples : ℕ) (table : Table MetricKey (List Atom)) → TakesSamples samples table table []
takes_none samples table = record { bound = refl; sampled_are = λ books is. is }

-- one more sample came
pub takes_more : (samples : ℕ) (old mid new : Table MetricKey (List Atom)) (done : List KeyedAtom) (event : KeyedAtom)
    → TakesSamples samples old mid done → TakesSample samples mid new event
    → TakesSamples samples old new (done ++ event ∷ [])
takes_more samples old mid new done event so_far one = record {
  bound = one.bound ∙ so_far.bound;
  sampled_are = λ books is.
      let drop = drops (gauge_kind samples) old.bound in
      let what : MetricKey × Atom = (event.key, event.atom) in
      let first : Books (MetricKey × Atom) = books_from drop books (map Came (keyed done)) in
      let last : Books (MetricKey × Atom) = after drop first (Came what) in
      let taken : AreSampled samples new last.came last.dropped =
      subst (λ n. AreSampled samples new (first.came ++ what ∷ [])
      (first.dropped + drops (gauge_kind samples) n first.came what)) so_far.bound
      (one.sampled_are first.came first.dropped (so_far.sampled_are books is)) in
      let marks : map Came (keyed (done ++ event ∷ [])) ≡ map Came (keyed done) ++ Came what ∷ [] =
      ap (map Came) (map-append (λ (sample : KeyedAtom). (sample.key, sample.atom)) done (event ∷ []))
      ∙ map-append Came (keyed done) (what ∷ []) in
      subst (λ (later : Books (MetricKey × Atom)). AreSampled samples new later.came later.dropped)
      (sym (ap (books_from drop books) marks
      ∙ books-append drop books (map Came (keyed done)) (Came what ∷ []))) taken;
}

-- a moment without a snapshot
pub brings_none : (samples : ℕ) (table : Table MetricKey (List Atom))
    → Brings samples table table None (record { lost = 0; missed = 1 })
brings_none samples table = record {
  bound = refl;
  brings = λ books is no_drop no_missing. record {
    sampled_are = is;
    lost = sym (ap count_in_u64 no_drop);
    missed = sym (ap (λ n. count_in_u64 (n + 1)) no_missing);
  };
}

-- a moment with a snapshot, whose drops the table counted and handed over
pub brings_some : (samples : ℕ) (old mid new : Table MetricKey (List Atom)) (events : List KeyedAtom) (lost : ℕ)
    → TakesSamples samples old mid events → new ≡ record mid { dropped = 0 } → lost ≡ mid.dropped
    → Brings samples old new (Some events) (record { lost = lost; missed = 0 })
brings_some samples old mid new events lost takes left given = record {
  bound = ap (λ (table : Table MetricKey (List Atom)). table.bound) left ∙ takes.bound;
  brings = λ books is no_drop no_missing.
      let later : Books (MetricKey × Atom) =
      books_from (drops (gauge_kind samples) old.bound) books (moment_marks (Some events)) in
      let taken : AreSampled samples mid later.came later.dropped =
      takes.sampled_are books (subst (AreSampled samples old books.came) (sym no_drop) is) in
      let have = have_come (gauge_kind samples) old.bound metric_key_exact (λ came. refl) books (keyed events) in
      record {
        sampled_are = subst (λ table. AreSampled samples table later.came 0) (sym left)
            (record { rows = taken.rows; dropped_are = refl });
        lost = given ∙ taken.dropped_are;
        missed = sym (ap count_in_u64 (have.missing ∙ no_missing));
      };
}

-- What marks that don't end a part make of books, beside what they make of books of no drops and no missing snapshot.
pub record AreApart (books later bare : Books (MetricKey × Atom)) : Type 0 where
  pub start : later.start ≡ books.start
  pub came : later.came ≡ bare.came
  pub closed : later.closed ≡ books.closed
  pub dropped : later.dropped ≡ books.dropped + bare.dropped
  pub missing : later.missing ≡ books.missing + bare.missing

-- a moment adds the same drops and missing snapshots, however many there were
pub moment_apart : (samples bound : ℕ) (books : Books (MetricKey × Atom)) (found : Option (List KeyedAtom))
    → AreApart books (books_from (drops (gauge_kind samples) bound) books (moment_marks found))
    (books_from (drops (gauge_kind samples) bound) (books_at books.start books.came books.closed 0 0)
    (moment_marks found))
moment_apart samples bound books None = record {
  start = refl;
  came = refl;
  closed = refl;
  dropped = omega arith;
  missing = omega arith;
}
moment_apart samples bound books (Some events) =
    let kind = gauge_kind samples in
    let none : Books (MetricKey × Atom) = books_at books.start books.came books.closed 0 0 in
    let all = have_come kind bound metric_key_exact (λ came. refl) books (keyed events) in
    let bare = have_come kind bound metric_key_exact (λ came. refl) none (keyed events) in
    let counted = all.counted in
    let counted_bare = bare.counted in
    let missing = all.missing in
    let missing_bare = bare.missing in
    record {
      start = all.start;
      came = all.came ∙ sym bare.came;
      closed = all.closed;
      dropped = omega (arith, counted, counted_bare);
      missing = omega (arith, missing, missing_bare);
    }
