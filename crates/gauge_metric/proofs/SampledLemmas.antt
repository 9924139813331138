-- The samples of a part, one more at a time.
use Rattle.std.proofs.Common.{◌≡◌, ℕ, zero, suc, ◌<◌, ◌≤◌, true, false, ◌||◌, nat_lt, if◌then◌else◌, List, [], ◌∷◌, ◌++◌, map, take, length, slice_get, Some, refl, sym, ap, ◌∙◌, arith, inl, ⊎_elim}
use Rattle.std.specs.Map.{values_of}
use Rattle.std.proofs.lemmas.Bool.{cases_Bool, cases_lt, lt-ltb, le-ltb, false≢true}
use Rattle.std.proofs.lemmas.List.{length-take, take_all}
use Rattle.std.proofs.Math.Seq.{take-nil}
use Rattle.atom_record.specs.declared.atom.Atom.{Atom}
use Rattle.atom_record.specs.declared.value.MetricKey.{MetricKey}
use Rattle.atom_record.specs.Equal.{metric_key_exact}
use Rattle.bucket_meaning.specs.Guard.{is_among, firsts, admitted, of_key, arrival_key}
use Rattle.bucket_meaning.proofs.GuardLemmas.{is_among-firsts}
use Rattle.dim_table.specs.declared.answer.Admit.TheVariants.{At}
use Rattle.dim_table.specs.Table.{Table, keys, Admits, IsTurnedAway, set_value_at, with_value_at}
use Rattle.metric_producer.proofs.KeysLemmas.{of_other, of_own}
use Rattle.metric_producer.proofs.TableLemmas.{IsTabled, admits_bound, tabled_at, tabled_away}
use Rattle.metric_kinds.specs.Keys.{is_same_key}
use Rattle.metric_kinds.proofs.KindsLemmas.{samples-push, samples-full}
use Rattle.gauge_metric.specs.declared.gauge.KeyedAtom.{KeyedAtom}
use Rattle.gauge_metric.specs.GaugeStands.{key_samples, with_sample, sampled, AreSampled, TakesSample, HaveSamples}

-- with one more sample
abbrev with_arrival : List (MetricKey × Atom) → MetricKey → Atom → List (MetricKey × Atom)
with_arrival came key atom = came ++ (key, atom) ∷ []

-- the first of some atoms and one more
one_more : (samples : ℕ) (atoms : List Atom) (atom : Atom)
    → take samples (atoms ++ atom ∷ []) ≡ with_sample samples (take samples atoms) atom
one_more samples atoms atom = ⊎_elim
    (λ (room : length atoms < samples).
    let all : take samples atoms ≡ atoms = take_all samples atoms (omega arith) in
    samples-push samples atoms atom room
    ∙ ap (λ b. if b then take samples atoms ++ atom ∷ [] else take samples atoms)
    (sym (ap (λ l. nat_lt (length l) samples) all ∙ lt-ltb (length atoms) samples room)))
    (λ (full : samples ≤ length atoms).
    let size = length-take samples atoms in
    samples-full samples atoms atom full
    ∙ ap (λ b. if b then take samples atoms ++ atom ∷ [] else take samples atoms)
    (sym (le-ltb (length (take samples atoms)) samples (omega arith))))
    (cases_lt (length atoms) samples)

-- another key's samples stay
samples_other : (samples : ℕ) (came : List (MetricKey × Atom)) (key : MetricKey) (atom : Atom) (other : MetricKey)
    → is_same_key key other ≡ false
    → key_samples samples (with_arrival came key atom) other ≡ key_samples samples came other
samples_other samples came key atom other differ =
    ap (take samples) (of_other is_same_key came key other atom differ)

-- the key's own samples have one more, where there is room
samples_own : (samples : ℕ) (came : List (MetricKey × Atom)) (key : MetricKey) (atom : Atom)
    → key_samples samples (with_arrival came key atom) key ≡ with_sample samples (key_samples samples came key) atom
samples_own samples came key atom =
    ap (take samples) (of_own is_same_key metric_key_exact came key atom)
    ∙ one_more samples (of_key is_same_key key came) atom

-- a key that didn't come has no sample
samples_none : (samples : ℕ) (came : List (MetricKey × Atom)) (key : MetricKey) → of_key is_same_key key came ≡ []
    → key_samples samples came key ≡ []
samples_none samples came key none = ap (take samples) none ∙ take-nil samples

-- the samples are the table of these lists
tabled : (samples : ℕ) (table : Table MetricKey (List Atom)) (came : List (MetricKey × Atom)) (lost : ℕ)
    → AreSampled samples table came lost → IsTabled is_same_key metric_key_exact (key_samples samples) table came lost
tabled samples table came lost is = record { rows = is.rows; dropped_are = is.dropped_are }

-- a key at a place, which got a sample
pub sampled_at : (samples : ℕ) (old mid : Table MetricKey (List Atom)) (event : KeyedAtom) (place : ℕ)
    (new : Table MetricKey (List Atom))
    → Admits old mid event.key [] (At place) → new.bound ≡ mid.bound
    → ((was : List Atom) → slice_get (values_of mid.rows) place ≡ Some was
    → new ≡ with_value_at mid place (with_sample samples was event.atom))
    → TakesSample samples old new event
sampled_at samples old mid event place new admits bound added = record {
  bound = bound ∙ admits_bound old mid event.key [] place admits;
  sampled_are = λ came lost is.
      let it = tabled_at is_same_key metric_key_exact (key_samples samples) old came lost
      (tabled samples old came lost is) event.key event.atom
      (samples_other samples came event.key event.atom) mid new [] place
      (λ was. with_sample samples was event.atom) admits bound added (samples_own samples came event.key event.atom)
      (samples_none samples came event.key) in
      record { rows = it.rows; dropped_are = it.dropped_are };
}

-- a row with the value that it has
same_there : (rows : List (MetricKey × List Atom)) (place : ℕ) (was : List Atom)
    → slice_get (values_of rows) place ≡ Some was → rows ≡ set_value_at rows place was
same_there [] place was is = absurd (cc)
same_there (row ∷ rows) zero was is =
    let value : row.1 ≡ was = cc in ap (λ v. (row.0, v) ∷ rows) value
same_there (row ∷ rows) (suc place) was is = ap (λ l. row ∷ l) (same_there rows place was is)

-- a key at a place, which has all its samples
pub sampled_full : (samples : ℕ) (table : Table MetricKey (List Atom)) (event : KeyedAtom) (place : ℕ)
    → slice_get (keys table) place ≡ Some event.key
    → ((was : List Atom) → slice_get (values_of table.rows) place ≡ Some was → samples ≤ length was)
    → TakesSample samples table table event
sampled_full samples table event place there full =
    sampled_at samples table table event place table (inl (record { at = there; same = refl })) refl
    (λ was is.
    ap (λ rows. record table { rows = rows }) (same_there table.rows place was is)
    ∙ ap (λ b. with_value_at table place (if b then was ++ event.atom ∷ [] else was))
    (sym (le-ltb (length was) samples (full was is))))

-- a new key for which there is no room
pub sampled_none : (samples : ℕ) (old new : Table MetricKey (List Atom)) (event : KeyedAtom)
    → IsTurnedAway old new event.key → TakesSample samples old new event
sampled_none samples old new event away = record {
  bound = ap (λ (table : Table MetricKey (List Atom)). table.bound) away.added;
  sampled_are = λ came lost is.
      let it = tabled_away is_same_key metric_key_exact (key_samples samples) old came lost
      (tabled samples old came lost is) event.key event.atom
      (samples_other samples came event.key event.atom) new away in
      record { rows = it.rows; dropped_are = it.dropped_are };
}

-- a key that came has an atom
some_of_key : (came : List (MetricKey × Atom)) (key : MetricKey)
    → is_among is_same_key key (map arrival_key came) ≡ true → 1 ≤ length (of_key is_same_key key came)
some_of_key [] key among = absurd (false≢true among)
some_of_key (first ∷ came) key among = ⊎_elim
    (λ (here : is_same_key first.0 key ≡ true).
    let size : length (of_key is_same_key key (first ∷ came)) ≡ suc (length (of_key is_same_key key came)) =
    ap (λ b. length (if b then first.1 ∷ of_key is_same_key key came else of_key is_same_key key came)) here in
    omega (arith, size))
    (λ (other : is_same_key first.0 key ≡ false).
    let size : length (of_key is_same_key key (first ∷ came)) ≡ length (of_key is_same_key key came) =
    ap (λ b. length (if b then first.1 ∷ of_key is_same_key key came else of_key is_same_key key came)) other in
    let later : is_among is_same_key key (map arrival_key came) ≡ true =
    sym (ap (λ b. b || is_among is_same_key key (map arrival_key came)) other) ∙ among in
    let rest = some_of_key came key later in
    omega (arith, size, rest))
    (cases_Bool (is_same_key first.0 key))

-- what is among the first of some keys is among them
among_take : (key : MetricKey) (n : ℕ) (keys : List MetricKey) → is_among is_same_key key (take n keys) ≡ true
    → is_among is_same_key key keys ≡ true
among_take key zero keys e = absurd (false≢true e)
among_take key (suc n) [] e = absurd (false≢true e)
among_take key (suc n) (first ∷ keys) e = grind (arith, among_take key n keys)

-- an admitted key came
admitted_came : (bound : ℕ) (keys : List MetricKey) (key : MetricKey)
    → is_among is_same_key key (admitted is_same_key bound keys) ≡ true → is_among is_same_key key keys ≡ true
admitted_came bound keys key among =
    sym (is_among-firsts is_same_key metric_key_exact key [] keys)
    ∙ among_take key bound (firsts is_same_key [] keys) among

-- each of these keys has a sample, where each of them came
have_each : (samples : ℕ) (came : List (MetricKey × Atom)) (ks : List MetricKey) → 1 ≤ samples
    → ((key : MetricKey) → is_among is_same_key key ks ≡ true
    → is_among is_same_key key (map arrival_key came) ≡ true)
    → HaveSamples (map (λ key. (key, key_samples samples came key)) ks)
have_each samples came [] some each = tt
have_each samples came (first ∷ ks) some each =
    let self : is_same_key first first ≡ true = (metric_key_exact first first).1 refl in
    let here = some_of_key came first (each first (ap (λ b. b || is_among is_same_key first ks) self)) in
    let size = length-take samples (of_key is_same_key first came) in (
      omega (arith, some, here, size),
      have_each samples came ks some (λ key among. each key (grind (arith, among))),
    )

-- each admitted key has a sample
pub have_samples : (samples bound : ℕ) (came : List (MetricKey × Atom)) → 1 ≤ samples
    → HaveSamples (sampled samples bound came)
have_samples samples bound came some =
    have_each samples came (admitted is_same_key bound (map arrival_key came)) some
    (admitted_came bound (map arrival_key came))

-- of keys that have samples, those before the last have some too, and so has the last
pub have_front : (rows : List (MetricKey × List Atom)) (last : MetricKey × List Atom) → HaveSamples (rows ++ last ∷ [])
    → HaveSamples rows × (1 ≤ length last.1)
have_front [] last have = (tt, have.0)
have_front (first ∷ rows) last have = let rest = have_front rows last have.1 in ((have.0, rest.0), rest.1)
