-- A producer of pulled values takes no more bytes than its metric weighs.
use Rattle.std.proofs.Common.{◌≡◌, ℕ, ℤ, ◌+◌, ◌≤◌, List, [], ◌++◌, map, Option, Some, None, ap, subst, ◌∙◌, arith}
use Rattle.std.specs.List.{sum_by}
use Rattle.std.specs.Option.{option_map}
use Rattle.std.proofs.lemmas.List.Sums.{sum_by-cons}
use Rattle.atom_record.specs.declared.atom.Atom.{Atom}
use Rattle.atom_record.specs.declared.value.MetricKey.{MetricKey}
use Rattle.bucket_meaning.specs.Guard.{firsts, of_key, arrival_key}
use Rattle.config_links.specs.declared.linked.LMetric.{LMetric}
use Rattle.config_types.specs.declared.metric.Aggregation.TheVariants.{Sum}
use Rattle.config_types.specs.declared.parameters.DiffSpec.{DiffSpec}
use Rattle.flat_form.specs.Flat.{key_items, long_items, option_items}
use Rattle.metric_calls.proofs.PulledIntervalCallsLemmas.{remembered_now, found_is, open_is}
use Rattle.metric_calls.proofs.PulledValueCallsLemmas.{pulled_values_agree}
use Rattle.metric_calls.specs.Askings.{calls_by_steps}
use Rattle.metric_calls.specs.PulledValueCalls.{pulled_value_asking}
use Rattle.metric_kinds.specs.Diffs.{KeyedInts, key_sums}
use Rattle.metric_kinds.specs.Values.{aggregate_of}
use Rattle.metric_kinds.specs.Keys.{is_same_key}
use Rattle.metric_meaning.specs.Histories.{Installation, Step}
use Rattle.metric_meaning.specs.PulledIntervals.{open_interval}
use Rattle.metric_meaning.specs.PulledValueSteps.{with_pulled_key, pulled_integers, watched_integers}
use Rattle.metric_meaning.specs.SnapshotSteps.{snapshot_found, pulled_key}
use Rattle.metric_meaning.specs.ValueLeaves.{ValueLeaf, integer_in}
use Rattle.saved_weight.proofs.BooksLaws.{books_are}
use Rattle.saved_weight.proofs.EachLaws.{firsts_within, given_within}
use Rattle.saved_weight.proofs.SizeLaws.{full_size, full-append, full-list, full-none, full-some, full-key, sum_by-map, each_within}
use Rattle.saved_weight.proofs.ValueWithin.{full-long, values_in, value_books_within}
use Rattle.saved_weight.specs.Entries.{key_weight, key_entry}
use Rattle.saved_weight.specs.KindWeights.{pulled_entry, atoms_found, start_keys, pulled_value_weight}
use Rattle.value_metric.specs.BooksItems.{books_items}
use Rattle.value_metric.specs.PulledCollecting.{pulled_collecting}
use Rattle.value_metric.specs.PulledStands.{begun_sums, sums_found, PulledValueStandsFor}
use Rattle.value_metric.specs.PulledValueItems.{open_items, spec_items, pulled_value_items}
use Rattle.value_metric.specs.SumsItems.{sum_items, sums_items, found_items}
use Rattle.value_metric.specs.ValueBooksStand.{ValueForm}
use Rattle.value_metric.specs.declared.pulled_value.Open.{Open}
use Rattle.value_metric.specs.declared.pulled_value.Open.TheVariants.{Nothing, AtLast, Earlier}
use Rattle.value_metric.specs.declared.pulled_value.PulledValue.{PulledValue}

-- a key with its sum takes two numbers more than the key
sum_size : (sum : MetricKey × ℤ) → full_size (sum_items sum) ≡ 23 + key_weight sum.0
sum_size sum =
    let both = full-append (key_items sum.0) (long_items sum.1) in
    let key = full-key sum.0 in
    let long = full-long sum.1 in
    omega arith

-- the sums of integers take a number, and what each of their keys takes
sums_within : (integers : KeyedInts)
    → full_size (sums_items (key_sums integers))
    ≤ 9 + sum_by (λ key. 23 + key_weight key) (firsts is_same_key [] (map arrival_key integers))
sums_within integers =
    let keys = firsts is_same_key [] (map arrival_key integers) in
    let make : MetricKey → MetricKey × ℤ = λ key. (key, aggregate_of Sum (of_key is_same_key key integers)) in
    let size : MetricKey × ℤ → ℕ = λ sum. full_size (sum_items sum) in
    let all = full-list sum_items (key_sums integers) in
    let by_keys : sum_by size (key_sums integers) ≡ sum_by (λ key. size (make key)) keys = sum_by-map size make keys in
    let each = each_within (λ key. size (make key)) (λ key. 23 + key_weight key) keys
    (λ key. let one = sum_size (make key) in omega (arith, one)) in
    omega (arith, all, by_keys, each)

-- and no more than an entry for each of their keys
sums_entries : (integers : KeyedInts)
    → full_size (sums_items (key_sums integers))
    ≤ 9 + sum_by key_entry (firsts is_same_key [] (map arrival_key integers))
sums_entries integers =
    let keys = firsts is_same_key [] (map arrival_key integers) in
    let sums = sums_within integers in
    let each = each_within (λ key. 23 + key_weight key) key_entry keys (λ key. omega arith) in
    omega (arith, sums, each)

-- the integer of an atom takes no more than the atom's entry
pulled_within : (metric : LMetric) (atom : Atom) (integer : Option ℤ)
    → sum_by (λ (int : MetricKey × ℤ). 23 + key_weight int.0) (with_pulled_key metric atom integer)
    ≤ pulled_entry metric atom
pulled_within metric atom None = omega arith
pulled_within metric atom (Some integer) =
    let one = sum_by-cons (λ (int : MetricKey × ℤ). 23 + key_weight int.0) (pulled_key metric atom, integer) [] in
    omega arith

-- the sums of a snapshot's integers take no more than its atoms' entries
atoms_within : (metric : LMetric) (source : ValueLeaf) (atoms : List Atom)
    → full_size (sums_items (key_sums (pulled_integers metric source atoms)))
    ≤ 9 + sum_by (pulled_entry metric) atoms
atoms_within metric source atoms =
    let integers = pulled_integers metric source atoms in
    let keys = map arrival_key integers in
    let weight : MetricKey → ℕ = λ key. 23 + key_weight key in
    let sums = sums_within integers in
    let once = firsts_within is_same_key weight [] keys in
    let by_keys : sum_by weight keys ≡ sum_by (λ (int : MetricKey × ℤ). weight int.0) integers =
    sum_by-map weight arrival_key integers in
    let each = given_within (λ atom. with_pulled_key metric atom (integer_in source atom))
    (λ (int : MetricKey × ℤ). weight int.0) (pulled_entry metric) atoms
    (λ atom. pulled_within metric atom (integer_in source atom)) in
    omega (arith, sums, once, by_keys, each)

-- so do those of a snapshot that may be missing
found_within : (metric : LMetric) (source : ValueLeaf) (found : Option (List Atom))
    → full_size (found_items (sums_found (option_map (pulled_integers metric source) found)))
    ≤ 18 + sum_by (pulled_entry metric) (atoms_found found)
found_within metric source None = let size = full-none sums_items in omega (arith, size)
found_within metric source (Some atoms) =
    let size = full-some sums_items (key_sums (pulled_integers metric source atoms)) in
    let sums = atoms_within metric source atoms in
    omega (arith, size, sums)

-- sums that may be missing take no more than the entries of their keys
start_within : (begun : Option KeyedInts)
    → full_size (found_items (sums_found begun)) ≤ 18 + sum_by key_entry (start_keys (Some begun))
start_within None = let size = full-none sums_items in omega (arith, size)
start_within (Some integers) =
    let size = full-some sums_items (key_sums integers) in let sums = sums_entries integers in omega (arith, size, sums)

-- an interval that began at an earlier snapshot takes no more than the entries of its start
earlier_within : (sums : Option KeyedInts) (begun : Option (Option KeyedInts))
    → Some sums ≡ option_map sums_found begun
    → full_size (open_items (Earlier sums)) ≤ 36 + sum_by key_entry (start_keys begun)
earlier_within sums None is = absurd (cc)
earlier_within sums (Some begun) is =
    let same : sums ≡ sums_found begun = cc in
    let outer = full-some (option_items found_items) (Some sums) in
    let inner = full-some found_items sums in
    let size : full_size (found_items sums) ≡ full_size (found_items (sums_found begun)) =
    ap (λ s. full_size (found_items s)) same in
    let start = start_within begun in
    omega (arith, outer, inner, size, start)

-- so does any open interval
open_within : (interval : Open) (last : Option KeyedInts) (begun : Option (Option KeyedInts))
    → begun_sums interval last ≡ option_map sums_found begun
    → full_size (open_items interval) ≤ 36 + sum_by key_entry (start_keys begun)
open_within Nothing last begun is = let size = full-none (option_items found_items) in omega (arith, size)
open_within AtLast last begun is =
    let size = full-some (option_items found_items) None in
    let inner = full-none found_items in
    omega (arith, size, inner)
open_within (Earlier sums) last begun is = earlier_within sums begun is

-- how differences are taken is five numbers
spec_size : (spec : DiffSpec) → full_size (spec_items spec) ≡ 45
spec_size spec = omega arith

-- a producer of pulled values after these steps takes twenty-one numbers, and what its metric weighs after them
pub pulled_value_within : (installed : Installation) (metric : LMetric) (source : ValueLeaf) (spec : DiffSpec)
    (steps : List Step) (it : PulledValue)
    → let asking = pulled_value_asking installed metric source spec in
    PulledValueStandsFor it asking.params (calls_by_steps asking pulled_collecting steps)
    → full_size (pulled_value_items it) ≤ 189 + pulled_value_weight installed metric source spec steps
pulled_value_within installed metric source spec steps it stands =
    let asking = pulled_value_asking installed metric source spec in
    let calls = calls_by_steps asking pulled_collecting steps in
    let watch = watched_integers installed metric source in
    let form : ValueForm = record { bound = metric.bound; aggregation = spec.agg; hides_zeros = spec.skip_zero } in
    let same = books_are asking pulled_collecting (pulled_values_agree installed metric source spec) steps in
    let books = subst (λ b. full_size (books_items it.books) ≤ 90 + values_in form b) same
    (value_books_within it.books form _ stands.held) in
    let found = snapshot_found installed metric steps in
    let last_is : it.last ≡ sums_found (option_map (pulled_integers metric source) found) =
    stands.snapshots.last
    ∙ ap sums_found (found_is installed metric source spec calls steps
    (remembered_now installed metric source spec steps)) in
    let last_size = ap (λ l. full_size (found_items l)) last_is in
    let last = found_within metric source found in
    let begun = stands.snapshots.begun
    ∙ ap (λ b. option_map sums_found b) (open_is installed metric source spec steps) in
    let interval = open_within it.interval it.last (open_interval watch steps) begun in
    let head = spec_size it.spec in
    let one = full-append (open_items it.interval) (books_items it.books) in
    let two = full-append (found_items it.last) (open_items it.interval ++ books_items it.books) in
    let all = full-append (spec_items it.spec)
    (found_items it.last ++ (open_items it.interval ++ books_items it.books)) in
    omega (arith, books, last_size, last, interval, head, one, two, all)
