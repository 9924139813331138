-- Runs that begin at one time: their keys are admitted in order, or dropped and counted.
use Rattle.std.proofs.Common.{◌≡◌, ℕ, ◌+◌, ◌<◌, ◌≤◌, Bool, true, false, not, ◌||◌, cond, if◌then◌else◌, List, [], ◌∷◌, ◌++◌, map, length, slice_get, Some, refl, sym, ap, subst, ◌∙◌, arith, ⊎_elim, append-nil, append_assoc}
use Rattle.std.specs.Map.{keys_of}
use Rattle.std.proofs.lemmas.Bool.{true≢false}
use Rattle.std.proofs.lemmas.List.{map-append, length-map}
use Rattle.std.proofs.lemmas.List.Elements.{filter-append}
use Rattle.std.proofs.lemmas.List.Folds.{list_any-append}
use Rattle.atom_record.specs.Equal.{metric_key_exact}
use Rattle.atom_record.specs.declared.value.MetricKey.{MetricKey}
use Rattle.bucket_meaning.specs.Guard.{is_among, admitted, dropped}
use Rattle.bucket_meaning.specs.Kept.{count_in_u64}
use Rattle.bucket_meaning.proofs.GuardLemmas.{admitted_present, admitted_new, admitted_full, dropped_same, dropped_new, not_yet_come}
use Rattle.dim_table.specs.declared.answer.Admit.{Admit}
use Rattle.dim_table.specs.declared.answer.Admit.TheVariants.{At, Full}
use Rattle.dim_table.specs.Table.{Table, keys, IsThere, IsNew, IsTurnedAway, Admits}
use Rattle.dim_table.proofs.KeyLemmas.{Contains-from_place, is_among-from_Contains, not_among}
use Rattle.metric_kinds.specs.Keys.{is_same_key}
use Rattle.metric_kinds.specs.Runs.{newly}
use Rattle.duration_metric.specs.declared.sum.Span.{Span}
use Rattle.duration_metric.specs.SumSteps.{begun, BeginsRun, BeginsOut, HasSpans, HasBegun, BeginsAll, KeepsKeys}

-- the keys of rows by key
pub keys_of-spans : (span : MetricKey → Span) (ks : List MetricKey) → keys_of (map (λ key. (key, span key)) ks) ≡ ks
keys_of-spans span [] = refl
keys_of-spans span (key ∷ ks) = ap (λ l. key ∷ l) (keys_of-spans span ks)

module _ (old new : Table MetricKey Span) (bound : ℕ) (span : MetricKey → Span) (came : List MetricKey) (lost : ℕ)
    (has : HasSpans old bound span came lost) (key : MetricKey) (at : ℕ)
    (fresh : is_among is_same_key key came ≡ false → span key ≡ begun at) where
  all_keys : keys old ≡ admitted is_same_key bound came
  all_keys = ap keys_of has.rows ∙ keys_of-spans span (admitted is_same_key bound came)

  all_size : length old.rows ≡ length (admitted is_same_key bound came)
  all_size = ap length has.rows ∙ length-map (admitted is_same_key bound came) (λ key. (key, span key))

  -- What one key more makes of the table: so many more are dropped.
  pub record HasOne : Type 0 where
    pub more : ℕ
    pub now : HasSpans new bound span (came ++ key ∷ []) (lost + more)
    pub counted : dropped is_same_key bound (came ++ key ∷ []) ≡ dropped is_same_key bound came + more

  one_there : (place : ℕ) → IsThere old new key place → HasOne
  one_there place there =
      let ks = admitted is_same_key bound came in
      let among : is_among is_same_key key ks ≡ true =
      is_among-from_Contains is_same_key metric_key_exact ks key
      (Contains-from_place ks place key (subst (λ l. slice_get l place ≡ Some key) all_keys there.at)) in
      let grows = admitted_present is_same_key bound came key among in
      record {
        more = 0;
        now = record {
          bound_is = ap (λ (t : Table MetricKey Span). t.bound) there.same ∙ has.bound_is;
          rows = ap (λ (t : Table MetricKey Span). t.rows) there.same ∙ has.rows
              ∙ ap (map (λ key. (key, span key))) (sym grows);
          dropped_are = ap (λ (t : Table MetricKey Span). t.dropped) there.same ∙ has.dropped_are
              ∙ ap count_in_u64 (omega arith);
        };
        counted = dropped_same is_same_key bound came key grows
            ∙ ap (λ b. dropped is_same_key bound came + (if not b then 1 else 0)) among;
      }

  one_new : (place : ℕ) → IsNew old new key (begun at) place → HasOne
  one_new place added =
      let ks = admitted is_same_key bound came in
      let absent : is_among is_same_key key ks ≡ false =
      subst (λ l. is_among is_same_key key l ≡ false) all_keys
      (not_among is_same_key metric_key_exact (keys old) key added.absent) in
      let room : length ks < bound = omega (arith, all_size, added.room, has.bound_is) in
      let grows = admitted_new is_same_key bound came key absent room in
      let begins : span key ≡ begun at =
      fresh (not_yet_come is_same_key metric_key_exact bound came key room absent) in
      record {
        more = 0;
        now = record {
          bound_is = ap (λ (t : Table MetricKey Span). t.bound) added.added ∙ has.bound_is;
          rows = ap (λ (t : Table MetricKey Span). t.rows) added.added
              ∙ ap (λ rows. rows ++ (key, begun at) ∷ []) has.rows
              ∙ ap (λ (s : Span). map (λ key. (key, span key)) ks ++ (key, s) ∷ []) (sym begins)
              ∙ sym (map-append (λ key. (key, span key)) ks (key ∷ []))
              ∙ ap (map (λ key. (key, span key))) (sym grows);
          dropped_are = ap (λ (t : Table MetricKey Span). t.dropped) added.added ∙ has.dropped_are
              ∙ ap count_in_u64 (omega arith);
        };
        counted = dropped_new is_same_key metric_key_exact bound came key absent room ∙ omega arith;
      }

  one_away : IsTurnedAway old new key → HasOne
  one_away away =
      let ks = admitted is_same_key bound came in
      let absent : is_among is_same_key key ks ≡ false =
      subst (λ l. is_among is_same_key key l ≡ false) all_keys
      (not_among is_same_key metric_key_exact (keys old) key away.absent) in
      let full : bound ≤ length ks = omega (arith, all_size, away.full, has.bound_is) in
      let grows = admitted_full is_same_key bound came key full in
      record {
        more = 1;
        now = record {
          bound_is = ap (λ (t : Table MetricKey Span). t.bound) away.added ∙ has.bound_is;
          rows = ap (λ (t : Table MetricKey Span). t.rows) away.added ∙ has.rows
              ∙ ap (map (λ key. (key, span key))) (sym grows);
          dropped_are = ap (λ (t : Table MetricKey Span). t.dropped) away.added
              ∙ ap (λ n. count_in_u64 (n + 1)) has.dropped_are ∙ omega arith;
        };
        counted = dropped_same is_same_key bound came key grows
            ∙ ap (λ b. dropped is_same_key bound came + (if not b then 1 else 0)) absent;
      }

  pub one_more : (answer : Admit) → Admits old new key (begun at) answer → HasOne
  one_more (At place) admits = ⊎_elim (one_there place) (one_new place) admits
  one_more Full away = one_away away

-- the keys that weren't active before, with one more
newly-push : (before some : List MetricKey) (key : MetricKey)
    → newly is_same_key before (some ++ key ∷ [])
    ≡ newly is_same_key before some ++ (if is_among is_same_key key before then [] else key ∷ [])
newly-push before some key =
    filter-append (λ key. not (is_among is_same_key key before)) some (key ∷ [])
    ∙ ap (λ l. newly is_same_key before some ++ l) (one (is_among is_same_key key before)) where
      one : (b : Bool) → cond (not b) (key ∷ []) [] ≡ (if b then [] else key ∷ [])
      one true = refl
      one false = refl

either_first : (first second : Bool) → first ≡ true → (first || second) ≡ true
either_first true second is = refl
either_first false second is = absurd (true≢false (sym is))

neither : (first second : Bool) → (first || second) ≡ false → first ≡ false
neither true second none = none
neither false second none = refl

-- one key more
pub begins_more : (first old new : Table MetricKey Span) (before some : List MetricKey) (key : MetricKey) (at : ℕ)
    → BeginsAll first old before some at → BeginsRun old new before key at
    → BeginsAll first new before (some ++ key ∷ []) at
begins_more first old new before some key at begins one bound span seen lost fresh has =
    let came = newly is_same_key before some in
    let among : (other : MetricKey) → is_among is_same_key other (some ++ key ∷ [])
    ≡ (is_among is_same_key other some || is_among is_same_key other (key ∷ [])) = λ other.
    list_any-append (λ k. is_same_key k other) some (key ∷ []) in
    let so_far = begins bound span seen lost
    (λ other unseen active new_is. fresh other unseen
    (among other ∙ either_first (is_among is_same_key other some) (is_among is_same_key other (key ∷ [])) active)
    new_is) has in
    let own : is_among is_same_key key (some ++ key ∷ []) ≡ true =
    among key ∙ last_one (is_among is_same_key key some) (is_same_key key key) ((metric_key_exact key key).1 refl) in
    ⊎_elim
    (λ (same : (is_among is_same_key key before ≡ true) × (new ≡ old)).
    subst (λ ks. HasBegun new bound span seen ks lost)
    (sym (newly-push before some key
    ∙ ap (λ b. came ++ (if b then [] else key ∷ [])) same.0 ∙ append-nil came))
    (subst (λ (t : Table MetricKey Span). HasBegun t bound span seen came lost) (sym same.1) so_far))
    (λ (other : (is_among is_same_key key before ≡ false) × (answer : Admit) × Admits old new key (begun at) answer).
    let next = one_more old new bound span (seen ++ came) (lost + so_far.more) so_far.has key at
    (λ unseen. fresh key
    (neither (is_among is_same_key key seen) (is_among is_same_key key came)
    (sym (list_any-append (λ k. is_same_key k key) seen came) ∙ unseen)) own other.0)
    other.1 other.2 in
    subst (λ ks. HasBegun new bound span seen ks lost)
    (sym (newly-push before some key ∙ ap (λ b. came ++ (if b then [] else key ∷ [])) other.0))
    (record {
      more = so_far.more + next.more;
      has = subst (λ ks. HasSpans new bound span ks (lost + (so_far.more + next.more)))
          (append_assoc seen came (key ∷ []))
          (subst (HasSpans new bound span ((seen ++ came) ++ key ∷ [])) (omega arith) next.now);
      counted = ap (dropped is_same_key bound) (sym (append_assoc seen came (key ∷ []))) ∙ next.counted
          ∙ omega (arith, so_far.counted);
    }))
    one where
      last_one : (b c : Bool) → c ≡ true → (b || (c || false)) ≡ true
      last_one true c is = refl
      last_one false true is = refl
      last_one false false is = absurd (true≢false (sym is))

-- the key of one row more, if it counts for one
pub begins_out : (first old new : Table MetricKey Span) (some outs : List MetricKey) (at : ℕ)
    → BeginsAll first old [] some at → BeginsOut old new outs at → BeginsAll first new [] (some ++ outs) at
begins_out first old new some outs at begins one = ⊎_elim
    (λ (none : (outs ≡ []) × (new ≡ old)).
    subst (λ ks. BeginsAll first new [] ks at) (sym (ap (λ l. some ++ l) none.0 ∙ append-nil some))
    (subst (λ (t : Table MetricKey Span). BeginsAll first t [] some at) (sym none.1) begins))
    (λ (more : (key : MetricKey) × (outs ≡ key ∷ []) × BeginsRun old new [] key at).
    subst (λ ks. BeginsAll first new [] ks at) (sym (ap (λ l. some ++ l) more.1))
    (begins_more first old new [] some more.0 at begins more.2))
    one

-- where the keys stay, none comes anew
none_newly : (all keys : List MetricKey)
    → ((key : MetricKey) → is_among is_same_key key keys ≡ true → is_among is_same_key key all ≡ true)
    → newly is_same_key all keys ≡ []
none_newly all [] there = refl
none_newly all (key ∷ keys) there =
    let here : is_among is_same_key key all ≡ true =
    there key
    (either_first (is_same_key key key) (is_among is_same_key key keys) ((metric_key_exact key key).1 refl)) in
    ap (λ b. cond (not b) (key ∷ newly is_same_key all keys) (newly is_same_key all keys)) here
    ∙ none_newly all keys
    (λ other is. there other (or_later (is_same_key key other) (is_among is_same_key other keys) is))
  where
    or_later : (b c : Bool) → c ≡ true → (b || c) ≡ true
    or_later true c is = refl
    or_later false c is = is

pub newly-same : (keys : List MetricKey) → newly is_same_key keys keys ≡ []
newly-same keys = none_newly keys keys (λ key is. is)

-- all keys are new where none was active
pub newly-none : (keys : List MetricKey) → newly is_same_key [] keys ≡ keys
newly-none [] = refl
newly-none (key ∷ keys) = ap (λ l. key ∷ l) (newly-none keys)

or_second : (b c : Bool) → c ≡ true → (b || c) ≡ true
or_second true c is = refl
or_second false c is = is

-- a key that comes anew is active now, and wasn't before
anew_first : (key other : MetricKey) (before ks : List MetricKey) (same absent later : Bool)
    → is_same_key other key ≡ same → is_among is_same_key other before ≡ absent
    → is_among is_same_key key (newly is_same_key before ks) ≡ later
    → (later ≡ true → (is_among is_same_key key ks ≡ true) × (is_among is_same_key key before ≡ false))
    → is_among is_same_key key (cond (not absent) (other ∷ newly is_same_key before ks) (newly is_same_key before ks))
    ≡ true
    → (is_among is_same_key key (other ∷ ks) ≡ true) × (is_among is_same_key key before ≡ false)
anew_first key other before ks same true later same_is absent_is later_is rest there =
    let all = rest (sym later_is ∙ there) in
    (or_second (is_same_key other key) (is_among is_same_key key ks) all.0, all.1)
anew_first key other before ks true false later same_is absent_is later_is rest there = (
  ap (λ b. b || is_among is_same_key key ks) same_is,
  subst (λ k. is_among is_same_key k before ≡ false) ((metric_key_exact other key).0 same_is) absent_is,
)
anew_first key other before ks false false later same_is absent_is later_is rest there =
    let all = rest (sym later_is
    ∙ sym (ap (λ b. b || is_among is_same_key key (newly is_same_key before ks)) same_is) ∙ there) in
    (or_second (is_same_key other key) (is_among is_same_key key ks) all.0, all.1)

among_newly : (key : MetricKey) (before ks : List MetricKey)
    → is_among is_same_key key (newly is_same_key before ks) ≡ true
    → (is_among is_same_key key ks ≡ true) × (is_among is_same_key key before ≡ false)
among_newly key before [] there = absurd (true≢false (sym there))
among_newly key before (other ∷ ks) there =
    anew_first key other before ks (is_same_key other key) (is_among is_same_key other before)
    (is_among is_same_key key (newly is_same_key before ks)) refl refl refl (among_newly key before ks) there

-- where the new keys are admitted, those of all active keys that weren't active before are
pub begins_newly : (old new : Table MetricKey Span) (before now fresh : List MetricKey) (at : ℕ)
    → fresh ≡ newly is_same_key before now → BeginsAll old new [] fresh at → BeginsAll old new before now at
begins_newly old new before now fresh at is begins bound span seen lost is_fresh has =
    subst (λ ks. HasBegun new bound span seen ks lost) (newly-none fresh ∙ is)
    (begins bound span seen lost
    (λ key unseen there absent.
    let both = among_newly key before now (subst (λ ks. is_among is_same_key key ks ≡ true) is there) in
    is_fresh key unseen both.0 both.1)
    has)

-- a key that has a row keeps one where a row more comes
among_push : (key : MetricKey) (rows : List (MetricKey × Span)) (row : MetricKey × Span)
    → is_among is_same_key key (keys_of rows) ≡ true → is_among is_same_key key (keys_of (rows ++ row ∷ [])) ≡ true
among_push key [] row among = absurd (true≢false (sym among))
among_push key (first ∷ rows) row among =
    by (is_same_key first.0 key) (is_among is_same_key key (keys_of rows))
    (is_among is_same_key key (keys_of (rows ++ row ∷ []))) among (among_push key rows row) where
      by : (b c d : Bool) → (b || c) ≡ true → (c ≡ true → d ≡ true) → (b || d) ≡ true
      by true c d one next = refl
      by false c d one next = next one

-- and where a key is admitted, or turned away
keeps_admitted : (old new : Table MetricKey Span) (key : MetricKey) (at : ℕ) (answer : Admit)
    → Admits old new key (begun at) answer → KeepsKeys old new
keeps_admitted old new key at (At place) admits other among = ⊎_elim
    (λ (there : IsThere old new key place).
    subst (λ (t : Table MetricKey Span). is_among is_same_key other (keys t) ≡ true) (sym there.same) among)
    (λ (added : IsNew old new key (begun at) place).
    subst (λ (t : Table MetricKey Span). is_among is_same_key other (keys t) ≡ true) (sym added.added)
    (among_push other old.rows (key, begun at) among))
    admits
keeps_admitted old new key at Full away other among =
    subst (λ (t : Table MetricKey Span). is_among is_same_key other (keys t) ≡ true) (sym away.added) among

-- and where the key for which a row counts begins
pub keeps_more : (first old new : Table MetricKey Span) (outs : List MetricKey) (at : ℕ) → KeepsKeys first old
    → BeginsOut old new outs at → KeepsKeys first new
keeps_more first old new outs at so_far begins other among =
    let was = so_far other among in
    ⊎_elim
    (λ (same : (outs ≡ []) × (new ≡ old)).
    subst (λ (t : Table MetricKey Span). is_among is_same_key other (keys t) ≡ true) (sym same.1) was)
    (λ (one : (key : MetricKey) × (outs ≡ key ∷ []) × BeginsRun old new [] key at). ⊎_elim
    (λ (active : (is_among is_same_key one.0 [] ≡ true) × (new ≡ old)).
    subst (λ (t : Table MetricKey Span). is_among is_same_key other (keys t) ≡ true) (sym active.1) was)
    (λ (admits : (is_among is_same_key one.0 [] ≡ false) × (answer : Admit)
    × Admits old new one.0 (begun at) answer). keeps_admitted old new one.0 at admits.1 admits.2 other was)
    one.2)
    begins
