-- The watches of a metric's alerts, one step more at a time: lemmas on `specs/Watches.antt`.
use Rattle.std.proofs.Common.{◌≡◌, ◌≢◌, ℕ, ◌+◌, ◌<◌, ◌≤◌, ◌==◌, Bool, true, false, cond, List, [], ◌∷◌, ◌++◌, map, take, length, set, get_or, Option, None, ⊎_elim, refl, sym, ap, subst, ◌∙◌, append_assoc, append-nil, arith}
use Rattle.std.proofs.lemmas.Bool.{cases_lt}
use Rattle.std.proofs.lemmas.Bool.Decides.{Decides-eqb}
use Rattle.std.proofs.lemmas.List.Elements.{All-push, filter_more}
use Rattle.std.proofs.lemmas.List.{map-append, length-map, length-set, get_or-map, get_or-set_same, get_or-set_other, get_or_default, same_lists}
use Rattle.alert_watch.specs.Watches.{WatchContents, WatchStandsFor}
use Rattle.alert_watch.specs.Windows.{Notice}
use Rattle.bucket_clock.specs.Sound.{Times}
use Rattle.bucket_meaning.specs.Ends.{Moment}
use Rattle.config_links.specs.declared.linked.LAlert.{LAlert}
use Rattle.config_links.specs.declared.linked.LMetric.{LMetric}
use Rattle.config_types.specs.declared.parameters.AlertSpec.{AlertSpec}
use Rattle.metric_lane.specs.LaneClock.{NoEndBefore}
use Rattle.metric_lane.proofs.LaneStandsLemmas.{no_ends_before}
use Rattle.metric_meaning.specs.AlertSteps.{ended_notices, notices_by}
use Rattle.metric_meaning.specs.Histories.{Step, Installation}
use Rattle.client_engine.specs.SoundMetrics.{IsInstalledAt}
use Rattle.client_engine.specs.Watches.{alerts_at, specs_of, specs_at, AreNewWatches, TakesNotices, AllTakeNotices, TakeEnds, WatchesAlong}

-- the watch of no alert
abbrev pub no_watch : WatchContents
no_watch = record {
  spec = record { bound = 0; parts = 0; threshold = 0; refractory = 0 };
  tables = [];
  last = None;
  listed = [];
  not_kept = 0;
}

-- a watch that is told nothing stays
pub none_taken : (watches : List WatchContents) → AllTakeNotices [] watches watches
none_taken watches = record {
  len = refl;
  each = λ place none within. record {
    spec = refl;
    stands = λ before has.
        subst (WatchStandsFor (get_or watches place none)) (sym (append-nil before)) has;
  };
}

-- where there is no watch, anything is told
pub none_there : (notices : List Notice) (watches : List WatchContents) → length watches ≡ 0
    → AllTakeNotices notices watches watches
none_there notices watches empty = record {
  len = refl;
  each = λ place none within. absurd (omega (arith, within, empty));
}

-- what is told one after the other
pub both_taken : (first second : List Notice) (old middle new : List WatchContents) → AllTakeNotices first old middle
    → AllTakeNotices second middle new → AllTakeNotices (first ++ second) old new
both_taken first second old middle new one two = record {
  len = two.len ∙ one.len;
  each = λ place none within.
      let here = one.each place none within in
      let there = two.each place none (subst (λ n. place < n) (sym one.len) within) in record {
        spec = there.spec ∙ here.spec;
        stands = λ before has.
            subst (WatchStandsFor (get_or new place none)) (append_assoc before first second)
            (there.stands (before ++ first) (here.stands before has));
      };
}

-- watches are of the same alerts as before
specs_stay : (notices : List Notice) (old new : List WatchContents) → AllTakeNotices notices old new
    → specs_of new ≡ specs_of old
specs_stay notices old new takes =
    let spec : WatchContents → AlertSpec = λ watch. watch.spec in
    let size = takes.len in
    same_lists (specs_of new) (specs_of old)
    (omega (arith, size, length-map new spec, length-map old spec))
    (λ k d within.
    let there : k < length new = omega (arith, within, length-map new spec) in
    let here : k < length old = omega (arith, there, size) in
    get_or-map spec new k no_watch d there ∙ (takes.each k no_watch here).spec
    ∙ sym (get_or-map spec old k no_watch d here))

-- watches that are told what more steps do to their metric are its watches after those
pub along_takes : (metric : LMetric) (installed : Installation) (steps more : List Step) (notices : List Notice)
    (old new : List WatchContents)
    → notices_by installed metric (steps ++ more) ≡ notices_by installed metric steps ++ notices
    → AllTakeNotices notices old new → WatchesAlong metric installed steps old
    → WatchesAlong metric installed (steps ++ more) new
along_takes metric installed steps more notices old new is takes along = record {
  sized = along.sized;
  specs = λ place here. specs_stay notices old new takes ∙ along.specs place here;
  stand = λ place none within.
      let inside : place < length old = subst (λ n. place < n) takes.len within in
      subst (WatchStandsFor (get_or new place none)) (sym is)
      ((takes.each place none inside).stands (notices_by installed metric steps) (along.stand place none inside));
}

-- where no bucket ends before a time, a frame before it ends nothing
pub ends_none : (clock : Option Times) (moment : Moment) (time : ℕ) (watches : List WatchContents)
    → NoEndBefore time clock → moment.at < time → TakeEnds clock moment watches watches
ends_none clock moment time watches later early base size told has may =
    subst (λ ends. AllTakeNotices (ended_notices (length ends)) watches watches)
    (sym (no_ends_before clock base size told moment time has later early may)) (none_taken watches)

-- new watches of the alerts on a metric that counts are its watches before all steps
pub watches_begin : (installed : Installation) (metric : LMetric) (place : ℕ) (alerts : List LAlert)
    (watches : List WatchContents) → installed.linked.alerts ≡ alerts → IsInstalledAt installed.linked place metric
    → 1 ≤ metric.size → AreNewWatches alerts place watches → WatchesAlong metric installed [] watches
watches_begin installed metric place alerts watches is here sized new = record {
  sized = sized;
  specs = λ other there.
      new.specs ∙ ap (specs_at place) (sym is)
      ∙ ap (λ p. specs_at p installed.linked.alerts) (sym (here.alone other there));
  stand = new.stand;
}

-- So many of the watches were told these notices, and the others are as they were.
pub record TakenBelow (notices : List Notice) (old now : List WatchContents) (place : ℕ) : Type 0 where
  pub len : length now ≡ length old
  pub told : (k : ℕ) (none : WatchContents) → k < place → k < length old
      → TakesNotices notices (get_or old k none) (get_or now k none)
  pub rest : (k : ℕ) (none : WatchContents) → place ≤ k → get_or now k none ≡ get_or old k none

-- none was told yet
pub none_below : (notices : List Notice) (watches : List WatchContents) → TakenBelow notices watches watches 0
none_below notices watches = record {
  len = refl;
  told = λ k none below within. absurd (omega (arith, below));
  rest = λ k none after. refl;
}

-- one more was
pub one_below : (notices : List Notice) (old now : List WatchContents) (place : ℕ) (watch none : WatchContents)
    → place < length now → TakenBelow notices old now place → TakesNotices notices (get_or now place none) watch
    → TakenBelow notices old (set now place watch) (place + 1)
one_below notices old now place watch none inside below takes = record {
  len = length-set now place watch ∙ below.len;
  told = λ k other less within. ⊎_elim
      (λ (before : k < place).
      subst (TakesNotices notices (get_or old k other))
      (sym (get_or-set_other now place k watch other (omega (arith, before)))) (below.told k other before within))
      (λ (after : place ≤ k).
      let same : k ≡ place = omega (arith, after, less) in
      let here : place < length old = subst (λ n. n < length old) same within in
      subst (λ n. TakesNotices notices (get_or old n other) (get_or (set now place watch) n other)) (sym same)
      (subst (TakesNotices notices (get_or old place other)) (sym (get_or-set_same now place watch other inside))
      (subst (λ w. TakesNotices notices w watch)
      (below.rest place none (omega arith) ∙ get_or_default old place none other here) takes)))
      (cases_lt k place);
  rest = λ k other after.
      get_or-set_other now place k watch other (omega (arith, after)) ∙ below.rest k other (omega (arith, after));
}

-- all were
pub all_below : (notices : List Notice) (old now : List WatchContents) (place : ℕ) → length old ≤ place
    → TakenBelow notices old now place → AllTakeNotices notices old now
all_below notices old now place ends below = record {
  len = below.len;
  each = λ k none within. below.told k none (omega (arith, within, ends)) within;
}

-- a test that isn't true is false
not_true : (test : Bool) → test ≢ true → test ≡ false
not_true true fails = absurd (fails refl)
not_true false fails = refl

module _ (alerts : List LAlert) (index : ℕ) (none : LAlert) (place : ℕ) (watches : List WatchContents)
    (within : index < length alerts) (new : AreNewWatches (take index alerts) place watches) where
  abbrev here : LAlert
  here = get_or alerts index none

  abbrev asked : LAlert → AlertSpec
  asked one = one.spec

  -- one more alert, if it is on the metric
  specs_more : specs_at place (take (index + 1) alerts)
      ≡ specs_at place (take index alerts) ++ map asked (cond (here.metric == place) (here ∷ []) [])
  specs_more =
      ap (map asked) (filter_more (λ (one : LAlert). one.metric == place) alerts index none within)
      ∙ map-append asked (alerts_at place (take index alerts)) (cond (here.metric == place) (here ∷ []) [])

  -- one that is on the metric has its watch
  pub one_watched : (watch : WatchContents) → here.metric ≡ place → watch.spec ≡ here.spec → WatchStandsFor watch []
      → AreNewWatches (take (index + 1) alerts) place (watches ++ watch ∷ [])
  one_watched watch on spec stands = record {
    specs = map-append (λ (w : WatchContents). w.spec) watches (watch ∷ []) ∙ ap (λ l. l ++ watch.spec ∷ []) new.specs
        ∙ ap (λ s. specs_at place (take index alerts) ++ s ∷ []) spec
        ∙ ap (λ b. specs_at place (take index alerts) ++ map asked (cond b (here ∷ []) []))
        (sym ((Decides-eqb here.metric place).1 on))
        ∙ sym specs_more;
    stand = All-push (λ w. WatchStandsFor w []) watches watch new.stand stands;
  }

  -- and for another one there is none
  pub other_watched : here.metric ≢ place → AreNewWatches (take (index + 1) alerts) place watches
  other_watched off = record {
    specs = new.specs ∙ sym (append-nil (specs_at place (take index alerts)))
        ∙ ap (λ b. specs_at place (take index alerts) ++ map asked (cond b (here ∷ []) []))
        (sym (not_true (here.metric == place) (λ is. off ((Decides-eqb here.metric place).0 is))))
        ∙ sym specs_more;
    stand = new.stand;
  }
