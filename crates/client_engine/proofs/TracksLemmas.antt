-- The metrics of a configuration with their lanes, one by one.
use Rattle.std.proofs.Common.{◌≡◌, ℕ, ◌+◌, ◌≤◌, ◌<◌, Bool, true, false, if◌then◌else◌, List, [], ◌∷◌, ◌++◌, length, set, get_or, take, drop, map, filter, All, refl, sym, ap, subst, ◌∙◌, arith}
use Rattle.std.proofs.Math.Nat.{add-zero}
use Rattle.std.proofs.lemmas.List.{append-nil, map-append, length-append, length-set, length-map, get_or_append_left, get_or-append-add, get_or-map, get_or-drop, take_more_set, take_more, drop-set-lt, drop-drop, take_all}
use Rattle.std.proofs.lemmas.List.Elements.{All-nil, All-push, All-get_or}
use Rattle.atom_record.specs.declared.log.LogFrame.{LogFrame}
use Rattle.config_links.specs.declared.linked.LMetric.{LMetric}
use Rattle.metric_meaning.specs.Histories.{Step, Installation}
use Rattle.report_writer.specs.Writable.{IsWritableMetric}
use Rattle.report_writer.specs.declared.tree.MetricTree.{MetricTree}
use Rattle.client_engine.specs.NextSteps.{MayLog, MayReport, with_logged, with_reported, requested_tree, TakesFrame, TakesReport}
use Rattle.client_engine.specs.SoundMetrics.{IsInstalledAt, AreInstalled}
use Rattle.config_links.specs.declared.linked.Linked.{Linked}
use Rattle.client_engine.specs.TrackStands.{TrackStandsFor}
use Rattle.known_conditions.specs.Known.{Known}
use Rattle.client_engine.specs.Handed.{Handed}
use Rattle.client_engine.specs.Tracks.{metric_in, AsksWithin, AreNew, AllStandFor, AllReport}
use Rattle.client_engine.specs.Opens.{IsOpeningOf}
use Rattle.client_engine.specs.Questions.{questions_of}
use Rattle.client_engine.specs.declared.opening.Opening.{Opening}
use Rattle.client_engine.specs.declared.track.Track.{Track}
use Rattle.client_engine.specs.declared.request.ReportRequest.{ReportRequest}
use Rattle.client_engine.proofs.QuestionsLemmas.{more_questions, first_questions}
use Rattle.known_conditions.proofs.ListsLemmas.{whole, map-set_same}

-- no metric has a track yet
pub none_new : (opening : Opening) (known : Known) → AreNew opening known [] []
none_new opening known = record {
  metrics_are = refl;
  stand = λ installed is sound. All-nil (TrackStandsFor installed []);
}

-- the metrics before the last stand at their places
installed_before : (linked : Linked) (metrics : List LMetric) (metric : LMetric)
    → AreInstalled linked (metrics ++ metric ∷ []) → AreInstalled linked metrics
installed_before linked metrics metric there place none within =
    subst (IsInstalledAt linked place) (get_or_append_left metrics (metric ∷ []) none place within)
    (there place none (omega (arith, within, length-append metrics (metric ∷ []))))

-- and so does the last one
installed_last : (linked : Linked) (metrics : List LMetric) (metric : LMetric)
    → AreInstalled linked (metrics ++ metric ∷ []) → IsInstalledAt linked (length metrics) metric
installed_last linked metrics metric there =
    subst (IsInstalledAt linked (length metrics))
    (ap (λ n. get_or (metrics ++ metric ∷ []) n metric) (sym (add-zero (length metrics)))
    ∙ get_or-append-add metrics (metric ∷ []) 0 metric)
    (there (length metrics) metric (omega (arith, length-append metrics (metric ∷ []))))

-- so many tracks there are as metrics
pub placed : (metrics : List LMetric) (tracks : List Track) → map metric_in tracks ≡ metrics
    → length tracks ≡ length metrics
placed metrics tracks are = sym (length-map tracks metric_in) ∙ ap length are

-- one more metric has its track
pub one_new : (opening : Opening) (known : Known) (metrics : List LMetric) (tracks : List Track) (metric : LMetric)
    (track : Track)
    → AreNew opening known metrics tracks → track.metric ≡ metric
    → ((installed : Installation) → IsOpeningOf installed opening known
    → IsInstalledAt installed.linked (length metrics) metric → TrackStandsFor installed [] track)
    → AreNew opening known (metrics ++ metric ∷ []) (tracks ++ track ∷ [])
one_new opening known metrics tracks metric track are is stands = record {
  metrics_are = map-append metric_in tracks (track ∷ []) ∙ ap (λ l. l ++ track.metric ∷ []) are.metrics_are
      ∙ ap (λ m. metrics ++ m ∷ []) is;
  stand = λ installed same there. All-push (TrackStandsFor installed []) tracks track
      (are.stand installed same (installed_before installed.linked metrics metric there))
      (stands installed same (installed_last installed.linked metrics metric there));
}

-- where two lists have the same rest, they have the same element before it
pub same_here : {X : Type 0} (now old : List X) (i : ℕ) (none : X) → drop i now ≡ drop i old
    → get_or now i none ≡ get_or old i none
same_here now old i none rest =
    ap (λ n. get_or now n none) (sym (add-zero i)) ∙ sym (get_or-drop i now 0 none) ∙ ap (λ l. get_or l 0 none) rest
    ∙ get_or-drop i old 0 none ∙ ap (λ n. get_or old n none) (add-zero i)

-- So many of the tracks took a frame, and the others are as they were.
pub record AreStepped (given : Handed) (shown : LogFrame) (truths : List Bool) (old now : List Track) (index : ℕ)
    : Type 0 where
  pub len : length now ≡ length old
  pub metrics : map metric_in now ≡ map metric_in old
  pub rest : drop index now ≡ drop index old
  pub stand : (installed : Installation) (steps : List Step) (frame : LogFrame) → AllStandFor installed steps old
      → MayLog installed steps given shown frame truths
      → AllStandFor installed (with_logged steps frame truths) (take index now)

module _ (given : Handed) (shown : LogFrame) (truths : List Bool) where
  -- none took it yet
  pub none_stepped : (tracks : List Track) → AreStepped given shown truths tracks tracks 0
  none_stepped tracks = record {
    len = refl;
    metrics = refl;
    rest = refl;
    stand = λ installed steps frame all may.
        All-nil (TrackStandsFor installed (with_logged steps frame truths));
  }

  -- one more took it
  pub one_stepped : (old now : List Track) (index : ℕ) (track none : Track) → index < length now
      → AreStepped given shown truths old now index → track.metric ≡ (get_or now index none).metric
      → (now_given : Handed) → now_given ≡ given
      → TakesFrame TrackStandsFor now_given shown truths (get_or now index none) track
      → AreStepped given shown truths old (set now index track) (index + 1)
  one_stepped old now index track none within are metric now_given same logs = record {
    len = length-set now index track ∙ are.len;
    metrics = map-set_same metric_in now index track none within metric ∙ are.metrics;
    rest = drop-set-lt (index + 1) now index track (omega arith) ∙ sym (drop-drop 1 index now)
        ∙ ap (drop 1) are.rest ∙ drop-drop 1 index old;
    stand = λ installed steps frame all may.
        let after = with_logged steps frame truths in
        let here : TrackStandsFor installed steps (get_or now index none) =
        subst (TrackStandsFor installed steps) (sym (same_here now old index none are.rest))
        (All-get_or (TrackStandsFor installed steps) old index none
        (subst (λ n. index < n) are.len within) all) in
        subst (AllStandFor installed after) (sym (take_more_set now index track within))
        (All-push (TrackStandsFor installed after) (take index now) track (are.stand installed steps frame all may)
        (subst (λ g. TakesFrame TrackStandsFor g shown truths (get_or now index none) track) same logs installed steps
        frame here may));
  }

  -- all took it
  pub all_stepped : (old now : List Track) (index : ℕ) → length now ≡ index
      → AreStepped given shown truths old now index → TakesFrame AllStandFor given shown truths old now
  all_stepped old now index ends are = λ installed steps frame all may.
      subst (AllStandFor installed (with_logged steps frame truths))
      (take_all index now (omega (arith, ends))) (are.stand installed steps frame all may)

-- So many of the tracks were brought a frame: the counter rose by no more than the questions of their metrics.
abbrev pub AreAsked : Handed → LogFrame → List Bool → List Track → ℕ → ℕ → ℕ → Type 0
AreAsked given shown truths old index before after =
    (installed : Installation) (steps : List Step) (frame : LogFrame) → AllStandFor installed steps old
    → MayLog installed steps given shown frame truths
    → after ≤ before + questions_of (take index (map metric_in old)) installed steps shown truths

module _ (given : Handed) (shown : LogFrame) (truths : List Bool) where
  -- none was brought it yet
  pub none_asked : (old : List Track) (before : ℕ) → AreAsked given shown truths old 0 before before
  none_asked old before installed steps frame all may = omega arith

  -- one more was
  pub one_asked : (old now : List Track) (index : ℕ) (none : Track) (before here after : ℕ) → index < length now
      → AreStepped given shown truths old now index → AreAsked given shown truths old index before here
      → (now_given : Handed) → now_given ≡ given
      → ((installed : Installation) (steps : List Step) (frame : LogFrame)
      → TrackStandsFor installed steps (get_or now index none)
      → MayLog installed steps now_given shown frame truths
      → after ≤ here + questions_of ((get_or now index none).metric ∷ []) installed steps shown truths)
      → AreAsked given shown truths old (index + 1) before after
  one_asked old now index none before here after within are asked now_given same asks installed steps frame all may =
      let inside : index < length old = subst (λ n. index < n) are.len within in
      let item_is = same_here now old index none are.rest in
      let stands : TrackStandsFor installed steps (get_or now index none) =
      subst (TrackStandsFor installed steps) (sym item_is)
      (All-get_or (TrackStandsFor installed steps) old index none inside all) in
      let few = asked installed steps frame all may in
      let more = asks installed steps frame stands
      (subst (λ g. MayLog installed steps g shown frame truths) (sym same) may) in
      let metrics = map metric_in old in
      let item : get_or metrics index (metric_in none) ≡ (get_or now index none).metric =
      get_or-map metric_in old index none (metric_in none) inside ∙ sym (ap metric_in item_is) in
      let many = length-map old metric_in in
      let taken : take (index + 1) metrics ≡ take index metrics ++ (get_or now index none).metric ∷ [] =
      take_more metrics index (metric_in none) (omega (arith, many, inside))
      ∙ ap (λ m. take index metrics ++ m ∷ []) item in
      let total = ap (λ ms. questions_of ms installed steps shown truths) taken
      ∙ more_questions (take index metrics) (get_or now index none).metric installed steps shown truths in
      omega (arith, few, more, total)

  -- no more than all of them
  pub all_asked : (old : List Track) (index before after : ℕ) → AreAsked given shown truths old index before after
      → (installed : Installation) (steps : List Step) (frame : LogFrame) → AllStandFor installed steps old
      → MayLog installed steps given shown frame truths
      → after ≤ before + questions_of (map metric_in old) installed steps shown truths
  all_asked old index before after asked installed steps frame all may =
      let few = asked installed steps frame all may in
      let first = first_questions (map metric_in old) index installed steps shown truths in
      omega (arith, few, first)

-- what each metric asks of predicates stays where the metrics and the predicates do
pub asks_here : (now_known known : Known) (old now : List Track) (index : ℕ) (none : Track) → now_known ≡ known
    → index < length now → map metric_in now ≡ map metric_in old
    → All (AsksWithin (length known.predicates)) (map metric_in old)
    → AsksWithin (length now_known.predicates) (get_or now index none).metric
asks_here now_known known old now index none same within metrics all =
    let count = length known.predicates in
    let len = length-map now metric_in in
    subst (λ (k : Known). AsksWithin (length k.predicates) (get_or now index none).metric) (sym same)
    (subst (AsksWithin count) (get_or-map metric_in now index none (metric_in none) within)
    (All-get_or (AsksWithin count) (map metric_in now) index (metric_in none) (omega (arith, len, within))
    (subst (All (AsksWithin count)) (sym metrics) all)))

-- where one of the tracks has changed and its metric hasn't, all metrics stay
pub metrics_stay : (old given now : List Track) (len index : ℕ) (track none : Track) → given ≡ old
    → len ≡ length old → index < length now → length now ≡ length given
    → map metric_in now ≡ map metric_in given → track.metric ≡ (get_or now index none).metric
    → map metric_in (take len (set now index track ++ drop (length (set now index track)) old)) ≡ map metric_in old
metrics_stay old given now len index track none value size within same metrics metric =
    ap (map metric_in)
    (whole (set now index track) old len (length-set now index track ∙ same ∙ ap length value) size)
    ∙ map-set_same metric_in now index track none within metric ∙ metrics ∙ ap (map metric_in) value

-- So many of the tracks were reported: they took the step, and their trees are there.
pub record AreReported (base : ℕ) (request : ReportRequest) (old now : List Track) (index : ℕ)
    (trees : List MetricTree) : Type 0 where
  pub len : length now ≡ length old
  pub metrics : map metric_in now ≡ map metric_in old
  pub rest : drop index now ≡ drop index old
  pub stand : (installed : Installation) (steps : List Step) → AllStandFor installed steps old
      → MayReport installed steps base request
      → AllStandFor installed (with_reported steps request) (take index now)
  pub shown : (installed : Installation) (steps : List Step) → AllStandFor installed steps old
      → MayReport installed steps base request
      → trees ≡ map (requested_tree installed steps request)
      (filter (λ (metric : LMetric). metric.shown) (map metric_in (take index old)))
  pub writable : All IsWritableMetric trees

-- none was reported yet
pub none_reported : (base : ℕ) (request : ReportRequest) (tracks : List Track)
    → AreReported base request tracks tracks 0 []
none_reported base request tracks = record {
  len = refl;
  metrics = refl;
  rest = refl;
  stand = λ installed steps all may.
      All-nil (TrackStandsFor installed (with_reported steps request));
  shown = λ installed steps all may. refl;
  writable = All-nil IsWritableMetric;
}

-- one more metric, if it is shown
shown-push : (metrics : List LMetric) (metric : LMetric)
    → filter (λ (m : LMetric). m.shown) (metrics ++ metric ∷ [])
    ≡ filter (λ (m : LMetric). m.shown) metrics ++ (if metric.shown then metric ∷ [] else [])
shown-push [] metric = refl
shown-push (first ∷ metrics) metric = by_case first.shown (shown-push metrics metric) where
  by_case : (is_shown : Bool)
      → filter (λ (m : LMetric). m.shown) (metrics ++ metric ∷ [])
      ≡ filter (λ (m : LMetric). m.shown) metrics ++ (if metric.shown then metric ∷ [] else [])
      → (if is_shown then first ∷ filter (λ (m : LMetric). m.shown) (metrics ++ metric ∷ [])
      else filter (λ (m : LMetric). m.shown) (metrics ++ metric ∷ []))
      ≡ (if is_shown then first ∷ filter (λ (m : LMetric). m.shown) metrics
      else filter (λ (m : LMetric). m.shown) metrics) ++ (if metric.shown then metric ∷ [] else [])
  by_case true rest = ap (λ l. first ∷ l) rest
  by_case false rest = rest

-- the tree of one more metric, if it is shown
map_if : {X Y : Type 0} (f : X → Y) (b : Bool) (x : X)
    → map f (if b then x ∷ [] else []) ≡ (if b then f x ∷ [] else [])
map_if f true x = refl
map_if f false x = refl

-- a tree is writable if it is there
writable_if : (b : Bool) (trees : List MetricTree) (tree : MetricTree) → All IsWritableMetric trees
    → IsWritableMetric tree → All IsWritableMetric (trees ++ (if b then tree ∷ [] else []))
writable_if true trees tree all one = All-push IsWritableMetric trees tree all one
writable_if false trees tree all one = subst (All IsWritableMetric) (sym (append-nil trees)) all

-- one more was reported
pub one_reported : (base : ℕ) (request : ReportRequest) (old now : List Track) (index : ℕ)
    (trees more : List MetricTree) (track none : Track) (tree : MetricTree) (is_shown : Bool) → index < length now
    → AreReported base request old now index trees → track.metric ≡ (get_or now index none).metric
    → is_shown ≡ (get_or now index none).metric.shown
    → TakesReport TrackStandsFor (get_or now index none).metric base request (get_or now index none) track tree
    → IsWritableMetric tree
    → more ≡ trees ++ (if is_shown then tree ∷ [] else [])
    → AreReported base request old (set now index track) (index + 1) more
one_reported base request old now index trees more track none tree is_shown within are metric shown_is
    reports writable more_is = record {
      len = length-set now index track ∙ are.len;
      metrics = map-set_same metric_in now index track none within metric ∙ are.metrics;
      rest = drop-set-lt (index + 1) now index track (omega arith) ∙ sym (drop-drop 1 index now)
          ∙ ap (drop 1) are.rest ∙ drop-drop 1 index old;
      stand = λ installed steps all may.
          let after = with_reported steps request in
          let here = stands_here installed steps all in
          subst (AllStandFor installed after) (sym (take_more_set now index track within))
          (All-push (TrackStandsFor installed after) (take index now) track
          (are.stand installed steps all may) (reports installed steps here may).0);
      shown = λ installed steps all may.
          let here = stands_here installed steps all in
          let show = requested_tree installed steps request in
          let those = filter (λ (m : LMetric). m.shown) (map metric_in (take index old)) in
          let own = (get_or now index none).metric in
          more_is
          ∙ ap (λ l. l ++ (if is_shown then tree ∷ [] else [])) (are.shown installed steps all may)
          ∙ ap (λ t. map show those ++ (if is_shown then t ∷ [] else [])) (reports installed steps here may).1
          ∙ ap (λ b. map show those ++ (if b then show own ∷ [] else [])) shown_is
          ∙ ap (λ l. map show those ++ l) (sym (map_if show own.shown own))
          ∙ sym (map-append show those (if own.shown then own ∷ [] else []))
          ∙ ap (map show) (sym (shown-push (map metric_in (take index old)) own)
          ∙ ap (filter (λ (m : LMetric). m.shown))
          (ap (λ m. map metric_in (take index old) ++ m ∷ []) (ap metric_in (same_here now old index none are.rest))
          ∙ sym (map-append metric_in (take index old) (get_or old index none ∷ []))
          ∙ ap (map metric_in) (sym (take_more old index none (subst (λ n. index < n) are.len within)))));
      writable = subst (All IsWritableMetric) (sym more_is) (writable_if is_shown trees tree are.writable writable);
    }
  where
    stands_here : (installed : Installation) (steps : List Step) → AllStandFor installed steps old
        → TrackStandsFor installed steps (get_or now index none)
    stands_here installed steps all =
        subst (TrackStandsFor installed steps) (sym (same_here now old index none are.rest))
        (All-get_or (TrackStandsFor installed steps) old index none (subst (λ n. index < n) are.len within)
        all)

-- all were reported
pub all_reported : (base : ℕ) (request : ReportRequest) (old now : List Track) (index : ℕ)
    (trees : List MetricTree) → length now ≡ index → AreReported base request old now index trees
    → AllReport base request old now trees
all_reported base request old now index trees ends are = record {
  stand = λ installed steps all may.
      subst (AllStandFor installed (with_reported steps request))
      (take_all index now (omega (arith, ends))) (are.stand installed steps all may);
  shown = λ installed steps all may. are.shown installed steps all may
      ∙ ap (λ l. map (requested_tree installed steps request)
      (filter (λ (metric : LMetric). metric.shown) (map metric_in l)))
      (take_all index old (let len = are.len in omega (arith, len, ends)));
  writable = are.writable;
}
