-- What the evaluation of a configuration's matchers rests on, and what it makes of an instance.
use Rattle.std.proofs.Common.{◌≡◌, ◌≢◌, ℕ, ◌<◌, Bool, List, length, get_or, None, refl, sym, ap, subst, ◌∙◌, arith}
use Rattle.std.proofs.lemmas.List.{get_or_default}
use Rattle.std.proofs.lemmas.List.FromFn.{length-map-range_with_len}
use Rattle.std.proofs.lemmas.List.Elements.{All-weaker}
use Rattle.atom_record.specs.declared.atom.Atom.{Atom}
use Rattle.atom_record.specs.declared.log.LogFrame.{LogFrame}
use Rattle.atom_record.specs.declared.log.LogFrame.TheVariants.{Tick, AtomAt, Pull}
use Rattle.config_types.specs.declared.matcher.SimpleMatcher.{SimpleMatcher}
use Rattle.config_links.specs.declared.linked.LMatcher.{LMatcher}
use Rattle.config_links.specs.declared.linked.Linked.{Linked}
use Rattle.config_links.specs.SoundConfig.{IsSoundConfig}
use Rattle.config_links.proofs.SoundUses.{references_end}
use Rattle.link_graph.specs.Links.{AreInRange, HasNoCycle}
use Rattle.matcher_truths.specs.MatcherTruths.{named_places, matches}
use Rattle.metric_meaning.specs.Histories.{with_step, log_of_history}
use Rattle.metric_meaning.specs.ShownFrames.{shown_as}
use Rattle.client_engine.specs.Handed.{BookOfStates}
use Rattle.hub_meaning.specs.LiveConfigs.{truths_at}
use Rattle.known_conditions.specs.Known.{logged_step}
use Rattle.bucket_meaning.specs.Ends.{Moment}
use Rattle.heard_ids.specs.Hearing.{heard_ids, hears_all}
use Rattle.client_engine.specs.InstanceStands.{Running, linked_of, InstanceStandsFor, IsView}
use Rattle.hub_core.specs.FrameTruths.{truths_by, LogsBy}
use Rattle.matcher_table.specs.Slots.{matcher_at}
use Rattle.matcher_table.specs.Tables.{SlotTable}
use Rattle.matcher_table.specs.TableFacts.{IsSoundTable}
use Rattle.held_slots.specs.Holdings.{HoldMatchers, AreLive}
use Rattle.held_slots.proofs.HoldingLaws.{held_live, evaluation_keeps}
use Rattle.held_slots.proofs.TruthLaws.{held_truths}
use Rattle.client_engine.specs.declared.live_id.LiveId.{LiveId}
use Rattle.hub_core.specs.declared.live_instance.LiveInstance.{LiveInstance}
use Rattle.hub_core.specs.SharedTable.{IsHeldIn, IsHeldTable, HasSameSlots}
use Rattle.hub_core.specs.Sleeping.{LogsAwake}
use Rattle.hub_core.specs.SlotLogs.{results_for, questions_for, asked_by_all, EvaluatesFor}
use Rattle.hub_core.proofs.QuestionLemmas.{questions_are}

-- what was installed holds its matchers, and hears what it says
pub new_held : (table : SlotTable) (linked : Linked) (live : LiveInstance) → IsSoundConfig linked
    → linked_of live.carried.instance ≡ linked → HoldMatchers table live.slots linked.matchers
    → live.hearing.ids ≡ heard_ids linked → live.hearing.all ≡ hears_all linked → IsHeldIn table live
new_held table linked live sound is holds ids all =
    let same : live.carried.instance.matchers ≡ linked.matchers = ap (λ (l : Linked). l.matchers) is in
    record {
      slots = subst (HoldMatchers table live.slots) (sym same) holds;
      in_range = subst (λ (ms : List LMatcher). AreInRange (named_places ms)) (sym same)
          (references_end linked sound).matchers_there;
      no_cycle = subst (λ (ms : List LMatcher). HasNoCycle (named_places ms)) (sym same) sound.matchers_end;
      hears = record { ids = ids ∙ ap heard_ids (sym is); all = all ∙ ap hears_all (sym is) };
    }

-- what is kept twice is kept
pub same_twice : (first second third : LiveInstance) → HasSameSlots first second → HasSameSlots second third
    → HasSameSlots first third
same_twice first second third one other = record {
  slots = other.slots ∙ one.slots;
  carried = record {
    name = other.carried.name ∙ one.carried.name;
    config = other.carried.config ∙ one.carried.config;
    linked = other.carried.linked ∙ one.carried.linked;
  };
  hearing = other.hearing ∙ one.hearing;
}

-- the slots of what is held are live
pub held_are_live : (table : SlotTable) (live : LiveInstance) → IsHeldIn table live → AreLive table live.slots
held_are_live table live held k d h =
    let within : k < length live.carried.instance.matchers = omega (arith, h, held.slots.each) in
    subst (λ (s : ℕ). matcher_at table.slots s ≢ None) (get_or_default live.slots k 0 d h)
    (held_live table live.slots live.carried.instance.matchers held.slots k within)

module _ (says : SimpleMatcher → Atom → Bool) where
  -- the truths of a configuration's matchers are those that its history has for the frame, and as many as are asked for
  pub truths_are : (linked : Linked) (frame : LogFrame)
      → truths_by says linked.matchers frame ≡ truths_at says linked frame
  truths_are linked (Tick at) = refl
  truths_are linked (AtomAt at atom) = refl
  truths_are linked (Pull at id outcome) = refl

  -- there is one truth for each matcher at an atom, and none else
  pub is_view : (linked : Linked) (frame : LogFrame) → IsView linked frame (truths_at says linked frame)
  is_view linked (Tick at) = refl
  is_view linked (AtomAt at atom) = length-map-range_with_len (matches says atom linked.matchers) 0
      (length linked.matchers)
  is_view linked (Pull at id outcome) = refl

  -- they are those of the frame that is shown
  pub truths_shown : (linked : Linked) (log : List LogFrame) (frame : LogFrame)
      → truths_at says linked (shown_as log frame) ≡ truths_at says linked frame
  truths_shown linked log (Tick at) = refl
  truths_shown linked log (AtomAt at atom) = refl
  truths_shown linked log (Pull at id outcome) = refl

  -- an instance that woke up and took a frame with the truths of its matchers took it as the judge says
  pub logs_by : (before : Moment) (shown : LogFrame) (book : BookOfStates) (old new : Running) (truths : List Bool)
      → truths ≡ truths_by says old.matchers shown → LogsAwake before old shown truths book new
      → LogsBy says before shown book old new
  logs_by before shown book old new truths are logs history frame asleep in_time shown_is book_is =
      let linked = history.installed.linked in
      let same : truths ≡ truths_at says linked frame =
      are ∙ truths_are (linked_of old) shown ∙ ap (λ l. truths_at says l shown) asleep.stands.linked
      ∙ ap (truths_at says linked) shown_is ∙ truths_shown linked (log_of_history history) frame in
      subst (λ (given : List Bool). InstanceStandsFor new (with_step history (logged_step frame given))) same
      (logs history frame asleep in_time (subst (IsView linked frame) (sym same) (is_view linked frame)) shown_is
      book_is)

  -- the results of what is held are the truths of its matchers
  pub results_are : (before table : SlotTable) (old : LiveInstance) (shown : LogFrame) → IsSoundTable table
      → EvaluatesFor says shown before table → IsHeldIn table old
      → results_for table shown old.slots ≡ truths_by says old.carried.instance.matchers shown
  results_are before table old (Tick at) sound evaluates held = refl
  results_are before table old (AtomAt at atom) sound evaluates held =
      held_truths says atom before table old.slots old.carried.instance.matchers held.in_range held.no_cycle sound
      evaluates held.slots
  results_are before table old (Pull at id outcome) sound evaluates held = refl

  -- an evaluation keeps what is held
  pub evaluated_held : (before table : SlotTable) (shown : LogFrame) (rows : List (LiveId × LiveInstance))
      → EvaluatesFor says shown before table → IsHeldTable before rows → IsHeldTable table rows
  evaluated_held before table (Tick at) rows evaluates held =
      subst (λ (t : SlotTable). IsHeldTable t rows) (sym evaluates) held
  evaluated_held before table (Pull at id outcome) rows evaluates held =
      subst (λ (t : SlotTable). IsHeldTable t rows) (sym evaluates) held
  evaluated_held before table (AtomAt at atom) rows evaluates held = record {
    all = All-weaker (λ (row : LiveId × LiveInstance). IsHeldIn before row.1)
        (λ (row : LiveId × LiveInstance). IsHeldIn table row.1) (λ row here. record {
          slots = evaluation_keeps says atom before table row.1.slots row.1.carried.instance.matchers evaluates
              here.slots;
          in_range = here.in_range;
          no_cycle = here.no_cycle;
          hears = here.hears;
        }) rows held.all;
    uses = λ s. ap (λ (uses : List ℕ). get_or uses s 0) evaluates.outside ∙ held.uses s;
  }

-- a table that is held asks as many questions as all that is live is worth
pub asked_are : (table : SlotTable) (frame : LogFrame) (rows : List (LiveId × LiveInstance)) → IsSoundTable table
    → IsHeldTable table rows → questions_for frame table ≡ asked_by_all frame rows
asked_are table (Tick at) rows sound held = refl
asked_are table (AtomAt at atom) rows sound held = questions_are atom table rows sound held
asked_are table (Pull at id outcome) rows sound held = refl
