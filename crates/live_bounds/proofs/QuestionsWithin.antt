-- What the rows of a hub may ask is at most what may be asked by all that is live.
use Rattle.std.proofs.Common.{◌≡◌, ℕ, ℤ, ◌≤◌, Bool, true, false, ◌||◌, List, [], ◌∷◌, map, Option, refl, sym, ap, subst, ◌∙◌, arith}
use Rattle.std.specs.List.{AllByRecursion, IsDistinct, flat_map, list_any, sum_by}
use Rattle.std.specs.Map.{keys_of}
use Rattle.std.specs.Option.{option_map_or}
use Rattle.std.proofs.lemmas.List.Folds.{list_any-append}
use Rattle.atom_record.specs.declared.atom.Atom.{Atom}
use Rattle.atom_record.specs.declared.log.LogFrame.{LogFrame}
use Rattle.atom_record.specs.declared.log.LogFrame.TheVariants.{Tick, AtomAt, Pull}
use Rattle.config_types.specs.declared.matcher.SimpleMatcher.{SimpleMatcher}
use Rattle.config_links.specs.declared.linked.LMatcher.{LMatcher}
use Rattle.session_frames.specs.declared.frame.Frame.{Frame}
use Rattle.session_frames.specs.declared.frame.Frame.TheVariants.{Log, Install, Remove, Report}
use Rattle.hub_meaning.specs.Acceptance.{LiveConfig}
use Rattle.hub_meaning.specs.SessionLog.{own}
use Rattle.saved_weight.specs.Weigh.{LiveOf, lives_of}
use Rattle.saved_weight.proofs.LivesWithin.{same_name, name_itself, name_exact, IsFoundLive, lives_within}
use Rattle.saved_weight.proofs.SizeLaws.{sum_by-map}
use Rattle.saved_weight.proofs.SumFound.{AreApart}
use Rattle.client_engine.specs.declared.live_id.LiveId.{LiveId}
use Rattle.hub_core.specs.declared.hub.Hub.{Hub}
use Rattle.hub_core.specs.declared.live_instance.LiveInstance.{LiveInstance}
use Rattle.hub_core.specs.DifferentMatchers.{asked_matcher, asked_matchers, is_same_matcher}
use Rattle.hub_core.specs.HubStands.{asked_in, HubStandsFor}
use Rattle.hub_core.specs.LiveQuestions.{config_questions, name_questions, questions_in}
use Rattle.hub_core.specs.NamedLives.{names_of, saved_rows}
use Rattle.hub_core.specs.Slots.{same_id}
use Rattle.live_bounds.specs.LiveBounds.{live_asked, live_matchers, live_questions, matchers_of, questions_by}
use Rattle.live_bounds.proofs.DifferentLemmas.{fewer_different, is_in}
use Rattle.live_bounds.proofs.LiveRows.{IsLiveRow, all_live, any_live, rows_live}
use Rattle.live_bounds.proofs.RowsApart.{Rows, all_found, pair_of, pairs_apart}

-- what is so of any of a flat list is so of any of one of its lists
any_flat : {A B : Type 0} (p : B → Bool) (f : A → List B) (xs : List A)
    → list_any p (flat_map f xs) ≡ list_any (λ x. list_any p (f x)) xs
any_flat p f [] = refl
any_flat p f (x ∷ xs) = list_any-append p (f x) (flat_map f xs) ∙ ap (λ b. list_any p (f x) || b) (any_flat p f xs)

module _ (says : SimpleMatcher → Atom → Bool) (frames : List Frame) (frame : LogFrame) where
  -- a name with its numbers
  abbrev named : LiveId → (ℤ × ℤ) × LiveId
  named name = (pair_of name, name)

  -- what may be asked under a name
  abbrev asked_at : (ℤ × ℤ) × LiveId → ℕ
  asked_at row = name_questions says frames frame row.1

  -- what may be asked by one that is live
  abbrev asked_by : (ℤ × ℤ) × LiveOf → ℕ
  asked_by row = questions_by says frames frame row.1

  -- a name isn't among others
  name_apart : (name : LiveId) (names : List LiveId) → AllByRecursion (λ other. same_id name other ≡ false) names
      → AllByRecursion (λ (other : (ℤ × ℤ) × LiveId). same_name (pair_of name) other.0 ≡ false) (map named names)
  name_apart name [] apart = tt
  name_apart name (other ∷ names) apart = (pairs_apart name other apart.0, name_apart name names apart.1)

  -- names apart are rows apart
  names_apart : (names : List LiveId) → IsDistinct same_id names
      → AreApart same_name name_itself name_exact asked_at asked_by (map named names)
  unfolding IsDistinct
  names_apart [] apart = tt
  names_apart (name ∷ names) apart = (name_apart name names apart.0, names_apart names apart.1)

  -- each is found, and asks no more than what is live there
  names_found : (rows : Rows) → AllByRecursion (IsLiveRow frames) rows
      → AllByRecursion (IsFoundLive frames (questions_by says frames frame) asked_at) (map named (keys_of rows))
  names_found [] all = tt
  names_found (row ∷ rows) all =
      let uid = row.0.uid in
      let is = ap (λ (config : Option LiveConfig).
      option_map_or (config_questions says uid (own uid frames) frame) config 0) all.0.found in
      (record { config = all.0.config; found = all.0.found; within = omega (arith, is) }, names_found rows all.1)

  -- the names of rows ask no more than all that is live
  pub names_within : (rows : Rows) → IsDistinct same_id (keys_of rows) → AllByRecursion (IsLiveRow frames) rows
      → sum_by (name_questions says frames frame) (keys_of rows)
      ≤ sum_by (questions_by says frames frame) (lives_of frames)
  names_within rows apart all =
      let same = sum_by-map asked_at named (keys_of rows) in
      let less = lives_within frames (questions_by says frames frame) asked_at (map named (keys_of rows))
      (names_apart (keys_of rows) apart) (names_found rows all) in
      omega (arith, same, less)

module _ (frames : List Frame) (atom : Atom) where
  -- the matchers of an atom's id in a row
  abbrev row_matchers : LiveId × LiveInstance → List SimpleMatcher
  row_matchers row = flat_map (asked_matcher atom) row.1.carried.instance.matchers

  -- a matcher of a row is one of what is live
  row_asked : (m : SimpleMatcher) (row : LiveId × LiveInstance) → IsLiveRow frames row
      → is_in (row_matchers row) m ≡ true → list_any (λ it. is_in (matchers_of atom it) m) (lives_of frames) ≡ true
  row_asked m row at is =
      any_live frames (λ it. is_in (matchers_of atom it) m) row.0.uid row.0.id at.config at.found
      (ap (λ (matchers : List LMatcher). is_in (flat_map (asked_matcher atom) matchers) m) (sym at.matchers) ∙ is)

  -- a matcher of the rows is one of what is live
  pub asked_live : (rows : Rows) → AllByRecursion (IsLiveRow frames) rows → (m : SimpleMatcher)
      → is_in (asked_matchers atom rows) m ≡ true → is_in (live_asked atom frames) m ≡ true
  asked_live rows all m is =
      any_flat (is_same_matcher m) (matchers_of atom) (lives_of frames)
      ∙ rows_live frames (λ it. is_in (matchers_of atom it) m) (λ row. is_in (row_matchers row) m)
      (row_asked m) rows all (sym (any_flat (is_same_matcher m) row_matchers rows) ∙ is)

module _ (says : SimpleMatcher → Atom → Bool) {J : Type 0} (hub : Hub J) (frames : List Frame)
    (apart : IsDistinct same_id (names_of (saved_rows hub.lives.slots.entries)))
    (stands : HubStandsFor says hub frames) where
  -- its keys are apart as well, since each row stands under its own name
  keys_apart : IsDistinct same_id (keys_of hub.lives.slots.entries)
  keys_apart = subst (IsDistinct same_id) (sym hub.lives.named) apart

  -- its rows, each of what is live
  rows_are_live : AllByRecursion (IsLiveRow frames) hub.lives.slots.entries
  rows_are_live =
      all_live says hub frames stands hub.lives.slots.entries (all_found hub.lives.slots.entries keys_apart)

  -- the questions of conditions
  pub conditions_within : (frame : Frame) → questions_in says hub frames frame ≤ live_questions says frames frame
  conditions_within (Log (AtomAt at atom)) =
      names_within says frames (AtomAt at atom) hub.lives.slots.entries keys_apart rows_are_live
  conditions_within (Log (Tick at)) = omega arith
  conditions_within (Log (Pull at id outcome)) = omega arith
  conditions_within (Install uid id bytes) = omega arith
  conditions_within (Remove uid id) = omega arith
  conditions_within (Report uid id include_current) = omega arith

  -- the questions of the judge
  pub judge_within : (frame : Frame) → asked_in frame hub ≤ live_matchers frame frames
  judge_within (Log (AtomAt at atom)) =
      fewer_different (asked_matchers atom hub.lives.slots.entries) (live_asked atom frames)
      (asked_live frames atom hub.lives.slots.entries rows_are_live)
  judge_within (Log (Tick at)) = omega arith
  judge_within (Log (Pull at id outcome)) = omega arith
  judge_within (Install uid id bytes) = omega arith
  judge_within (Remove uid id) = omega arith
  judge_within (Report uid id include_current) = omega arith
