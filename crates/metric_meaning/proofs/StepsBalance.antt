-- Each arrival is in one part, and what is dropped is told once: lemmas over the steps of a metric.
use Rattle.std.proofs.Common.{◌≡◌, ℕ, ◌+◌, Bool, true, false, List, [], ◌∷◌, ◌++◌, refl, sym, ap, subst, ◌∙◌, arith, append_assoc, nat_lt, if◌then◌else◌}
use Rattle.std.specs.List.{flat_map, sum_by, sum}
use Rattle.std.proofs.lemmas.List.{append-nil}
use Rattle.std.proofs.lemmas.List.Concat.{flat_map-append}
use Rattle.std.proofs.lemmas.List.Sums.{sum_by-cons, sum_by-append, sum_by_push}
use Rattle.sd_base.specs.Outputs.{outputs}
use Rattle.sd_base.proofs.OutputsLemmas.{outputs-push}
use Rattle.bucket_meaning.specs.Marks.{Mark, Ends, Asked, Edges, edges_again, boundary, boundary_marks, Part, Books, after, books_from, books_of}
use Rattle.bucket_meaning.specs.Rows.{drops}
use Rattle.bucket_meaning.proofs.MarksLemmas.{books-append}
use Rattle.metric_meaning.specs.Histories.{What, Logged, Reported, Step}
use Rattle.metric_meaning.specs.StepMarks.{StepNews, crossed_at, cut_marks, marks_at, marks_of}
use Rattle.metric_meaning.specs.Ways.{Way}
use Rattle.metric_meaning.specs.Balance.{arrived_by, part_until, books_after, books_told, told_parts, waiting_parts, IsAllInParts}
use Rattle.metric_meaning.proofs.MarksBalance.{arrived_by_all, asks, HasNoReport, lost_at, all_that_came, marks_come, marks_drop}

-- Reports are only made by reports: no mark of what stands at boundaries is one.
pub record HasQuietEdges {X : Type 0} (edges : Edges X) : Type 0 where
  pub closing : (at : ℕ) → HasNoReport (edges.closing at)
  pub closing_again : (at : ℕ) → HasNoReport (edges.closing_again at)
  pub opening : (at : ℕ) → HasNoReport (edges.opening at)

-- and none of a kind's other marks
pub record IsQuietNews {X : Type 0} (news : StepNews X) : Type 0 where
  pub begins : HasNoReport news.begins
  pub edges : (before : List Step) → HasQuietEdges (news.edges before)
  pub comes : (before : List Step) (step : Step) → HasNoReport (news.comes before step)

-- marks without a report, and more of them
pub both_quiet : {X : Type 0} (marks more : List (Mark X)) → HasNoReport marks → HasNoReport more
    → HasNoReport (marks ++ more)
both_quiet marks more one other =
    sum_by-append asks marks more ∙ ap (λ n. n + sum_by asks more) one ∙ omega (arith, other)

one_boundary : {X : Type 0} (edges : Edges X) → HasQuietEdges edges → (at : ℕ) → HasNoReport (boundary edges at)
one_boundary edges quiet at =
    both_quiet (edges.closing at) (Ends at ∷ edges.opening at) (quiet.closing at)
    (omega (arith, sum_by-cons asks (Ends at) (edges.opening at), quiet.opening at))

boundaries : {X : Type 0} (edges : Edges X) → HasQuietEdges edges → (ends : List ℕ)
    → HasNoReport (boundary_marks edges ends)
boundaries edges quiet [] = refl
boundaries edges quiet (at ∷ ends) =
    both_quiet (boundary edges at) (boundary_marks (edges_again edges) ends) (one_boundary edges quiet at)
    (boundaries (edges_again edges)
    (record { closing = quiet.closing_again; closing_again = quiet.closing_again; opening = quiet.opening }) ends)

cut_quiet : {X : Type 0} (edges : Edges X) → HasQuietEdges edges → (size : ℕ) (cut : Bool) (at : ℕ)
    → HasNoReport (cut_marks edges size cut at)
cut_quiet edges quiet size false at = refl
cut_quiet edges quiet size true at = by_size (nat_lt 0 size) where
  by_size : (b : Bool) → HasNoReport (if b then boundary edges at else [])
  by_size true = one_boundary edges quiet at
  by_size false = refl

module _ {X K C R : Type 0} (way : Way X K C R) (quiet : IsQuietNews way.shown) where
  -- a step more
  marks_push : (before : List Step) (step : Step)
      → marks_of way.shown way.base way.size (before ++ step ∷ [])
      ≡ marks_of way.shown way.base way.size before ++ marks_at way.shown way.base way.size before step
  marks_push before step =
      ap (λ l. way.shown.begins ++ l) (outputs-push (marks_at way.shown way.base way.size) before step)
      ∙ sym (append_assoc way.shown.begins (outputs (marks_at way.shown way.base way.size) before)
      (marks_at way.shown way.base way.size before step))

  books_push : (before : List Step) (step : Step)
      → books_after way (before ++ step ∷ [])
      ≡ books_from (drops way.kind way.bound) (books_after way before)
      (marks_at way.shown way.base way.size before step)
  books_push before step =
      ap (books_of (drops way.kind way.bound) way.base) (marks_push before step)
      ∙ books-append (drops way.kind way.bound)
      (record { start = way.base; came = []; closed = []; dropped = 0; missing = 0 })
      (marks_of way.shown way.base way.size before) (marks_at way.shown way.base way.size before step)

  told_by_cut : (before : List Step) (cut : Bool) (at : ℕ)
      → books_told way before cut at
      ≡ books_from (drops way.kind way.bound) (books_after way before)
      (cut_marks (way.shown.edges before) way.size cut at)
  told_by_cut before cut at =
      books-append (drops way.kind way.bound)
      (record { start = way.base; came = []; closed = []; dropped = 0; missing = 0 })
      (marks_of way.shown way.base way.size before) (cut_marks (way.shown.edges before) way.size cut at)

  -- all that came till then is told, or in the books
  abbrev pub AllCame : List Step → Type 0
  AllCame steps =
      flat_map (λ (part : Part X). part.came) (outputs (told_parts way) steps) ++ all_that_came (books_after way steps)
      ≡ arrived_by_all (marks_of way.shown way.base way.size steps)

  -- one step more
  came_step : (before : List Step) (at : ℕ) (what : What) (truths : List Bool) → AllCame before
      → AllCame (before ++ record { at = at; what = what; truths = truths } ∷ [])
  came_step before at (Logged frame) truths is =
      let step : Step = record { at = at; what = Logged frame; truths = truths } in
      let marks = marks_at way.shown way.base way.size before step in
      let told = outputs (told_parts way) before in
      let none : outputs (told_parts way) (before ++ step ∷ []) ≡ told =
      outputs-push (told_parts way) before step ∙ append-nil told in
      let ends = boundaries (way.shown.edges before) (quiet.edges before)
      (crossed_at way.base way.size before step) in
      let calm = both_quiet (boundary_marks (way.shown.edges before) (crossed_at way.base way.size before step))
      (way.shown.comes before step) ends (quiet.comes before step) in
      ap (λ l. flat_map (λ (part : Part X). part.came) l ++ all_that_came (books_after way (before ++ step ∷ []))) none
      ∙ ap (λ b. flat_map (λ (part : Part X). part.came) told ++ all_that_came b) (books_push before step)
      ∙ ap (λ l. flat_map (λ (part : Part X). part.came) told ++ l)
      (marks_come (drops way.kind way.bound) (books_after way before) marks calm)
      ∙ sym (append_assoc (flat_map (λ (part : Part X). part.came) told) (all_that_came (books_after way before))
      (arrived_by_all marks))
      ∙ ap (λ l. l ++ arrived_by_all marks) is
      ∙ sym (flat_map-append arrived_by (marks_of way.shown way.base way.size before) marks)
      ∙ ap arrived_by_all (sym (marks_push before step))
  came_step before at (Reported cut) truths is =
      let step : Step = record { at = at; what = Reported cut; truths = truths } in
      let cuts = cut_marks (way.shown.edges before) way.size cut at in
      let told = outputs (told_parts way) before in
      let old = books_after way before in
      let closed = books_from (drops way.kind way.bound) old cuts in
      let calm = cut_quiet (way.shown.edges before) (quiet.edges before) way.size cut at in
      let more : outputs (told_parts way) (before ++ step ∷ []) ≡ told ++ closed.closed =
      outputs-push (told_parts way) before step
      ∙ ap (λ (b : Books X). told ++ b.closed) (told_by_cut before cut at) in
      let new : books_after way (before ++ step ∷ []) ≡ after (drops way.kind way.bound) closed Asked =
      books_push before step ∙ books-append (drops way.kind way.bound) old cuts (Asked ∷ []) in
      ap (λ l. flat_map (λ (part : Part X). part.came) l ++ all_that_came (books_after way (before ++ step ∷ []))) more
      ∙ ap (λ b. flat_map (λ (part : Part X). part.came) (told ++ closed.closed) ++ all_that_came b) new
      ∙ ap (λ l. l ++ closed.came) (flat_map-append (λ (part : Part X). part.came) told closed.closed)
      ∙ append_assoc (flat_map (λ (part : Part X). part.came) told)
      (flat_map (λ (part : Part X). part.came) closed.closed) closed.came
      ∙ ap (λ l. flat_map (λ (part : Part X). part.came) told ++ l)
      (marks_come (drops way.kind way.bound) old cuts calm)
      ∙ sym (append_assoc (flat_map (λ (part : Part X). part.came) told) (all_that_came old) (arrived_by_all cuts))
      ∙ ap (λ l. l ++ arrived_by_all cuts) is
      ∙ sym (flat_map-append arrived_by (marks_of way.shown way.base way.size before) cuts)
      ∙ sym (append-nil (arrived_by_all (marks_of way.shown way.base way.size before ++ cuts)))
      ∙ sym (flat_map-append arrived_by (marks_of way.shown way.base way.size before ++ cuts) (Asked ∷ []))
      ∙ ap arrived_by_all (append_assoc (marks_of way.shown way.base way.size before) cuts (Asked ∷ []))
      ∙ ap arrived_by_all (sym (marks_push before step))

  came_from : (before steps : List Step) → AllCame before → AllCame (before ++ steps)
  came_from before [] is = subst AllCame (sym (append-nil before)) is
  came_from before (step ∷ steps) is =
      subst AllCame (append_assoc before (step ∷ []) steps)
      (came_from (before ++ step ∷ []) steps (came_step before step.at step.what step.truths is))

  -- Each arrival is in one part.
  pub all_came : (steps : List Step) → AllCame steps
  all_came steps =
      came_from [] steps
      (marks_come (drops way.kind way.bound)
      (record { start = way.base; came = []; closed = []; dropped = 0; missing = 0 })
      (way.shown.begins ++ []) (both_quiet way.shown.begins [] quiet.begins refl))

  -- and all parts are those that were told, and those that wait
  pub all_in_parts : (steps : List Step) (now : ℕ) → IsAllInParts way steps now
  all_in_parts steps now =
      let books = books_after way steps in
      let told = outputs (told_parts way) steps in
      let came : Part X → List X = λ part. part.came in
      flat_map-append came told (waiting_parts way steps now)
      ∙ ap (λ l. flat_map came told ++ l)
      (flat_map-append came books.closed (part_until books now ∷ [])
      ∙ ap (λ l. flat_map came books.closed ++ l) (append-nil books.came))
      ∙ all_came steps

  -- how many arrivals the books have as dropped where a step is a report
  abbrev pub drops_at : List Step → Step → List ℕ
  drops_at before step = of_what step.what where
    of_what : What → List ℕ
    of_what (Logged frame) = []
    of_what (Reported include_current) = (books_told way before include_current step.at).dropped ∷ []

  -- by how many of what came in a part are dropped
  module _ (held : List X → ℕ) (nothing : held [] ≡ 0)
      (counts : (came : List X) (what : X) → held came + drops way.kind way.bound came what ≡ held (came ++ what ∷ []))
    where
      -- how many of a part are dropped
      abbrev held_in : Part X → ℕ
      held_in part = held part.came

      -- what was dropped till then is told, or in the books
      abbrev pub AllTold : List Step → Type 0
      AllTold steps =
          sum (outputs drops_at steps) + (books_after way steps).dropped
          ≡ sum_by held_in (outputs (told_parts way) steps) + (sum_by held_in (books_after way steps).closed
          + held (books_after way steps).came) + sum_by lost_at (marks_of way.shown way.base way.size steps)

      -- one step more
      told_step : (before : List Step) (at : ℕ) (what : What) (truths : List Bool) → AllTold before
          → AllTold (before ++ record { at = at; what = what; truths = truths } ∷ [])
      told_step before at (Logged frame) truths is =
          let step : Step = record { at = at; what = Logged frame; truths = truths } in
          let marks = marks_at way.shown way.base way.size before step in
          let parts = outputs (told_parts way) before in
          let counted = outputs drops_at before in
          let ends = boundaries (way.shown.edges before) (quiet.edges before)
          (crossed_at way.base way.size before step) in
          let calm = both_quiet (boundary_marks (way.shown.edges before) (crossed_at way.base way.size before step))
          (way.shown.comes before step) ends (quiet.comes before step) in
          let same_parts = ap (sum_by held_in) (outputs-push (told_parts way) before step ∙ append-nil parts) in
          let same_drops = ap sum (outputs-push drops_at before step ∙ append-nil counted) in
          let dropped_now = ap (λ (b : Books X). b.dropped) (books_push before step) in
          let held_now = ap (λ (b : Books X). sum_by held_in b.closed + held b.came) (books_push before step) in
          let lost_now = ap (sum_by lost_at) (marks_push before step)
          ∙ sum_by-append lost_at (marks_of way.shown way.base way.size before) marks in
          let one = marks_drop (drops way.kind way.bound) held nothing counts (books_after way before) marks calm in
          omega (arith, is, same_parts, same_drops, dropped_now, held_now, lost_now, one)
      told_step before at (Reported cut) truths is =
          let step : Step = record { at = at; what = Reported cut; truths = truths } in
          let cuts = cut_marks (way.shown.edges before) way.size cut at in
          let parts = outputs (told_parts way) before in
          let counted = outputs drops_at before in
          let old = books_after way before in
          let closed = books_from (drops way.kind way.bound) old cuts in
          let calm = cut_quiet (way.shown.edges before) (quiet.edges before) way.size cut at in
          let more_parts = ap (sum_by held_in) (outputs-push (told_parts way) before step
          ∙ ap (λ (b : Books X). parts ++ b.closed) (told_by_cut before cut at))
          ∙ sum_by-append held_in parts closed.closed in
          let more_drops = ap sum (outputs-push drops_at before step
          ∙ ap (λ (b : Books X). counted ++ b.dropped ∷ []) (told_by_cut before cut at))
          ∙ sum_by_push (λ n. n) counted closed.dropped in
          let new : books_after way (before ++ step ∷ []) ≡ after (drops way.kind way.bound) closed Asked =
          books_push before step ∙ books-append (drops way.kind way.bound) old cuts (Asked ∷ []) in
          let dropped_now = ap (λ (b : Books X). b.dropped) new in
          let held_now = ap (λ (b : Books X). sum_by held_in b.closed + held b.came) new in
          let lost_now = ap (sum_by lost_at) (marks_push before step)
          ∙ sum_by-append lost_at (marks_of way.shown way.base way.size before) (cuts ++ Asked ∷ [])
          ∙ ap (λ n. sum_by lost_at (marks_of way.shown way.base way.size before) + n)
          (sum_by_push lost_at cuts Asked) in
          let one = marks_drop (drops way.kind way.bound) held nothing counts old cuts calm in
          omega (arith, is, more_parts, more_drops, dropped_now, held_now, lost_now, one)

      told_from : (before steps : List Step) → AllTold before → AllTold (before ++ steps)
      told_from before [] is = subst AllTold (sym (append-nil before)) is
      told_from before (step ∷ steps) is =
          subst AllTold (append_assoc before (step ∷ []) steps)
          (told_from (before ++ step ∷ []) steps (told_step before step.at step.what step.truths is))

      -- Each drop is told once, or waits.
      pub all_told : (steps : List Step) → AllTold steps
      all_told steps =
          let start : Books X = record { start = way.base; came = []; closed = []; dropped = 0; missing = 0 } in
          let one = marks_drop (drops way.kind way.bound) held nothing counts start (way.shown.begins ++ [])
          (both_quiet way.shown.begins [] quiet.begins refl) in
          told_from [] steps (omega (arith, one, nothing))
