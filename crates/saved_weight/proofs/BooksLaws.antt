-- What a producer's calls leave open and closed is what a metric has after its steps, where calls and steps agree.
use Rattle.std.proofs.Common.{◌≡◌, List, [], ap, ◌∙◌}
use Rattle.bucket_meaning.specs.Marks.{books_of}
use Rattle.bucket_meaning.specs.Meaning.{books_by}
use Rattle.bucket_meaning.specs.Rows.{drops}
use Rattle.metric_calls.proofs.AskingsLemmas.{calls-marks}
use Rattle.metric_calls.specs.Askings.{Asking, own_demands, calls_by_steps, IsMadeFor, marks_after, Agrees}
use Rattle.metric_meaning.specs.Histories.{Step}
use Rattle.metric_meaning.specs.StepMarks.{marks_of}
use Rattle.metric_producer.specs.Collecting.{Collecting, calls_mean}
use Rattle.saved_weight.specs.WayBooks.{own_books}

module _ {Params News Event After X K C R : Type 0} (asking : Asking Params News Event After X K C R)
    (collecting : Collecting Params Event After X K C R) where
  -- where calls have the marks of the steps, they leave the books of the steps
  pub marks_leave : IsMadeFor asking collecting → (steps : List Step)
      → marks_after asking collecting [] (calls_by_steps asking collecting steps)
      ≡ marks_of asking.way.shown (own_demands asking collecting).base (own_demands asking collecting).size steps
      → books_by (calls_mean collecting) asking.params (calls_by_steps asking collecting steps)
      ≡ own_books asking.way steps
  marks_leave made steps marks =
      let base = (own_demands asking collecting).base in
      let size = (own_demands asking collecting).size in
      let bound = collecting.bound asking.params in
      let way = asking.way in
      ap (books_of (drops (collecting.kind asking.params) bound) base) marks
      ∙ ap (λ kind. books_of (drops kind bound) base (marks_of way.shown base size steps)) made.kind
      ∙ ap (λ b. books_of (drops way.kind b) base (marks_of way.shown base size steps)) made.bound
      ∙ ap (λ b. books_of (drops way.kind way.bound) b (marks_of way.shown b size steps)) made.base
      ∙ ap (λ s. books_of (drops way.kind way.bound) way.base (marks_of way.shown way.base s steps)) made.size

  -- calls that agree with steps leave the books of the steps
  pub books_are : Agrees asking collecting → (steps : List Step)
      → books_by (calls_mean collecting) asking.params (calls_by_steps asking collecting steps)
      ≡ own_books asking.way steps
  books_are agrees steps = marks_leave agrees.made steps (calls-marks asking collecting agrees steps)
