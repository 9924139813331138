-- From books to calls, for every kind of producer: each call owes only what it makes of the books.
use Rattle.std.proofs.Common.{List, sym, subst}
use Rattle.bucket_meaning.specs.Marks.{Books}
use Rattle.bucket_meaning.specs.Meaning.{marks_on, books_by}
use Rattle.bucket_meaning.proofs.MeaningLemmas.{books_by-push}
use Rattle.metric_producer.specs.Calls.{Call}
use Rattle.metric_producer.specs.Rules.{IsAdmitted}
use Rattle.metric_producer.specs.Moves.{Moves}
use Rattle.metric_producer.specs.Collecting.{Collecting, call_marks, calls_mean, Law}

module _ {P Params Event After X K C R : Type 0} (collecting : Collecting Params Event After X K C R)
    (HasBooks : P → Params → Books X → Type 0) where
  -- an object that holds the books of its calls stands for them
  abbrev booked : Law P Params Event After X K C R
  booked = record {
    stands = λ object params calls. HasBooks object params (books_by (calls_mean collecting) params calls);
    collecting = collecting;
  }

  -- where an object holds the books after the marks of a call, it stands for the calls with this one
  pub moves : (old new : P) (call : Call Event After)
      → ((params : Params) (calls : List (Call Event After)) (books : Books X) → HasBooks old params books
      → IsAdmitted (collecting.demands params) calls call
      → HasBooks new params (marks_on (calls_mean collecting) params books (call_marks collecting params calls call)))
      → Moves booked old new call
  moves old new call step params calls has may =
      subst (HasBooks new params) (sym (books_by-push (calls_mean collecting) params calls call))
      (step params calls (books_by (calls_mean collecting) params calls) has may)
