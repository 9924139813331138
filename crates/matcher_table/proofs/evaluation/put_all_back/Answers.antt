use Rattle.std.proofs.Common.{◌∙◌, arith, inl, inr}
use Rattle.matcher_table.proofs.evaluation.put_all_back.Goals as goal

pub put_back-requires-clause-results : goal.put_back-requires-clause-results
put_back-requires-clause-results c s among = (c.requires.list s among).0

pub put_back-requires-clause-idle : goal.put_back-requires-clause-idle
put_back-requires-clause-idle c s among = (c.requires.list s among).1

pub put_back-requires-2-clause-results : goal.put_back-requires-2-clause-results
put_back-requires-2-clause-results c s among = omega (arith, (c.requires.order s among).0, c.put_back.ensures.same)

pub put_back-requires-2-clause-idle : goal.put_back-requires-2-clause-idle
put_back-requires-2-clause-idle c s among = (c.requires.order s among).1

pub returns-clause-put : goal.returns-clause-put
returns-clause-put c s which =
    elim which [
      | inr behind ↦ c.put_back-2.ensures.done s behind
      | inl among ↦
          elim (c.put_back-2.ensures.either s) [
            | inr back ↦ back
            | inl same ↦ same ∙ c.put_back.ensures.done s (omega arith)
          ]
    ]

pub returns-clause-either : goal.returns-clause-either
returns-clause-either c s =
    elim (c.put_back-2.ensures.either s) [
      | inr back ↦ inr back
      | inl same ↦ elim (c.put_back.ensures.either s) [ inl old ↦ inl (same ∙ old) | inr back ↦ inr (same ∙ back) ]
    ]
