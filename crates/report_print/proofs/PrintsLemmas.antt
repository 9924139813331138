-- On specs/Prints.antt: what the print says of an input that tells its bytes, for callers, and of an output that
-- failed.
use Rattle.std.proofs.Common.{◌≡◌, ℕ, ◌+◌, ◌≤◌, ◌⊎◌, inl, inr, List, [], ◌++◌, length, Result, Err, sym, ap, ◌∙◌, subst, arith}
use Rattle.std.proofs.lemmas.List.{append-nil, length-append}
use Rattle.sd_io.specs.States.{Ports}
use Rattle.sd_io.specs.Causes.{GainsFront, IsAtEnd, Rose, Takes}
use Rattle.sd_io.specs.Fronts.{IsFrontTaken}
use Rattle.report_writer.specs.declared.tree.ReportTree.{ReportTree}
use Rattle.report_show.specs.Show.{most_report_bytes, IsReport, IsSpelledByNone}
use Rattle.report_print.specs.declared.error.PrintError.{PrintError}
use Rattle.report_print.specs.declared.error.PrintError.TheVariants.{Write}
use Rattle.report_print.specs.Prints.{most_report_taken, report_line, Prints, IsSomeReport}

-- all bytes were taken of an input that has ended
all_taken : (bytes taken rest : List ℕ) → bytes ≡ taken ++ rest → rest ≡ [] → bytes ≡ taken
all_taken bytes taken rest is ended = is ∙ ap (λ r. taken ++ r) ended ∙ append-nil taken

-- What is printed of an input that tells its bytes: whether they are a report.
module _ (bytes taken rest : List ℕ) (is : bytes ≡ taken ++ rest) where
  -- the bytes that were taken are a report, and no others are left
  pub some_report : (tree : ReportTree) → rest ≡ [] → IsReport taken tree → IsSomeReport bytes
  some_report tree ended report =
      (tree, subst (λ (b : List ℕ). IsReport b tree) (sym (all_taken bytes taken rest is ended)) report)

  -- they are too many
  pub too_many : length taken ≡ most_report_taken → IsSomeReport bytes → ⊥
  too_many most report =
      let long : length bytes ≡ length taken + length rest = ap length is ∙ length-append taken rest in
      let short = report.1.short in
      omega (arith, long, most, short)

  -- no report is spelled so
  pub no_report : rest ≡ [] → IsSpelledByNone taken → IsSomeReport bytes → ⊥
  no_report ended none report =
      none report.0 report.1.well_formed (sym (all_taken bytes taken rest is ended) ∙ report.1.spelled)

-- What is said where the output failed at the line of a report.
module _ (old new : Ports) (taken : List ℕ) (tree : ReportTree) where
  -- a report is shorter than what is taken at most, so the input has ended
  has_ended : length taken ≤ most_report_bytes → (length taken ≡ most_report_taken) ⊎ IsAtEnd new.input.left
      → IsAtEnd new.input.left
  has_ended short (inl most) = absurd (omega (arith, short, most))
  has_ended short (inr at_end) = at_end

  pub cut_short : Takes old.input new.input taken → IsFrontTaken most_report_taken taken new.input
      → IsReport taken tree → (line : List ℕ) → line ≡ report_line tree → GainsFront old.output new.output line
      → Rose old.output.faults new.output.faults → (answer : Result Unit PrintError) → answer ≡ Err Write
      → Prints old new answer
  cut_short consumes front report line is written rose answer fails =
      subst (Prints old new) (sym fails) (record {
        taken = taken;
        consumes = consumes;
        outcome = record {
          tree = tree;
          is_taken = record { at_end = has_ended report.short front.whole; is_report = report };
          written = subst (GainsFront old.output new.output) is written;
          rose = rose;
        };
      })
