-- What `read_tree` answers, from the tree of the bytes.
use Rattle.std.proofs.Common.{◌≡◌, ℕ, ◌≤◌, List, length, sym, ap, ◌∙◌, subst, arith}
use Rattle.report_writer.specs.ReportSpelling.{report_message}
use Rattle.report_writer.specs.declared.tree.ReportTree.{ReportTree}
use Rattle.report_show.specs.WellFormed.{FitsReport, IsShapedReport, IsWellFormed}
use Rattle.report_show.specs.Reading.{read_report}
use Rattle.report_show.specs.Show.{IsReport, IsSpelledByNone, most_report_bytes}
use Rattle.report_show.proofs.Back.{tree_back}
use Rattle.report_show.proofs.Widths.{tree-fits}

module _ (bytes : List ℕ) (short : length bytes ≤ most_report_bytes) (tree : ReportTree)
    (is : tree ≡ read_report bytes) where
  -- it is shaped and spelled so
  pub is_report : IsShapedReport tree → bytes ≡ report_message tree → IsReport bytes tree
  is_report shaped spelled =
      let long : length bytes ≡ length (report_message tree) = ap length spelled in
      record {
        short = short;
        well_formed = record {
          fits = subst FitsReport (sym is) (tree-fits bytes);
          shaped = shaped;
          counted = omega (arith, long, short);
        };
        spelled = spelled;
      }

  -- no other tree is spelled so
  pub only : (other : ReportTree) → IsWellFormed other → bytes ≡ report_message other → tree ≡ other
  only other well spelled = is ∙ ap read_report spelled ∙ tree_back other well

  pub unshaped : (IsShapedReport tree → ⊥) → IsSpelledByNone bytes
  unshaped never other well spelled = never (subst IsShapedReport (sym (only other well spelled)) well.shaped)

  pub unspelled : (bytes ≡ report_message tree → ⊥) → IsSpelledByNone bytes
  unspelled never other well spelled = never (spelled ∙ ap report_message (sym (only other well spelled)))
