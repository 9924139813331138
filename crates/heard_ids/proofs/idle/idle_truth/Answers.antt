-- A combination's truth is its operation over the truths at the places that it names.
use Rattle.std.proofs.Common.{ℕ, Bool, map, Some, sym, ap, ◌∙◌}
use Rattle.config_links.specs.declared.linked.LMatcher.{LMatcher}
use Rattle.matcher_eval.specs.Combined.{combined_truth}
use Rattle.heard_ids.specs.Hearing.{idle_from, truth_listed}
use Rattle.heard_ids.proofs.idle.idle_truth.Goals as goal

pub returns-in_ok-below-in-Combo : goal.returns-in_ok-below-in-Combo
returns-in_ok-below-in-Combo c =
    let listed : ℕ → Bool = λ place. truth_listed place c.args.truths.now in
    c.combine.ensures
    ∙ ap (combined_truth c.in-Combo.op) (c.as_slice-in-Combo.ensures.value ∙ c.in_ok-below-in-Combo.ensures
    ∙ ap (map listed) c.as_slice.ensures)
    ∙ ap (λ (matcher : LMatcher). idle_from listed (Some matcher)) (sym c.in-Combo.is)
