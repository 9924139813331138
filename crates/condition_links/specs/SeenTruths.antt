-- What `combine3` and `query` keep of truths: only private clauses cite this.
use Rattle.std.specs.Prelude.{List}
use Rattle.std.specs.List.{list_all, list_any}
use Rattle.predicate_state.specs.declared.truth.Truth.{Truth}
use Rattle.condition_links.specs.declared.joined.Seen.{Seen}
use Rattle.condition_links.specs.ThreeValues.{is_unknown_truth, is_true}

-- whether some is unknown, whether some is true, whether all are
abbrev pub seen_of : List Truth → Seen
seen_of truths =
    record { unknown = list_any is_unknown_truth truths; any = list_any is_true truths; all = list_all is_true truths }
