-- What a value holds, kind by kind: only private clauses cite this.
use Rattle.std.specs.Prelude.{ℕ, ℤ, List, Option, Some, None}
use Rattle.atom_record.specs.declared.value.Value.{Value}
use Rattle.atom_record.specs.declared.value.Value.TheVariants as values

-- the number that the value is
abbrev pub number_held : Value → Option ℤ
number_held (values.Int number) = Some number
number_held (values.Long number) = Some number
number_held _ = None

-- the text that the value is
abbrev pub text_held : Value → Option (List ℕ)
text_held (values.Str text) = Some text
text_held _ = None
