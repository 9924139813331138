-- What the steps over a message's fields give. Private clauses alone cite this.
use Rattle.std.specs.Prelude.{◌≡◌, List, [], ◌∷◌, Option, None, Some}
use Rattle.proto_wire.specs.declared.field.Field.{Field}
use Rattle.proto_wire.specs.Fields.{body_view}
use Rattle.report_show.specs.Reading.{Content}

-- what a field says
abbrev pub content_of : Field → Content
content_of field = (field.number, body_view field.body)

-- a field was taken from the front, or there was none
abbrev pub TakesContent : List Content → Option Field → List Content → Type 0
TakesContent old None new = (old ≡ []) × (new ≡ [])
TakesContent old (Some field) new = old ≡ content_of field ∷ new
