-- The tokens by which a value is written.
use Rattle.std.specs.Prelude.{List}
use Rattle.json.specs.Token.{Token}
use Rattle.json.specs.Tree.{json_tokens}
use Rattle.serde_json.specs.Data.{Data}
use Rattle.serde_json.specs.Written.{outline}

-- those of a value without a float
abbrev pub tokens_of : Data → List Token
tokens_of shown = json_tokens (outline shown)
