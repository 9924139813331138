-- The numbers of the kinds of replies, and of the classes of refusals. No kind has the numbers 2 and 4, which were
-- those of a replaced and of a removed configuration before their answers had a body.
use Rattle.std.specs.Prelude.{ℕ}

-- the configuration is live
abbrev pub reply_installed : ℕ
reply_installed = 1

-- the configuration was refused
abbrev pub reply_refused : ℕ
reply_refused = 3

-- the client has no such configuration
abbrev pub reply_no_config : ℕ
reply_no_config = 5

-- a report
abbrev pub reply_report : ℕ
reply_report = 6

-- the client has as many configurations as it may have
abbrev pub reply_client_full : ℕ
reply_client_full = 7

-- the configuration is live in place of another, whose last report this is
abbrev pub reply_replaced : ℕ
reply_replaced = 8

-- the configuration was taken out, and this is its last report
abbrev pub reply_removed : ℕ
reply_removed = 9

-- refused: too many bytes
abbrev pub class_too_large : ℕ
class_too_large = 1

-- refused: no message
abbrev pub class_wire : ℕ
class_wire = 2

-- refused: something in it isn't supported
abbrev pub class_unsupported : ℕ
class_unsupported = 3

-- refused: its parts don't fit together
abbrev pub class_link : ℕ
class_link = 4
