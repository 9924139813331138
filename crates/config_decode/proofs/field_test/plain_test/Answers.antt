-- Each answer is what is asked where the number is this.
use Rattle.config_decode.proofs.field_test.plain_test.Goals as goal

pub returns-in_ok-strings-in-13 : goal.returns-in_ok-strings-in-13
returns-in_ok-strings-in-13 c = rw (c.in_ok-strings-in-13.ensures, c.in-13.is)

pub returns-in_ok-strings-in-14 : goal.returns-in_ok-strings-in-14
returns-in_ok-strings-in-14 c = rw (c.in_ok-strings-in-14.ensures, c.in-14.is)
