-- The causes for which bytes are no message, and how deep messages and groups may nest.
use Rattle.std.specs.Prelude.{ℕ}

-- a varint whose tenth byte has its high bit set, whether or not a byte follows
abbrev pub cause_long_varint : ℕ
cause_long_varint = 1

-- the bytes end inside a record, or before a group's end
abbrev pub cause_cut : ℕ
cause_cut = 2

-- wire type 6 or 7
abbrev pub cause_unknown_wire_type : ℕ
cause_unknown_wire_type = 3

-- field number 0
abbrev pub cause_zero_number : ℕ
cause_zero_number = 4

-- a group's end without its start, or with another number
abbrev pub cause_stray_group_end : ℕ
cause_stray_group_end = 5

-- a message or a group of depth 101
abbrev pub cause_too_deep : ℕ
cause_too_deep = 6

-- a tag above 2^32 - 1
abbrev pub cause_long_tag : ℕ
cause_long_tag = 7

-- the greatest depth of a message or a group, where the whole configuration has depth 0
abbrev pub most_depth : ℕ
most_depth = 100
