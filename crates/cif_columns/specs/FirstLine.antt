-- What a content is as a line, as a value that computes.
use Rattle.std.specs.Prelude.{ℕ, Bool, ◌&&◌, List, length, nat_le, ◌==◌, if◌then◌else◌, Result, Ok, Err}
use Rattle.std.specs.List.{list_all}
use Rattle.cif_columns.specs.declared.{refusal.Refusal.Refusal, refusal.Refusal.TheVariants.BadByte, refusal.Refusal.TheVariants.BadLength}

-- whether the byte is a line feed
abbrev pub is_line_feed : ℕ → Bool
is_line_feed b = b == 10

-- whether the byte may stand in a line
abbrev pub is_printable : ℕ → Bool
is_printable b = nat_le 32 b && nat_le b 126

-- a content as a line, or why it is none
abbrev pub line_of : List ℕ → Result (List ℕ) Refusal
line_of content = if length content == 80 then (if list_all is_printable content then Ok content else Err BadByte) else Err BadLength
