-- The text of a fault of the lines.
use Rattle.std.specs.Prelude.{ℕ, List, ◌++◌, codes, decimal}
use Rattle.cif_columns.specs.{Refusal.name_of, declared.refusal.LineFault.LineFault, declared.refusal.LineFault.TheVariants.Read}
use Rattle.cif_columns.specs.{declared.refusal.LineFault.TheVariants.Refused}

-- the line that is refused, counted from 1, and why, as `line 2: BadDays`; or that the source has failed
abbrev pub text_of : LineFault → List ℕ
text_of (Refused line why) = codes "line " ++ decimal line ++ codes ": " ++ name_of why
text_of Read = codes "ReadFault"
