-- The text of why there is no calendar.
use Rattle.std.specs.Prelude.{ℕ, List, ◌++◌, codes}
use Rattle.cif_calendar.specs.declared.{key_calendar.CalendarFault.CalendarFault, key_calendar.CalendarFault.TheVariants.Ambiguous}
use Rattle.cif_calendar.specs.declared.{key_calendar.CalendarFault.TheVariants.Memory}
use Rattle.cif_columns.specs.DayDigits.{yymmdd_of}

-- the date of the clash, as `Ambiguous on 260106`, or that memory ran out
abbrev pub text_of : CalendarFault → List ℕ
text_of (Ambiguous day) = codes "Ambiguous on " ++ yymmdd_of day
text_of Memory = codes "Memory"
