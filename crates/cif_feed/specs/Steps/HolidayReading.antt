-- What adding a line of holidays comes to.
use Rattle.std.specs.Prelude.{◌≡◌, ◌⊎◌, ◌↔◌, ℕ, List, All}
use Rattle.cif_feed.specs.HolidayText.{IsDate, IsHolidayLine, LineNames, LineSays}
use Rattle.cif_feed.specs.Holidays.{IsHoliday, Names}
use Rattle.cif_feed.specs.declared.{holiday_text.HolidayFault.HolidayFault, holidays.HolidayCode.HolidayCode, holidays.Holidays.Holidays}
use Rattle.cif_feed.specs.declared.holiday_text.HolidayFault.TheVariants.{BadHoliday, Read, Memory}

-- the new holidays have what the line says too
pub record HasLineMore (old : Holidays) (line : List ℕ) (new : Holidays) : Type 0 where
  pub names : (code : HolidayCode) → Names new code ↔ (Names old code ⊎ LineNames code line)
  pub days : (code : HolidayCode) (d : ℕ) → IsHoliday new code d ↔ (IsHoliday old code d ⊎ LineSays code d line)

-- why the line of this number isn't added
abbrev pub IsLineFault : ℕ → List ℕ → HolidayFault → Type 0
IsLineFault number line (BadHoliday at) = (at ≡ number) × (¬ IsHolidayLine line)
IsLineFault number line Read = ⊥
IsLineFault number line Memory = Unit {0}

-- why the dates in the line of this number aren't added
abbrev pub IsDateFault : ℕ → List (List ℕ) → HolidayFault → Type 0
IsDateFault number words (BadHoliday at) = (at ≡ number) × (¬ All IsDate words)
IsDateFault number words Read = ⊥
IsDateFault number words Memory = Unit {0}
