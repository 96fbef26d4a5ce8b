-- The holiday codes, by their letters, and sets of them.
use Rattle.std.specs.Prelude.{ℕ, ◌==◌, Bool, true, Option, Some, None, if◌then◌else◌}
use Rattle.cif_feed.specs.declared.{holidays.HolidayCode.HolidayCode, holidays.HolidayCodes.HolidayCodes}
use Rattle.cif_feed.specs.declared.holidays.HolidayCode.TheVariants.{X, E, G}

-- the ASCII letter
abbrev pub letter : HolidayCode → ℕ
letter X = 88
letter E = 69
letter G = 71

-- the code with this letter
abbrev pub code_in : ℕ → Option HolidayCode
code_in column =
    if column == 88 then Some X else (if column == 69 then Some E else (if column == 71 then Some G else None))

-- the code is among these
abbrev pub has_code : HolidayCodes → HolidayCode → Bool
has_code codes X = codes.bank
has_code codes E = codes.edinburgh
has_code codes G = codes.glasgow

-- all codes
abbrev pub all_codes : HolidayCodes
all_codes = record { bank = true; edinburgh = true; glasgow = true }
