-- Holidays that don't reach the window of a published extract, as those of another year.
use Rattle.std.specs.Prelude.{Bool, List, None, Option, Some, [], codes, false, if◌then◌else◌, length, nat_lt, slice_index_or, ℕ, ◌&&◌, ◌++◌}
use Rattle.std.specs.Prelude.{◌+◌, ◌-◌, ◌<◌, ◌==◌, ◌||◌, ◌∷◌, ◌≡◌, ◌≤◌, ◌⊎◌}
use Rattle.std.specs.List.{Any, list_any}
use Rattle.cif_columns.specs.DayDigits.{yymmdd_of}
use Rattle.cif_feed.specs.{HolidayCode.letter, Holidays.IsHoliday, Holidays.dates_of, PublishedParts.PublishedParts}
use Rattle.cif_feed.specs.PublishedParts.{published_parts}
use Rattle.cif_feed.specs.declared.{holidays.HolidayCode.HolidayCode, holidays.HolidayCode.TheVariants.E, holidays.HolidayCode.TheVariants.G}
use Rattle.cif_feed.specs.declared.{holidays.HolidayCode.TheVariants.X, holidays.Holidays.Holidays, prepare.KeptPrepare.KeptPrepare}
use Rattle.cif_feed.specs.declared.{published_extract.PublishedExtract.PublishedExtract, published_extract.PublishedSchedule.PublishedSchedule}
use Rattle.cif_feed.specs.declared.unreached.Unreached.{Unreached}

-- The holidays of a code that some schedule has don't reach the window: the last of them is more than 250 days before its last date, or the
-- first of them more than 250 days after its first date.
pub record DoesNotReach (h : Holidays) (p : PublishedParts) (u : Unreached) : Type 0 where
  pub has_code : Any (λ (s : PublishedSchedule). s.code ≡ Some u.code) p.schedules
  pub is_first : IsHoliday h u.code u.first
  pub none_before : (d : ℕ) → IsHoliday h u.code d → u.first ≤ d
  pub is_last : IsHoliday h u.code u.last
  pub none_after : (d : ℕ) → IsHoliday h u.code d → d ≤ u.last
  pub window_first : u.window_first ≡ p.header.first
  pub window_last : u.window_last ≡ p.header.last
  pub far : (u.last + 250 < p.header.last) ⊎ (p.header.first + 250 < u.first)

-- ---- which do

-- whether it is this code
abbrev pub is_code : HolidayCode → Option HolidayCode → Bool
is_code code None = false
is_code code (Some other) = letter other == letter code

-- whether the schedule has the code
abbrev pub is_of_code : HolidayCode → PublishedSchedule → Bool
is_of_code code s = is_code code s.code

-- whether dates from the first to the last are so far from a window
abbrev pub is_far : ℕ → ℕ → ℕ → ℕ → Bool
is_far first last window_first window_last = nat_lt (last + 250) window_last || nat_lt (window_first + 250) first

-- the dates of the code, if there are some, as those of a window that they don't reach
abbrev pub far_dates : HolidayCode → ℕ → ℕ → List ℕ → Option Unreached
far_dates code window_first window_last [] = None
far_dates code window_first window_last (day ∷ days) =
    let last = slice_index_or (day ∷ days) (length days) 0 in
    if is_far day last window_first window_last
    then Some (record { code = code; first = day; last = last; window_first = window_first; window_last = window_last }) else None

-- the holidays of the code, if they don't reach the window
abbrev pub unreached : Holidays → PublishedParts → HolidayCode → Option Unreached
unreached h p code =
    if list_any (is_of_code code) p.schedules then far_dates code p.header.first p.header.last (dates_of h code).days.items else None

-- those of each code, in their order
abbrev pub all_unreached : Holidays → PublishedParts → List (Option Unreached)
all_unreached h p = unreached h p X ∷ unreached h p E ∷ unreached h p G ∷ []

-- those of what `prepare` has read
abbrev pub unreached_among : Option Holidays → Option PublishedExtract → List (Option Unreached)
unreached_among (Some h) (Some extract) = all_unreached h (published_parts extract)
unreached_among _ _ = None ∷ None ∷ None ∷ []

abbrev pub unreached_of : KeptPrepare → List (Option Unreached)
unreached_of kept = unreached_among kept.holidays kept.extract

-- the text: the code, the first and the last of the dates, and those of the window
unfoldable pub unreached_text : Unreached → List ℕ
unreached_text u = codes "holidays of " ++ (letter u.code ∷ codes ": ") ++ yymmdd_of u.first ++ codes " to " ++ yymmdd_of u.last
    ++ codes ", the window: " ++ yymmdd_of u.window_first ++ codes " to " ++ yymmdd_of u.window_last
