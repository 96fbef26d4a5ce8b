-- Published extracts that may be written and read again.
use Rattle.std.specs.Prelude.{◌≡◌, List, All, Some, IsTrue}
use Rattle.cif_feed.specs.{HolidayCode.has_code, declared.holidays.HolidayCode.HolidayCode, declared.holidays.HolidayCodes.HolidayCodes}
use Rattle.cif_feed.specs.{declared.published_extract.PublishedSchedule.PublishedSchedule}

-- the holiday code of each of the schedules is one that may stand
abbrev pub CodesMayStand : HolidayCodes → List PublishedSchedule → Type 0
CodesMayStand allowed schedules = All (λ s. (code : HolidayCode) → s.code ≡ Some code → IsTrue (has_code allowed code)) schedules
