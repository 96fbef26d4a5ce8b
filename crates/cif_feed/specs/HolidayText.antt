-- The text of holidays, line by line, and the first line that is refused.
use Rattle.std.specs.Prelude.{All, Bool, Contains, Err, IsSomeAnd, List, Ok, Result, Some, [], drop, false, length, slice_get, true, ℕ}
use Rattle.std.specs.Prelude.{◌++◌, ◌+◌, ◌<◌, ◌==◌, ◌↔◌, ◌∷◌, ◌≡◌, ◌≤◌, ◌⊎◌}
use Rattle.std.specs.List.{before_first}
use Rattle.cif_columns.specs.{Contents.contents_of, DateWord.IsDateWord, GivenLines.AreContentsToCut, GivenLines.IsDecidedWithinOrLast}
use Rattle.cif_columns.specs.{Source.Unread}
use Rattle.cif_columns.specs.declared.{ahead.Most.TheVariants.Of, line_reader.TheConstants.MAX_LINES, refusal.LineFault.LineFault}
use Rattle.cif_columns.specs.declared.refusal.LineFault.TheVariants as line_fault
use Rattle.cif_extract.specs.{ReadCall.ReadCall, ReadCall.reading, ReadFault.IsLineNumber}
use Rattle.cif_feed.specs.{HolidayCode.letter, Holidays.IsHoliday, Holidays.Names, Words.words_in}
use Rattle.cif_feed.specs.declared.{holiday_text.HolidayFault.HolidayFault, holidays.HolidayCode.HolidayCode, holidays.Holidays.Holidays}
use Rattle.cif_feed.specs.declared.holiday_text.HolidayFault.TheVariants.{BadHoliday, Read, Memory}

-- a `#`, which begins a remark
abbrev pub is_remark : ℕ → Bool
is_remark b = b == 35

-- the words of a line, before its remark
abbrev pub words_of : List ℕ → List (List ℕ)
words_of line = words_in (before_first is_remark line)

-- one of the words names day d
pub record NamesDay (words : List (List ℕ)) (d : ℕ) : Type 0 where
  pub word : List ℕ
  pub listed : Contains words word
  pub stands : IsDateWord word d

-- the word names some day
abbrev pub IsDate : List ℕ → Type 0
IsDate word = (d : ℕ) × IsDateWord word d

-- the words are this code, and then dates
pub record AreCodeAndDates (words : List (List ℕ)) (code : HolidayCode) : Type 0 where
  pub dates : List (List ℕ)
  pub are : words ≡ (letter code ∷ []) ∷ dates
  pub are_dates : All IsDate dates

-- A line of holidays: it has at most 1,000 bytes, and its words, if there are any, are a code and dates.
pub record IsHolidayLine (line : List ℕ) : Type 0 where
  pub within : length line ≤ 1000
  pub words : (words_of line ≡ []) ⊎ ((code : HolidayCode) × AreCodeAndDates (words_of line) code)

-- the line names the code
abbrev pub LineNames : HolidayCode → List ℕ → Type 0
LineNames code line = slice_get (words_of line) 0 ≡ Some (letter code ∷ [])

-- the line says that day d is a holiday of the code
pub record LineSays (code : HolidayCode) (d : ℕ) (line : List ℕ) : Type 0 where
  pub names : LineNames code line
  pub day : NamesDay (drop 1 (words_of line)) d

-- one of the lines has the property
abbrev pub SomeLine : (List ℕ → Type 0) → List (List ℕ) → Type 0
SomeLine P lines = (line : List ℕ) × Contains lines line × P line

-- The holidays are those of these lines: a code is named if a line names it, and its days are those of all its lines.
pub record AreHolidaysOf (lines : List (List ℕ)) (h : Holidays) : Type 0 where
  pub names : (code : HolidayCode) → Names h code ↔ SomeLine (LineNames code) lines
  pub days : (code : HolidayCode) (d : ℕ) → IsHoliday h code d ↔ SomeLine (LineSays code d) lines

-- none of the lines is bad: each is a line of holidays, and they are at most `MAX_LINES`
pub record AreHolidayLines (lines : List (List ℕ)) : Type 0 where
  pub are : All IsHolidayLine lines
  pub within : length lines ≤ MAX_LINES

-- The bytes are the text of these holidays.
pub record SpellHolidays (bytes : List ℕ) (h : Holidays) : Type 0 where
  pub lines : AreHolidayLines (contents_of bytes)
  pub are : AreHolidaysOf (contents_of bytes) h

-- the line of this number, counted from 1, is one too many, or no line of holidays
abbrev pub IsBadLine : ℕ → List ℕ → Type 0
IsBadLine number line = (MAX_LINES < number) ⊎ (¬ IsHolidayLine line)

-- The line of this number is bad, and none before it is.
pub record IsFirstBadLine (lines : List (List ℕ)) (number : ℕ) : Type 0 where
  pub before : List (List ℕ)
  pub line : List ℕ
  pub after : List (List ℕ)
  pub parts : lines ≡ before ++ line ∷ after
  pub none_before : AreHolidayLines before
  pub numbered : number ≡ length before + 1
  pub bad : IsBadLine number line

-- Why these bytes are no text of holidays, or can't be read, where `after` is left then: their first bad line, which is decided, or a
-- failure of the source before one was. No contract foretells that memory runs out.
abbrev pub IsHolidayFault : List ℕ → Unread → HolidayFault → Type 0
IsHolidayFault bytes after (BadHoliday line) = IsFirstBadLine (contents_of bytes) line ×
    IsDecidedWithinOrLast IsHolidayLine (Of 1002) MAX_LINES bytes after line
IsHolidayFault bytes after Read = (lines : List (List ℕ)) ×
    IsSomeAnd after.bytes (λ unread. AreContentsToCut IsHolidayLine (Of 1002) MAX_LINES bytes unread lines)
IsHolidayFault bytes after Memory = Unit {0}

-- a fault of the lines as one of the holidays
abbrev pub of_line_fault : LineFault → HolidayFault
of_line_fault (line_fault.Refused line why) = BadHoliday line
of_line_fault line_fault.Read = Read

-- the faults of holidays, for any source: a bad line is one of at most `MAX_LINES`, or the line behind them
abbrev pub IsOfHolidays : HolidayFault → Type 0
IsOfHolidays (BadHoliday line) = IsLineNumber MAX_LINES line
IsOfHolidays Read = Unit {0}
IsOfHolidays Memory = Unit {0}

-- what is answered where the bytes spell holidays: some, unless the source fails or memory runs out
abbrev pub AreRead : Result Holidays HolidayFault → Type 0
AreRead (Ok h) = Unit {0}
AreRead (Err Read) = Unit {0}
AreRead (Err Memory) = Unit {0}
AreRead (Err _) = ⊥

-- whether the fault says that the source failed
abbrev pub is_holiday_read : HolidayFault → Bool
is_holiday_read Read = true
is_holiday_read _ = false

-- reading holidays
abbrev pub reading_holidays : ReadCall Holidays HolidayFault
reading_holidays = reading is_holiday_read SpellHolidays IsHolidayFault IsOfHolidays
