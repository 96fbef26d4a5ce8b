-- The numbers and the names of the refusals.
use Rattle.std.specs.Prelude.{ℕ, List, codes}
use Rattle.cif_columns.specs.{declared.refusal.Refusal.Refusal, declared.refusal.Refusal.TheVariants.UnknownRecord}
use Rattle.cif_columns.specs.declared.refusal.Refusal.TheVariants.{BadByte, BadDate, BadDays, BadLength, BadStp, BadTime, BankHoliday}
use Rattle.cif_columns.specs.declared.refusal.Refusal.TheVariants.{DatesReversed, NotFull, OpenEnd, OutOfOrder, TooManyLines, Truncated}

-- The number of a refusal. It doesn't say which of several reasons is answered: of one line that is TooManyLines, else BadLength,
-- BadByte, UnknownRecord, OutOfOrder, and then the first of its fields' reasons in the order of their columns (docs/FORMAT.md).
-- Truncated is answered where no line is refused.
abbrev pub number_of : Refusal → ℕ
number_of BadLength = 1
number_of BadByte = 2
number_of UnknownRecord = 3
number_of OutOfOrder = 4
number_of NotFull = 5
number_of BadDate = 6
number_of OpenEnd = 7
number_of DatesReversed = 8
number_of BadDays = 9
number_of BankHoliday = 10
number_of BadStp = 11
number_of BadTime = 12
number_of Truncated = 13
number_of TooManyLines = 14

-- the name of a refusal
abbrev pub name_of : Refusal → List ℕ
name_of BadLength = codes "BadLength"
name_of BadByte = codes "BadByte"
name_of UnknownRecord = codes "UnknownRecord"
name_of OutOfOrder = codes "OutOfOrder"
name_of NotFull = codes "NotFull"
name_of BadDate = codes "BadDate"
name_of OpenEnd = codes "OpenEnd"
name_of DatesReversed = codes "DatesReversed"
name_of BadDays = codes "BadDays"
name_of BankHoliday = codes "BankHoliday"
name_of BadStp = codes "BadStp"
name_of BadTime = codes "BadTime"
name_of Truncated = codes "Truncated"
name_of TooManyLines = codes "TooManyLines"
