-- The reasons to refuse a line's fields, in column order.
use Rattle.std.specs.Prelude.{Bool, Err, List, None, Ok, Option, Result, Some, [], codes, if◌then◌else◌, is_some, nat_le, not, slice_index}
use Rattle.std.specs.{Option.option_or, Prelude.true, Prelude.ℕ, Prelude.◌∷◌, Prelude.◌≡◌, Str.bytes_eq}
use Rattle.cif_columns.specs.{Day.ddmmyy_in, Day.yymmdd_in, DaysRun.days_of, Field.columns, PublicTime.public_time_in, Stp.stp_in}
use Rattle.cif_columns.specs.{WorkTime.work_time_in, declared.refusal.Refusal.Refusal, declared.refusal.Refusal.TheVariants.OpenEnd}
use Rattle.cif_columns.specs.{declared.refusal.Refusal.TheVariants.UnknownRecord}
use Rattle.cif_columns.specs.declared.refusal.Refusal.TheVariants.{BadDate, BadDays, BadStp, BadTime, BankHoliday, DatesReversed, NotFull}

-- the reason, where the test fails
abbrev pub unless : Bool → Refusal → Option Refusal
unless holds why = if holds then None else Some why

-- the first reason that there is
abbrev pub first_of : List (Option Refusal) → Option Refusal
first_of [] = None
first_of (reason ∷ reasons) = option_or reason (first_of reasons)

-- a check gives a value of which a fact holds where there is no reason to refuse, and else gives the reason
abbrev pub IsJudged : {T : Type 0} → Option Refusal → (T → Type 0) → Result T Refusal → Type 0
IsJudged refusal P (Ok value) = (refusal ≡ None) × P value
IsJudged refusal P (Err why) = refusal ≡ Some why

-- the columns are these letters
abbrev pub are : List ℕ → List ℕ → Bool
are columns letters = bytes_eq columns letters

-- the first day is not after the last; where one of them isn't there, another reason comes first
abbrev pub are_in_order : Option ℕ → Option ℕ → Bool
are_in_order None last = true
are_in_order (Some first) None = true
are_in_order (Some first) (Some last) = nat_le first last

-- columns 1 and 2 are the identity of a record of this kind
abbrev pub identity_refusal : List ℕ → List ℕ → Option Refusal
identity_refusal letters line = unless (are (columns 1 2 line) letters) UnknownRecord

-- column 3 is the transaction type of a full extract
abbrev pub transaction_refusal : List ℕ → Option Refusal
transaction_refusal line = unless (are (columns 3 3 line) (codes "N")) NotFull

-- these columns are a mask of days
abbrev pub days_refusal : List ℕ → Option Refusal
days_refusal days = unless (is_some (days_of days)) BadDays

-- column 29 says nothing of bank holidays
abbrev pub bank_holiday_refusal : List ℕ → Option Refusal
bank_holiday_refusal line = unless (are (columns 29 29 line) (codes " ")) BankHoliday

-- column 80 is an indicator of short-term planning
abbrev pub letter_refusal : List ℕ → Option Refusal
letter_refusal line = unless (is_some (stp_in (slice_index (columns 80 80 line) 0))) BadStp

-- these columns are a working time
abbrev pub work_time_refusal : List ℕ → Option Refusal
work_time_refusal time = unless (is_some (work_time_in time)) BadTime

-- these columns are a public time
abbrev pub public_time_refusal : List ℕ → Option Refusal
public_time_refusal time = unless (is_some (public_time_in time)) BadTime

-- a date that names no day
abbrev pub date_refusal : List ℕ → Option Refusal
date_refusal columns = unless (is_some (yymmdd_in columns)) BadDate

-- a date of the header that names no day
abbrev pub header_date_refusal : List ℕ → Option Refusal
header_date_refusal columns = unless (is_some (ddmmyy_in columns)) BadDate

-- the reasons to refuse a last date: an open end, and a date that names no day
abbrev pub last_date_refusal : List ℕ → Option Refusal
last_date_refusal last = first_of (
    unless (not (are last (codes "999999"))) OpenEnd
    ∷ date_refusal last
    ∷ [])

-- the reasons to refuse a first and a last date: those of each, and that the first is after the last
abbrev pub dates_refusal : List ℕ → List ℕ → Option Refusal
dates_refusal first last = first_of (
    date_refusal first
    ∷ last_date_refusal last
    ∷ unless (are_in_order (yymmdd_in first) (yymmdd_in last)) DatesReversed
    ∷ [])
