-- The first reason to refuse a line of a feed as a record: its fields in the order of their columns, as the layouts of this profile have
-- them, and what feeds have otherwise.
use Rattle.std.specs.Prelude.{List, None, Option, Some, [], codes, if◌then◌else◌, is_some, ℕ, ◌||◌, ◌∷◌}
use Rattle.cif_columns.specs.{Field.columns, declared.refusal.Refusal.Refusal, declared.refusal.Refusal.TheVariants.BankHoliday}
use Rattle.cif_columns.specs.{declared.refusal.Refusal.TheVariants.NotFull}
use Rattle.cif_records.specs.Checks.{are, date_refusal, dates_refusal, days_refusal, first_of, letter_refusal, unless}
use Rattle.cif_records.specs.{Header.header_refusal_by, Record.refusal_as, declared.record.Kind.Kind}
use Rattle.cif_records.specs.declared.record.Kind.TheVariants.{Aa, Bs, Hd, Ta, Td, Ti}
use Rattle.cif_feed.specs.FeedLine.{code_of, indicator_of, transaction_at}
use Rattle.cif_feed.specs.declared.{feed_line.Feed.Feed, feed_line.Feed.TheVariants.Update, holidays.HolidayCodes.HolidayCodes}
use Rattle.cif_feed.specs.declared.{mark.Transaction.TheVariants.Deleted, mark.Transaction.Transaction}

-- the reasons to refuse a first and a last date, where the last may be 999999: no first date is after that
abbrev pub open_dates_refusal : List ℕ → List ℕ → Option Refusal
open_dates_refusal first last = if are last (codes "999999") then date_refusal first else dates_refusal first last

-- column 29 is a space, or a holiday code that may stand
abbrev pub holiday_code_refusal : HolidayCodes → List ℕ → Option Refusal
holiday_code_refusal allowed line = unless (are (columns 29 29 line) (codes " ") || is_some (code_of allowed line)) BankHoliday

-- ---- AA and BS, by their transaction, column 3

-- Without one it is NotFull, which is reported as BadTransaction of an update. Of a deletion the first date and the letter are read.
-- Else AA: BadDate and DatesReversed (columns 16 to 27), BadDays (columns 28 to 34), BadStp (column 80)
abbrev pub association_refusal_by : Option Transaction → List ℕ → Option Refusal
association_refusal_by None line = Some NotFull
association_refusal_by (Some Deleted) line = first_of (date_refusal (columns 16 21 line) ∷ letter_refusal line ∷ [])
association_refusal_by (Some put) line = first_of (
    open_dates_refusal (columns 16 21 line) (columns 22 27 line)
    ∷ days_refusal (columns 28 34 line)
    ∷ letter_refusal line
    ∷ [])

-- BS: BadDate and DatesReversed (columns 10 to 21), BadDays (columns 22 to 28), BankHoliday (column 29), BadStp (column 80)
abbrev pub basic_refusal_by : HolidayCodes → Option Transaction → List ℕ → Option Refusal
basic_refusal_by allowed None line = Some NotFull
basic_refusal_by allowed (Some Deleted) line = first_of (date_refusal (columns 10 15 line) ∷ letter_refusal line ∷ [])
basic_refusal_by allowed (Some put) line = first_of (
    open_dates_refusal (columns 10 15 line) (columns 16 21 line)
    ∷ days_refusal (columns 22 28 line)
    ∷ holiday_code_refusal allowed line
    ∷ letter_refusal line
    ∷ [])

-- ---- any line

-- By its kind: HD without the update indicator of the feed is NotFull, which is reported as NotUpdate of an update; TA and TD of an update
-- are read as TI, of which nothing is refused; all other lines are as in an extract of this profile.
abbrev pub feed_refusal_as : Feed → HolidayCodes → Option Kind → List ℕ → Option Refusal
feed_refusal_as feed allowed (Some Hd) line = header_refusal_by (indicator_of feed) line
feed_refusal_as feed allowed (Some Aa) line = association_refusal_by (transaction_at feed line) line
feed_refusal_as feed allowed (Some Bs) line = basic_refusal_by allowed (transaction_at feed line) line
feed_refusal_as Update allowed (Some Ta) line = None
feed_refusal_as Update allowed (Some Td) line = None
feed_refusal_as feed allowed kind line = refusal_as kind line

-- where a line of an update may stand: TA and TD where TI may
abbrev pub kind_read_as : Feed → Option Kind → Option Kind
kind_read_as Update (Some Ta) = Some Ti
kind_read_as Update (Some Td) = Some Ti
kind_read_as feed kind = kind
