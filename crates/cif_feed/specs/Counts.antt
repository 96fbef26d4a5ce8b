-- How many lines of a feed do what, by their columns.
use Rattle.std.specs.Prelude.{ℕ, Bool, true, false, not, ◌&&◌, ◌||◌, ◌==◌, List, Option, Some, None, filter, length, nat_lt}
use Rattle.cif_records.specs.{Kind.kind_in, declared.record.Kind.Kind}
use Rattle.cif_records.specs.declared.record.Kind.TheVariants.{Ti, Ta, Td, Aa, Bs}
use Rattle.cif_feed.specs.{FeedLine.column, FeedLine.is_open, Transaction.transaction_in}
use Rattle.cif_feed.specs.declared.{mark.Transaction.Transaction, mark.UpdateCounts.UpdateCounts}
use Rattle.cif_feed.specs.declared.mark.Transaction.TheVariants.{New, Revised, Deleted}

-- the transaction of a line of an update, by its kind; of AA and BS it is in column 3
abbrev pub transaction_as : Option Kind → List ℕ → Option Transaction
transaction_as (Some Ti) line = Some New
transaction_as (Some Ta) line = Some Revised
transaction_as (Some Td) line = Some Deleted
transaction_as (Some Aa) line = transaction_in (column 3 line)
transaction_as (Some Bs) line = transaction_in (column 3 line)
transaction_as kind line = None

abbrev pub is_new : Option Transaction → Bool
is_new (Some New) = true
is_new transaction = false

abbrev pub is_revised : Option Transaction → Bool
is_revised (Some Revised) = true
is_revised transaction = false

abbrev pub is_deleted : Option Transaction → Bool
is_deleted (Some Deleted) = true
is_deleted transaction = false

-- whether the end of an AA, or of a BS, is open; of one that is deleted it isn't read
abbrev pub ends_open : Option Kind → List ℕ → Bool
ends_open (Some Aa) line = is_open 22 line && not (is_deleted (transaction_in (column 3 line)))
ends_open (Some Bs) line = is_open 16 line && not (is_deleted (transaction_in (column 3 line)))
ends_open kind line = false

-- whether a BS has a holiday code: column 29 isn't a space; of one that is deleted it isn't read
abbrev pub has_holiday_code : Option Kind → List ℕ → Bool
has_holiday_code (Some Bs) line = not (column 29 line == 32) && not (is_deleted (transaction_in (column 3 line)))
has_holiday_code kind line = false

-- the counts of these contents
abbrev pub counts_of : List (List ℕ) → UpdateCounts
counts_of contents = record {
  put = length (filter (λ line. is_new (transaction_as (kind_in line) line)) contents);
  revised = length (filter (λ line. is_revised (transaction_as (kind_in line) line)) contents);
  taken_out = length (filter (λ line. is_deleted (transaction_as (kind_in line) line)) contents);
  open_ends = length (filter (λ line. ends_open (kind_in line) line) contents);
  holiday_codes = length (filter (λ line. has_holiday_code (kind_in line) line) contents);
}

-- one of them at least has an open end, or a holiday code
abbrev pub have_marks : UpdateCounts → Bool
have_marks counts = nat_lt 0 counts.open_ends || nat_lt 0 counts.holiday_codes
