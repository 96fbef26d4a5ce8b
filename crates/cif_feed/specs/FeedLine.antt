-- Which record a line of a feed spells. The lines are laid out as those of this profile, but for what feeds have otherwise: transactions,
-- open ends, holiday codes, and TA and TD.
use Rattle.std.specs.Prelude.{Bool, IsTrue, List, None, Option, Some, [], codes, false, if◌then◌else◌, replicate, slice_index, true}
use Rattle.std.specs.Prelude.{unwrap_or, ℕ, ◌++◌, ◌||◌, ◌∷◌, ◌≡◌}
use Rattle.std.specs.Option.{option_map}
use Rattle.cif_columns.specs.Field.{AllStandIn, FieldValue, Row, columns, columns_from, date, exactly, spare, weekdays}
use Rattle.cif_columns.specs.{Stp.stp_in, declared.stp.Stp.Stp, declared.stp.Stp.TheVariants.C}
use Rattle.cif_extract.specs.{Body.detail_of, Layouts.cancels, declared.extract.Schedule.Schedule}
use Rattle.cif_records.specs.{Association.association_rows_by, Checks.are, Detail.detail_rows, Header.header_rows_by, Kind.kind_in}
use Rattle.cif_records.specs.{Basic.basic_back, Basic.basic_front_by, Basic.terms_of, Record.SpellsRecord, Tiploc.SpellsTiploc}
use Rattle.cif_records.specs.declared.{association.AssocKey.AssocKey, association.Association.Association, basic.Basic.Basic}
use Rattle.cif_records.specs.declared.{basic.BasicTerms.BasicTerms, detail.Detail.Detail, record.Kind.Kind, record.Kind.TheVariants.Ta}
use Rattle.cif_records.specs.declared.{record.Kind.TheVariants.Td, record.Record.Record, tiploc.Tiploc.Tiploc}
use Rattle.cif_records.specs.declared.record.Record.TheVariants as of
use Rattle.cif_feed.specs.HolidayCode.{code_in, has_code, letter}
use Rattle.cif_feed.specs.{LastDay.last_day, Transaction.transaction_in, Transaction.transaction_letter}
use Rattle.cif_feed.specs.declared.{feed_line.Feed.Feed, feed_line.Feed.TheVariants.Full, feed_line.Feed.TheVariants.Update}
use Rattle.cif_feed.specs.declared.{holidays.HolidayCode.HolidayCode, holidays.HolidayCodes.HolidayCodes}
use Rattle.cif_feed.specs.declared.{mark.Transaction.TheVariants.Deleted, mark.Transaction.TheVariants.New, mark.Transaction.Transaction}
use Rattle.cif_feed.specs.declared.{published_extract.PublishedAssociation.PublishedAssociation}
use Rattle.cif_feed.specs.declared.{published_extract.PublishedSchedule.PublishedSchedule}

-- ---- what columns say

-- the column of this number
abbrev pub column : ℕ → List ℕ → ℕ
column number line = slice_index (columns number number line) 0

-- the transaction of an AA or a BS, column 3: in a published extract `N`, in an update `N`, `R` or `D`
abbrev pub transaction_at : Feed → List ℕ → Option Transaction
transaction_at Full line = if are (columns 3 3 line) (codes "N") then Some New else None
transaction_at Update line = transaction_in (column 3 line)

-- the update indicator of a header, column 47
abbrev pub indicator_of : Feed → List ℕ
indicator_of Full = codes "F"
indicator_of Update = codes "U"

-- the end in the six columns from the one of this number on is open
abbrev pub is_open : ℕ → List ℕ → Bool
is_open first line = are (columns_from first 6 line) (codes "999999")

-- the code, if it may stand
abbrev pub if_allowed : HolidayCodes → Option HolidayCode → Option HolidayCode
if_allowed allowed None = None
if_allowed allowed (Some code) = if has_code allowed code then Some code else None

-- the code in column 29 of a BS, where it may stand
abbrev pub code_of : HolidayCodes → List ℕ → Option HolidayCode
code_of allowed line = if_allowed allowed (code_in (column 29 line))

-- the letter in column 80; a line without one is refused
abbrev pub letter_of : List ℕ → Stp
letter_of line = unwrap_or (stp_in (column 80 line)) C

-- the TIPLOC that a TA puts: that in columns 73 to 79, or its own, if they are blank
abbrev pub put_tiploc : List ℕ → List ℕ
put_tiploc line = if are (columns 73 79 line) (replicate 7 32) then columns 3 9 line else columns 73 79 line

-- ---- the columns of AA and BS

-- a last date: an open end is `999999`
abbrev pub end_value : Bool → ℕ → FieldValue
end_value true last = exactly (codes "999999")
end_value false last = date last

-- column 29 of a BS: a holiday code, or a space
abbrev pub code_value : Option HolidayCode → FieldValue
code_value None = exactly (codes " ")
code_value (Some code) = exactly (letter code ∷ [])

-- of an association that is put: by its transaction, and whether its end is open
abbrev pub put_association_rows : Transaction → Bool → Association → List Row
put_association_rows transaction open_end a = association_rows_by (transaction_letter transaction ∷ []) a.key a.first
    (end_value open_end a.last) (weekdays a.days) a.letter a.body

-- of the deletion of one with this key, first date and letter: the other columns are spare
abbrev pub deleted_association_rows : AssocKey → ℕ → Stp → List Row
deleted_association_rows key first letter = association_rows_by (codes "D") key first spare spare letter None

-- of a schedule that is put: also by its holiday code
abbrev pub put_basic_front : Transaction → Bool → Option HolidayCode → BasicTerms → List Row
put_basic_front transaction open_end code t = basic_front_by (transaction_letter transaction ∷ []) t.uid t.first
    (end_value open_end t.last) (weekdays t.days) (code_value code)

abbrev pub put_basic_rows : Transaction → Bool → Option HolidayCode → BasicTerms → Option Detail → List Row
put_basic_rows transaction open_end code t detail =
    put_basic_front transaction open_end code t ++ (detail_rows detail ++ basic_back t.letter)

-- of the deletion of one with this UID, first date and letter
abbrev pub deleted_basic_rows : List ℕ → ℕ → Stp → List Row
deleted_basic_rows uid first letter = basic_front_by (codes "D") uid first spare spare spare ++ (detail_rows None ++ basic_back letter)

-- of a published association, and of a published schedule
abbrev pub published_association_rows : Transaction → PublishedAssociation → List Row
published_association_rows transaction p = put_association_rows transaction p.open_end p.association

abbrev pub basic_terms : Schedule → BasicTerms
basic_terms s = record { uid = s.uid; first = s.first; last = s.last; days = s.days; letter = s.letter; in_order = s.in_order }

abbrev pub published_basic_rows : Transaction → PublishedSchedule → List Row
published_basic_rows transaction p = put_basic_rows transaction p.open_end p.code (basic_terms p.schedule)
    (option_map detail_of p.schedule.body)

-- ---- the record

-- an open end is read as the last day that there is
abbrev pub IsClosedAt : Bool → ℕ → Type 0
IsClosedAt open_end last = IsTrue open_end → last ≡ last_day

-- no weekday
abbrev pub no_days : List Bool
no_days = replicate 7 false

-- What a deletion doesn't say is read as this, and its letter as that of a cancellation, since no body follows; so it is one record.
pub record IsDeletion (to : ℕ) (mask : List Bool) (stp : Stp) : Type 0 where
  pub last : to ≡ last_day
  pub days : mask ≡ no_days
  pub letter : stp ≡ C

-- an AA with this transaction spells the association
abbrev pub SpellsAssociationBy : Option Transaction → List ℕ → Association → Type 0
SpellsAssociationBy None line a = ⊥
SpellsAssociationBy (Some Deleted) line a =
    AllStandIn line (deleted_association_rows a.key a.first (letter_of line)) × IsDeletion a.last a.days a.letter
SpellsAssociationBy (Some put) line a =
    AllStandIn line (put_association_rows put (is_open 22 line) a) × IsClosedAt (is_open 22 line) a.last

-- a BS likewise
abbrev pub SpellsBasicBy : HolidayCodes → Option Transaction → List ℕ → Basic → Type 0
SpellsBasicBy allowed None line b = ⊥
SpellsBasicBy allowed (Some Deleted) line b =
    AllStandIn line (deleted_basic_rows b.uid b.first (letter_of line)) × IsDeletion b.last b.days b.letter
SpellsBasicBy allowed (Some put) line b =
    AllStandIn line (put_basic_rows put (is_open 16 line) (code_of allowed line) (terms_of b) b.detail)
    × IsClosedAt (is_open 16 line) b.last

-- A TA of an update spells the location that it puts, and a TD that with its columns.
abbrev pub SpellsTiplocBy : Feed → Option Kind → List ℕ → Tiploc → Type 0
SpellsTiplocBy Update (Some Ta) line t = t.columns ≡ put_tiploc line ++ columns 10 72 line
SpellsTiplocBy Update (Some Td) line t = t.columns ≡ columns 3 72 line
SpellsTiplocBy feed kind line t = SpellsTiploc line t

-- the line spells the record; lines of other kinds are those of this profile
abbrev pub SpellsInFeed : Feed → HolidayCodes → List ℕ → Record → Type 0
SpellsInFeed feed allowed line (of.Header h) = AllStandIn line (header_rows_by (indicator_of feed) h)
SpellsInFeed feed allowed line (of.Tiploc t) = SpellsTiplocBy feed (kind_in line) line t
SpellsInFeed feed allowed line (of.Association a) = SpellsAssociationBy (transaction_at feed line) line a
SpellsInFeed feed allowed line (of.Basic b) = SpellsBasicBy allowed (transaction_at feed line) line b
SpellsInFeed feed allowed line r = SpellsRecord line r

-- whether a BS cancels a train, or deletes a schedule, so that no journey has to follow
abbrev pub deletes : Option Transaction → Bool
deletes (Some Deleted) = true
deletes transaction = false

abbrev pub cancels_in_feed : Feed → List ℕ → Bool
cancels_in_feed feed line = deletes (transaction_at feed line) || cancels line
