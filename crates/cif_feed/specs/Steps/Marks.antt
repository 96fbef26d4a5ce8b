-- The marks of one line more, and of the records.
use Rattle.std.specs.Prelude.{Bool, IsTrue, List, Option, Some, [], false, if◌then◌else◌, is_some, length, true, ℕ, ◌&&◌, ◌++◌, ◌+◌, ◌<◌}
use Rattle.std.specs.Prelude.{◌==◌, ◌∷◌, ◌≡◌}
use Rattle.cif_columns.specs.declared.line_reader.TheConstants.{MAX_LINES}
use Rattle.cif_extract.specs.declared.extract.Schedule.{Schedule}
use Rattle.cif_records.specs.declared.{association.Association.Association, record.Kind.Kind}
use Rattle.cif_records.specs.declared.record.Kind.TheVariants.{Hd, Ti, Ta, Td, Aa, Bs, Zz}
use Rattle.cif_feed.specs.Counts.{ends_open, has_holiday_code, is_deleted, is_new, is_revised, transaction_as}
use Rattle.cif_feed.specs.{FromLines.ArePairs, LastDay.last_day, SpellsFeed.FeedParts}
use Rattle.cif_feed.specs.Marks.{MarkParts, association_mark, schedule_mark, tiploc_mark}
use Rattle.cif_feed.specs.RecordLines.{is_association, is_basic, is_header, is_of_tiploc}
use Rattle.cif_feed.specs.declared.{holidays.HolidayCodes.HolidayCodes, mark.LineMark.LineMark, mark.RecordMark.RecordMark}
use Rattle.cif_feed.specs.declared.{mark.Transaction.Transaction, mark.UpdateCounts.UpdateCounts}
use Rattle.cif_feed.specs.declared.mark.LineMark.TheVariants as of

-- one more, if it counts
abbrev pub plus_if : ℕ → Bool → ℕ
plus_if n counts = if counts then n + 1 else n

-- the counts with a line of this kind
abbrev pub with_counts : UpdateCounts → Option Kind → List ℕ → UpdateCounts
with_counts c kind line = record {
  put = plus_if c.put (is_new (transaction_as kind line));
  revised = plus_if c.revised (is_revised (transaction_as kind line));
  taken_out = plus_if c.taken_out (is_deleted (transaction_as kind line));
  open_ends = plus_if c.open_ends (ends_open kind line);
  holiday_codes = plus_if c.holiday_codes (has_holiday_code kind line);
}

-- each may be one more
pub record HaveRoom (c : UpdateCounts) : Type 0 where
  pub put : c.put < MAX_LINES
  pub revised : c.revised < MAX_LINES
  pub taken_out : c.taken_out < MAX_LINES
  pub open_ends : c.open_ends < MAX_LINES
  pub holiday_codes : c.holiday_codes < MAX_LINES

-- the number of the first header, where it was this one, and then a line of this kind has this number
abbrev pub header_behind : ℕ → Option Kind → ℕ → ℕ
header_behind so_far kind number = if is_header kind && (so_far == 0) then number else so_far

-- this one, if it is of the kind
abbrev pub one_if : {A : Type 0} → Bool → A → List A
one_if is x = if is then x ∷ [] else []

-- the marks with those of a line of this kind
abbrev pub with_line : MarkParts → HolidayCodes → Option Kind → ℕ × List ℕ → MarkParts
with_line m allowed kind line = record {
  header_line = header_behind m.header_line kind line.0;
  tiplocs = m.tiplocs ++ one_if (is_of_tiploc kind) (tiploc_mark kind line);
  associations = m.associations ++ one_if (is_association kind) (association_mark line);
  schedules = m.schedules ++ one_if (is_basic kind) (schedule_mark allowed line);
  counts = with_counts m.counts kind line.1;
  passed = m.passed;
}

-- ---- mark by mark

-- what a line of this kind says beyond its record, where these holiday codes may stand
abbrev pub mark_of : HolidayCodes → Option Kind → ℕ × List ℕ → LineMark
mark_of allowed (Some Hd) line = of.Header line.0
mark_of allowed (Some Ti) line = of.Tiploc (tiploc_mark (Some Ti) line)
mark_of allowed (Some Ta) line = of.Tiploc (tiploc_mark (Some Ta) line)
mark_of allowed (Some Td) line = of.Tiploc (tiploc_mark (Some Td) line)
mark_of allowed (Some Aa) line = of.Association (association_mark line)
mark_of allowed (Some Bs) line = of.Schedule (schedule_mark allowed line)
mark_of allowed (Some Zz) line = of.Trailer
mark_of allowed kind line = of.Nothing

-- the same, where the line is as in an extract of this profile
abbrev pub own_mark : Kind → LineMark
own_mark Zz = of.Trailer
own_mark kind = of.Nothing

-- whether it is that of a BS, and of a ZZ
abbrev pub is_schedule_mark : LineMark → Bool
is_schedule_mark (of.Schedule m) = true
is_schedule_mark mark = false

abbrev pub is_trailer_mark : LineMark → Bool
is_trailer_mark of.Trailer = true
is_trailer_mark mark = false

-- the counts with a line of this transaction, and with an AA or a BS of this mark
abbrev pub with_transaction : UpdateCounts → Transaction → UpdateCounts
with_transaction c transaction = record c {
  put = plus_if c.put (is_new (Some transaction));
  revised = plus_if c.revised (is_revised (Some transaction));
  taken_out = plus_if c.taken_out (is_deleted (Some transaction));
}

abbrev pub with_record : UpdateCounts → RecordMark → UpdateCounts
with_record c mark = record (with_transaction c mark.transaction) {
  open_ends = plus_if c.open_ends mark.open_end;
  holiday_codes = plus_if c.holiday_codes (is_some mark.code);
}

-- the marks with one more
abbrev pub with_mark : MarkParts → LineMark → MarkParts
with_mark m (of.Header number) = record m { header_line = if m.header_line == 0 then number else m.header_line }
with_mark m (of.Tiploc t) = record m { tiplocs = m.tiplocs ++ t ∷ []; counts = with_transaction m.counts t.transaction }
with_mark m (of.Association a) = record m { associations = m.associations ++ a ∷ []; counts = with_record m.counts a }
with_mark m (of.Schedule s) = record m { schedules = m.schedules ++ s ∷ []; counts = with_record m.counts s }
with_mark m mark = m

-- ---- record by record

-- an open end is the last day there is
abbrev pub IsClosed : {A : Type 0} → (A → ℕ) → A → RecordMark → Type 0
IsClosed last r m = IsTrue m.open_end → last r ≡ last_day

-- the last day of an association, and of a schedule
abbrev pub last_of_association : Association → ℕ
last_of_association a = a.last

abbrev pub last_of_schedule : Schedule → ℕ
last_of_schedule s = s.last

-- each location, association and schedule of a feed has a mark, and where its end is open its last day is the last there is
pub record HasMarks (x : FeedParts) : Type 0 where
  pub tiplocs : length x.marks.tiplocs ≡ length x.extract.tiplocs
  pub associations : ArePairs (IsClosed last_of_association) x.extract.associations x.marks.associations
  pub schedules : ArePairs (IsClosed last_of_schedule) x.extract.schedules x.marks.schedules
