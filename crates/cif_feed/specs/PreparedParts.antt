-- What a prepared extract holds.
use Rattle.std.specs.Prelude.{◌≡◌, ℕ, ◌+◌, Bool, List, map, max}
use Rattle.std.proofs.Math.Nat.{le-max_left}
use Rattle.cif_calendar.specs.Entries.{association_entries, schedule_entries}
use Rattle.cif_extract.specs.{ExtractParts.ExtractParts, declared.extract.Schedule.Schedule}
use Rattle.cif_records.specs.declared.association.Association.{Association}
use Rattle.cif_feed.specs.{Prepared.ArePrepared, Published.IsStop, declared.published_extract.PublishedExtract.PublishedExtract}
use Rattle.cif_feed.specs.PublishedParts.{PublishedParts, published_associations, published_schedules}
use Rattle.cif_feed.specs.declared.{holidays.Holidays.Holidays, prepared_record.PreparedRecord.PreparedRecord}

-- an association, and a schedule, of a published extract with the dates that it has in the prepared one
abbrev pub association_on : PreparedRecord Association ℕ → Association
association_on p = record p.entry.now { first = p.first; last = max p.first p.last; in_order = le-max_left p.first p.last }

abbrev pub schedule_on : PreparedRecord Schedule ℕ → Schedule
schedule_on p = record p.entry.now { first = p.first; last = max p.first p.last; in_order = le-max_left p.first p.last }

-- the extract of these records, with the header and the locations of a published one
abbrev pub prepared_parts : PublishedExtract → List (PreparedRecord Association ℕ) → List (PreparedRecord Schedule ℕ) → ExtractParts
prepared_parts published associations schedules = record {
  header = published.header;
  tiplocs = published.tiplocs.items;
  associations = map association_on associations;
  schedules = map schedule_on schedules;
}

-- The extract is the prepared one of a published extract, with these holidays, where clashes stay or are dropped: the header and the
-- locations are as they are, and the other records are the parts of the published ones, in their order.
pub record IsPrepared (h : Holidays) (drops : Bool) (p : PublishedParts) (x : ExtractParts) : Type 0 where
  pub header : x.header ≡ p.header
  pub tiplocs : x.tiplocs ≡ p.tiplocs
  pub associations : ArePrepared (IsStop drops h (published_associations p.associations) p.header.first (p.header.last + 1))
      p.header.last (published_associations p.associations) (association_entries x.associations)
  pub schedules : ArePrepared (IsStop drops h (published_schedules p.schedules) p.header.first (p.header.last + 1))
      p.header.last (published_schedules p.schedules) (schedule_entries x.schedules)
