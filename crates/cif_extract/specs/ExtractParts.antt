-- What an extract holds.
use Rattle.std.specs.Prelude.{List}
use Rattle.cif_extract.specs.declared.{extract.Extract.Extract, extract.Schedule.Schedule}
use Rattle.cif_records.specs.declared.{association.Association.Association, header.Header.Header, tiploc.Tiploc.Tiploc}

-- the header, and the other records in file order and with repeats
pub record ExtractParts : Type 0 where
  pub header : Header
  pub tiplocs : List Tiploc
  pub associations : List Association
  pub schedules : List Schedule

-- the parts of an extract, whose vectors have capacities too
abbrev pub extract_parts : Extract → ExtractParts
extract_parts x = record {
  header = x.header;
  tiplocs = x.tiplocs.items;
  associations = x.associations.items;
  schedules = x.schedules.items;
}
