-- The texts of records, one after another.
use Rattle.std.specs.Prelude.{ℕ, List, [], ◌∷◌, ◌++◌}
use Rattle.std.specs.List.{flat_map}
use Rattle.cif_columns.specs.{Contents.lines_text, Field.plain_line}
use Rattle.cif_extract.specs.{Texts.line_of_association, Texts.line_of_tiploc, Texts.plain_lines_of, declared.extract.Schedule.Schedule}
use Rattle.cif_records.specs.{Header.header_table, Trailer.trailer_table}
use Rattle.cif_records.specs.declared.{association.Association.Association, header.Header.Header, tiploc.Tiploc.Tiploc}
use Rattle.cif_feed.specs.{PreparedParts.association_on, PreparedParts.schedule_on, PublishedParts.published_association_line}
use Rattle.cif_feed.specs.{PublishedParts.published_schedule_lines, declared.prepared_record.PreparedRecord.PreparedRecord}
use Rattle.cif_feed.specs.{declared.published_extract.PublishedAssociation.PublishedAssociation}
use Rattle.cif_feed.specs.{declared.published_extract.PublishedSchedule.PublishedSchedule}

-- the line of a location, with a line feed
abbrev pub tiploc_text : Tiploc → List ℕ
tiploc_text t = line_of_tiploc t ++ 10 ∷ []

abbrev pub head_text : Header → List ℕ
head_text header = plain_line (header_table header) ++ 10 ∷ []

abbrev pub trailer_text : List ℕ
trailer_text = plain_line trailer_table ++ 10 ∷ []

-- the texts of a header, of locations, these of associations and of schedules, and that of the trailer
abbrev pub records_text : Header → List Tiploc → List ℕ → List ℕ → List ℕ
records_text header tiplocs associations schedules =
    head_text header ++ (flat_map tiploc_text tiplocs ++ (associations ++ (schedules ++ trailer_text)))

-- the texts of the records of a published extract
abbrev pub published_association_text : PublishedAssociation → List ℕ
published_association_text a = published_association_line a ++ 10 ∷ []

abbrev pub published_schedule_text : PublishedSchedule → List ℕ
published_schedule_text s = lines_text (published_schedule_lines s)

-- the texts of the records of a prepared extract
abbrev pub prepared_association_text : PreparedRecord Association ℕ → List ℕ
prepared_association_text p = line_of_association (association_on p) ++ 10 ∷ []

abbrev pub prepared_schedule_text : PreparedRecord Schedule ℕ → List ℕ
prepared_schedule_text p = lines_text (plain_lines_of (schedule_on p))
