-- What a published extract holds, when bytes spell it, and its text.
use Rattle.std.specs.Prelude.{◌≡◌, ℕ, ◌≤◌, List, [], ◌∷◌, ◌++◌, None, map, length}
use Rattle.std.specs.List.{flat_map}
use Rattle.cif_columns.specs.{Contents.contents_of, Contents.lines_text, Field.plain_line}
use Rattle.cif_extract.specs.{Body.BodyLines, ReadCall.ReadCall, ReadCall.reading, declared.extract.Schedule.Schedule}
use Rattle.cif_extract.specs.Texts.{further_lines, line_of_association, line_of_tiploc, rows_on}
use Rattle.cif_calendar.specs.Entries.{association_terms, schedule_terms}
use Rattle.cif_records.specs.{Header.header_table, Trailer.trailer_table, declared.header.Header.Header, declared.tiploc.Tiploc.Tiploc}
use Rattle.cif_records.specs.declared.{association.AssocBody.AssocBody, association.AssocKey.AssocKey, association.Association.Association}
use Rattle.cif_feed.specs.{Counts.counts_of, FromLines.AreTriples, Marks.passed_of, Published.PublishedTerms, SpellsFeed.FeedParts}
use Rattle.cif_feed.specs.{SpellsFeed.SpellFeed, WrittenOver.with_code, WrittenOver.with_open_end}
use Rattle.cif_feed.specs.FeedFault.{IsFeedFault, IsOfFeed, is_feed_read}
use Rattle.cif_feed.specs.declared.{feed_fault.FeedFault.FeedFault, feed_line.Feed.TheVariants.Full, holidays.HolidayCodes.HolidayCodes}
use Rattle.cif_feed.specs.declared.{mark.RecordMark.RecordMark, published_extract.PublishedAssociation.PublishedAssociation}
use Rattle.cif_feed.specs.declared.{published_extract.PublishedExtract.PublishedExtract}
use Rattle.cif_feed.specs.declared.{published_extract.PublishedSchedule.PublishedSchedule}

-- the header, and the other records in their order and with repeats
pub record PublishedParts : Type 0 where
  pub header : Header
  pub tiplocs : List Tiploc
  pub associations : List PublishedAssociation
  pub schedules : List PublishedSchedule

-- the parts of a published extract, whose vectors have capacities too
abbrev pub published_parts : PublishedExtract → PublishedParts
published_parts x = record {
  header = x.header;
  tiplocs = x.tiplocs.items;
  associations = x.associations.items;
  schedules = x.schedules.items;
}

-- ---- what contents spell

-- The published association is this one, with what its line says of its end; and so is the schedule, with its code.
pub record IsPublishedAssociation (r : Association) (m : RecordMark) (a : PublishedAssociation) : Type 0 where
  pub of_profile : a.association ≡ r
  pub open_end : a.open_end ≡ m.open_end

pub record IsPublishedSchedule (r : Schedule) (m : RecordMark) (s : PublishedSchedule) : Type 0 where
  pub of_profile : s.schedule ≡ r
  pub open_end : s.open_end ≡ m.open_end
  pub code : s.code ≡ m.code

-- The lines say a published extract of these parts.
pub record SayPublished (lines : FeedParts) (p : PublishedParts) : Type 0 where
  pub header : p.header ≡ lines.extract.header
  pub tiplocs : p.tiplocs ≡ lines.extract.tiplocs
  pub associations : AreTriples IsPublishedAssociation lines.extract.associations lines.marks.associations p.associations
  pub schedules : AreTriples IsPublishedSchedule lines.extract.schedules lines.marks.schedules p.schedules

-- The contents spell a published extract of these parts.
pub record SpellPublished (allowed : HolidayCodes) (contents : List (List ℕ)) (p : PublishedParts) : Type 0 where
  pub lines : FeedParts
  pub spelled : SpellFeed Full allowed contents lines
  pub says : SayPublished lines p

-- the bytes spell it, in at most max contents
pub record BytesSpellPublished (allowed : HolidayCodes) (max : ℕ) (bytes : List ℕ) (p : PublishedParts) : Type 0 where
  pub spell : SpellPublished allowed (contents_of bytes) p
  pub within : length (contents_of bytes) ≤ max

-- ---- what the rules read of its records

abbrev pub published_association_terms : PublishedAssociation → PublishedTerms AssocBody
published_association_terms a = record { terms = association_terms a.association; open_end = a.open_end; code = None }

abbrev pub published_schedule_terms : PublishedSchedule → PublishedTerms BodyLines
published_schedule_terms s = record { terms = schedule_terms s.schedule; open_end = s.open_end; code = s.code }

-- the associations by their keys, and the schedules by their UIDs
abbrev pub published_associations : List PublishedAssociation → List (AssocKey × PublishedTerms AssocBody)
published_associations associations = map (λ (a : PublishedAssociation). (a.association.key, published_association_terms a)) associations

abbrev pub published_schedules : List PublishedSchedule → List (List ℕ × PublishedTerms BodyLines)
published_schedules schedules = map (λ (s : PublishedSchedule). (s.schedule.uid, published_schedule_terms s)) schedules

-- ---- its text

-- the lines of an association, and of a schedule: plain but for an open end and a code
abbrev pub published_association_line : PublishedAssociation → List ℕ
published_association_line a = with_open_end a.open_end 22 (line_of_association a.association)

abbrev pub published_basic_line : PublishedSchedule → List ℕ
published_basic_line s =
    with_code s.code (with_open_end s.open_end 16 (plain_line (rows_on s.schedule.first s.schedule.last s.schedule)))

abbrev pub published_schedule_lines : PublishedSchedule → List (List ℕ)
published_schedule_lines s = published_basic_line s ∷ further_lines s.schedule.body

-- the lines of a published extract
abbrev pub published_lines : PublishedParts → List (List ℕ)
published_lines p = plain_line (header_table p.header) ∷ (map line_of_tiploc p.tiplocs
    ++ (map published_association_line p.associations
    ++ (flat_map published_schedule_lines p.schedules ++ (plain_line trailer_table ∷ []))))

-- its text: its lines, each with a line feed, and nothing else
abbrev pub published_text : PublishedParts → List ℕ
published_text p = lines_text (published_lines p)

-- the published extract that the bytes spell, how many of its lines do what, and how many comments and notes were passed over
pub record IsPublishedOf (allowed : HolidayCodes) (max : ℕ) (bytes : List ℕ) (x : PublishedExtract) : Type 0 where
  pub spelled : BytesSpellPublished allowed max bytes (published_parts x)
  pub counts : x.counts ≡ counts_of (contents_of bytes)
  pub passed : x.passed ≡ passed_of (contents_of bytes)

-- reading one
abbrev pub reading_published : HolidayCodes → ℕ → ReadCall PublishedExtract FeedFault
reading_published allowed max = reading is_feed_read (IsPublishedOf allowed max) (IsFeedFault Full allowed max) (IsOfFeed max)
