-- What an update holds, and when bytes spell one.
use Rattle.std.specs.Prelude.{◌≡◌, ℕ, ◌≤◌, List, [], ◌∷◌, ◌++◌, length, if◌then◌else◌}
use Rattle.cif_columns.specs.{Contents.contents_of, declared.stp.Stp.Stp}
use Rattle.cif_extract.specs.{ReadCall.ReadCall, ReadCall.reading, declared.extract.Schedule.Schedule}
use Rattle.cif_records.specs.{Checks.are, declared.association.AssocKey.AssocKey, declared.association.Association.Association}
use Rattle.cif_records.specs.{declared.header.Header.Header, declared.tiploc.Tiploc.Tiploc}
use Rattle.cif_feed.specs.{Counts.counts_of, FromLines.AreTriples, HolidayCode.all_codes, Marks.passed_of}
use Rattle.cif_feed.specs.{PublishedParts.IsPublishedAssociation, PublishedParts.IsPublishedSchedule, RecordKeys.tiploc_key}
use Rattle.cif_feed.specs.{FeedFault.IsFeedFault, FeedFault.IsOfFeed, FeedFault.is_feed_read, SpellsFeed.FeedParts, SpellsFeed.SpellFeed}
use Rattle.cif_feed.specs.declared.changes.Action.TheVariants.{New, Revised, Deleted}
use Rattle.cif_feed.specs.declared.{changes.RecordChange.RecordChange, feed_fault.FeedFault.FeedFault, feed_line.Feed.TheVariants.Update}
use Rattle.cif_feed.specs.declared.{mark.RecordMark.RecordMark, mark.TiplocMark.TiplocMark, mark.Transaction.Transaction}
use Rattle.cif_feed.specs.declared.{published_extract.PublishedAssociation.PublishedAssociation}
use Rattle.cif_feed.specs.declared.{published_extract.PublishedSchedule.PublishedSchedule}
use Rattle.cif_feed.specs.declared.mark.Transaction.TheVariants as transaction
use Rattle.cif_feed.specs.declared.update.Update as declared

-- the keys of associations and of schedules in an update: with their first day and their letter
abbrev pub AssociationKey : Type 0
AssociationKey = AssocKey × ℕ × Stp

abbrev pub ScheduleKey : Type 0
ScheduleKey = List ℕ × ℕ × Stp

-- the header with the number of its line, and what the lines do to the records of each kind, in their order
pub record UpdateParts : Type 0 where
  pub header : Header
  pub header_line : ℕ
  pub tiplocs : List (RecordChange (List ℕ) Tiploc)
  pub associations : List (RecordChange AssociationKey PublishedAssociation)
  pub schedules : List (RecordChange ScheduleKey PublishedSchedule)

-- the parts of an update, whose vectors have capacities too
abbrev pub update_parts : declared.Update → UpdateParts
update_parts u = record {
  header = u.header;
  header_line = u.header_line;
  tiplocs = u.tiplocs.items;
  associations = u.associations.items;
  schedules = u.schedules.items;
}

-- ---- what its lines do

-- what a line of this number with this transaction does: it puts this record, or deletes this key
abbrev pub change_by : {K R : Type 0} → Transaction → ℕ → K → R → RecordChange K R
change_by transaction.New number key put = record { line = number; action = New put }
change_by transaction.Revised number key put = record { line = number; action = Revised put }
change_by transaction.Deleted number key put = record { line = number; action = Deleted key }

-- What a TA of this number does, whose own TIPLOC this is: where it puts another, it deletes its own, and then puts the other.
abbrev pub amendment : ℕ → List ℕ → Tiploc → List (RecordChange (List ℕ) Tiploc)
amendment number own t =
    if are (tiploc_key t) own then record { line = number; action = Revised t } ∷ []
    else record { line = number; action = Deleted own } ∷ record { line = number; action = New t } ∷ []

-- what a TI, a TA or a TD does
abbrev pub tiploc_changes_by : Transaction → ℕ → List ℕ → Tiploc → List (RecordChange (List ℕ) Tiploc)
tiploc_changes_by transaction.New number own t = record { line = number; action = New t } ∷ []
tiploc_changes_by transaction.Revised number own t = amendment number own t
tiploc_changes_by transaction.Deleted number own t = record { line = number; action = Deleted own } ∷ []

abbrev pub tiploc_changes_of : TiplocMark → Tiploc → List (RecordChange (List ℕ) Tiploc)
tiploc_changes_of m t = tiploc_changes_by m.transaction m.line m.tiploc t

-- what all of them do
abbrev pub tiploc_changes : List Tiploc → List TiplocMark → List (RecordChange (List ℕ) Tiploc)
tiploc_changes (t ∷ tiplocs) (m ∷ marks) =
    tiploc_changes_of m t ++ tiploc_changes tiplocs marks
tiploc_changes tiplocs marks = []

-- What a line does to associations, and to schedules. What a deletion deletes is its UIDs and the other fields of its key, its first
-- date and its letter.
pub record IsAssociationChange (r : Association) (m : RecordMark) (c : RecordChange AssociationKey PublishedAssociation) : Type 0 where
  pub published : PublishedAssociation
  pub is : IsPublishedAssociation r m published
  pub change : c ≡ change_by m.transaction m.line (r.key, r.first, m.letter) published

pub record IsScheduleChange (r : Schedule) (m : RecordMark) (c : RecordChange ScheduleKey PublishedSchedule) : Type 0 where
  pub published : PublishedSchedule
  pub is : IsPublishedSchedule r m published
  pub change : c ≡ change_by m.transaction m.line (r.uid, r.first, m.letter) published

-- ---- what contents spell

-- the lines say an update of these parts
pub record SayUpdate (lines : FeedParts) (u : UpdateParts) : Type 0 where
  pub header : u.header ≡ lines.extract.header
  pub header_line : u.header_line ≡ lines.marks.header_line
  pub tiplocs : u.tiplocs ≡ tiploc_changes lines.extract.tiplocs lines.marks.tiplocs
  pub associations : AreTriples IsAssociationChange lines.extract.associations lines.marks.associations u.associations
  pub schedules : AreTriples IsScheduleChange lines.extract.schedules lines.marks.schedules u.schedules

-- the contents spell an update of these parts; each holiday code may stand in it
pub record SpellUpdate (contents : List (List ℕ)) (u : UpdateParts) : Type 0 where
  pub lines : FeedParts
  pub spelled : SpellFeed Update all_codes contents lines
  pub says : SayUpdate lines u

-- the bytes spell it, in at most max contents
pub record BytesSpellUpdate (max : ℕ) (bytes : List ℕ) (u : UpdateParts) : Type 0 where
  pub spell : SpellUpdate (contents_of bytes) u
  pub within : length (contents_of bytes) ≤ max

-- the update that the bytes spell, how many of its lines do what, and how many comments and notes were passed over
pub record IsUpdateOf (max : ℕ) (bytes : List ℕ) (u : declared.Update) : Type 0 where
  pub spelled : BytesSpellUpdate max bytes (update_parts u)
  pub counts : u.counts ≡ counts_of (contents_of bytes)
  pub passed : u.passed ≡ passed_of (contents_of bytes)

-- reading one
abbrev pub reading_update : ℕ → ReadCall declared.Update FeedFault
reading_update max = reading is_feed_read (IsUpdateOf max) (IsFeedFault Update all_codes max) (IsOfFeed max)
