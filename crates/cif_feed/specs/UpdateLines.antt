-- What the lines of an update say, by their columns as the layouts have them.
use Rattle.std.specs.Prelude.{◌≡◌, ℕ, List, [], ◌∷◌, ◌++◌}
use Rattle.cif_columns.specs.Field.{AllStandIn, Row}
use Rattle.cif_records.specs.{Kind.kind_in, declared.tiploc.Tiploc.Tiploc}
use Rattle.cif_records.specs.declared.record.Record.TheVariants as of
use Rattle.cif_feed.specs.FeedLine.{SpellsInFeed, deleted_association_rows, deleted_basic_rows, published_association_rows}
use Rattle.cif_feed.specs.{FeedLine.published_basic_rows, HolidayCode.all_codes, Marks.tiploc_mark, declared.changes.Action.Action}
use Rattle.cif_feed.specs.{declared.changes.RecordChange.RecordChange, declared.feed_line.Feed.TheVariants.Update}
use Rattle.cif_feed.specs.{declared.mark.Transaction.Transaction, declared.published_extract.PublishedAssociation.PublishedAssociation}
use Rattle.cif_feed.specs.{declared.published_extract.PublishedSchedule.PublishedSchedule}
use Rattle.cif_feed.specs.UpdateParts.{AssociationKey, ScheduleKey, tiploc_changes_of}
use Rattle.cif_feed.specs.declared.changes.Action.TheVariants.{New, Revised, Deleted}
use Rattle.cif_feed.specs.declared.mark.Transaction.TheVariants as transaction

-- ---- associations and schedules

-- the columns of a line that does this: of a record that is put, by its transaction, or of a deletion
abbrev pub action_rows : {K R : Type 0} → (Transaction → R → List Row) → (K → List Row) → Action K R → List Row
action_rows put deleted (New r) = put transaction.New r
action_rows put deleted (Revised r) = put transaction.Revised r
action_rows put deleted (Deleted k) = deleted k

-- A line, by its number and its columns, makes this change: what it does stands in its columns. Of a deletion only those of its transaction
-- and its key are read.
pub record SaysChange {K R : Type 0} (rows : Action K R → List Row) (line : ℕ × List ℕ) (c : RecordChange K R) : Type 0 where
  pub number : c.line ≡ line.0
  pub stands : AllStandIn line.1 (rows c.action)

-- an AA, and a BS, of which what the lines behind it say is read as in a full extract
abbrev pub SaysAssociation : ℕ × List ℕ → RecordChange AssociationKey PublishedAssociation → Type 0
SaysAssociation = SaysChange (action_rows published_association_rows (λ k. deleted_association_rows k.0 k.1 k.2))

abbrev pub SaysSchedule : ℕ × List ℕ → RecordChange ScheduleKey PublishedSchedule → Type 0
SaysSchedule = SaysChange (action_rows published_basic_rows (λ k. deleted_basic_rows k.0 k.1 k.2))

-- ---- locations

-- A TI puts the location that it spells, of its columns 3 to 72. A TA amends that of its own TIPLOC: it puts the one that it spells, with
-- its columns 10 to 72. A TD deletes that of its TIPLOC.
pub record SaysTiploc (line : ℕ × List ℕ) (changes : List (RecordChange (List ℕ) Tiploc)) : Type 0 where
  pub tiploc : Tiploc
  pub spells : SpellsInFeed Update all_codes line.1 (of.Tiploc tiploc)
  pub are : changes ≡ tiploc_changes_of (tiploc_mark (kind_in line.1) line) tiploc

-- the lines make these changes, one line after another
abbrev pub SayTiplocs : List (ℕ × List ℕ) → List (RecordChange (List ℕ) Tiploc) → Type 0
SayTiplocs [] changes = changes ≡ []
SayTiplocs (line ∷ lines) changes = (own others : List (RecordChange (List ℕ) Tiploc)) × (changes ≡ own ++ others)
    × SaysTiploc line own × SayTiplocs lines others
