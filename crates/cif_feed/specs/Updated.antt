-- What an update does to a published extract.
use Rattle.std.specs.Prelude.{List, None, Some, [], if◌then◌else◌, ℕ, ◌++◌, ◌==◌, ◌∷◌, ◌≡◌}
use Rattle.cif_columns.specs.{Contents.contents_of, Source.Unread}
use Rattle.cif_extract.specs.ReadCall.{ReadCall, reading}
use Rattle.cif_feed.specs.{Changes.AreAfter, Changes.AreRefused, Counts.counts_of, HolidayCode.all_codes, Marks.passed_of}
use Rattle.cif_feed.specs.{PublishedParts.PublishedParts, Sequence.follows}
use Rattle.cif_feed.specs.FeedFault.{IsFeedFault, IsOfFeed, is_feed_read}
use Rattle.cif_feed.specs.RecordKeys.{association_key, schedule_key, tiploc_key}
use Rattle.cif_feed.specs.{Waived.first_refused, declared.changes.Waived.Waived}
use Rattle.cif_feed.specs.UpdateParts.{AssociationKey, BytesSpellUpdate, ScheduleKey, UpdateParts}
use Rattle.cif_feed.specs.declared.{changes.RefusedLine.RefusedLine, changes.Unfit.Unfit, feed_fault.FeedFault.FeedFault}
use Rattle.cif_feed.specs.declared.{feed_line.Feed.TheVariants.Update, published_extract.PublishedAssociation.PublishedAssociation}
use Rattle.cif_feed.specs.declared.{published_extract.PublishedSchedule.PublishedSchedule, update.Outcome.Outcome}
use Rattle.cif_feed.specs.declared.changes.Unfit.TheVariants as unfit
use Rattle.cif_feed.specs.declared.feed_fault.FeedFault.TheVariants.{AlreadyThere, NotThere, OutOfSequence}

-- the keys of the records of a published extract
abbrev pub published_association_key : PublishedAssociation → AssociationKey
published_association_key a = association_key a.association

abbrev pub published_schedule_key : PublishedSchedule → ScheduleKey
published_schedule_key s = schedule_key s.schedule

-- The new extract is the old one after the update: it has the header of the update, and of each kind what was there and was not taken
-- out, and then what was put.
pub record IsUpdated (u : UpdateParts) (old new : PublishedParts) : Type 0 where
  pub header : new.header ≡ u.header
  pub tiplocs : AreAfter tiploc_key old.tiplocs u.tiplocs new.tiplocs
  pub associations : AreAfter published_association_key old.associations u.associations new.associations
  pub schedules : AreAfter published_schedule_key old.schedules u.schedules new.schedules

-- each of the refused lines once, under its first refusal; those of one line stand together
abbrev pub reported_once : ℕ → List RefusedLine → List RefusedLine
reported_once previous [] = []
reported_once previous (r ∷ refused) = (if r.line == previous then [] else r ∷ []) ++ reported_once r.line refused

-- the line of the header is refused, if the update doesn't follow the extract
abbrev pub refused_header : UpdateParts → PublishedParts → List RefusedLine
refused_header u old = if follows u.header old.header then [] else record { line = u.header_line; why = unfit.OutOfSequence } ∷ []

-- The lines of the update that may not be done, in their order: that of the header, those of locations, of associations, of schedules. No
-- line has number 0.
pub record AreRefusedLines (u : UpdateParts) (old : PublishedParts) (lines : List RefusedLine) : Type 0 where
  pub tiplocs : List RefusedLine
  pub of_tiplocs : AreRefused tiploc_key old.tiplocs u.tiplocs tiplocs
  pub associations : List RefusedLine
  pub of_associations : AreRefused published_association_key old.associations u.associations associations
  pub schedules : List RefusedLine
  pub of_schedules : AreRefused published_schedule_key old.schedules u.schedules schedules
  pub are : lines ≡ refused_header u old ++ reported_once 0 (tiplocs ++ (associations ++ schedules))

-- the fault of a line that may not be done
abbrev pub fault_at : ℕ → Unfit → FeedFault
fault_at line unfit.OutOfSequence = OutOfSequence line
fault_at line unfit.NotThere = NotThere line
fault_at line unfit.AlreadyThere = AlreadyThere line

abbrev pub refused_fault : RefusedLine → FeedFault
refused_fault r = fault_at r.line r.why

-- A line of an update is refused: of an update that these bytes spell, the first that may not be done and isn't waived.
pub record IsLineRefused (how : Waived) (old : PublishedParts) (max : ℕ) (bytes : List ℕ) (line : RefusedLine) : Type 0 where
  pub update : UpdateParts
  pub spelled : BytesSpellUpdate max bytes update
  pub lines : List RefusedLine
  pub refused : AreRefusedLines update old lines
  pub first : first_refused how lines ≡ Some line

-- Why an update is not done to a published extract, where `after` is left of its bytes then: for what can't be read, or for the first line
-- that may not be done and isn't waived.
abbrev pub IsUpdateFault : Waived → PublishedParts → ℕ → List ℕ → Unread → FeedFault → Type 0
IsUpdateFault how old max bytes after (OutOfSequence line) =
    IsLineRefused how old max bytes (record { line = line; why = unfit.OutOfSequence })
IsUpdateFault how old max bytes after (NotThere line) =
    IsLineRefused how old max bytes (record { line = line; why = unfit.NotThere })
IsUpdateFault how old max bytes after (AlreadyThere line) =
    IsLineRefused how old max bytes (record { line = line; why = unfit.AlreadyThere })
IsUpdateFault how old max bytes after fault = IsFeedFault Update all_codes max bytes after fault

-- An update was done to a published extract: the one that these bytes spell, whose lines that may not be done are these. All are waived.
pub record IsUpdatedBy (how : Waived) (old : PublishedParts) (max : ℕ) (bytes : List ℕ) (new : PublishedParts) (lines : List RefusedLine)
    : Type 0 where
  pub update : UpdateParts
  pub spelled : BytesSpellUpdate max bytes update
  pub updated : IsUpdated update old new
  pub refused : AreRefusedLines update old lines
  pub all_waived : first_refused how lines ≡ None

-- each line of the update that may not be done is waived
abbrev pub MayBeDone : Waived → PublishedParts → UpdateParts → Type 0
MayBeDone how old update = (lines : List RefusedLine) → AreRefusedLines update old lines → first_refused how lines ≡ None

-- the faults of doing an update of at most max contents, for any source
abbrev pub IsOfUpdate : ℕ → FeedFault → Type 0
IsOfUpdate max (OutOfSequence line) = Unit {0}
IsOfUpdate max (NotThere line) = Unit {0}
IsOfUpdate max (AlreadyThere line) = Unit {0}
IsOfUpdate max fault = IsOfFeed max fault

-- The outcome of an update of these bytes that was done: the lines that are waived, how many of its lines do what, and how many comments
-- and notes were passed over.
pub record IsOutcomeOf (how : Waived) (old : PublishedParts) (max : ℕ) (bytes : List ℕ) (new : PublishedParts) (outcome : Outcome)
    : Type 0 where
  pub done : IsUpdatedBy how old max bytes new outcome.waived.items
  pub counts : outcome.counts ≡ counts_of (contents_of bytes)
  pub passed : outcome.passed ≡ passed_of (contents_of bytes)

-- reading an update and doing it, which makes `new` of `old`
abbrev pub updating : Waived → PublishedParts → PublishedParts → ℕ → ReadCall Outcome FeedFault
updating how old new max =
    reading is_feed_read (λ bytes. IsOutcomeOf how old max bytes new) (IsUpdateFault how old max) (IsOfUpdate max)
