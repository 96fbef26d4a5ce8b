-- What `prepare` and `update` answer: a text on the output, and what is reported beside it.
use Rattle.std.specs.Prelude.{Bool, Err, IfErr, IfOk, List, None, Ok, Option, Result, Some, [], false, not, ℕ, ⊤, ◌&&◌, ◌++◌, ◌∷◌, ◌≡◌, ◌⊎◌}
use Rattle.std.specs.List.{flat_map, list_any}
use Rattle.cif_columns.specs.{Contents.contents_of, Sink.Writes, Sink.writer_of, Source.Unread, Source.reader_of}
use Rattle.cif_columns.specs.declared.{line_reader.TheConstants.MAX_LINES, sink.Sink.Sink, source.Source.Source}
use Rattle.cif_extract.specs.{ReadCall.IsResultOf, ReadCall.ReadCall, ReadCall.reading, declared.fault.Fault.TheVariants.Write}
use Rattle.cif_feed.specs.{Counts.counts_of, Counts.have_marks, FeedFault.is_feed_read, FeedFault.of_holiday_fault, UpdatesInTurn.IsWritten}
use Rattle.cif_feed.specs.{FeedRefusal.IsFirstOfFeed, HolidayCode.all_codes, Holidays.Names, Updated.updating, UpdatesInTurn.IsRefused}
use Rattle.cif_feed.specs.Unreached.{all_unreached, unreached_of}
use Rattle.cif_feed.specs.declared.{prepare.KeptPrepare.KeptPrepare, unreached.Unreached.Unreached}
use Rattle.cif_feed.specs.HolidayText.{IsFirstBadLine, IsHolidayFault, IsOfHolidays, SpellHolidays}
use Rattle.cif_feed.specs.PublishedParts.{PublishedParts, published_parts, reading_published}
use Rattle.cif_feed.specs.WrittenPrepared.{FeedWrites, IsDeviceOrMemory, IsPreparedText, codes_named, preparing}
use Rattle.cif_feed.specs.declared.{changes.RefusedLine.RefusedLine, changes.Waived.Waived, dropped.Dropped.Dropped, feed_fault.FeedFault.FeedFault}
use Rattle.cif_feed.specs.declared.{feed_fault.FeedFault.TheVariants.BadHoliday, feed_fault.FeedFault.TheVariants.Extract}
use Rattle.cif_feed.specs.declared.{feed_line.Feed.TheVariants.Full, holiday_text.HolidayFault.HolidayFault}
use Rattle.cif_feed.specs.declared.{holidays.HolidayCode.HolidayCode, holidays.Holidays.Holidays, mark.UpdateCounts.UpdateCounts}
use Rattle.cif_feed.specs.declared.{published_extract.PublishedExtract.PublishedExtract, updates_in_turn.DoneUpdate.DoneUpdate}
use Rattle.cif_feed.specs.declared.{updates_in_turn.KeptUpdate.KeptUpdate, updates_in_turn.ReadFeed.ReadFeed}

-- where a command answers, its sink's writer holds nothing back: the whole answer is handed on
abbrev pub IsHandedOn : {W A E : Type 0} → (W → Type 0) → Sink W → Result A E → Type 0
IsHandedOn holds_nothing new (Ok done) = holds_nothing (writer_of new)
IsHandedOn holds_nothing new (Err fault) = ⊤

-- P holds of what is reported, or of something where that isn't known
abbrev pub IsReported : {T : Type 0} → (T → Type 0) → Option T → Type 0
IsReported P (Some reported) = P reported
IsReported {T} P None = (reported : T) × P reported

-- P holds of what was answered, or, at Write, of an answer of which a prefix was written
abbrev pub IfFeedAnswered : {A T : Type 0} → (A → T) → (Option T → Type 0) → Result A FeedFault → Type 0
IfFeedAnswered reported P (Ok done) = P (Some (reported done))
IfFeedAnswered reported P (Err (Extract Write)) = P None
IfFeedAnswered reported P (Err fault) = ⊤

-- What a command owes its sink: the text of its answer, and no byte more; a prefix of it at Write; nothing at another fault. What it
-- reports beside it belongs to that text.
pub record FeedAnswers {W A T : Type 0} (contents : W → Option (List ℕ)) (errors : W → Option ℕ) (reported : A → T)
    (IsAnswer : List ℕ → Option T → Type 0) (old new : Sink W) (result : Result A FeedFault) : Type 0 where
  pub text : List ℕ
  pub writes : FeedWrites contents errors text old new result
  pub answer : IfFeedAnswered reported (IsAnswer text) result

-- once what was written is handed on; a failure of the writing is the answer
abbrev pub FeedFinishes : {W A E : Type 0} → (W → Option (List ℕ)) → (W → Option ℕ) → Result A E → Sink W → Sink W →
    Result (Unit {0}) FeedFault → Type 0
FeedFinishes contents errors (Ok done) old new result =
    Writes contents errors [] old new result × IfErr result (λ fault. fault ≡ Extract Write)
FeedFinishes contents errors (Err fault) old new result = (result ≡ Err (Extract Write)) × (new ≡ old)

-- ---- prepare

-- these are the bytes that the reader of holidays gives, if there is one
abbrev pub AreHolidaysGiven : {R : Type 0} → (R → Option (List ℕ)) → Option (Source R) → Option (List ℕ) → Type 0
AreHolidaysGiven remaining None given = given ≡ None
AreHolidaysGiven remaining (Some source) given = (bytes : List ℕ) × (given ≡ Some bytes) × (remaining (reader_of source) ≡ Some bytes)

-- where the bytes that the readers give are known, this holds of them
abbrev pub OfHolidays : {R : Type 0} → (R → Option (List ℕ)) → (Option (List ℕ) → List ℕ → Type 0) → Option (Source R) → Source R → Type 0
OfHolidays remaining P holidays source = (given : Option (List ℕ)) (bytes : List ℕ) → AreHolidaysGiven remaining holidays given →
    remaining (reader_of source) ≡ Some bytes → P given bytes

-- these are the holidays that the bytes spell; none where no bytes are given
abbrev pub AreHolidaysOf : Option (List ℕ) → Holidays → Type 0
AreHolidaysOf None h = (code : HolidayCode) → ¬ Names h code
AreHolidaysOf (Some bytes) h = SpellHolidays bytes h

-- what `prepare` reports beside the text: of each code the holidays that don't reach the window, and what was dropped
pub record PrepareReported : Type 0 where
  pub unreached : List (Option Unreached)
  pub dropped : Dropped

abbrev pub prepare_reported : KeptPrepare → Dropped → PrepareReported
prepare_reported kept dropped = record { unreached = unreached_of kept; dropped = dropped }

-- `prepare` answers these bytes of holidays and of a published extract by the text of its prepared extract, and reports this
pub record IsPrepareAnswer (drops : Bool) (given : Option (List ℕ)) (bytes text : List ℕ) (reported : PrepareReported) : Type 0 where
  pub holidays : Holidays
  pub spelled : AreHolidaysOf given holidays
  pub prepared : IsPreparedText holidays drops MAX_LINES bytes text reported.dropped
  pub unreached : reported.unreached ≡ all_unreached holidays prepared.published

-- the first bad line of the holidays that are given
abbrev pub IsBadHoliday : Option (List ℕ) → FeedFault → Type 0
IsBadHoliday (Some bytes) (BadHoliday line) = IsFirstBadLine (contents_of bytes) line
IsBadHoliday given fault = ⊥

-- why `prepare` has no answer to these bytes: the first bad line of the holidays, or the first refusal of the published extract, in which
-- the codes that they name may stand; or a device failed, or memory ran out
abbrev pub IsPrepareFault : Option (List ℕ) → List ℕ → FeedFault → Type 0
IsPrepareFault given bytes fault = IsDeviceOrMemory fault ⊎ (IsBadHoliday given fault
    ⊎ ((holidays : Holidays) × AreHolidaysOf given holidays
    × IsFirstOfFeed Full (codes_named holidays) MAX_LINES (contents_of bytes) fault))

-- why holidays aren't read, as a fault of feeds
abbrev pub IsHolidayFeedFault : List ℕ → Unread → FeedFault → Type 0
IsHolidayFeedFault bytes after fault = (holiday_fault : HolidayFault) × (fault ≡ of_holiday_fault holiday_fault)
    × IsHolidayFault bytes after holiday_fault

-- reading them
abbrev pub reading_as_feed : ReadCall Holidays FeedFault
reading_as_feed = reading is_feed_read SpellHolidays IsHolidayFeedFault
    (λ fault. (holiday_fault : HolidayFault) × (fault ≡ of_holiday_fault holiday_fault) × IsOfHolidays holiday_fault)

-- What comes of a source of holidays, if there is one.
abbrev pub AreHolidaysRead : {R : Type 0} → (R → Option (List ℕ)) → (R → Option ℕ) → Option (Source R) → Option (Source R) →
    Result Holidays FeedFault → Type 0
AreHolidaysRead remaining errors None after result = (after ≡ None) × IfOk result (λ h. (code : HolidayCode) → ¬ Names h code)
    × IfErr result (λ fault. ⊥)
AreHolidaysRead {R} remaining errors (Some source) after result = (read : Source R) × (after ≡ Some read)
    × IsResultOf remaining errors reading_as_feed source read result

-- What comes of the sources of holidays and of a published extract: the holidays aren't read, and the other source isn't touched; or they
-- are, and the extract is read and prepared with them.
abbrev pub IsPreparedInTurn : {R : Type 0} → (R → Option (List ℕ)) → (R → Option ℕ) → Option (Source R) → Option (Source R) → Source R →
    Source R → Result Dropped FeedFault → Type 0
IsPreparedInTurn remaining errors holidays holidays_new source source_new result =
    ((fault : FeedFault) × (result ≡ Err fault) × (source_new ≡ source)
    × AreHolidaysRead remaining errors holidays holidays_new (Err fault))
    ⊎ ((h : Holidays) × (kept : Option PublishedExtract) × AreHolidaysRead remaining errors holidays holidays_new (Ok h)
    × IsResultOf remaining errors (preparing h MAX_LINES kept) source source_new result)

-- ---- update

-- the lines that these updates waived, one update after another
abbrev pub waived_by : List DoneUpdate → List RefusedLine
waived_by updates = flat_map (λ u. u.outcome.waived.items) updates

-- how many lines of these contents do what
abbrev pub counts_in : List ℕ → UpdateCounts
counts_in bytes = counts_of (contents_of bytes)

-- whether a full extract looks as if it were prepared: no line of it has an open end or a holiday code, and one of an update has
abbrev pub is_as_prepared : List ℕ → List (List ℕ) → Bool
is_as_prepared full updates = not (have_marks (counts_in full)) && list_any (λ update. have_marks (counts_in update)) updates

-- the same of what was read of it, and of these updates that were done
abbrev pub read_as_prepared : Option ReadFeed → List DoneUpdate → Bool
read_as_prepared None done = false
read_as_prepared (Some full) done = not (have_marks full.counts) && list_any (λ (u : DoneUpdate). have_marks u.outcome.counts) done

abbrev pub looks_prepared : KeptUpdate → Bool
looks_prepared kept = read_as_prepared kept.full kept.done.items

-- what `update` reports beside the text: that its full extract looks as if it were prepared, and which lines were waived
pub record UpdateReported : Type 0 where
  pub as_prepared : Bool
  pub waived : List RefusedLine

abbrev pub reported_of : KeptUpdate → UpdateReported
reported_of kept = record { as_prepared = looks_prepared kept; waived = waived_by kept.done.items }

-- `update` answers the bytes of a full extract and of updates by this text, and reports this
pub record IsUpdateAnswer (how : Waived) (full : List ℕ) (updates : List (List ℕ)) (text : List ℕ) (reported : UpdateReported)
    : Type 0 where
  pub written : IsWritten how MAX_LINES full updates text reported.waived
  pub as_prepared : reported.as_prepared ≡ is_as_prepared full updates

-- these are the bytes that the readers of the sources give
abbrev pub AreGiven : {R : Type 0} → (R → Option (List ℕ)) → List (Source R) → List (List ℕ) → Type 0
AreGiven remaining [] given = given ≡ []
AreGiven remaining (source ∷ sources) given = (bytes : List ℕ) × (others : List (List ℕ)) × (given ≡ bytes ∷ others)
    × (remaining (reader_of source) ≡ Some bytes) × AreGiven remaining sources others

-- where the bytes that the readers give are known, this holds of them
abbrev pub OfUpdates : {R : Type 0} → (R → Option (List ℕ)) → (List ℕ → List (List ℕ) → Type 0) → Source R → List (Source R) → Type 0
OfUpdates remaining P full updates = (bytes : List ℕ) (given : List (List ℕ)) → remaining (reader_of full) ≡ Some bytes →
    AreGiven remaining updates given → P bytes given

-- why `update` has no answer to these bytes: FULL's first refusal, or why one of the updates isn't done; or a device failed, or memory ran
-- out
abbrev pub IsUpdateFault : Waived → List ℕ → List (List ℕ) → FeedFault → Type 0
IsUpdateFault how full updates fault =
    IsDeviceOrMemory fault ⊎ (IsFirstOfFeed Full all_codes MAX_LINES (contents_of full) fault
    ⊎ IsRefused how MAX_LINES full updates fault)

-- What comes of the source of an update that is done to a published extract. It is listed behind others, with the header that it leaves.
abbrev pub IsOneDone : {R : Type 0} → (R → Option (List ℕ)) → (R → Option ℕ) → Waived → PublishedParts → PublishedParts → Source R →
    Source R → List DoneUpdate → List DoneUpdate → Result (Unit {0}) FeedFault → Type 0
IsOneDone remaining errors how old new source after listed listed_new (Ok done) = (update : DoneUpdate)
    × (listed_new ≡ listed ++ update ∷ []) × (update.header ≡ new.header)
    × IsResultOf remaining errors (updating how old new MAX_LINES) source after (Ok update.outcome)
IsOneDone remaining errors how old new source after listed listed_new (Err fault) =
    IsResultOf remaining errors (updating how old new MAX_LINES) source after (Err fault)

-- What comes of the sources of updates that are done to a published extract, one after another. Those behind one that isn't done are as
-- they were.
abbrev pub AreDoneInTurn : {R : Type 0} → (R → Option (List ℕ)) → (R → Option ℕ) → Waived → PublishedParts → PublishedParts →
    List (Source R) → List (Source R) → List DoneUpdate → Result (Unit {0}) FeedFault → Type 0
AreDoneInTurn remaining errors how old new [] after done result =
    (after ≡ []) × IfErr result (λ fault. ⊥) × (new ≡ old) × (done ≡ [])
AreDoneInTurn {R} remaining errors how old new (source ∷ sources) after done result =
    (read : Source R) × (others : List (Source R)) × (after ≡ read ∷ others) × (mid : PublishedParts)
    × (((fault : FeedFault) × (result ≡ Err fault) × (others ≡ sources)
    × IsResultOf remaining errors (updating how old mid MAX_LINES) source read (Err fault))
    ⊎ ((first : DoneUpdate) × (later : List DoneUpdate) × (done ≡ first ∷ later) × (first.header ≡ mid.header)
    × IsResultOf remaining errors (updating how old mid MAX_LINES) source read (Ok first.outcome)
    × AreDoneInTurn remaining errors how mid new sources others later result))

-- what comes of writing the extract that the updates leave, where they are done
abbrev pub EndsAs : {A : Type 0} → (A → List DoneUpdate) → List DoneUpdate → Result (Unit {0}) FeedFault → Result A FeedFault → Type 0
EndsAs listed updates (Ok done) result = IfOk result (λ answer. listed answer ≡ updates) × IfErr result (λ fault. fault ≡ Extract Write)
EndsAs listed updates (Err fault) result = result ≡ Err fault

-- What comes of the sources of a published extract and of updates: the first isn't read, and no update is touched; or it is, and the
-- updates are done to it in turn.
abbrev pub AreUpdatesRead : {R A : Type 0} → (R → Option (List ℕ)) → (R → Option ℕ) → (A → List DoneUpdate) → Waived → Source R → Source R
    → List (Source R) → List (Source R) → Result A FeedFault → Type 0
AreUpdatesRead remaining errors listed how full full_new updates updates_new result =
    ((fault : FeedFault) × (result ≡ Err fault) × (updates_new ≡ updates)
    × IsResultOf remaining errors (reading_published all_codes MAX_LINES) full full_new (Err fault))
    ⊎ ((extract : PublishedExtract) × (new : PublishedParts) × (these : List DoneUpdate) × (done : Result (Unit {0}) FeedFault)
    × IsResultOf remaining errors (reading_published all_codes MAX_LINES) full full_new (Ok extract)
    × AreDoneInTurn remaining errors how (published_parts extract) new updates updates_new these done
    × EndsAs listed these done result)
