-- What a reading has come to, for the contracts of the reader's own steps. Of public functions only those of `Reading` cite it.
use Rattle.std.specs.Prelude.{Bool, Err, IfSome, List, None, Ok, Option, Result, Some, [], false, is_some, map, refl, true, ℕ, ◌++◌, ◌∷◌}
use Rattle.std.specs.Prelude.{◌≡◌, ◌≢◌, ◌⊎◌}
use Rattle.cif_columns.specs.{Field.AllStandIn, Field.plain_line, Line.IsLine, declared.refusal.Refusal.Refusal}
use Rattle.cif_extract.specs.{Body.BodyLines, Body.KeepAll, Body.body_tables, BodyParts.extra_records, Call.call_record}
use Rattle.cif_extract.specs.{ExtractParts.ExtractParts, OrderOfRecords.after_extra, OrderOfRecords.may_stand, declared.call.Call.Call}
use Rattle.cif_extract.specs.{declared.extract.Schedule.Schedule, declared.fault.Fault.Fault, declared.place.Place.Place}
use Rattle.cif_extract.specs.{declared.reading.Reading.Reading, declared.reading.TakeFault.TakeFault}
use Rattle.cif_extract.specs.Grammar.{AreExtract, AreSchedules, HasTerms, records_before_trailer}
use Rattle.cif_extract.specs.declared.fault.Fault.TheVariants as fault
use Rattle.cif_extract.specs.declared.place.Place.TheVariants as at
use Rattle.cif_extract.specs.declared.reading.TakeFault.TheVariants as untaken
use Rattle.cif_records.specs.{Basic.terms_of, Bodies.has_body, Detail.detail_table, Stop.SpellsStop, Stop.stop_table}
use Rattle.cif_records.specs.{Record.IsPlainAs, Record.SpellsRecord, Record.record_table, declared.tiploc.Tiploc.Tiploc}
use Rattle.cif_records.specs.declared.{association.Association.Association, basic.Basic.Basic, basic.BasicTerms.BasicTerms}
use Rattle.cif_records.specs.declared.{detail.Detail.Detail, extra.Extra.Extra, header.Header.Header, origin.Origin.Origin}
use Rattle.cif_records.specs.declared.{record.Kind.Kind, record.Record.Record, stop.Stop.Stop, terminus.Terminus.Terminus}
use Rattle.cif_records.specs.declared.record.Kind.TheVariants.{Bx, Lo, Li, Cr, Lt}
use Rattle.cif_records.specs.declared.record.Record.TheVariants as of

-- the fields of a reading, its vectors as lists
pub record Progress : Type 0 where
  pub place : Place
  pub header : Option Header
  pub tiplocs : List Tiploc
  pub associations : List Association
  pub schedules : List Schedule
  pub opened : Option BasicTerms
  pub lines : List (List ℕ)

abbrev pub progress_of : Reading → Progress
progress_of r = record {
  place = r.place;
  header = r.header;
  tiplocs = r.tiplocs.items;
  associations = r.associations.items;
  schedules = r.schedules.items;
  opened = r.opened;
  lines = r.lines;
}

-- the schedule of these terms, with this body or none
abbrev pub schedule_of : (t : BasicTerms) → (body : Option BodyLines) → is_some body ≡ has_body t.letter → Schedule
schedule_of t body bodied = record {
  uid = t.uid;
  first = t.first;
  last = t.last;
  days = t.days;
  letter = t.letter;
  body = body;
  in_order = t.in_order;
  bodied = bodied;
}

-- a BS, by its detail
abbrev pub begun : Progress → (b : Basic) → (d : Option Detail) → is_some d ≡ has_body b.letter → Progress
begun p b None none = record p {
  place = at.Cancelled;
  schedules = p.schedules ++ (schedule_of (terms_of b) None none ∷ []);
  opened = None;
}
begun p b (Some d) runs = record p {
  place = at.Basic;
  opened = Some (terms_of b);
  lines = plain_line (detail_table d) ∷ [];
}

-- the lines and a plain line more, if the schedule that is being read has a body
abbrev pub with_kept : Option BasicTerms → List (List ℕ) → List ℕ → List (List ℕ)
with_kept None lines line = lines
with_kept (Some t) lines line = lines ++ (line ∷ [])

-- the plain line of a record, kept if its schedule has a body
abbrev pub kept : Option BasicTerms → List (List ℕ) → Record → List (List ℕ)
kept opened lines r = with_kept opened lines (plain_line (record_table r))

-- a reading that keeps a plain line
abbrev pub keeping : Progress → List ℕ → Progress
keeping p line = record p { lines = with_kept p.opened p.lines line }

-- the schedules so far, and one of these terms with this body, if their letter has one
abbrev pub with_schedule : List Schedule → (t : BasicTerms) → BodyLines → (runs : Bool) → runs ≡ has_body t.letter → List Schedule
with_schedule schedules t body true runs = schedules ++ (schedule_of t (Some body) runs ∷ [])
with_schedule schedules t body false runs = schedules

-- the schedules so far, and the one that has been opened with these lines
abbrev pub closed : List Schedule → Option BasicTerms → List (List ℕ) → List Schedule
closed schedules None lines = schedules
closed schedules (Some t) lines = with_schedule schedules t lines (has_body t.letter) refl

-- what one record more comes to
abbrev pub step : Progress → Record → Progress
step p (of.Header h) = record p { place = at.Tiplocs; header = Some h }
step p (of.Tiploc t) = record p { place = at.Tiplocs; tiplocs = p.tiplocs ++ (t ∷ []) }
step p (of.Association a) = record p { place = at.Associations; associations = p.associations ++ (a ∷ []) }
step p (of.Basic b) = begun p b b.detail b.bodied
step p (of.Extra x) = record p { place = after_extra p.place; lines = kept p.opened p.lines (of.Extra x) }
step p (of.Origin o) = record p { place = at.Journey; lines = kept p.opened p.lines (of.Origin o) }
step p (of.Stop s) = record p { place = at.Journey; lines = kept p.opened p.lines (of.Stop s) }
step p (of.Change c) = record p { place = at.Journey; lines = kept p.opened p.lines (of.Change c) }
step p (of.Terminus t) = record p {
  place = at.Schedules;
  schedules = closed p.schedules p.opened (kept p.opened p.lines (of.Terminus t));
  opened = None;
  lines = kept p.opened p.lines (of.Terminus t);
}
step p of.Trailer = record p { place = at.Ended }

-- the plain line that is kept of a record, or of its detail, spells it again
abbrev pub IsKeepable : Record → Type 0
IsKeepable (of.Basic b) = IfSome b.detail (λ d. AllStandIn (plain_line (detail_table d)) (detail_table d))
IsKeepable (of.Header h) = Unit {0}
IsKeepable (of.Tiploc t) = Unit {0}
IsKeepable (of.Association a) = Unit {0}
IsKeepable of.Trailer = Unit {0}
IsKeepable r = AllStandIn (plain_line (record_table r)) (record_table r)

-- what a step gives where this is the first reason to refuse its line: the reason, or this, unless memory ran out
abbrev pub UnlessRefused : Option Refusal → Type 0 → Result Unit TakeFault → Type 0
UnlessRefused refusal P (Ok done) = (refusal ≡ None) × P
UnlessRefused refusal P (Err (untaken.Refused why)) = refusal ≡ Some why
UnlessRefused refusal P (Err untaken.Memory) = Unit {0}

-- one step more with the record that a line spells, by any layouts and by those of this profile
abbrev pub IsStepAs : (Record → Type 0) → Progress → Progress → Type 0
IsStepAs spells before after = (r : Record) × spells r × IsKeepable r × (after ≡ step before r)

abbrev pub IsStep : Progress → List ℕ → Progress → Type 0
IsStep before line = IsStepAs (SpellsRecord line) before

-- taking a line comes to such a step
abbrev pub IsTakenAs : Option Refusal → (Record → Type 0) → Progress → Result Unit TakeFault → Progress → Type 0
IsTakenAs refusal spells before result after = UnlessRefused refusal (IsStepAs spells before after) result

abbrev pub IsTaken : Option Refusal → List ℕ → Progress → Result Unit TakeFault → Progress → Type 0
IsTaken refusal line = IsTakenAs refusal (SpellsRecord line)

-- keeping a line comes to its record's plain line more, if it is kept
abbrev pub IsKept : Option Refusal → List ℕ → Progress → Result Unit TakeFault → Progress → Type 0
IsKept refusal line before result after = UnlessRefused refusal ((r : Record) × SpellsRecord line r
    × AllStandIn (plain_line (record_table r)) (record_table r) × (after ≡ record before { lines = kept before.opened before.lines r }))
    result

-- closing a schedule comes to one schedule more, with the body that the lines keep
abbrev pub IsClosed : Progress → BasicTerms → Progress → Type 0
IsClosed before t after = after ≡ record before { schedules = closed before.schedules (Some t) before.lines }

-- The line is the plain line of a location on the way, and one may stand at this place.
pub record GoesOnPlainly (place : Place) (line : List ℕ) : Type 0 where
  pub here : place ≡ at.Journey
  pub is_line : IsLine line
  pub stop : Stop
  pub spelled : SpellsStop line stop
  pub plain : plain_line (stop_table stop) ≡ line

-- a BX, and the kinds of a journey, but for its last
abbrev pub IsFurther : Option Kind → Type 0
IsFurther (Some Bx) = Unit {0}
IsFurther (Some Lo) = Unit {0}
IsFurther (Some Li) = Unit {0}
IsFurther (Some Cr) = Unit {0}
IsFurther _ = ⊥

-- The line is the plain line of such a record, or of an LT, and one of its kind may stand at this place.
pub record IsFurtherPlainly (place : Place) (line : List ℕ) (kind : Kind) : Type 0 where
  pub further : kind ≢ Lt → IsFurther (Some kind)
  pub allowed : may_stand place kind ≡ true
  pub plain : IsPlainAs kind line

-- A BS of a letter with a body and these further records of its schedule have come. Their lines are kept.
pub record IsOpened (p : Progress) (earlier : List Schedule) (b : Basic) (further : List Record) : Type 0 where
  pub detail : Detail
  pub has : b.detail ≡ Some detail
  pub runs : true ≡ has_body b.letter
  pub opened : p.opened ≡ Some (terms_of b)
  pub schedules : p.schedules ≡ earlier
  pub lines : KeepAll p.lines (body_tables detail further)

-- a BS of the letter without a body has come, and its schedule is there already
pub record IsCancelled (p : Progress) (earlier : List Schedule) (b : Basic) : Type 0 where
  pub has_none : b.detail ≡ None
  pub opened : p.opened ≡ None
  pub schedule : Schedule
  pub schedules : p.schedules ≡ earlier ++ (schedule ∷ [])
  pub terms : HasTerms b schedule
  pub body : schedule.body ≡ None

-- a journey that has begun
abbrev pub begun_journey : Option Extra → Origin → List Call → List Record
begun_journey x o calls = extra_records x ++ (of.Origin o ∷ map call_record calls)

-- the records of the schedule that is being read, after those of the earlier ones
abbrev pub HasOwn : Place → Progress → List Schedule → List Record → Type 0
HasOwn at.Start p earlier own = ⊥
HasOwn at.Tiplocs p earlier own = (own ≡ []) × (earlier ≡ []) × (p.schedules ≡ []) × (p.associations ≡ [])
HasOwn at.Associations p earlier own = (own ≡ []) × (earlier ≡ []) × (p.schedules ≡ [])
HasOwn at.Basic p earlier own = (b : Basic) × (own ≡ of.Basic b ∷ []) × IsOpened p earlier b []
HasOwn at.Extra p earlier own = (b : Basic) × (x : Extra) × (own ≡ of.Basic b ∷ of.Extra x ∷ [])
    × IsOpened p earlier b (of.Extra x ∷ [])
HasOwn at.Cancelled p earlier own = (b : Basic) × (own ≡ of.Basic b ∷ []) × IsCancelled p earlier b
HasOwn at.CancelledExtra p earlier own = (b : Basic) × (x : Extra) × (own ≡ of.Basic b ∷ of.Extra x ∷ []) × IsCancelled p earlier b
HasOwn at.Journey p earlier own = (b : Basic) × (x : Option Extra) × (o : Origin) × (calls : List Call)
    × (own ≡ of.Basic b ∷ begun_journey x o calls) × (IsOpened p earlier b (begun_journey x o calls) ⊎ IsCancelled p earlier b)
HasOwn at.Schedules p earlier own = (own ≡ []) × (p.schedules ≡ earlier)
HasOwn at.Ended p earlier own = ⊥

-- what a reading holds, by its header
abbrev pub parts_with_header : Progress → Header → List Schedule → ExtractParts
parts_with_header p h schedules = record {
  header = h;
  tiplocs = p.tiplocs;
  associations = p.associations;
  schedules = schedules;
}

-- the records up to somewhere before the trailer
pub record IsWithin (records : List Record) (p : Progress) : Type 0 where
  pub header : Header
  pub is_header : p.header ≡ Some header
  pub earlier : List Schedule
  pub groups : List Record
  pub own : List Record
  pub parts : records ≡ records_before_trailer (parts_with_header p header earlier) groups ++ own
  pub are : AreSchedules groups earlier
  pub here : HasOwn p.place p earlier own

-- no record yet
pub record IsNone (records : List Record) (p : Progress) : Type 0 where
  pub none : records ≡ []
  pub tiplocs : p.tiplocs ≡ []
  pub associations : p.associations ≡ []
  pub schedules : p.schedules ≡ []

-- a whole extract
pub record IsWhole (records : List Record) (p : Progress) : Type 0 where
  pub header : Header
  pub is_header : p.header ≡ Some header
  pub are : AreExtract records (parts_with_header p header p.schedules)

-- the records so far came to this
abbrev pub HasReadAt : Place → List Record → Progress → Type 0
HasReadAt at.Start records p = IsNone records p
HasReadAt at.Ended records p = IsWhole records p
HasReadAt _ records p = IsWithin records p

abbrev pub HasRead : List Record → Progress → Type 0
HasRead records p = HasReadAt p.place records p

-- The line of a journey's last location has come, behind these records, and is kept.
pub record HasLast (before : Progress) (line : List ℕ) (p : Progress) : Type 0 where
  pub records : List Record
  pub read : HasRead records before
  pub here : before.place ≡ at.Journey
  pub last : Terminus
  pub spelled : SpellsRecord line (of.Terminus last)
  pub again : IsKeepable (of.Terminus last)
  pub is : p ≡ record before { lines = kept before.opened before.lines (of.Terminus last) }

-- before the first line
abbrev pub no_progress : Progress
no_progress = record {
  place = at.Start;
  header = None;
  tiplocs = [];
  associations = [];
  schedules = [];
  opened = None;
  lines = [];
}

-- why a line is not taken, as the fault at the line of this number
abbrev pub fault_at_line : ℕ → TakeFault → Fault
fault_at_line number (untaken.Refused why) = fault.Refused number why
fault_at_line number untaken.Memory = fault.Memory
