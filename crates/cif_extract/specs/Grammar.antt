-- The records of an extract, in order: HD TI* AA* Schedule* ZZ, where Schedule = BS BX? LO (LI | CR)* LT. A cancellation may
-- lack the part from LO to LT.
use Rattle.std.specs.Prelude.{◌≡◌, ◌⊎◌, List, [], ◌∷◌, ◌++◌, Option, None, Some, map}
use Rattle.cif_columns.specs.Field.{plain_line}
use Rattle.cif_extract.specs.{Body.BodyLines, Body.body_tables, BodyParts.extra_records, BodyParts.journey_records}
use Rattle.cif_extract.specs.{ExtractParts.ExtractParts, declared.call.Call.Call, declared.extract.Schedule.Schedule}
use Rattle.cif_records.specs.declared.{basic.Basic.Basic, detail.Detail.Detail, extra.Extra.Extra, origin.Origin.Origin}
use Rattle.cif_records.specs.declared.{record.Record.Record, terminus.Terminus.Terminus}
use Rattle.cif_records.specs.declared.record.Record.TheVariants as of

-- a journey, whatever it is
pub record AreJourney (records : List Record) : Type 0 where
  pub origin : Origin
  pub calls : List Call
  pub terminus : Terminus
  pub are : records ≡ journey_records origin calls terminus

-- A BS with this detail, and what follows it, have this body: their plain lines. A cancellation has none: its BX says nothing, and its
-- journey neither, if it is there at all.
abbrev pub HaveBody : Option Detail → Option Extra → List Record → Option BodyLines → Type 0
HaveBody (Some detail) extra journey (Some body) =
    AreJourney journey × (body ≡ map plain_line (body_tables detail (extra_records extra ++ journey)))
HaveBody None extra journey None = (journey ≡ []) ⊎ AreJourney journey
HaveBody (Some detail) extra journey None = ⊥
HaveBody None extra journey (Some body) = ⊥

-- the schedule has the train, dates, weekdays and letter of the BS
pub record HasTerms (basic : Basic) (schedule : Schedule) : Type 0 where
  pub uid : basic.uid ≡ schedule.uid
  pub first : basic.first ≡ schedule.first
  pub last : basic.last ≡ schedule.last
  pub days : basic.days ≡ schedule.days
  pub letter : basic.letter ≡ schedule.letter

-- the records are this schedule: its BS, its BX or none, and its journey
pub record AreSchedule (records : List Record) (schedule : Schedule) : Type 0 where
  pub basic : Basic
  pub extra : Option Extra
  pub journey : List Record
  pub parts : records ≡ of.Basic basic ∷ (extra_records extra ++ journey)
  pub terms : HasTerms basic schedule
  pub body : HaveBody basic.detail extra journey schedule.body

-- the records are these schedules, one after another
abbrev pub AreSchedules : List Record → List Schedule → Type 0
AreSchedules records [] = records ≡ []
AreSchedules records (schedule ∷ schedules) = (own others : List Record) × (records ≡ own ++ others)
    × AreSchedule own schedule × AreSchedules others schedules

-- the records of an extract up to its trailer, where these are the records of its schedules
abbrev pub records_before_trailer : ExtractParts → List Record → List Record
records_before_trailer x schedules = of.Header x.header ∷ (map of.Tiploc x.tiplocs ++ (map of.Association x.associations ++ schedules))

-- the records are an extract of these parts
pub record AreExtract (records : List Record) (x : ExtractParts) : Type 0 where
  pub schedules : List Record
  pub parts : records ≡ records_before_trailer x schedules ++ (of.Trailer ∷ [])
  pub are_schedules : AreSchedules schedules x.schedules

-- the records begin an extract
pub record BeginExtract (records : List Record) : Type 0 where
  pub more : List Record
  pub parts : ExtractParts
  pub are : AreExtract (records ++ more) parts
