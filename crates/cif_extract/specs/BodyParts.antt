-- The five parts of a schedule's body, and the records that they are.
use Rattle.std.specs.Prelude.{List, [], ◌∷◌, ◌++◌, Option, None, Some, map}
use Rattle.cif_extract.specs.{Call.call_record, declared.call.Call.Call}
use Rattle.cif_records.specs.declared.{detail.Detail.Detail, extra.Extra.Extra, origin.Origin.Origin, record.Record.Record}
use Rattle.cif_records.specs.declared.{terminus.Terminus.Terminus}
use Rattle.cif_records.specs.declared.record.Record.TheVariants as of

-- Columns 30 to 78 of its BS, its BX or the lack of one, and its journey. An absent BX and one of empty texts are two.
pub record BodyParts : Type 0 where
  pub detail : Detail
  pub extra : Option Extra
  pub origin : Origin
  pub calls : List Call
  pub terminus : Terminus

-- a BX, or none
abbrev pub extra_records : Option Extra → List Record
extra_records None = []
extra_records (Some extra) = of.Extra extra ∷ []

-- a journey: LO, then LI and CR in any order, then LT
abbrev pub journey_records : Origin → List Call → Terminus → List Record
journey_records origin calls terminus = of.Origin origin ∷ (map call_record calls ++ (of.Terminus terminus ∷ []))

-- the records of a body, which follow its BS
abbrev pub body_records : BodyParts → List Record
body_records p = extra_records p.extra ++ journey_records p.origin p.calls p.terminus
