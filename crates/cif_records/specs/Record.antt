-- Records of any kind: their columns, when a line spells one, its plain line, and the first reason to refuse a line as one.
use Rattle.std.specs.Prelude.{◌≡◌, ℕ, List, Option, Some, None}
use Rattle.cif_columns.specs.{Field.AllStandIn, Field.Row, Field.plain_line, Line.IsLine, declared.refusal.Refusal.Refusal}
use Rattle.cif_columns.specs.{declared.refusal.Refusal.TheVariants.NotFull, declared.refusal.Refusal.TheVariants.UnknownRecord}
use Rattle.cif_records.specs.{Association.association_refusal, Association.association_table, Basic.basic_refusal, Basic.basic_table}
use Rattle.cif_records.specs.{Change.change_refusal, Change.change_table, Extra.extra_refusal, Extra.extra_table, Header.header_refusal}
use Rattle.cif_records.specs.{Header.header_table, Kind.kind_in, Origin.origin_refusal, Origin.origin_table, Stop.stop_refusal}
use Rattle.cif_records.specs.{Stop.stop_table, Terminus.terminus_refusal, Terminus.terminus_table, Tiploc.tiploc_refusal}
use Rattle.cif_records.specs.{Tiploc.tiploc_table, Trailer.trailer_refusal, Trailer.trailer_table, declared.record.Kind.Kind}
use Rattle.cif_records.specs.{declared.record.Record.Record, declared.record.Record.TheVariants.Trailer}
use Rattle.cif_records.specs.declared.record.Kind.TheVariants.{Hd, Ti, Ta, Td, Aa, Bs, Bx, Lo, Li, Cr, Lt, Zz}
use Rattle.cif_records.specs.declared.record.Record.TheVariants.{Association, Basic, Change, Extra, Header, Origin, Stop, Terminus, Tiploc}

-- the columns of this record
abbrev pub record_table : Record → List Row
record_table (Header r) = header_table r
record_table (Tiploc r) = tiploc_table r
record_table (Association r) = association_table r
record_table (Basic r) = basic_table r
record_table (Extra r) = extra_table r
record_table (Origin r) = origin_table r
record_table (Stop r) = stop_table r
record_table (Change r) = change_table r
record_table (Terminus r) = terminus_table r
record_table Trailer = trailer_table

-- the line spells the record: each row of its table holds of the line
abbrev pub SpellsRecord : List ℕ → Record → Type 0
SpellsRecord line r = AllStandIn line (record_table r)

-- The first line spells a value of a kind of record, or of any. The second is the plain line of that value, and spells the same value.
pub record IsPlainOf (R : Type 0) (table : R → List Row) (line plain : List ℕ) : Type 0 where
  pub value : R
  pub stands : AllStandIn line (table value)
  pub same : plain ≡ plain_line (table value)
  pub again : AllStandIn plain (table value)

-- the first reason to refuse a line of a kind; amended and deleted locations are of update extracts alone
abbrev pub refusal_as : Option Kind → List ℕ → Option Refusal
refusal_as None line = Some UnknownRecord
refusal_as (Some Hd) line = header_refusal line
refusal_as (Some Ti) line = tiploc_refusal line
refusal_as (Some Ta) line = Some NotFull
refusal_as (Some Td) line = Some NotFull
refusal_as (Some Aa) line = association_refusal line
refusal_as (Some Bs) line = basic_refusal line
refusal_as (Some Bx) line = extra_refusal line
refusal_as (Some Lo) line = origin_refusal line
refusal_as (Some Li) line = stop_refusal line
refusal_as (Some Cr) line = change_refusal line
refusal_as (Some Lt) line = terminus_refusal line
refusal_as (Some Zz) line = trailer_refusal line

-- the first reason to refuse a line as a record, by the kind that it names
unfoldable pub record_refusal : List ℕ → Option Refusal
record_refusal line = refusal_as (kind_in line) line

-- the line is the plain line of a record of this kind, and spells it
pub record IsPlainAs (kind : Kind) (line : List ℕ) : Type 0 where
  pub is_line : IsLine line
  pub kind_there : kind_in line ≡ Some kind
  pub fine : record_refusal line ≡ None
  pub of : IsPlainOf Record record_table line line
