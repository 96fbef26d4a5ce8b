-- What a schedule's body is: its plain lines, one a record.
use Rattle.std.specs.Prelude.{All, Bool, List, None, Some, [], codes, cond, drop, length, map, slice_index_or, slice_range, ℕ, ◌++◌, ◌-◌}
use Rattle.std.specs.{Prelude.◌∷◌, Prelude.◌≡◌, Str.bytes_eq}
use Rattle.cif_columns.specs.{Field.AllStandIn, Field.Row, Field.columns, Field.plain_line, Line.IsLine}
use Rattle.cif_extract.specs.{BodyParts.BodyParts, BodyParts.body_records, BodyParts.journey_records, Call.call_in}
use Rattle.cif_records.specs.{Detail.detail_in, Detail.detail_table, Extra.extra_in, Origin.origin_in, Record.record_table}
use Rattle.cif_records.specs.{Terminus.terminus_in, declared.detail.Detail.Detail, declared.record.Record.Record}

-- The plain lines of a body: columns 30 to 78 of its BS on a line of their own, its BX if there is one, and its journey. Bodies are
-- equal where these are.
abbrev pub BodyLines : Type 0
BodyLines = List (List ℕ)

-- the tables of a detail and of the records that follow its BS
abbrev pub body_tables : Detail → List Record → List (List Row)
body_tables detail records = detail_table detail ∷ map record_table records

-- the body of these parts
abbrev pub body_of : BodyParts → BodyLines
body_of p = map plain_line (body_tables p.detail (body_records p))

-- each line is the plain line of its table, and spells what the table says
abbrev pub KeepAll : List (List ℕ) → List (List Row) → Type 0
KeepAll [] [] = Unit {0}
KeepAll [] (table ∷ tables) = ⊥
KeepAll (line ∷ lines) [] = ⊥
KeepAll (line ∷ lines) (table ∷ tables) = AllStandIn line table × (line ≡ plain_line table) × KeepAll lines tables

-- the second lines keep what the first keep, and these tables behind it
abbrev pub KeepMore : List (List ℕ) → List (List ℕ) → List (List Row) → Type 0
KeepMore old new more = (tables : List (List Row)) → KeepAll old tables → KeepAll new (tables ++ more)

-- the lines keep a body of these parts
abbrev pub KeepBody : List (List ℕ) → BodyParts → Type 0
KeepBody lines p = KeepAll lines (body_tables p.detail (body_records p))

-- the lines keep its journey, from LO to LT
abbrev pub KeepJourney : List (List ℕ) → BodyParts → Type 0
KeepJourney lines p = KeepAll lines (map record_table (journey_records p.origin p.calls p.terminus))

-- the lines keep a body
abbrev pub KeepSomeBody : List (List ℕ) → Type 0
KeepSomeBody lines = (p : BodyParts) × KeepBody lines p

-- these are a body: lines that keep one
pub record IsBody (body : BodyLines) : Type 0 where
  pub are_lines : All IsLine body
  pub keep : KeepSomeBody body

-- a line of further details
abbrev pub is_extra : List ℕ → Bool
is_extra line = bytes_eq (columns 1 2 line) (codes "BX")

-- the lines from LO to LT
abbrev pub journey_in : BodyLines → List (List ℕ)
journey_in lines = drop (cond (is_extra (slice_index_or lines 1 [])) 2 1) lines

-- the detail of a body, as it stands in its first line
abbrev pub detail_of : BodyLines → Detail
detail_of lines = detail_in (slice_index_or lines 0 [])

-- the parts of a body, as they stand in its lines
abbrev pub parts_in : BodyLines → BodyParts
parts_in lines = record {
  detail = detail_of lines;
  extra = cond (is_extra (slice_index_or lines 1 [])) (Some (extra_in (slice_index_or lines 1 []))) None;
  origin = origin_in (slice_index_or (journey_in lines) 0 []);
  calls = map call_in (slice_range (journey_in lines) 1 (length (journey_in lines) - 1));
  terminus = terminus_in (slice_index_or (journey_in lines) (length (journey_in lines) - 1) []);
}
