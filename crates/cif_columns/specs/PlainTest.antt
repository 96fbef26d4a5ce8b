-- A test of a line column by column, and which tables of records it asks for. Columns are counted from 0 in the test's own tables.
use Rattle.std.specs.Prelude.{Bool, List, [], codes, false, length, map, nat_le, replicate, slice_index, true, ℕ, ◌&&◌, ◌+◌, ◌-◌, ◌<◌, ◌==◌}
use Rattle.std.specs.Prelude.{◌||◌, ◌∷◌, ◌≡◌, ◌≤◌, ◌⊎◌}
use Rattle.std.specs.{List.list_all, Str.bytes_eq}
use Rattle.cif_columns.specs.{Activities.codes_in, FirstLine.is_printable, Text.text_of, declared.plain_test.PlainTest.PlainTest}
use Rattle.cif_columns.specs.Field.{AllStandIn, FieldValue, Row, activity_codes, columns, exactly, is_whole_from, plain_line, public_time}
use Rattle.cif_columns.specs.Field.{row, spare, text, working_time}

-- the line spells the table, and is its plain line
abbrev pub IsPlainLineOf : List Row → List ℕ → Type 0
IsPlainLineOf rows line = AllStandIn line rows × (plain_line rows ≡ line)

-- The value of this one's kind that stands in the columns, for the kinds of which any columns have one. Of other kinds the value
-- stays as it is.
abbrev pub read_value : List ℕ → FieldValue → FieldValue
read_value columns (text value) = text (text_of columns)
read_value columns (activity_codes codes) = activity_codes (codes_in columns)
read_value columns (working_time time) = working_time columns
read_value columns (public_time time) = public_time columns
read_value columns other = other

-- the table with the values that stand in the line
abbrev pub read_off : List ℕ → List Row → List Row
read_off line rows = map (λ r. row r.from r.to (read_value (columns r.from r.to line) r.value)) rows

-- ---- what a test wants of a line

-- the column's byte is in its range, or it is the other byte
abbrev pub IsInRange : PlainTest → List ℕ → ℕ → Type 0
IsInRange t line k =
    ((slice_index t.least k ≤ slice_index line k) × (slice_index line k ≤ slice_index t.most k))
    ⊎ (slice_index line k ≡ slice_index t.also k)

-- a space that asks for one in the next column has it
abbrev pub IsFollowed : PlainTest → List ℕ → ℕ → Type 0
IsFollowed t line k = slice_index t.next k ≡ 32 → slice_index line k ≡ 32 → slice_index line (k + 1) ≡ 32

-- a space that asks for one in the column after the next has it
abbrev pub IsFollowedOver : PlainTest → List ℕ → ℕ → Type 0
IsFollowedOver t line k = slice_index t.over k ≡ 32 → slice_index line k ≡ 32 → slice_index line (k + 2) ≡ 32

-- a space in the next column that asks for one in this column has it, and a `2` that asks for at most `3` in the next column
abbrev pub IsTimed : PlainTest → List ℕ → ℕ → Type 0
IsTimed t line k =
    (slice_index t.back k ≡ 32 → slice_index line (k + 1) ≡ 32 → slice_index line k ≡ 32)
    × (slice_index t.hour k ≡ 50 → slice_index line k ≡ 50 → slice_index line (k + 1) ≤ 51)

-- Each column is as the test wants it: as many as each of its tables has. What that means for records is the clause `plain` of
-- `passes`.
pub record Passes (t : PlainTest) (line : List ℕ) : Type 0 where
  pub in_range : (k : ℕ) → k < 80 → IsInRange t line k
  pub followed : (k : ℕ) → k < 79 → IsFollowed t line k
  pub followed_over : (k : ℕ) → k < 64 → IsFollowedOver t line k
  pub timed : (k : ℕ) → k < 32 → IsTimed t line k

-- each byte that it lets through may stand in a line
abbrev pub asks_printable : PlainTest → Bool
asks_printable t = list_all is_printable t.least && list_all is_printable t.most && list_all is_printable t.also

-- ---- which tables it asks for

-- the columns are these bytes
abbrev pub are : ℕ → ℕ → List ℕ → List ℕ → Bool
are from to bytes wanted = bytes_eq (columns from to bytes) wanted

-- the ranges of the columns are these bytes alone
abbrev pub asks_bytes : PlainTest → ℕ → ℕ → List ℕ → Bool
asks_bytes t from to bytes = are from to t.least bytes && are from to t.most bytes && are from to t.also bytes

-- the columns are spaces
abbrev pub asks_spaces : PlainTest → ℕ → ℕ → Bool
asks_spaces t from to = asks_bytes t from to (replicate (to + 1 - from) 32)

-- in each of the columns but the last a space asks for one in the next
abbrev pub asks_left : PlainTest → ℕ → ℕ → Bool
asks_left t from to = are from (to - 1) t.next (replicate (to - from) 32)

-- the four columns from this one on are an hour and a minute, or blank
abbrev pub asks_clock : PlainTest → ℕ → Bool
asks_clock t from =
    are from (from + 3) t.least (codes "0000") && are from (from + 3) t.most (codes "2959")
    && are from (from + 3) t.also (codes "    ") && are from (from + 2) t.next (codes "   ")
    && are from (from + 2) t.back (codes "   ") && are from from t.hour (codes "2")

-- The test asks that the columns are filled as in a plain line, with a value of this one's kind: a text is at their left or blank,
-- codes are packed, a time is one. Of days, masks and letters no test asks anything.
abbrev pub asks : PlainTest → ℕ → ℕ → FieldValue → Bool
asks t from to (exactly value) = (length value == to + 1 - from) && asks_bytes t from to value
asks t from to (text value) = asks_left t from to || asks_spaces t from to
asks t from to (activity_codes value) =
    (to == from + 11) && nat_le to 64 && are from to t.next (codes " ~ ~ ~ ~ ~ ~") && are from to t.over (codes " ~ ~ ~ ~ ~~~")
asks t from to (working_time time) =
    (to == from + 4) && nat_le to 33 && asks_clock t from && are (from + 3) (from + 3) t.next (codes " ")
    && are to to t.least (codes "H") && are to to t.most (codes "H") && are to to t.also (codes " ")
asks t from to (public_time time) = (to == from + 3) && nat_le to 33 && asks_clock t from
asks t from to spare = asks_spaces t from to
asks t from to other = false

-- the test asks for each of the rows
abbrev pub asks_rows : PlainTest → List Row → Bool
asks_rows t [] = true
asks_rows t (r ∷ rows) = asks t r.from r.to r.value && asks_rows t rows

-- the test asks for a whole table
abbrev pub asks_all : PlainTest → List Row → Bool
asks_all t rows = is_whole_from 1 rows && asks_rows t rows
