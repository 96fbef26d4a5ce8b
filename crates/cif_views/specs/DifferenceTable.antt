-- The table of the differences of two extracts: its rows, and its text in each format.
use Rattle.std.specs.Prelude.{ℕ, List, [], ◌∷◌, ◌++◌, Bool, None, Some, codes, decimal, length, map, nat_eq, replicate, if◌then◌else◌}
use Rattle.std.specs.{Cmp.Lexicographic.pointwise, List.filter, List.flat_map}
use Rattle.cif_columns.specs.Field.{columns}
use Rattle.cif_canon.specs.{Differences.DifferencesParts, Lines.ScheduleLines}
use Rattle.cif_rows.specs.Row.{Value, all_named, cell_of, heading_text, nothing, number, row_text, text}
use Rattle.cif_rows.specs.declared.format.Format.{Format}
use Rattle.cif_canon.specs.Pairs.{Listed, association_lines, schedule_lines, tiploc_lines}
use Rattle.cif_canon.specs.declared.{listed_differences.Side.Side, listed_differences.Side.TheVariants.Left}
use Rattle.cif_canon.specs.declared.{listed_differences.Side.TheVariants.Right, listed_differences.Sided.Sided}
use Rattle.cif_views.specs.Tables.{Numbered, TableFields, category_fields, date_at, detail_fields, extra_fields, extra_identity, extra_in}
use Rattle.cif_views.specs.Tables.{is_call, is_change, is_extra, kind_of_line, numbered_from, own_call_fields}
use Rattle.cif_views.specs.Tables.{own_change_fields, text_at, type_fields, whole_at}

-- the names of its fields
abbrev pub difference_names : List (List ℕ)
difference_names =
    codes "change"
    ∷ codes "kind"
    ∷ codes "tiploc"
    ∷ codes "uid"
    ∷ codes "associated_uid"
    ∷ codes "location"
    ∷ codes "base_suffix"
    ∷ codes "associated_suffix"
    ∷ codes "first_date"
    ∷ codes "last_date"
    ∷ codes "days_run"
    ∷ codes "call"
    ∷ codes "record"
    ∷ codes "place"
    ∷ codes "field"
    ∷ codes "left"
    ∷ codes "right"
    ∷ []

-- what only one side has, and what is a pair
abbrev pub change_of : Side → Value
change_of Left = text (codes "<")
change_of Right = text (codes ">")

abbrev pub changed : Value
changed = text (codes "<>")

-- What the rows of a location, an association and a schedule begin with, by its line: the fields up to `days_run`. What a kind of record
-- doesn't have is empty.
abbrev pub tiploc_head : Value → List ℕ → List Value
tiploc_head change line = change ∷ text (codes "TI") ∷ text_at 3 9 line ∷ replicate 8 nothing

abbrev pub association_head : Value → List ℕ → List Value
association_head change line =
    change
    ∷ text (codes "AA")
    ∷ nothing
    ∷ whole_at 4 9 line
    ∷ whole_at 10 15 line
    ∷ text_at 38 44 line
    ∷ text_at 45 45 line
    ∷ text_at 46 46 line
    ∷ date_at 16 21 line
    ∷ date_at 22 27 line
    ∷ text_at 28 34 line
    ∷ []

abbrev pub schedule_head : Value → List ℕ → List Value
schedule_head change basic =
    change
    ∷ text (codes "BS")
    ∷ nothing
    ∷ whole_at 4 9 basic
    ∷ (replicate 4 nothing ++ (date_at 10 15 basic ∷ date_at 16 21 basic ∷ text_at 22 28 basic ∷ []))

-- the row of what only one side has
abbrev pub single_row : List Value → List Value
single_row head = head ++ replicate 6 nothing

-- the row of a field that differs: what it begins with, its name, and both values
abbrev pub differing_row : List Value → List ℕ → Value → Value → List Value
differing_row start name left right = start ++ (text name ∷ left ∷ right ∷ [])

-- the rows of those fields whose cells differ
abbrev pub differing_rows : List Value → TableFields (List ℕ) → List ℕ → List ℕ → List (List Value)
differing_rows start fields left right =
    flat_map (λ f. if pointwise nat_eq (cell_of (f.1 left)) (cell_of (f.1 right)) then []
    else differing_row start f.0 (f.1 left) (f.1 right) ∷ []) fields

-- What the rows of a pair begin with: the fields up to `days_run`, and then where the field stands: the number of its call, the identity
-- of its line, and its location. In a record without calls there is only the identity.
abbrev pub in_record : List Value → List ℕ → List Value
in_record head identity = head ++ (nothing ∷ text identity ∷ nothing ∷ [])

abbrev pub in_journey : List Value → ℕ → List ℕ → List Value
in_journey head call line = head ++ (number call ∷ text_at 1 2 line ∷ text_at 3 9 line ∷ [])

-- A pair of associations: the fields that are neither their key nor their dates and days.
abbrev pub association_differences : Listed (List ℕ) → List (List Value)
association_differences (s, None) = single_row (association_head (change_of s.side) s.it) ∷ []
association_differences (s, Some right) =
    differing_rows (in_record (association_head changed s.it) (codes "AA")) (category_fields ++ type_fields) s.it right

-- the lines of a journey: those of a schedule behind its BX, if it has one; with the numbers of the calls
abbrev pub without_extra : List (List ℕ) → List (List ℕ)
without_extra [] = []
without_extra (line ∷ lines) = if is_extra line then lines else line ∷ lines

abbrev pub journey_of : ScheduleLines → List Numbered
journey_of s = numbered_from 0 1 (without_extra s.further)

-- a call's or a change's identity, location and suffix
abbrev pub place_columns : Numbered → List ℕ
place_columns p = columns 1 10 p.line

-- the fields of a call behind its suffix, or of a change
abbrev pub own_fields : Bool → TableFields (List ℕ)
own_fields change = if change then own_change_fields else own_call_fields

-- the rows of two journeys with the same places
abbrev pub place_rows : List Value → List Numbered → List Numbered → List (List Value)
place_rows head [] qs = []
place_rows head (p ∷ ps) [] = []
place_rows head (p ∷ ps) (q ∷ qs) =
    differing_rows (in_journey head p.call p.line) (own_fields (is_change (kind_of_line p.line))) p.line q.line
    ++ place_rows head ps qs

-- how many calls there are
abbrev pub call_count : List Numbered → ℕ
call_count ps = length (filter (λ p. is_call (kind_of_line p.line)) ps)

-- Two journeys: place by place if their places are the same, and else one row with the numbers of their calls.
abbrev pub journey_differences : List Value → List Numbered → List Numbered → List (List Value)
journey_differences head ps qs =
    if pointwise (pointwise nat_eq) (map place_columns ps) (map place_columns qs)
    then place_rows head ps qs
    else differing_row (head ++ replicate 3 nothing) (codes "journey") (text (decimal (call_count ps))) (text (decimal (call_count qs))) ∷ []

-- A pair of schedules: the fields of BS, whether there is a BX, the fields of BX, and then the journey.
abbrev pub schedule_differences : Listed ScheduleLines → List (List Value)
schedule_differences (s, None) = single_row (schedule_head (change_of s.side) s.it.basic) ∷ []
schedule_differences (s, Some right) =
    let head = schedule_head changed s.it.basic in
    let extra = extra_in s.it.further in
    let other = extra_in right.further in
    differing_rows (in_record head (codes "BS")) detail_fields s.it.basic right.basic
    ++ (differing_rows (in_record head (codes "BS")) extra_identity extra other
    ++ (differing_rows (in_record head (codes "BX")) extra_fields extra other
    ++ journey_differences head (journey_of s.it) (journey_of right)))

-- the row of a location
abbrev pub tiploc_row : Sided (List ℕ) → List Value
tiploc_row s = single_row (tiploc_head (change_of s.side) s.it)

-- the rows of the table, and the table
abbrev pub difference_rows : DifferencesParts → List (List Value)
difference_rows d =
    map tiploc_row (tiploc_lines d)
    ++ (flat_map association_differences (association_lines d) ++ flat_map schedule_differences (schedule_lines d))

abbrev pub difference_text : Format → List Value → List ℕ
difference_text format row = row_text format (all_named difference_names row)

unfoldable pub difference_table : Format → DifferencesParts → List ℕ
difference_table format d = heading_text format difference_names ++ flat_map (difference_text format) (difference_rows d)
