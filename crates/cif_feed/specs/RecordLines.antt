-- Which contents of a feed say a record, and which are lines of a kind.
use Rattle.std.specs.Prelude.{ℕ, Bool, true, false, not, ◌&&◌, ◌||◌, List, Option, Some, filter, codes}
use Rattle.std.specs.List.{enumerate_from, list_any}
use Rattle.cif_columns.specs.{Comment.is_comment, Field.columns}
use Rattle.cif_records.specs.{Checks.are, Kind.kind_in, declared.record.Kind.Kind}
use Rattle.cif_records.specs.declared.record.Kind.TheVariants.{Hd, Ti, Ta, Td, Aa, Bs, Zz}

-- the kinds of a note, TN and LN; no more of it is read
abbrev pub is_note : List ℕ → Bool
is_note content = are (columns 1 2 content) (codes "TN") || are (columns 1 2 content) (codes "LN")

-- whether a content is neither a comment nor a note
abbrev pub is_record_line : List ℕ → Bool
is_record_line content = not (is_comment content) && not (is_note content)

-- the contents that are neither
abbrev pub record_lines : List (List ℕ) → List (List ℕ)
record_lines contents = filter is_record_line contents

-- the kind of a header, the kinds TI, TA and TD, the kind of an AA, of a BS, and of a trailer
abbrev pub is_header : Option Kind → Bool
is_header (Some Hd) = true
is_header kind = false

abbrev pub is_of_tiploc : Option Kind → Bool
is_of_tiploc (Some Ti) = true
is_of_tiploc (Some Ta) = true
is_of_tiploc (Some Td) = true
is_of_tiploc kind = false

abbrev pub is_association : Option Kind → Bool
is_association (Some Aa) = true
is_association kind = false

abbrev pub is_basic : Option Kind → Bool
is_basic (Some Bs) = true
is_basic kind = false

abbrev pub is_trailer : Option Kind → Bool
is_trailer (Some Zz) = true
is_trailer kind = false

-- whether a note may stand behind these contents: a BS is among them, and no trailer
abbrev pub notes_may_stand : List (List ℕ) → Bool
notes_may_stand contents =
    list_any (λ content. is_basic (kind_in content)) contents && not (list_any (λ content. is_trailer (kind_in content)) contents)

-- the lines of some kinds, with their numbers from 1: every content counts
abbrev pub lines_of : (Option Kind → Bool) → List (List ℕ) → List (ℕ × List ℕ)
lines_of is contents = filter (λ (line : ℕ × List ℕ). is (kind_in line.1)) (enumerate_from 1 contents)
