-- What the rows of differences begin with, as the code has it. No public clause cites it.
use Rattle.std.specs.Prelude.{List, [], None, Option, Some, drop, length, take, ℕ, ⊤, ◌++◌, ◌∷◌, ◌≤◌}
use Rattle.cif_canon.specs.declared.listed_differences.Side.{Side}
use Rattle.cif_rows.specs.Row.{Value, nothing, number, text}
use Rattle.cif_views.specs.DifferenceTable.{association_head, change_of, changed, difference_names, schedule_head, tiploc_head}
use Rattle.cif_views.specs.Tables.{text_at}
use Rattle.cif_views.specs.declared.difference_table.{Head.Head, Place.Place, Place.TheVariants.Journey, Place.TheVariants.Record}
use Rattle.cif_views.specs.declared.difference_table.{RecordKind.RecordKind, Start.Start}
use Rattle.cif_views.specs.declared.difference_table.RecordKind.TheVariants.{Association, Schedule, Tiploc}

-- which side has it, or that both have it
abbrev pub change_on : Option Side → Value
change_on (Some side) = change_of side
change_on None = changed

-- the fields up to the days run
abbrev pub head_values : RecordKind → Option Side → List ℕ → List Value
head_values Tiploc side line = tiploc_head (change_on side) line
head_values Association side line = association_head (change_on side) line
head_values Schedule side line = schedule_head (change_on side) line

abbrev pub head_of : Head → List Value
head_of h = head_values h.kind h.side h.line

-- where a field stands
abbrev pub place_names : List (List ℕ)
place_names = take 3 (drop 11 difference_names)

abbrev pub place_values : Place → List Value
place_values (Record identity) = nothing ∷ text identity.now ∷ nothing ∷ []
place_values (Journey call line) = number call ∷ text_at 1 2 line ∷ text_at 3 9 line ∷ []

abbrev pub IsShortPlace : Place → Type 0
IsShortPlace (Record identity) = length identity.now ≤ 2
IsShortPlace (Journey call line) = ⊤

abbrev pub start_values : Start → List Value
start_values s = head_of s.head ++ place_values s.place
