-- How many records an extract has, by kind, and the line that says so.
use Rattle.std.specs.Prelude.{ℕ, List, ◌++◌, codes, decimal, length}
use Rattle.cif_extract.specs.ExtractParts.{ExtractParts}
use Rattle.cif_canon.specs.declared.canonical_form.Counts.{Counts}

-- the records of an extract; its header and its trailer aren't counted
abbrev pub counts_of : ExtractParts → Counts
counts_of x = record { tiplocs = length x.tiplocs; associations = length x.associations; schedules = length x.schedules }

-- the line that says how many there are, with its line feed
unfoldable pub counts_line : Counts → List ℕ
counts_line counts =
    codes "accepted: " ++ decimal counts.tiplocs ++ codes " tiplocs, " ++ decimal counts.associations ++ codes " associations, "
    ++ decimal counts.schedules ++ codes " schedules\n"
