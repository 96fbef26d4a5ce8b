-- What is listed of records one by one. No public clause cites it.
use Rattle.std.specs.Prelude.{ℕ, List, [], Bool, false, ◌&&◌, nat_le, nat_eq, if◌then◌else◌, slice_index_or}
use Rattle.std.specs.Cmp.Lexicographic.{pointwise}
use Rattle.cif_columns.specs.Day.{weekday_of}
use Rattle.cif_extract.specs.Body.{BodyLines}
use Rattle.cif_weeks.specs.Permanent.{Permanent}

-- whether a permanent record applies on day d
abbrev pub applies_on : {B : Type 0} → Permanent B → ℕ → Bool
applies_on r d = nat_le r.first d && (nat_le d r.last && slice_index_or r.days (weekday_of d) false)

-- what is listed of a record's key and body, where it applies on day d
abbrev pub listed_on : {K B : Type 0} → (K × B → List ℕ) → ℕ → K × Permanent B → List ℕ
listed_on text d e = if applies_on e.1 d then text (e.0, e.1.body) else []

-- what is listed of a record, where it is the train's
abbrev pub listed_of : (Permanent BodyLines → List ℕ) → List ℕ → List ℕ × Permanent BodyLines → List ℕ
listed_of text uid e = if pointwise nat_eq e.0 uid then text e.1 else []
