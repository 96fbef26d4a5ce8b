-- What a trial reader does after its bytes.
use Rattle.std.specs.Prelude.{ℕ, Bool, true, List, nat_lt, Option, None, Some}
use Rattle.cif_columns.specs.declared.trials.End.{End}
use Rattle.cif_columns.specs.declared.trials.End.TheVariants.{Stop, Fail, Again}

-- the place to go on from, if there is one, lies below n
abbrev pub ends_below : End → ℕ → Bool
ends_below Stop n = true
ends_below Fail n = true
ends_below (Again place) n = nat_lt place n

-- the bytes that are left, where they have an end
abbrev pub bytes_left : End → List ℕ → Option (List ℕ)
bytes_left Stop bytes = Some bytes
bytes_left Fail bytes = Some bytes
bytes_left (Again place) bytes = None
