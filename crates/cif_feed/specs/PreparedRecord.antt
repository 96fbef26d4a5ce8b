-- A record with other dates.
use Rattle.std.specs.Prelude.{ℕ, max}
use Rattle.cif_calendar.specs.Terms.{Terms}

-- the terms of a record with these dates; a last one before the first counts as the first
abbrev pub terms_on : {B : Type 0} → Terms B → ℕ → ℕ → Terms B
terms_on r first last = record r { first = first; last = max first last }
