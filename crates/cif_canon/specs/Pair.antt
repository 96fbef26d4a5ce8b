-- Two extracts, in a window that is asked for of both: what `compare` and `diff` read.
use Rattle.std.specs.Prelude.{◌⊎◌, ℕ, Bool, true, false, List, Some, Result, Ok, Err, max, min, unwrap_or}
use Rattle.cif_columns.specs.declared.line_reader.TheConstants.{MAX_LINES}
use Rattle.cif_extract.specs.{ExtractParts.ExtractParts, ExtractParts.extract_parts, SpellsExtract.BytesSpellWithin}
use Rattle.cif_extract.specs.declared.{extract.Extract.Extract, fault.Fault.Fault}
use Rattle.cif_canon.specs.{Asked.IsNarrowed, Asked.IsNarrowingFault, declared.asked.Asked.Asked}

-- What is asked for of two extracts. Where their common window is asked for, a date that isn't given is the later of the two first
-- dates, or the earlier of the two last dates.
abbrev pub asked_of_both : Bool → Asked → ExtractParts → ExtractParts → Asked
asked_of_both false asked left right = asked
asked_of_both true asked left right = record {
  from = Some (unwrap_or asked.from (max left.header.first right.header.first));
  to = Some (unwrap_or asked.to (min left.header.last right.header.last));
}

-- the two whole extracts, narrowed to what is asked for of both, are x and y
pub record AreNarrowed (asked : Asked) (common : Bool) (left_whole right_whole x y : ExtractParts) : Type 0 where
  pub left : IsNarrowed (asked_of_both common asked left_whole right_whole) left_whole x
  pub right : IsNarrowed (asked_of_both common asked left_whole right_whole) right_whole y

-- the bytes of two inputs spell extracts, which narrowed to what is asked for of both are x and y
pub record SpellPair (asked : Asked) (common : Bool) (left_bytes right_bytes : List ℕ) (x y : ExtractParts) : Type 0 where
  pub left_whole : ExtractParts
  pub right_whole : ExtractParts
  pub left_spelled : BytesSpellWithin MAX_LINES left_bytes left_whole
  pub right_spelled : BytesSpellWithin MAX_LINES right_bytes right_whole
  pub narrowed : AreNarrowed asked common left_whole right_whole x y

-- Why two whole extracts aren't narrowed: the window that is asked for doesn't fit the left one's, or else it doesn't fit the right one's.
abbrev pub IsPairRefusal : Asked → ExtractParts → ExtractParts → Fault → Type 0
IsPairRefusal asked left_whole right_whole fault = IsNarrowingFault asked left_whole.header fault
    ⊎ ((left : ExtractParts) × IsNarrowed asked left_whole left × IsNarrowingFault asked right_whole.header fault)

-- what is made of two whole extracts: both, narrowed to what is asked for of both, or why they aren't
abbrev pub IsNarrowedPair : Asked → Bool → Extract → Extract → Result (Extract × Extract) Fault → Type 0
IsNarrowedPair asked common left right (Ok pair) =
    AreNarrowed asked common (extract_parts left) (extract_parts right) (extract_parts pair.0) (extract_parts pair.1)
IsNarrowedPair asked common left right (Err fault) =
    IsPairRefusal (asked_of_both common asked (extract_parts left) (extract_parts right)) (extract_parts left) (extract_parts right) fault
