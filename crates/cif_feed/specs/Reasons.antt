-- The reasons to refuse lines, each judged by itself.
use Rattle.std.specs.Prelude.{Bool, List, None, Option, Some, [], codes, decimal, false, filter, if◌then◌else◌, length, map, slice_index, ℕ}
use Rattle.std.specs.Prelude.{◌++◌, ◌+◌, ◌-◌, ◌<◌, ◌==◌, ◌∷◌, ◌≡◌}
use Rattle.std.specs.List.{flat_map, list_all, position_or_len}
use Rattle.cif_columns.specs.{FirstLine.is_printable, JudgedContents.judged_contents, Refusal.name_of, Refusal.number_of}
use Rattle.cif_columns.specs.declared.refusal.Refusal.{Refusal}
use Rattle.cif_columns.specs.declared.refusal.Refusal.TheVariants.{BadByte, BadDate, BadDays, BadLength, BadStp, BadTime, BankHoliday}
use Rattle.cif_columns.specs.declared.refusal.Refusal.TheVariants.{DatesReversed, NotFull, OpenEnd, UnknownRecord}
use Rattle.cif_records.specs.{Checks.first_of, Checks.unless, Record.record_refusal}
use Rattle.cif_feed.specs.declared.reasons.Reasons.{Reasons}

-- The first reason to refuse a content whatever stands before it: it isn't eighty bytes, one of them may stand in no line, or it is
-- refused as a record, for its kind or for a field.
unfoldable pub own_reason : List ℕ → Option Refusal
own_reason content = first_of (
    unless (length content == 80) BadLength
    ∷ unless (list_all is_printable content) BadByte
    ∷ record_refusal content
    ∷ [])

-- the reasons of these contents, each by itself
abbrev pub reasons_of : List (List ℕ) → List (Option Refusal)
reasons_of contents = map own_reason contents

-- the reasons of those that are judged of these bytes
abbrev pub reasons_in : List ℕ → List (Option Refusal)
reasons_in bytes = reasons_of (judged_contents bytes)

-- whether it is this reason: no two refusals have one number
abbrev pub is_for : Refusal → Option Refusal → Bool
is_for why None = false
is_for why (Some reason) = number_of reason == number_of why

-- how many lines have this reason, and the number of the first, counted from 1
abbrev pub lines_for : Refusal → List (Option Refusal) → ℕ
lines_for why reasons = length (filter (is_for why) reasons)

abbrev pub first_for : Refusal → List (Option Refusal) → ℕ
first_for why reasons = position_or_len (is_for why) reasons + 1

-- the reasons that a line can have by itself, in the order of their numbers
abbrev pub own_reasons : List Refusal
own_reasons =
    BadLength ∷ BadByte ∷ UnknownRecord ∷ NotFull ∷ BadDate ∷ OpenEnd ∷ DatesReversed ∷ BadDays ∷ BankHoliday ∷ BadStp ∷ BadTime ∷ []

-- the word for so many lines, behind a space
abbrev pub lines_word : ℕ → List ℕ
lines_word lines = if lines == 1 then codes " line" else codes " lines"

-- the line of a reason that so many lines have, the first of them this one; none where no line has it
unfoldable pub reason_line : Refusal → ℕ → ℕ → List ℕ
reason_line why lines first =
    if lines == 0 then [] else name_of why ++ codes ": " ++ decimal lines ++ lines_word lines ++ codes ", first at line " ++ decimal first
    ++ codes "\n"

-- the lines of all these reasons
unfoldable pub reasons_text : List (Option Refusal) → List ℕ
reasons_text reasons = flat_map (λ (why : Refusal). reason_line why (lines_for why reasons) (first_for why reasons)) own_reasons

-- ---- what `Reasons` hold

-- where what is said of a reason stands
abbrev pub place_of : Refusal → ℕ
place_of why = number_of why - 1

-- how many lines have this reason, and the number of the first
abbrev pub lines_in : Reasons → Refusal → ℕ
lines_in r why = slice_index r.lines (place_of why)

abbrev pub first_in : Reasons → Refusal → ℕ
first_in r why = slice_index r.first (place_of why)

-- the first line with this one, where so many have the reason, and this is the first of them
abbrev pub first_with : ℕ → ℕ → ℕ → ℕ
first_with lines first line = if lines == 0 then line else first

-- they say this of these reasons
pub record ReportReasons (reasons : List (Option Refusal)) (r : Reasons) : Type 0 where
  pub lines : (why : Refusal) → lines_in r why ≡ lines_for why reasons
  pub first : (why : Refusal) → 0 < lines_for why reasons → first_in r why ≡ first_for why reasons

-- the lines that they are written as
unfoldable pub reported_text : Reasons → List ℕ
reported_text r = flat_map (λ (why : Refusal). reason_line why (lines_in r why) (first_in r why)) own_reasons
