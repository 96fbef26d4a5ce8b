-- Why bytes are no extract, or can't be read.
use Rattle.std.specs.Prelude.{◌≡◌, ◌≤◌, ◌+◌, ℕ, Bool, true, false, List, IsSomeAnd, Result, Ok, Err}
use Rattle.cif_columns.specs.{GivenLines.IsDecided, Source.Unread}
use Rattle.cif_extract.specs.{ExtractParts.ExtractParts, ExtractParts.extract_parts, FirstRefusal.IsCutBeforeRefusal}
use Rattle.cif_extract.specs.{FirstRefusal.IsFirstRefusal, ReadCall.ReadCall, ReadCall.reading, SpellsExtract.BytesSpellWithin}
use Rattle.cif_extract.specs.declared.{extract.Extract.Extract, fault.Fault.Fault}
use Rattle.cif_extract.specs.declared.fault.Fault.TheVariants.{Memory, Read, Refused}

-- Why these bytes are no extract, or can't be read, where `after` is left then: their first refusal, of a line that is decided, or a
-- failure of the source before one was. No contract foretells that memory runs out.
abbrev pub IsReadFault : ℕ → List ℕ → Unread → Fault → Type 0
IsReadFault max bytes after (Refused line why) = IsFirstRefusal max bytes line why × IsDecided max bytes after line
IsReadFault max bytes after Read = IsSomeAnd after.bytes (IsCutBeforeRefusal max bytes)
IsReadFault max bytes after Memory = Unit {0}
IsReadFault max bytes after _ = ⊥

-- the number, counted from 1, of one of at most max lines, or of the line behind them
abbrev pub IsLineNumber : ℕ → ℕ → Type 0
IsLineNumber max number = (1 ≤ number) × (number ≤ max + 1)

-- the faults of reading at most max lines, for any source
abbrev pub IsOfReading : ℕ → Fault → Type 0
IsOfReading max (Refused line why) = IsLineNumber max line
IsOfReading max Read = Unit {0}
IsOfReading max Memory = Unit {0}
IsOfReading max _ = ⊥

-- whether the fault says that the source failed
abbrev pub is_read : Fault → Bool
is_read Read = true
is_read _ = false

-- what reading an extract of at most max lines may come to
abbrev pub reading_extract : ℕ → ReadCall Extract Fault
reading_extract max =
    reading is_read (λ bytes extract. BytesSpellWithin max bytes (extract_parts extract)) (IsReadFault max) (IsOfReading max)

-- what is answered where the bytes spell an extract of these parts: it, unless the source fails or memory runs out
abbrev pub IsReadAs : ExtractParts → Result Extract Fault → Type 0
IsReadAs x (Ok extract) = extract_parts extract ≡ x
IsReadAs x (Err Read) = Unit {0}
IsReadAs x (Err Memory) = Unit {0}
IsReadAs x (Err _) = ⊥
