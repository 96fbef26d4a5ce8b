-- What a clause reads of a `Source`, and what a call that reads owes its source.
use Rattle.std.specs.Prelude.{◌≡◌, ℕ, Bool, true, false, List, Option, Result, Ok, Err}
use Rattle.cif_columns.specs.{Devices.OneError, declared.source.ReadFault.ReadFault, declared.source.Source.Source}

-- `s.reader()`
abbrev pub reader_of : {R : Type 0} → Source R → R
reader_of s = s.reader

-- `s.failed()`
abbrev pub source_failed : {R : Type 0} → Source R → Bool
source_failed s = s.failed

-- whether the last read that didn't fail reported the end: the reader was asked for bytes and gave none
abbrev pub source_ended : {R : Type 0} → Source R → Bool
source_ended s = s.ended

-- what is left of a source after a call: the bytes of its reader, where they are known, and whether it reported its end
pub record Unread : Type 0 where
  pub bytes : Option (List ℕ)
  pub ended : Bool

abbrev pub unread_of : {R : Type 0} → (R → Option (List ℕ)) → Source R → Unread
unread_of remaining source = record { bytes = remaining (reader_of source); ended = source_ended source }

-- A call that reads, or doesn't need to, hasn't failed: the source has failed or not as before, and its reader's errors, where
-- they are known, are those of before. A source that had failed before is as it was.
pub record HasReadOn {R : Type 0} (errors : R → Option ℕ) (old new : Source R) : Type 0 where
  pub going : source_failed new ≡ source_failed old
  pub no_error : errors (reader_of new) ≡ errors (reader_of old)
  pub untouched : source_failed old ≡ true → new ≡ old

-- A call has failed to read: the source has failed now, and a reader that hadn't failed before has erred, once. A source that had
-- failed before is as it was.
pub record HasFailedToRead {R : Type 0} (errors : R → Option ℕ) (old new : Source R) : Type 0 where
  pub failed : source_failed new ≡ true
  pub erred : source_failed old ≡ false → OneError (errors (reader_of old)) (errors (reader_of new))
  pub untouched : source_failed old ≡ true → new ≡ old

-- what one read owes its source; it can't succeed where the source had failed
abbrev pub Reads : {R A : Type 0} → (R → Option ℕ) → Source R → Source R → Result A ReadFault → Type 0
Reads errors old new (Ok count) = (source_failed old ≡ false) × HasReadOn errors old new
Reads errors old new (Err fault) = HasFailedToRead errors old new
