-- What a clause reads of a `Sink`, and what a call that writes owes its sink.
use Rattle.std.specs.Prelude.{◌≡◌, ℕ, Bool, true, false, List, ◌++◌, Option, Result, Ok, Err}
use Rattle.std.specs.Io.KnownBytes.{Appends}
use Rattle.cif_columns.specs.{Devices.OneError, declared.sink.Sink.Sink}

-- `s.writer()`
abbrev pub writer_of : {W : Type 0} → Sink W → W
writer_of s = s.writer

-- `s.failed()`
abbrev pub sink_failed : {W : Type 0} → Sink W → Bool
sink_failed s = s.failed

-- known bytes grow by a prefix of these
abbrev pub AppendsPrefix : Option (List ℕ) → Option (List ℕ) → List ℕ → Type 0
AppendsPrefix old new bytes = (prefix rest : List ℕ) × (bytes ≡ prefix ++ rest) × Appends old new prefix

-- A call has written the whole text: the sink hadn't failed and hasn't now, the writer's known bytes have grown by the text, and
-- its errors, where they are known, are those of before.
pub record HasWritten {W : Type 0} (contents : W → Option (List ℕ)) (errors : W → Option ℕ) (text : List ℕ) (old new : Sink W) :
    Type 0 where
  pub fresh : sink_failed old ≡ false
  pub going : sink_failed new ≡ false
  pub bytes : Appends (contents (writer_of old)) (contents (writer_of new)) text
  pub no_error : errors (writer_of new) ≡ errors (writer_of old)

-- A call has failed to write the text: the sink has failed now, a prefix of the text went out, and a writer that hadn't failed
-- before has erred, once. A sink that had failed before is as it was.
pub record HasFailed {W : Type 0} (contents : W → Option (List ℕ)) (errors : W → Option ℕ) (text : List ℕ) (old new : Sink W) :
    Type 0 where
  pub failed : sink_failed new ≡ true
  pub prefix : AppendsPrefix (contents (writer_of old)) (contents (writer_of new)) text
  pub erred : sink_failed old ≡ false → OneError (errors (writer_of old)) (errors (writer_of new))
  pub untouched : sink_failed old ≡ true → new ≡ old

-- what a call that writes a text owes its sink, over what its writer says about its bytes and its errors
abbrev pub Writes : {W A E : Type 0} → (W → Option (List ℕ)) → (W → Option ℕ) → List ℕ → Sink W → Sink W → Result A E → Type 0
Writes contents errors text old new (Ok done) = HasWritten contents errors text old new
Writes contents errors text old new (Err fault) = HasFailed contents errors text old new
