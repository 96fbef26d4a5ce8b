-- What is written to a sink, which keeps its failure.
use Rattle.std.specs.Prelude.{◌⊎◌, ℕ, List, Option}
use Rattle.cif_columns.specs.{Sink.HasFailed, Sink.HasWritten, declared.sink.Sink.Sink}

-- the whole text has been written, or the sink has failed
abbrev pub IsAppended : {W : Type 0} → (W → Option (List ℕ)) → (W → Option ℕ) → List ℕ → Sink W → Sink W → Type 0
IsAppended contents errors text old new = HasWritten contents errors text old new ⊎ HasFailed contents errors text old new
