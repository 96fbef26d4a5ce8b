-- What a clause reads of a `TrialReader`.
use Rattle.std.specs.Prelude.{ℕ}
use Rattle.cif_columns.specs.declared.trials.TrialReader.{TrialReader}

-- `r.calls()`
abbrev pub read_calls : TrialReader → ℕ
read_calls r = r.calls
