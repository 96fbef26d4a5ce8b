-- What a clause reads of a `TrialWriter`.
use Rattle.std.specs.Prelude.{ℕ}
use Rattle.cif_columns.specs.declared.trials.TrialWriter.{TrialWriter}

-- `w.calls()`
abbrev pub write_calls : TrialWriter → ℕ
write_calls w = w.calls
