-- How much is said on standard error.
use Rattle.std.specs.Prelude.{Bool, false, true}
use Rattle.cif_commands.specs.declared.{verbosity.Verbosity.TheVariants.All, verbosity.Verbosity.TheVariants.Fault}
use Rattle.cif_commands.specs.declared.{verbosity.Verbosity.TheVariants.Help, verbosity.Verbosity.Verbosity}

-- whether it is more than the lines of faults
abbrev pub helps : Verbosity → Bool
helps Fault = false
helps Help = true
helps All = true
