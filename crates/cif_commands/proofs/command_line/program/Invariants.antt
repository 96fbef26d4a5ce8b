-- With the subcommands that are left, the command has all.
use Rattle.cif_commands.proofs.{CommandBuilt.IsGrowing, Names.cif, Names.drop}
use Rattle.cif_commands.proofs.command_line.program.Given as goal

abbrev pub invariant-loop-parts : goal.invariant-loop-parts
invariant-loop-parts l = IsGrowing l.choices (cif l.choices) (drop l.parts-index l.parts-items) l.command
