-- With the arguments that are left, the subcommand takes all.
use Rattle.cif_commands.proofs.{CommandBuilt.IsTaking, Names.drop, Names.new_app, Names.taken, Names.taking}
use Rattle.cif_commands.proofs.command_line.with_parts.Given as goal

abbrev pub invariant-loop-which : goal.invariant-loop-which
invariant-loop-which l =
    IsTaking l.choices (taking l.choices (new_app (taken l.parts).0) (taken l.parts).1) (drop l.which-index l.arguments) l.subcommand
