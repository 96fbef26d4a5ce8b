-- `clap` tells matches and kinds of error of simple commands: that `cif` is one, and free, is `is_simple_cif`, `is_free_cif`.
use Rattle.cif_commands.proofs.Names.{App, FailsBy, IfOk-weaker, ap, chosen, fault_of, faults_of, is_simple, is_simple_and_free, map}
use Rattle.cif_commands.proofs.Names.{string_bytes, subcommand_of, subst, ◌∙◌}
use Rattle.cif_commands.proofs.CommandBuilt.{is_free_cif, is_simple_cif}
use Rattle.cif_commands.proofs.command_line.matches_of.Goals as goal

pub returns-clause-ok : goal.returns-clause-ok
unfolding chosen
returns-clause-ok c =
    let made = c.in_ok-program.ensures.app in
    let parse = c.try_get_matches_from in
    IfOk-weaker parse.result _ _
    (λ m h. (h (ap is_simple made ∙ is_simple_cif _)).1 ∙ ap (λ (a : App). subcommand_of a (map string_bytes c.args.words.now)) made)
    parse.ensures.matches

pub returns-clause-kinds : goal.returns-clause-kinds
unfolding faults_of
returns-clause-kinds c =
    let made = c.in_ok-program.ensures.app in
    let parse = c.try_get_matches_from in
    subst (λ (a : App). FailsBy (fault_of a (map string_bytes c.args.words.now)) parse.result) made
    (parse.ensures.kinds (ap is_simple_and_free made ∙ is_free_cif _))
