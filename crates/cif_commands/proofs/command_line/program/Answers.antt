-- The program's settings (`program_made`), and then one subcommand after another (`subcommand_added`).
use Rattle.cif_commands.proofs.Names.{App, IfOk-weaker, ap, app_of, app_of_fields, at_drop_all, cif, codes, map, subcommands, sym, taken}
use Rattle.cif_commands.proofs.{CommandBuilt.program_made, CommandBuilt.subcommand_added, Names.with_subcommands, Names.◌∙◌}
use Rattle.cif_commands.proofs.command_line.program.Goals as goal

pub loop-parts-init : goal.loop-parts-init
unfolding cif
loop-parts-init c =
    let made = program_made (codes "cif") _ _ c.version.result c.subcommand_required-command.result c.described.ensures
    c.version.ensures c.subcommand_required-command.ensures in
    record { app = ap (λ (a : App). with_subcommands c.args.choices.now a subcommands) made.app; local = made.local }

pub with_parts-requires : goal.with_parts-requires
with_parts-requires c = c.loop-parts.invariant.local

pub loop-parts-preserved : goal.loop-parts-preserved
loop-parts-preserved c = subcommand_added _ _ _ _ _ c.loop-parts-test.true _ _ c.loop-parts.invariant c.in_ok-command.ensures

pub returns : goal.returns
returns c =
    IfOk-weaker c.bin_name.result _ _ (λ r named. record {
      app = ap app_of_fields named.0
          ∙ (sym (at_drop_all (λ xs. with_subcommands c.args.choices.now (app_of c.loop-parts.command) (map taken xs)) _ _
          c.loop-parts-test.false) ∙ c.loop-parts.invariant.app);
      local = ap (λ f. f.has_globals) named.0 ∙ c.loop-parts.invariant.local;
    }) c.bin_name.ensures
