-- One argument after another is taken (`argument_taken`), and then the subcommand is added.
use Rattle.cif_commands.proofs.Names.{App, IfOk-weaker, ap, app_of, ap₂, argument, at_drop_all, sym, taking, with_subcommand, ◌||◌, ◌∙◌}
use Rattle.cif_commands.proofs.CommandBuilt.{argument_taken, none_taken}
use Rattle.cif_commands.proofs.command_line.with_parts.Goals as goal

pub loop-which-init : goal.loop-which-init
loop-which-init c = none_taken _ _ c.args.parts.now.2.now _ c.described-subcommand.ensures

pub loop-which-preserved : goal.loop-which-preserved
loop-which-preserved c =
    argument_taken _ _ _ _ c.loop-which-test.true _ _ _ c.loop-which.invariant
    (c.arg_of.ensures.rule ∙ ap (argument c.args.choices.now) c.given.ensures) c.arg_of.ensures.local c.in_ok-subcommand.ensures

pub returns : goal.returns
returns c =
    let whole = c.loop-which.invariant in
    let made = sym (at_drop_all (taking c.args.choices.now (app_of c.loop-which.subcommand)) _ _ c.loop-which-test.false)
    ∙ whole.app in
    IfOk-weaker c.subcommand.result _ _ (λ r added. record {
      app = added.shape whole.local ∙ ap (λ (a : App). with_subcommand (app_of c.args.command) a.top) made;
      local = added.globals ∙ ap₂ (λ x y. x || y) c.requires whole.local;
    }) c.subcommand.ensures
