-- What help says of a command changes nothing of what it takes.
use Rattle.cif_commands.proofs.Names.{ap, app_of_fields, ◌∙◌}
use Rattle.cif_commands.proofs.command_line.described.Goals as goal

pub returns : goal.returns
returns c = record {
  app = ap app_of_fields c.after_help.ensures ∙ ap app_of_fields c.about.ensures ∙ c.new.ensures.app;
  local = ap (λ f. f.has_globals) c.after_help.ensures ∙ ap (λ f. f.has_globals) c.about.ensures ∙ c.new.ensures.local;
}
