-- What `get_strs` gives of an argument are the values in its row: `raw_values-rows` of `clap`.
use Rattle.cif_commands.proofs.Names.{found_of, raw_values-rows, ◌∙◌}
use Rattle.cif_commands.proofs.words.words_of.Goals as goal

pub returns : goal.returns
returns c = c.get_strs.ensures ∙ raw_values-rows (found_of c.args.matches.now) c.args.id.now
