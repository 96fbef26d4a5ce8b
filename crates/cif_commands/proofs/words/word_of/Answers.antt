-- What `get_str` gives of an argument is the first value in its row: `first_value-rows` of `clap`.
use Rattle.cif_commands.proofs.Names.{first_value-rows, found_of, ◌∙◌}
use Rattle.cif_commands.proofs.words.word_of.Goals as goal

pub returns : goal.returns
returns c = c.get_str.ensures ∙ first_value-rows (found_of c.args.matches.now) c.args.id.now
