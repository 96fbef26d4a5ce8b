-- The text is that of marked lines, and those of each side are lines of an extract (`told-by-text`).
use Rattle.cif_laws.proofs.ToldByText.{told-by-text}
use Rattle.cif_laws.proofs.canonical.differences_tell_the_right_extract.Goals as goal

pub returns : goal.returns
returns c = told-by-text
