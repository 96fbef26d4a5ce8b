-- No day is a clash day (`clear-itself`).
use Rattle.cif_laws.proofs.ClearFeeds.{clear-itself}
use Rattle.cif_laws.proofs.canonical.clear_extracts_prepare_to_themselves.Goals as goal

pub returns : goal.returns
returns c = clear-itself
