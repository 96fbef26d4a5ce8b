-- What each update does is computed, and so is the first line that isn't waived (`outcome`).
use Rattle.cif_laws.proofs.UpdateOutcomes.{outcome}
use Rattle.cif_laws.proofs.feeds.updates_have_an_outcome.Goals as goal

pub returns : goal.returns
returns c = λ how max full old updates us spelled all. outcome how max full old updates us spelled all
