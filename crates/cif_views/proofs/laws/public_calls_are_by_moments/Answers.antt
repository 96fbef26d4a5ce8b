-- Line by line (`public-calls-are`).
use Rattle.cif_views.proofs.PublicMoments.{public-calls-are}
use Rattle.cif_views.proofs.laws.public_calls_are_by_moments.Goals as goal

pub returns : goal.returns
returns c = public-calls-are
