-- In a list that is sorted, the search finds a location exactly if it is there (`searched`).
use Rattle.cif_views.proofs.Names.{List, ap, ℕ, ◌∙◌}
use Rattle.cif_views.proofs.Searched.{searched}
use Rattle.cif_views.specs.Steps.Boards.{is_at}
use Rattle.cif_views.proofs.places.Locations.has.Goals as goal

pub returns-in_default : goal.returns-in_default
returns-in_default c =
    c.is_ok.ensures.value
    ∙ searched c.as_slice.result.now c.args.location.now c.binary_search.result c.binary_search.ensures.bound c.binary_search.ensures.position
    (rw c.as_slice.ensures.value c.self.invariant)
    ∙ ap (λ (l : List (List ℕ)). is_at l c.args.location.now) (c.as_slice.ensures.value ∙ c.self.view_is)
