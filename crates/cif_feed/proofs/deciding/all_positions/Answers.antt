-- One position more (`range-more`).
use Rattle.cif_feed.proofs.Names.{List, [], ap, ℕ, ◌++◌, ◌∙◌, ◌∷◌}
use Rattle.cif_feed.proofs.DecidingRuns.{range-more}
use Rattle.cif_feed.proofs.deciding.all_positions.Goals as goal

pub loop-position-preserved : goal.loop-position-preserved
loop-position-preserved c =
    c.in_ok-push.ensures.items ∙ (ap (λ (l : List ℕ). l ++ c.loop-position.position ∷ []) c.loop-position.invariant
    ∙ range-more c.loop-position.position)
