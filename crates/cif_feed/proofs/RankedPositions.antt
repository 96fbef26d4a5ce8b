-- Positions with the precedence of their schedules.
use Rattle.cif_feed.proofs.Names.{All, List, PublishedSchedule, [], map, ℕ, ◌<◌, ◌∷◌}
use Rattle.std.proofs.lemmas.List.Elements.{All-cons, All-head, All-nil, All-tail}
use Rattle.cif_feed.specs.Steps.Deciding.{ranked_at}

pub ranked-within : (schedules : List PublishedSchedule) (n : ℕ) (members : List ℕ) → All (λ i. i < n) members
    → All (λ (p : ℕ × ℕ). p.1 < n) (map (ranked_at schedules) members)
ranked-within schedules n [] all = All-nil _
ranked-within schedules n (i ∷ members) all =
    All-cons (λ (p : ℕ × ℕ). p.1 < n) (ranked_at schedules i) (map (ranked_at schedules) members) (All-head (λ j. j < n) i members all)
    (ranked-within schedules n members (All-tail (λ j. j < n) i members all))
