-- The text of the lines that were taken, and that of those that are left, are all.
use Rattle.cif_columns.proofs.Names.{List, drop, flat_map, length, lines_text, take, ℕ, ◌++◌, ◌-◌, ◌<◌, ◌≡◌, ◌≤◌}
use Rattle.cif_columns.proofs.lines.LineTexts.take.Given as goal

abbrev pub invariant-loop-count : goal.invariant-loop-count
invariant-loop-count l =
    (0 < l.count) × (l.count ≤ 64) × (length l.self-inside.texts ≡ 64)
    × (flat_map (λ (text : List ℕ). text) (drop 1 (take l.count l.self-inside.texts)) ++ lines_text l.lines
    ≡ lines_text l.initial.lines)

abbrev pub decreases-loop-count : goal.decreases-loop-count
decreases-loop-count l = 64 - l.count
