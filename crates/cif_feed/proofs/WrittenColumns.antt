-- Columns that are written over those of a line.
use Rattle.cif_feed.proofs.Names.{All-append, All-drop, All-take, ArePrintable, IsPrintable, List, ap, arith, drop, drop-drop, length, take}
use Rattle.cif_feed.proofs.Names.{with_columns, ℕ, ◌++◌, ◌+◌, ◌-◌, ◌∙◌, ◌≡◌, ◌≤◌}
use borrow.Rule.Slice.PartMut.{put_mid}

pub printable-written : (from many : ℕ) (line columns : List ℕ) → ArePrintable line → ArePrintable columns
    → ArePrintable (put_mid from many line columns)
printable-written from many line columns old new =
    All-append IsPrintable (take from line) (columns ++ drop many (drop from line)) (All-take IsPrintable from line old)
    (All-append IsPrintable columns (drop many (drop from line)) new
    (All-drop IsPrintable many (drop from line) (All-drop IsPrintable from line old)))

pub written-is : (first many : ℕ) (line columns written : List ℕ) → 1 ≤ first → written ≡ columns → length columns ≡ many
    → put_mid (first - 1) (first - 1 + many - (first - 1)) line written ≡ with_columns first columns line
unfolding with_columns
written-is first many line columns written from is long =
    ap (λ (l : List ℕ). take (first - 1) line ++ (l ++ drop (first - 1 + many - (first - 1)) (drop (first - 1) line))) is
    ∙ ap (λ (l : List ℕ). take (first - 1) line ++ (columns ++ l))
    (drop-drop (first - 1 + many - (first - 1)) (first - 1) line ∙ ap (λ (n : ℕ). drop n line) (omega arith))
