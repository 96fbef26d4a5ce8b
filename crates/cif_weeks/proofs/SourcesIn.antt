-- The source of a day, and none outside the window.
use Rattle.cif_weeks.proofs.Names.{CalendarParts, Contains, IsWithin, None, Piece, Some, Tiles, arith, cases_lt, cond-false, cond-true}
use Rattle.cif_weeks.proofs.Names.{le-leb, leb, lt-leb, source_at, source_at-piece, source_in, sym, tiles-ends, tiles-from, window_of}
use Rattle.cif_weeks.proofs.Names.{winner_of, ℕ, ⊎_elim, ◌+◌, ◌<◌, ◌∙◌, ◌≡◌, ◌≤◌}

module _ (c : CalendarParts) (n : ℕ) where
  pub source_in-within : c.first ≤ n → n ≤ c.last → source_in c n ≡ source_at c.pieces n
  source_in-within from upto = cond-true (leb c.first n) _ _ (le-leb c.first n from) ∙ cond-true (leb n c.last) _ _ (le-leb n c.last upto)

  pub source_in-before : n < c.first → source_in c n ≡ None
  source_in-before h = cond-false (leb c.first n) _ _ (lt-leb c.first n h)

  pub source_in-after : c.last < n → source_in c n ≡ None
  source_in-after h = ⊎_elim
      (λ before. source_in-before before)
      (λ from. cond-true (leb c.first n) _ _ (le-leb c.first n from) ∙ cond-false (leb n c.last) _ _ (lt-leb n c.last h))
      (cases_lt n c.first)

  pub source_in-inside : (i : ℕ) → source_in c n ≡ Some i → IsWithin (window_of c) n
  source_in-inside i e = record {
    from = ⊎_elim
        (λ before. absurd (let no : None ≡ Some i = sym (source_in-before before) ∙ e in cc))
        (λ from. from)
        (cases_lt n c.first);
    upto = ⊎_elim
        (λ after. absurd (let no : None ≡ Some i = sym (source_in-after after) ∙ e in cc))
        (λ upto. upto)
        (cases_lt c.last n);
  }

-- the source of a day of a piece
pub source_in-piece : (c : CalendarParts) (p : Piece) → Tiles c.pieces c.first (c.last + 1) → Contains c.pieces p → (n : ℕ) → p.first ≤ n →
    n ≤ p.last → source_in c n ≡ winner_of p n
source_in-piece c p tiles listed n from upto =
    let first : c.first ≤ p.first = tiles-from c.pieces c.first (c.last + 1) p tiles listed in
    let ends = tiles-ends c.pieces c.first (c.last + 1) p tiles listed in
    source_in-within c n (omega arith) (omega (arith, ends)) ∙ source_at-piece c.pieces c.first (c.last + 1) p n tiles listed from upto
