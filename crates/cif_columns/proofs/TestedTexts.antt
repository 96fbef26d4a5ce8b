-- Texts that stand at the left of their columns.
use Rattle.cif_columns.proofs.Names.{Bool, List, Passes, PlainTest, ap, are, arith, columns, false, get_or, get_or-replicate}
use Rattle.cif_columns.proofs.Names.{left_justified, length, nat_eq, nat_tests, refl, replicate, subst, sym, text_of, true, ℕ, ◌+◌, ◌-◌}
use Rattle.cif_columns.proofs.Names.{◌<◌, ◌∙◌, ◌≡◌, ◌≤◌}
use Rattle.cif_columns.proofs.ColumnReads.{asked_at, blank_from_reads, read, spaces_on, width}
use Rattle.cif_columns.proofs.PlainColumns.{IsPlainText, plain-blank, plain-text}

-- columns in which a space is always followed by a space
left_text : (c : List ℕ) → 1 ≤ length c → ((k : ℕ) → k + 1 < length c → get_or c k 0 ≡ 32 → get_or c (k + 1) 0 ≡ 32)
    → left_justified (length c) (text_of c) ≡ c
left_text c some step = at (nat_eq (get_or c 0 0) 32) refl
  where
    at : (b : Bool) → nat_eq (get_or c 0 0) 32 ≡ b → left_justified (length c) (text_of c) ≡ c
    at false e = plain-text c some e
    at true e =
        let first : get_or c 0 0 ≡ 32 = grind (arith, nat_tests) in
        plain-blank c (blank_from_reads c (spaces_on c step first))

module _ (t : PlainTest) (line : List ℕ) (wide : length line ≡ 80) (fits : Passes t line) where
  -- a space is followed by a space where the table asks for that
  pub followed_at : (from to : ℕ) (k : ℕ) → 1 ≤ from → to ≤ 80 → from - 1 + k < 79 → k + 1 < to - (from - 1)
      → get_or t.next (from - 1 + k) 0 ≡ 32
      → get_or (columns from to line) k 0 ≡ 32 → get_or (columns from to line) (k + 1) 0 ≡ 32
  followed_at from to k start within low lt asks space =
      let here : get_or line (from - 1 + k) 0 ≡ 32 = sym (read line from to k (omega arith)) ∙ space in
      let then : get_or line (from - 1 + k + 1) 0 ≡ 32 = fits.followed (from - 1 + k) low asks here in
      let place : from - 1 + k + 1 ≡ from - 1 + (k + 1) = omega arith in
      read line from to (k + 1) lt ∙ ap (λ n. get_or line n 0) (sym place) ∙ then

  pub text_part : (from to : ℕ) → 1 ≤ from → from ≤ to → to ≤ 80 → are from (to - 1) t.next (replicate (to - from) 32) ≡ true
      → IsPlainText from to line
  text_part from to start some within asks =
      let c = columns from to line in
      let long : length c ≡ to + 1 - from = width line from to wide start some (omega arith) in
      subst (λ n. left_justified n (text_of c) ≡ c) long (left_text c (omega arith) (λ k lt space.
      let below : k < to - from = omega (arith, lt, long) in
      let asked : get_or t.next (from - 1 + k) 0 ≡ 32 =
      asked_at t.next from (to - 1) (replicate (to - from) 32) k asks (omega (arith, below)) ∙ get_or-replicate (to - from) k 32 0 below in
      followed_at from to k start within (omega (arith, below)) (omega (arith, below)) asked space))
