-- Reads of the columns of a line.
use Rattle.cif_columns.proofs.Names.{List, [], ap, are, arith, bytes_eq-Decides, columns, drop, get_or, get_or-drop, get_or-take, is_blank}
use Rattle.cif_columns.proofs.Names.{length, length-drop, length-take, refl, subst, suc, sym, true, zero, ℕ, ◌+◌, ◌-◌, ◌<◌, ◌∙◌, ◌∷◌, ◌≡◌}
use Rattle.cif_columns.proofs.Names.{◌≤◌}

-- a read of columns is one of the line
pub read : (line : List ℕ) (from to k : ℕ) → k < to - (from - 1) → get_or (columns from to line) k 0 ≡ get_or line (from - 1 + k) 0
read line from to k h = get_or-take (to - (from - 1)) (drop (from - 1) line) k 0 h ∙ get_or-drop (from - 1) line k 0

-- how many columns there are
pub width : (line : List ℕ) (from to : ℕ) → length line ≡ 80 → 1 ≤ from → from ≤ to → to ≤ 80
    → length (columns from to line) ≡ to + 1 - from
width line from to wide start some within =
    omega (arith, wide, length-take (to - (from - 1)) (drop (from - 1) line), length-drop (from - 1) line)

-- the columns of a table that are these bytes
pub asked : (bytes : List ℕ) (from to : ℕ) (value : List ℕ) → are from to bytes value ≡ true → columns from to bytes ≡ value
asked bytes from to value h = (bytes_eq-Decides (columns from to bytes) value).0 h

-- and each of them
pub asked_at : (bytes : List ℕ) (from to : ℕ) (value : List ℕ) (k : ℕ) → are from to bytes value ≡ true → k < to - (from - 1)
    → get_or bytes (from - 1 + k) 0 ≡ get_or value k 0
asked_at bytes from to value k h lt = sym (read bytes from to k lt) ∙ ap (λ c. get_or c k 0) (asked bytes from to value h)

-- columns that are spaces are blank
pub blank_from_reads : (c : List ℕ) → ((k : ℕ) → k < length c → get_or c k 0 ≡ 32) → is_blank c ≡ true
blank_from_reads [] h = refl
blank_from_reads (x ∷ c) h =
    let first : x ≡ 32 = h 0 (omega arith) in
    let rest : is_blank c ≡ true = blank_from_reads c (λ k lt. h (suc k) (omega arith)) in
    rw (first, rest)

-- where a space is always followed by a space, columns that begin with one are spaces
pub spaces_on : (c : List ℕ) → ((k : ℕ) → k + 1 < length c → get_or c k 0 ≡ 32 → get_or c (k + 1) 0 ≡ 32) → get_or c 0 0 ≡ 32
    → (k : ℕ) → k < length c → get_or c k 0 ≡ 32
spaces_on c step first zero lt = first
spaces_on c step first (suc k) lt =
    let next : k + 1 ≡ suc k = omega arith in
    subst (λ n. get_or c n 0 ≡ 32) next (step k (omega arith) (spaces_on c step first k (omega arith)))
