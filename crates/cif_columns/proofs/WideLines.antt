-- The columns of a line that is widened: those that are used, and then spaces.
use Rattle.cif_columns.proofs.Names.{All-get_or, ArePrintable, IsPrintable, List, [], ap, append-nil, arith, cases_lt, drop, flat_map}
use Rattle.cif_columns.proofs.Names.{get_or, get_or-append_right, get_or-drop, get_or-replicate, get_or-take, get_or_append_left, inl, inr}
use Rattle.cif_columns.proofs.Names.{length, length-append, length-replicate, length-set, length-take-le, max, min, replicate, set, sym}
use Rattle.cif_columns.proofs.Names.{take, take_all, take_more, take_more_set, wide, ℕ, ◌++◌, ◌+◌, ◌-◌, ◌<◌, ◌∙◌, ◌∷◌, ◌≡◌, ◌≤◌, ◌⊎◌}

-- some columns, and then so many bytes of one kind
module _ (b : ℕ) (columns : List ℕ) (count n : ℕ) (width : length columns ≡ count) (i : ℕ) where
  in_columns : i < count → get_or (columns ++ replicate n b) i 0 ≡ get_or columns i 0
  in_columns below = get_or_append_left columns (replicate n b) 0 i (omega (arith, below, width))

  behind_columns : count ≤ i → i < count + n → get_or (columns ++ replicate n b) i 0 ≡ b
  behind_columns above below =
      get_or-append_right columns (replicate n b) count i 0 width above
      ∙ get_or-replicate n (i - count) b 0 (omega (arith, above, below))

module _ (columns : List ℕ) (count from : ℕ) (same : from ≡ count) (width : length columns ≡ 80) (few : count ≤ 80) where
  abbrev rest : ℕ
  rest = 80 - length (take count columns)

  used_width : length (take count columns) ≡ count
  used_width = length-take-le count columns (omega (arith, few, width))

  wide_width : length (wide (take count columns)) ≡ 80
  wide_width = omega (arith, few, used_width, length-append (take count columns) (replicate rest 32), length-replicate {A = ℕ} rest 32)

  module _ (printable : ArePrintable (take count columns)) (most : List ℕ)
      (is : most ≡ drop (80 - from) (flat_map (λ (l : List ℕ). l) (replicate 80 126 ∷ replicate 80 32 ∷ []))) (i : ℕ) (below : i < 80) where
    most_at : get_or most i 0 ≡ get_or (replicate 80 126 ++ replicate 80 32) (80 - count + i) 0
    most_at =
        ap (λ l. get_or l i 0) (is ∙ ap (λ l. drop (80 - from) (replicate 80 126 ++ l)) (append-nil (replicate 80 32))
        ∙ ap (λ n. drop (80 - n) (replicate 80 126 ++ replicate 80 32)) same)
        ∙ get_or-drop (80 - count) (replicate 80 126 ++ replicate 80 32) i 0

    column_at : (i < count) ⊎ (count ≤ i) → max (min (get_or columns i 0) (get_or most i 0)) 32 ≡ get_or (wide (take count columns)) i 0
    column_at (inl used) =
        let here : get_or (take count columns) i 0 ≡ get_or columns i 0 = get_or-take count columns i 0 used in
        let p = All-get_or IsPrintable (take count columns) i 0 (omega (arith, used, used_width)) printable in
        let limit : get_or most i 0 ≡ 126 =
        most_at
        ∙ in_columns 32 (replicate 80 126) 80 80 (length-replicate {A = ℕ} 80 126) (80 - count + i) (omega (arith, used, few))
        ∙ get_or-replicate 80 (80 - count + i) 126 0 (omega (arith, used, few)) in
        let both : max (min (get_or columns i 0) (get_or most i 0)) 32 ≡ get_or columns i 0 = omega (arith, here, p.0, p.1, limit) in
        both ∙ sym here ∙ sym (in_columns 32 (take count columns) count rest used_width i used)
    column_at (inr over) =
        let limit : get_or most i 0 ≡ 32 =
        most_at
        ∙ behind_columns 32 (replicate 80 126) 80 80 (length-replicate {A = ℕ} 80 126) (80 - count + i) (omega (arith, over, few))
        (omega (arith, below, few)) in
        let both : max (min (get_or columns i 0) (get_or most i 0)) 32 ≡ 32 = omega (arith, limit) in
        both ∙ sym (behind_columns 32 (take count columns) count rest used_width i over (omega (arith, below, used_width)))

    -- a column more
    pub column_more : (text : List ℕ) (column : ℕ) → length text ≡ 81 → take i text ≡ take i (wide (take count columns))
        → column ≡ max (min (get_or columns i 0) (get_or most i 0)) 32
        → take (i + 1) (set text i column) ≡ take (i + 1) (wide (take count columns))
    column_more text column long so_far told =
        let wide_line = wide (take count columns) in
        take_more_set text i column (omega (arith, below, long))
        ∙ ap (λ l. l ++ column ∷ []) so_far
        ∙ ap (λ b. take i wide_line ++ b ∷ []) (told ∙ column_at (cases_lt i count))
        ∙ sym (take_more wide_line i 0 (omega (arith, below, wide_width)))

  -- all of them and the line feed
  pub whole_text : (text : List ℕ) → length text ≡ 81 → take 80 text ≡ take 80 (wide (take count columns))
      → set text 80 10 ≡ wide (take count columns) ++ 10 ∷ []
  whole_text text long so_far =
      let wide_line = wide (take count columns) in
      sym (take_all 81 (set text 80 10) (omega (arith, long, length-set text 80 10)))
      ∙ take_more_set text 80 10 (omega (arith, long))
      ∙ ap (λ l. l ++ 10 ∷ []) (so_far ∙ take_all 80 wide_line (omega (arith, wide_width)))
