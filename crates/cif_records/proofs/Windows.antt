-- A header's columns with another window: the six columns of its first date, and then the six of its last date, are written over them.
use Rattle.cif_records.proofs.Names.{All-append, All-take, ArePrintable, IsPrintable, List, [], ap, append-nil, append_assoc, arith, drop}
use Rattle.cif_records.proofs.Names.{drop-drop, drop-take, drop_all, drop_at, kept, length, length-append, length-drop, length-take-le}
use Rattle.cif_records.proofs.Names.{subst, sym, take, take-take, take_all, take_at, ℕ, ◌++◌, ◌∙◌, ◌≡◌, ◌≤◌}
use borrow.Rule.Slice.PartMut.{put_mid}
use Rattle.std.proofs.lemmas.Slice.{take-put_mid}

-- columns 3 to 48 are 46
front_width : (old : List ℕ) → length old ≡ 58 → length (take 46 old) ≡ 46
front_width old wide = length-take-le 46 old (omega arith)

-- the first write leaves 58 columns
length-put_mid : (old first : List ℕ) → length old ≡ 58 → length first ≡ 6 → length (put_mid 46 6 old first) ≡ 58
length-put_mid old first wide first_wide = omega (
  arith,
  wide,
  first_wide,
  front_width old wide,
  length-append (take 46 old) (first ++ drop 6 (drop 46 old)),
  length-append first (drop 6 (drop 46 old)),
  length-drop 6 (drop 46 old),
  length-drop 46 old,
)

-- so columns 55 to 60, the last of them, can be written after it
pub within : (old first : List ℕ) → length old ≡ 58 → length first ≡ 6 → 58 ≤ length (put_mid 46 6 old first)
within old first wide first_wide = omega (arith, length-put_mid old first wide first_wide)

module _ (old first last : List ℕ) (wide : length old ≡ 58) (first_wide : length first ≡ 6) (last_wide : length last ≡ 6) where
  -- columns 3 to 48 as they were, and then the two dates
  pub written : put_mid 52 6 (put_mid 46 6 old first) last ≡ take 46 old ++ (first ++ last)
  written =
      let once = put_mid 46 6 old first in
      let once_wide = length-put_mid old first wide first_wide in
      let none : drop 6 (drop 52 once) ≡ [] = drop-drop 6 52 once ∙ drop_all 58 once (omega (arith, once_wide)) in
      ap (λ (l : List ℕ). l ++ (last ++ drop 6 (drop 52 once))) (take-put_mid 46 6 old first 52 (omega (arith, first_wide)) (omega arith))
      ∙ ap (λ (l : List ℕ). (take 46 old ++ first) ++ (last ++ l)) none
      ∙ ap (λ (l : List ℕ). (take 46 old ++ first) ++ l) (append-nil last)
      ∙ append_assoc (take 46 old) first last

  -- they are as many as before
  pub still_wide : length (put_mid 52 6 (put_mid 46 6 old first) last) ≡ 58
  still_wide = omega (
    arith,
    ap length written,
    front_width old wide,
    first_wide,
    last_wide,
    length-append (take 46 old) (first ++ last),
    length-append first last,
  )

  -- columns 3 to 48 are as they were
  pub kept-front : kept 3 48 (put_mid 52 6 (put_mid 46 6 old first) last) ≡ kept 3 48 old
  kept-front = ap (take 46) written ∙ take_at (take 46 old) (first ++ last) 46 (front_width old wide)

  -- the first date stands in columns 49 to 54
  pub kept-first : kept 49 54 (put_mid 52 6 (put_mid 46 6 old first) last) ≡ first
  kept-first =
      ap (λ (l : List ℕ). take 6 (drop 46 l)) written
      ∙ ap (take 6) (drop_at (take 46 old) (first ++ last) 46 (front_width old wide))
      ∙ take_at first last 6 first_wide

  -- the last date stands in columns 55 to 60
  pub kept-last : kept 55 60 (put_mid 52 6 (put_mid 46 6 old first) last) ≡ last
  kept-last =
      let two_wide = length-append (take 46 old) first in
      ap (λ (l : List ℕ). take 6 (drop 52 l)) (written ∙ sym (append_assoc (take 46 old) first last))
      ∙ ap (take 6) (drop_at (take 46 old ++ first) last 52 (omega (arith, front_width old wide, first_wide, two_wide)))
      ∙ take_all 6 last (omega arith)

  -- each of the columns is printable
  pub are_printable : ArePrintable old → ArePrintable first → ArePrintable last → ArePrintable (put_mid 52 6 (put_mid 46 6 old first) last)
  are_printable p q r =
      subst ArePrintable (sym written)
      (All-append IsPrintable _ _ (All-take IsPrintable 46 old p) (All-append IsPrintable _ _ q r))

-- column 47 is one of columns 3 to 48
pub kept-indicator : (a b : List ℕ) → kept 3 48 a ≡ kept 3 48 b → kept 47 47 a ≡ kept 47 47 b
kept-indicator a b same = within_front a ∙ ap (λ (l : List ℕ). drop 44 (take 45 l)) same ∙ sym (within_front b)
  where
    within_front : (l : List ℕ) → kept 47 47 l ≡ drop 44 (take 45 (take 46 l))
    within_front l = sym (drop-take 44 1 l) ∙ ap (drop 44) (sym (take-take 45 46 l (omega arith)))
