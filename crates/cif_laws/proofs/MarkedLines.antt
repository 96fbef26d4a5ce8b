-- The lines of each side, out of marked lines of both.
use Rattle.std.proofs.Common.{All, Bool, List, [], ap, arith, cond, drop, filter, flat_map, length, length-append, map, nat_eq, refl}
use Rattle.std.proofs.Common.{slice_index_or, sym, take, ℕ, ◌++◌, ◌∙◌, ◌∷◌, ◌≡◌}
use Rattle.std.proofs.lemmas.List.{drop_at, map-append, take_at}
use Rattle.std.proofs.lemmas.List.Elements.{All-append, All-cons, All-head, All-nil, All-tail, filter-append}
use Rattle.std.proofs.lemmas.Grind.{flat_map-append}
use Rattle.cif_canon.specs.Differences.{is_side, mark, marked_text, of_side}
use Rattle.cif_canon.specs.declared.{listed_differences.Side.Side, listed_differences.Side.TheVariants.Left}
use Rattle.cif_canon.specs.declared.{listed_differences.Side.TheVariants.Right, listed_differences.Sided.Sided}
use Rattle.cif_columns.specs.Contents.{lines_text}

-- ---- lists of lines

module _ {X : Type 0} (P : X → Type 0) where
  pub All-front : (xs ys : List X) → All P (xs ++ ys) → All P xs
  All-front [] ys all = All-nil P
  All-front (x ∷ xs) ys all = All-cons P x xs (All-head P x (xs ++ ys) all) (All-front xs ys (All-tail P x (xs ++ ys) all))

  pub All-back : (xs ys : List X) → All P (xs ++ ys) → All P ys
  All-back [] ys all = all
  All-back (x ∷ xs) ys all = All-back xs ys (All-tail P x (xs ++ ys) all)

-- a line of eighty columns, and one behind a mark
abbrev pub IsWide : List ℕ → Type 0
IsWide line = length line ≡ 80

abbrev pub IsMarkedWide : List ℕ → Type 0
IsMarkedWide line = length line ≡ 82

abbrev ended : List ℕ → List ℕ
ended line = line ++ (10 ∷ [])

ended-length : (line : List ℕ) → IsMarkedWide line → length (ended line) ≡ 83
ended-length line wide = omega (arith, wide, length-append line (10 ∷ []))

-- lines of one length are known by their text
pub one-list : (ls ms : List (List ℕ)) → All IsMarkedWide ls → All IsMarkedWide ms → lines_text ls ≡ lines_text ms → ls ≡ ms
one-list [] [] a b e = refl
one-list [] (m ∷ ms) a b e =
    let long = ap length e in
    let wide = ended-length m (All-head IsMarkedWide m ms b) in
    absurd (omega (arith, long, wide, length-append (ended m) (lines_text ms)))
one-list (l ∷ ls) [] a b e =
    let long = ap length e in
    let wide = ended-length l (All-head IsMarkedWide l ls a) in
    absurd (omega (arith, long, wide, length-append (ended l) (lines_text ls)))
one-list (l ∷ ls) (m ∷ ms) a b e =
    let l_wide = All-head IsMarkedWide l ls a in
    let m_wide = All-head IsMarkedWide m ms b in
    let first : ended l ≡ ended m =
    sym (take_at (ended l) (lines_text ls) 83 (ended-length l l_wide)) ∙ ap (take 83) e
    ∙ take_at (ended m) (lines_text ms) 83 (ended-length m m_wide) in
    let rest : lines_text ls ≡ lines_text ms =
    sym (drop_at (ended l) (lines_text ls) 83 (ended-length l l_wide)) ∙ ap (drop 83) e
    ∙ drop_at (ended m) (lines_text ms) 83 (ended-length m m_wide) in
    let line : l ≡ m = sym (take_at l (10 ∷ []) 82 l_wide) ∙ ap (take 82) first ∙ take_at m (10 ∷ []) 82 m_wide in
    ap (λ x. x ∷ ls) line ∙ ap (λ xs. m ∷ xs) (one-list ls ms (All-tail IsMarkedWide l ls a) (All-tail IsMarkedWide m ms b) rest)

-- ---- marks

-- the first byte of a mark
abbrev sign : Side → ℕ
sign Left = 60
sign Right = 62

abbrev has_sign : Side → List ℕ → Bool
has_sign side line = nat_eq (slice_index_or line 0 0) (sign side)

-- the lines behind the marks of a side
abbrev pub unmarked : Side → List (List ℕ) → List (List ℕ)
unmarked side lines = map (drop 2) (filter (has_sign side) lines)

abbrev pub marked : Side → List (List ℕ) → List (List ℕ)
marked side lines = map (λ line. mark side ++ line) lines

pub unmarked-append : (side : Side) (a b : List (List ℕ)) → unmarked side (a ++ b) ≡ unmarked side a ++ unmarked side b
unmarked-append side a b =
    ap (map (drop 2)) (filter-append (has_sign side) a b) ∙ map-append (drop 2) (filter (has_sign side) a) (filter (has_sign side) b)

unmarked-own : (side : Side) (lines : List (List ℕ)) → unmarked side (marked side lines) ≡ lines
unmarked-own Left [] = refl
unmarked-own Right [] = refl
unmarked-own Left (l ∷ lines) = ap (λ ls. l ∷ ls) (unmarked-own Left lines)
unmarked-own Right (l ∷ lines) = ap (λ ls. l ∷ ls) (unmarked-own Right lines)

unmarked-left : (lines : List (List ℕ)) → unmarked Left (marked Right lines) ≡ []
unmarked-left [] = refl
unmarked-left (l ∷ lines) = unmarked-left lines

unmarked-right : (lines : List (List ℕ)) → unmarked Right (marked Left lines) ≡ []
unmarked-right [] = refl
unmarked-right (l ∷ lines) = unmarked-right lines

marked-wide : (side : Side) (lines : List (List ℕ)) → All IsWide lines → All IsMarkedWide (marked side lines)
marked-wide side [] all = All-nil IsMarkedWide
marked-wide side (l ∷ lines) all =
    All-cons IsMarkedWide (mark side ++ l) (marked side lines) (at side (All-head IsWide l lines all))
    (marked-wide side lines (All-tail IsWide l lines all))
  where
    at : (s : Side) → IsWide l → IsMarkedWide (mark s ++ l)
    at Left wide = omega (arith, wide, length-append (mark Left) l)
    at Right wide = omega (arith, wide, length-append (mark Right) l)

-- ---- those of records of one kind

module _ {A : Type 0} (lines_of : A → List (List ℕ)) where
  -- the marked lines of records of both sides
  abbrev pub sided_lines : List (Sided A) → List (List ℕ)
  sided_lines found = flat_map (λ s. marked s.side (lines_of s.it)) found

  pub unmarked-of : (side : Side) (found : List (Sided A)) → unmarked side (sided_lines found) ≡ flat_map lines_of (of_side side found)
  unmarked-of side [] = refl
  unmarked-of side (s ∷ found) =
      unmarked-append side (marked s.side (lines_of s.it)) (sided_lines found)
      ∙ at side s.side (unmarked-of side found)
    where
      at : (side t : Side) → unmarked side (sided_lines found) ≡ flat_map lines_of (of_side side found)
          → unmarked side (marked t (lines_of s.it)) ++ unmarked side (sided_lines found)
          ≡ flat_map lines_of (cond (is_side side t) (s.it ∷ of_side side found) (of_side side found))
      at Left Left more = ap (λ l. l ++ unmarked Left (sided_lines found)) (unmarked-own Left (lines_of s.it))
          ∙ ap (λ l. lines_of s.it ++ l) more
      at Right Right more = ap (λ l. l ++ unmarked Right (sided_lines found)) (unmarked-own Right (lines_of s.it))
          ∙ ap (λ l. lines_of s.it ++ l) more
      at Left Right more = ap (λ l. l ++ unmarked Left (sided_lines found)) (unmarked-left (lines_of s.it)) ∙ more
      at Right Left more = ap (λ l. l ++ unmarked Right (sided_lines found)) (unmarked-right (lines_of s.it)) ∙ more

  pub text-of : (found : List (Sided A)) → flat_map (λ s. marked_text s.side (lines_of s.it)) found ≡ lines_text (sided_lines found)
  text-of [] = refl
  text-of (s ∷ found) =
      ap (λ t. marked_text s.side (lines_of s.it) ++ t) (text-of found)
      ∙ sym (flat_map-append ended (marked s.side (lines_of s.it)) (sided_lines found))

  pub wide-of : (found : List (Sided A)) → All IsWide (flat_map lines_of (of_side Left found))
      → All IsWide (flat_map lines_of (of_side Right found)) → All IsMarkedWide (sided_lines found)
  wide-of [] left right = All-nil IsMarkedWide
  wide-of (s ∷ found) left right = at s.side left right (wide-of found)
    where
      at : (t : Side) → All IsWide (flat_map lines_of (cond (is_side Left t) (s.it ∷ of_side Left found) (of_side Left found)))
          → All IsWide (flat_map lines_of (cond (is_side Right t) (s.it ∷ of_side Right found) (of_side Right found)))
          → (All IsWide (flat_map lines_of (of_side Left found)) → All IsWide (flat_map lines_of (of_side Right found))
          → All IsMarkedWide (sided_lines found))
          → All IsMarkedWide (marked t (lines_of s.it) ++ sided_lines found)
      at Left left right more =
          All-append IsMarkedWide (marked Left (lines_of s.it)) (sided_lines found)
          (marked-wide Left (lines_of s.it) (All-front IsWide (lines_of s.it) (flat_map lines_of (of_side Left found)) left))
          (more (All-back IsWide (lines_of s.it) (flat_map lines_of (of_side Left found)) left) right)
      at Right left right more =
          All-append IsMarkedWide (marked Right (lines_of s.it)) (sided_lines found)
          (marked-wide Right (lines_of s.it) (All-front IsWide (lines_of s.it) (flat_map lines_of (of_side Right found)) right))
          (more left (All-back IsWide (lines_of s.it) (flat_map lines_of (of_side Right found)) right))
