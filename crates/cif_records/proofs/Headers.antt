-- What stands in a header's columns; a line spells at most one header, and there is no reason to refuse a line that spells one.
use Rattle.cif_records.proofs.Names.{All-drop, All-take, AllFit, AllStandIn, ArePrintable, Header, IsDay, IsFull, IsPrintable, List, None}
use Rattle.cif_records.proofs.Names.{Option, Some, ap, append_assoc, are, arith, bytes_decides, codes, columns, ddmmyy_in, ddmmyy_of, drop}
use Rattle.cif_records.proofs.Names.{drop-drop, drop-set, drop-set-lt, drop-take, header_refusal_by, header_rows_by, header_table, kept}
use Rattle.cif_records.proofs.Names.{length, length-drop, length-set, length-take, lit≤, nat_le, nat_tests, printable_fact, props, refl}
use Rattle.cif_records.proofs.Names.{set, stands-ddmmyy_in, subst, sym, take, take-append-drop, take-set-le, take-take, take_all, true}
use Rattle.cif_records.proofs.Names.{with_window, ℕ, ◌++◌, ◌+◌, ◌<◌, ◌∙◌, ◌≡◌, ◌≤◌}
use mathlib.Core.HLevel.{Σ_prop_path}
use Rattle.cif_columns.proofs.DayDigits.{ddmmyy_of-stands, is_day-ddmmyy}
use Rattle.cif_records.proofs.Rows.{◌&◌}

-- columns of the kept columns are those of the line
part_of_kept : (a n m : ℕ) (line : List ℕ) → a + (n + m) ≡ 58 → take n (drop a (take 58 (drop 2 line))) ≡ take n (drop (2 + a) line)
part_of_kept a n m line e =
    ap (λ (k : ℕ). take n (drop a (take k (drop 2 line)))) (sym e)
    ∙ ap (take n) (drop-take a (n + m) (drop 2 line))
    ∙ ap (λ (xs : List ℕ). take n (take (n + m) xs)) (drop-drop a 2 line)
    ∙ take-take n (n + m) (drop (2 + a) line) (omega arith)

-- and so are those with the update indicator of a full extract
module _ (line : List ℕ) (wide : length (columns 3 60 line) ≡ 58) where
  abbrev pub full_columns : List ℕ
  full_columns = set (columns 3 60 line) 44 70

  pub full-wide : length full_columns ≡ 58
  full-wide = length-set (columns 3 60 line) 44 70 ∙ wide

  pub full-before : kept 3 46 full_columns ≡ columns 3 46 line
  full-before = take-set-le 44 (columns 3 60 line) 44 70 (lit≤ tt) ∙ part_of_kept 0 44 14 line refl

  pub full-there : kept 47 47 full_columns ≡ codes "F"
  full-there = ap (take 1) (drop-set (columns 3 60 line) 44 70 (omega (arith, wide)))

  pub full-behind : (a n m : ℕ) → 44 < a → a + (n + m) ≡ 58 → take n (drop a full_columns) ≡ take n (drop (2 + a) line)
  full-behind a n m later e = ap (take n) (drop-set-lt a (columns 3 60 line) 44 70 later) ∙ part_of_kept a n m line e

-- fifty-eight columns are their parts
cut : (a n : ℕ) (c : List ℕ) → drop a c ≡ take n (drop a c) ++ drop (a + n) c
cut a n c = sym (take-append-drop n (drop a c)) ∙ ap (λ (l : List ℕ). take n (drop a c) ++ l) (drop-drop n a c)

all_kept : (c : List ℕ) → length c ≡ 58 → c ≡ kept 3 46 c ++ (kept 47 47 c ++ (kept 48 48 c ++ (kept 49 54 c ++ kept 55 60 c)))
all_kept c wide =
    cut 0 44 c
    ∙ ap (λ (l : List ℕ). kept 3 46 c ++ l) (cut 44 1 c
    ∙ ap (λ (l : List ℕ). kept 47 47 c ++ l) (cut 45 1 c
    ∙ ap (λ (l : List ℕ). kept 48 48 c ++ l) (cut 46 6 c
    ∙ ap (λ (l : List ℕ). kept 49 54 c ++ l) (sym (take_all 6 (drop 52 c) (omega (arith, wide, length-drop 52 c)))))))

front_kept : (c : List ℕ) → kept 3 48 c ≡ kept 3 46 c ++ (kept 47 47 c ++ kept 48 48 c)
front_kept c =
    sym (take-append-drop 44 (take 46 c))
    ∙ ap (λ (l : List ℕ). l ++ drop 44 (take 46 c)) (take-take 44 46 c (omega arith))
    ∙ ap (λ (l : List ℕ). kept 3 46 c ++ l) (drop-take 44 2 c
    ∙ sym (take-append-drop 1 (take 2 (drop 44 c)))
    ∙ ap (λ (l : List ℕ). l ++ drop 1 (take 2 (drop 44 c))) (take-take 1 2 (drop 44 c) (omega arith))
    ∙ ap (λ (l : List ℕ). kept 47 47 c ++ l) (drop-take 1 1 (drop 44 c) ∙ ap (take 1) (drop-drop 1 44 c)))

-- six columns that name a day are its digits
pub digits_of : (c : List ℕ) (day : ℕ) → length c ≡ 6 → ddmmyy_in c ≡ Some day → c ≡ ddmmyy_of day
digits_of c day wide named = ddmmyy_of-stands c day (stands-ddmmyy_in c day wide named)

-- what the columns of a header are
module _ (h : Header) where
  wide_part : (a n m : ℕ) → a + (n + m) ≡ 58 → length (take n (drop a h.columns)) ≡ n
  wide_part a n m e =
      let wide = h.wide in omega (arith, wide, e, length-take n (drop a h.columns), length-drop a h.columns)

  printable_part : (a n : ℕ) → ArePrintable (take n (drop a h.columns))
  printable_part a n = All-take IsPrintable n (drop a h.columns) (All-drop IsPrintable a h.columns h.printable)

  first_digits : kept 49 54 h.columns ≡ ddmmyy_of h.first
  first_digits = digits_of (kept 49 54 h.columns) h.first (wide_part 46 6 6 refl) h.first_stands

  last_digits : kept 55 60 h.columns ≡ ddmmyy_of h.last
  last_digits = digits_of (kept 55 60 h.columns) h.last (wide_part 52 6 0 refl) h.last_stands

  pub last_is_day : IsDay h.last
  last_is_day =
      is_day-ddmmyy (kept 55 60 h.columns) h.last
      (stands-ddmmyy_in (kept 55 60 h.columns) h.last (wide_part 52 6 0 refl) h.last_stands)

  pub columns_are : h.columns ≡ kept 3 46 h.columns ++ (codes "F" ++ (kept 48 48 h.columns ++ (ddmmyy_of h.first ++ ddmmyy_of h.last)))
  columns_are =
      all_kept h.columns h.wide
      ∙ ap (λ (l : List ℕ). kept 3 46 h.columns ++ (l ++ (kept 48 48 h.columns ++ (kept 49 54 h.columns ++ kept 55 60 h.columns)))) h.full
      ∙ ap (λ (l : List ℕ). kept 3 46 h.columns ++ (codes "F" ++ (kept 48 48 h.columns ++ (l ++ kept 55 60 h.columns)))) first_digits
      ∙ ap (λ (l : List ℕ). kept 3 46 h.columns ++ (codes "F" ++ (kept 48 48 h.columns ++ (ddmmyy_of h.first ++ l)))) last_digits

  -- its own window changes nothing
  pub own_window : with_window h.first h.last h.columns ≡ h.columns
  own_window =
      ap (λ (l : List ℕ). l ++ (ddmmyy_of h.first ++ ddmmyy_of h.last)) (front_kept h.columns)
      ∙ append_assoc (kept 3 46 h.columns) (kept 47 47 h.columns ++ kept 48 48 h.columns) (ddmmyy_of h.first ++ ddmmyy_of h.last)
      ∙ ap (λ (l : List ℕ). kept 3 46 h.columns ++ l)
      (append_assoc (kept 47 47 h.columns) (kept 48 48 h.columns) (ddmmyy_of h.first ++ ddmmyy_of h.last))
      ∙ ap (λ (l : List ℕ). kept 3 46 h.columns ++ (l ++ (kept 48 48 h.columns ++ (ddmmyy_of h.first ++ ddmmyy_of h.last)))) h.full
      ∙ sym columns_are

  -- its values fit their columns
  pub fits : AllFit (header_table h)
  fits =
      (refl, printable_fact (codes "HD") refl)
      & (wide_part 0 44 14 refl, printable_part 0 44)
      & (refl, printable_fact (codes "F") refl)
      & (wide_part 45 1 12 refl, printable_part 45 1)
      & (subst (λ d. (length d ≡ 6) × ArePrintable d) first_digits (wide_part 46 6 6 refl, printable_part 46 6))
      & (subst (λ d. (length d ≡ 6) × ArePrintable d) last_digits (wide_part 52 6 0 refl, printable_part 52 6))
      & tt & tt

  -- its columns are its plain columns one behind another
  pub columns-parts : (rest : List ℕ) → h.columns ++ rest
      ≡ kept 3 46 h.columns ++ (codes "F" ++ (kept 48 48 h.columns ++ (ddmmyy_of h.first ++ (ddmmyy_of h.last ++ rest))))
  columns-parts rest =
      let a = kept 3 46 h.columns in
      let b = kept 48 48 h.columns in
      let c = ddmmyy_of h.first in
      let d = ddmmyy_of h.last in
      ap (λ (l : List ℕ). l ++ rest) columns_are
      ∙ append_assoc a (codes "F" ++ (b ++ (c ++ d))) rest
      ∙ ap (λ (l : List ℕ). a ++ (codes "F" ++ l)) (append_assoc b (c ++ d) rest ∙ ap (λ (l : List ℕ). b ++ l) (append_assoc c d rest))

-- what the type keeps of its fields
abbrev Facts : List ℕ × ℕ × ℕ → Type 0
Facts v = (length v.0 ≡ 58) × ArePrintable v.0 × IsFull v.0 × (ddmmyy_in (kept 49 54 v.0) ≡ Some v.1)
    × (ddmmyy_in (kept 55 60 v.0) ≡ Some v.2) × (v.1 ≤ v.2)

pub same_header : (h k : Header) → h.columns ≡ k.columns → h ≡ k
same_header h k e =
    let first : h.first ≡ k.first = (let same : ◌≡◌ {A = Option ℕ} (Some h.first) (Some k.first) =
    sym h.first_stands ∙ ap (λ c. ddmmyy_in (kept 49 54 c)) e ∙ k.first_stands in cc) in
    let last : h.last ≡ k.last = (let same : ◌≡◌ {A = Option ℕ} (Some h.last) (Some k.last) =
    sym h.last_stands ∙ ap (λ c. ddmmyy_in (kept 55 60 c)) e ∙ k.last_stands in cc) in
    let parts : ◌≡◌ {A = (v : List ℕ × ℕ × ℕ) × Facts v}
    ((h.columns, h.first, h.last), (h.wide, h.printable, h.full, h.first_stands, h.last_stands, h.in_order))
    ((k.columns, k.first, k.last), (k.wide, k.printable, k.full, k.first_stands, k.last_stands, k.in_order)) =
    Σ_prop_path (λ v. hlevel props) (cc) in
    ap (λ v. record {
      columns = v.0.0;
      first = v.0.1;
      last = v.0.2;
      wide = v.1.0;
      printable = v.1.1;
      full = v.1.2;
      first_stands = v.1.3;
      last_stands = v.1.4;
      in_order = v.1.5;
    }) parts

-- two headers that a line spells are one, whatever its update indicator is
module _ (line indicator : List ℕ) where
  abbrev SpellsBy : Header → Type 0
  SpellsBy h = AllStandIn line (header_rows_by indicator h)

  pub one_header : (h k : Header) → SpellsBy h → SpellsBy k → h ≡ k
  one_header h k p q =
      let front : kept 3 46 h.columns ≡ kept 3 46 k.columns = sym p.1.0 ∙ q.1.0 in
      let back : kept 48 48 h.columns ≡ kept 48 48 k.columns = sym p.1.1.1.0 ∙ q.1.1.1.0 in
      let first : ddmmyy_of h.first ≡ ddmmyy_of k.first = sym p.1.1.1.1.0 ∙ q.1.1.1.1.0 in
      let last : ddmmyy_of h.last ≡ ddmmyy_of k.last = sym p.1.1.1.1.1.0 ∙ q.1.1.1.1.1.0 in
      let whole : kept 3 46 h.columns ++ (codes "F" ++ (kept 48 48 h.columns ++ (ddmmyy_of h.first ++ ddmmyy_of h.last)))
      ≡ kept 3 46 k.columns ++ (codes "F" ++ (kept 48 48 k.columns ++ (ddmmyy_of k.first ++ ddmmyy_of k.last))) = cc in
      same_header h k (columns_are h ∙ whole ∙ sym (columns_are k))

  -- there is no reason to refuse a line that spells a header
  pub no_refusal : (h : Header) → SpellsBy h → header_refusal_by indicator line ≡ None
  unfolding header_refusal_by
  no_refusal h p =
      let in_order = h.in_order in
      let test : nat_le h.first h.last ≡ true = grind (arith, nat_tests) in
      let known : are (columns 47 47 line) indicator ≡ true = (bytes_decides (columns 47 47 line) indicator).1 p.1.1.0 in
      let first : ddmmyy_in (columns 49 54 line) ≡ Some h.first = ap ddmmyy_in (p.1.1.1.1.0 ∙ sym (first_digits h)) ∙ h.first_stands in
      let last : ddmmyy_in (columns 55 60 line) ≡ Some h.last = ap ddmmyy_in (p.1.1.1.1.1.0 ∙ sym (last_digits h)) ∙ h.last_stands in
      rw (p.0, known, first, last, test)
