-- A date of six digits, written out.
use Rattle.cif_rows.proofs.Names.{All-cons, All-from_recursion, ArePrintable, Bool, IsPrintable, List, [], ap, arith, century, codes, false}
use Rattle.cif_rows.proofs.Names.{get_or, if◌then◌else◌, length, long_date, nat_lt, refl, true, ℕ, ◌++◌, ◌<◌, ◌∙◌, ◌∷◌, ◌≡◌}

-- the first two digits of a year, before what stands after them
two-first : (earlier : Bool) (rest : List ℕ) →
    get_or (if earlier then codes "20" else codes "19") 0 0 ∷ get_or (if earlier then codes "20" else codes "19") 1 0 ∷ rest
    ≡ (if earlier then codes "20" else codes "19") ++ rest
two-first true rest = refl
two-first false rest = refl

-- the digits of a date, with dashes between them
abbrev dashed : (a b c d e f : ℕ) → List ℕ
dashed a b c d e f = a ∷ b ∷ 45 ∷ c ∷ d ∷ 45 ∷ e ∷ f ∷ []

dashed-printable : (a b c d e f : ℕ) → IsPrintable a → IsPrintable b → IsPrintable c → IsPrintable d → IsPrintable e → IsPrintable f →
    ArePrintable (dashed a b c d e f)
dashed-printable a b c d e f p q r s t u =
    let dash : IsPrintable 45 = (omega arith, omega arith) in
    All-from_recursion IsPrintable (dashed a b c d e f) (p, (q, (dash, (r, (s, (dash, (t, (u, tt))))))))

after-century : (earlier : Bool) (rest : List ℕ) → ArePrintable rest → ArePrintable ((if earlier then codes "20" else codes "19") ++ rest)
after-century true rest p =
    All-cons IsPrintable 50 (48 ∷ rest) (omega arith, omega arith) (All-cons IsPrintable 48 rest (omega arith, omega arith) p)
after-century false rest p =
    All-cons IsPrintable 49 (57 ∷ rest) (omega arith, omega arith) (All-cons IsPrintable 57 rest (omega arith, omega arith) p)

module _ (yymmdd : List ℕ) where
  abbrev digit : ℕ → ℕ
  digit n = get_or yymmdd n 0

  abbrev rest-of : List ℕ
  rest-of = dashed (digit 0) (digit 1) (digit 2) (digit 3) (digit 4) (digit 5)

  -- a date as the code makes it
  pub date-is : (first : List ℕ) → first ≡ century (digit 0) → get_or first 0 0 ∷ get_or first 1 0 ∷ rest-of ≡ long_date yymmdd
  unfolding long_date
  date-is first is = ap (λ (cs : List ℕ). get_or cs 0 0 ∷ get_or cs 1 0 ∷ rest-of) is ∙ two-first (nat_lt (digit 0) 54) rest-of

  -- its bytes can be shown
  pub printable-date : length yymmdd ≡ 6 → ArePrintable yymmdd → ArePrintable (long_date yymmdd)
  unfolding long_date
  printable-date six printable =
      let one : (n : ℕ) → n < 6 → IsPrintable (digit n) = λ n below. printable n 0 (omega (arith, below, six)) in
      after-century (nat_lt (digit 0) 54) rest-of
      (dashed-printable (digit 0) (digit 1) (digit 2) (digit 3) (digit 4) (digit 5) (one 0 (omega arith)) (one 1 (omega arith))
      (one 2 (omega arith)) (one 3 (omega arith)) (one 4 (omega arith)) (one 5 (omega arith)))
