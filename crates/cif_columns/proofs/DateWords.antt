-- A word names one day, by six digits or by ten columns.
use Rattle.cif_columns.proofs.Names.{Bool, List, StandsInYymmdd, [], ap, arith, codes, cond, drop, false, get_or, inl, inr, length, refl}
use Rattle.cif_columns.proofs.Names.{same_Some, subst, sym, true, ℕ, ◌++◌, ◌/◌, ◌+◌, ◌∙◌, ◌∷◌, ◌≡◌}
use Rattle.cif_columns.proofs.Names.{nat_lt, yymmdd_in}
use Rattle.cif_columns.proofs.DayColumns.{yymmdd_in-stands}
use Rattle.cif_columns.specs.DateWord.{IsDateWord, StandsInLong, long_date}

behind-century : (x y : Bool) (rest other : List ℕ) → cond x (codes "20") (codes "19") ++ rest ≡ cond y (codes "20") (codes "19") ++ other →
    rest ≡ other
behind-century true true rest other same = ap (drop 2) same
behind-century true false rest other same = ap (drop 2) same
behind-century false true rest other same = ap (drop 2) same
behind-century false false rest other same = ap (drop 2) same

-- the digits among them
abbrev digits_among : List ℕ → List ℕ
digits_among l = get_or l 0 0 ∷ get_or l 1 0 ∷ get_or l 3 0 ∷ get_or l 4 0 ∷ get_or l 6 0 ∷ get_or l 7 0 ∷ []

pub digits-of-long : (a b c d e f : ℕ) (digits : List ℕ) (n : ℕ) → StandsInYymmdd digits n
    → long_date (a ∷ b ∷ c ∷ d ∷ e ∷ f ∷ []) ≡ long_date digits → digits ≡ a ∷ b ∷ c ∷ d ∷ e ∷ f ∷ []
digits-of-long a b c d e f digits n s same =
    let rest = behind-century (nat_lt a 54) (nat_lt (48 + s.yy / 10) 54) _ _ (same ∙ ap long_date s.spelled) in
    s.spelled ∙ ap digits_among (sym rest)

pub short-length : (word : List ℕ) (n : ℕ) → StandsInYymmdd word n → length word ≡ 6
short-length word n s = ap length s.spelled

long-length : (x : Bool) (rest : List ℕ) → length rest ≡ 8 → length (cond x (codes "20") (codes "19") ++ rest) ≡ 10
long-length true rest eight = omega (arith, eight)
long-length false rest eight = omega (arith, eight)

pub long-word-length : (word : List ℕ) (n : ℕ) → StandsInLong word n → length word ≡ 10
long-word-length word n l =
    ap length (l.long ∙ ap long_date l.stands.spelled) ∙ long-length (nat_lt (48 + l.stands.yy / 10) 54) _ refl

one-day : (word : List ℕ) (d e : ℕ) → StandsInYymmdd word d → StandsInYymmdd word e → d ≡ e
one-day word d e one other = same_Some d e (sym (yymmdd_in-stands word d one) ∙ yymmdd_in-stands word e other)

pub one-date-word : (word : List ℕ) (d e : ℕ) → IsDateWord word d → IsDateWord word e → d ≡ e
one-date-word word d e (inl one) (inl other) = one-day word d e one other
one-date-word word d e (inl one) (inr other) =
    absurd (omega (arith, short-length word d one, long-word-length word e other))
one-date-word word d e (inr one) (inl other) =
    absurd (omega (arith, short-length word e other, long-word-length word d one))
one-date-word word d e (inr one) (inr other) =
    let same = ap long_date (sym one.stands.spelled) ∙ sym one.long ∙ other.long in
    let digits = digits-of-long _ _ _ _ _ _ other.digits e other.stands same in
    one-day one.digits d e one.stands (subst (λ (l : List ℕ). StandsInYymmdd l e) (digits ∙ sym one.stands.spelled) other.stands)
