-- Moments in hours, minutes and seconds.
use Rattle.cif_views.proofs.Names.{Bool, IsBy, List, [], ap, append_assoc, arith, codes, decimal, decimal_digit, decimal_step_wide, false}
use Rattle.cif_views.proofs.Names.{if◌then◌else◌, ltb-false, ltb-true, midnight, nat_lt, refl, sym, time_text, true, two_digits}
use Rattle.cif_views.proofs.Names.{two_digits_or_more, ℕ, ◌%◌, ◌*◌, ◌++◌, ◌+◌, ◌-◌, ◌/◌, ◌<◌, ◌^◌, ◌∙◌, ◌∷◌, ◌≡◌, ◌≤◌}
use Rattle.itoa.proofs.Decimal.{decimal_two}

module _ (d s v : ℕ) (is : d * 86400 + s ≡ v) (within : s < 86400) (from : midnight ≤ v) where
  hours : (d - 2 ^ 64) * 24 + s / 3600 ≡ (v - midnight) / 3600
  hours = omega (arith, is, within, from)

  minutes : s / 60 % 60 ≡ (v - midnight) / 60 % 60
  minutes = omega (arith, is, within, from)

  seconds : s % 60 ≡ (v - midnight) % 60
  seconds = omega (arith, is, within, from)

  -- its text, as it is appended
  pub text-is : (one all : List ℕ) → one ≡ two_digits_or_more ((d - 2 ^ 64) * 24 + s / 3600) →
      all ≡ one ++ ((58 ∷ two_digits (s / 60 % 60)) ++ (58 ∷ two_digits (s % 60))) → all ≡ time_text (v - midnight)
  text-is one all first last =
      last
      ∙ ap (λ (l : List ℕ). l ++ ((58 ∷ two_digits (s / 60 % 60)) ++ (58 ∷ two_digits (s % 60)))) (first ∙ ap two_digits_or_more hours)
      ∙ ap (λ n. two_digits_or_more ((v - midnight) / 3600) ++ ((58 ∷ two_digits n) ++ (58 ∷ two_digits (s % 60)))) minutes
      ∙ ap (λ n. two_digits_or_more ((v - midnight) / 3600) ++ ((58 ∷ two_digits ((v - midnight) / 60 % 60)) ++ (58 ∷ two_digits n)))
      seconds

-- an hour below 100 has two digits, and a longer one has them behind the others
by-ten : (n : ℕ) (few : Bool) → nat_lt n 10 ≡ few → n < 100 → two_digits n ≡ (if few then codes "0" ++ decimal n else decimal n)
by-ten n true is below =
    let less = ltb-true n 10 is in
    let tens : 48 + n / 10 ≡ 48 = omega (arith, less) in
    let ones : 48 + n % 10 ≡ 48 + n = omega (arith, less) in
    rw (decimal_digit n less, tens, ones) refl
by-ten n false is below = sym (decimal_two n (ltb-false n 10 is) below)

pub short-hours : (n : ℕ) → n < 100 → two_digits n ≡ two_digits_or_more n
short-hours n below = by-ten n (nat_lt n 10) refl below

many-tens : (n : ℕ) (few : Bool) → nat_lt n 10 ≡ few → 100 ≤ n → (if few then codes "0" ++ decimal n else decimal n) ≡ decimal n
many-tens n true is many = let less = ltb-true n 10 is in absurd (omega (arith, less, many))
many-tens n false is many = refl

pub long-hours : (n : ℕ) → 100 ≤ n → n < 10 ^ 64 → decimal (n / 100) ++ two_digits (n % 100) ≡ two_digits_or_more n
long-hours n many fits =
    let hundreds : n / 10 / 10 ≡ n / 100 = omega arith in
    let tens : n / 10 % 10 ≡ n % 100 / 10 = omega arith in
    let ones : n % 10 ≡ n % 100 % 10 = omega arith in
    sym (many-tens n (nat_lt n 10) refl many
    ∙ decimal_step_wide n (omega (arith, many)) fits
    ∙ ap (λ (l : List ℕ). l ++ ((48 + n % 10) ∷ [])) (decimal_step_wide (n / 10) (omega (arith, many)) (omega (arith, fits)))
    ∙ append_assoc (decimal (n / 10 / 10)) ((48 + n / 10 % 10) ∷ []) ((48 + n % 10) ∷ [])
    ∙ rw (hundreds, tens, ones) refl)

-- one moment more
pub one-more : (n p m : ℕ) → IsBy n p → p ≤ m + 3600 → m < p + 86400 → IsBy (n + 1) m
one-more n p m by not_before within =
    let late = by.late in
    let early = by.early in
    record { late = omega (arith, late, not_before); early = omega (arith, early, within) }

pub later : (n k m : ℕ) → n ≤ k → IsBy n m → IsBy k m
later n k m upto by =
    let late = by.late in
    let early = by.early in
    record { late = omega (arith, upto, late); early = omega (arith, upto, early) }
