-- What the form of a time says of its columns, and that the tests of it are right.
use Rattle.cif_columns.proofs.Names.{All-append, All-cons, All-nil, All-replicate, ArePrintable, Bool, IsHourMinute, IsPrintable, List}
use Rattle.cif_columns.proofs.Names.{None, Some, [], and_from, and_parts, ap, arith, cond, eqb-true, false, get_or, inl, inr}
use Rattle.cif_columns.proofs.Names.{is_ascii_digit, is_blank, is_clock, length, ltb-true, nat_eq, nat_lt, nat_tests, or_cases, or_right}
use Rattle.cif_columns.proofs.Names.{pointwise, refl, replicate, rules, subst, sym, text_from_reads, true, two_digits, ℕ, ⊎_elim, ◌%◌, ◌&&◌}
use Rattle.cif_columns.proofs.Names.{◌*◌, ◌+◌, ◌-◌, ◌/◌, ◌<◌, ◌||◌, ◌∷◌, ◌≡◌, ◌≤◌, ◌⊎◌}
use Rattle.cif_columns.proofs.DigitsLemmas.{digit_is}
use Rattle.cif_columns.specs.PublicTime as public
use Rattle.cif_columns.specs.WorkTime as work

-- what the test of a digit says
digit_in : (c : ℕ) → is_ascii_digit c ≡ true → (48 ≤ c) × (c ≤ 57)
digit_in c h = grind (arith, nat_tests)

-- two digits are those of their number
pair_of : (a b : ℕ) → 48 ≤ a → a ≤ 57 → 48 ≤ b → b ≤ 57 → a ∷ b ∷ [] ≡ two_digits ((a - 48) * 10 + (b - 48))
pair_of a b la ha lb hb =
    let tens : 48 + ((a - 48) * 10 + (b - 48)) / 10 ≡ a = omega arith in
    let ones : 48 + ((a - 48) * 10 + (b - 48)) % 10 ≡ b = omega arith in
    rw (tens, ones)

-- columns that pass the test are an hour and a minute
pub hour_minute : (a b c d : ℕ) → is_clock a b c d ≡ true → IsHourMinute (a ∷ b ∷ c ∷ d ∷ [])
hour_minute a b c d h =
    let p = and_parts _ _ h in
    let q = and_parts _ _ p.0 in
    let r = and_parts _ _ q.0 in
    let s = and_parts _ _ r.0 in
    let t = and_parts _ _ s.0 in
    let da = digit_in a t.0 in
    let db = digit_in b t.1 in
    let dc = digit_in c s.1 in
    let dd = digit_in d r.1 in
    record {
      hour = (a - 48) * 10 + (b - 48);
      minute = (c - 48) * 10 + (d - 48);
      hour_in = ltb-true _ _ q.1;
      minute_in = ltb-true _ _ p.1;
      spelled = cc (pair_of a b da.0 da.1 db.0 db.1, pair_of c d dc.0 dc.1 dd.0 dd.1);
    }

-- an hour and a minute pass the test
pub is_clock-digits : (hour minute : ℕ) → hour < 24 → minute < 60
    → is_clock (48 + hour / 10) (48 + hour % 10) (48 + minute / 10) (48 + minute % 10) ≡ true
is_clock-digits hour minute h m =
    let a : is_ascii_digit (48 + hour / 10) ≡ true = digit_is (hour / 10) (omega arith) in
    let b : is_ascii_digit (48 + hour % 10) ≡ true = digit_is (hour % 10) (omega arith) in
    let c : is_ascii_digit (48 + minute / 10) ≡ true = digit_is (minute / 10) (omega arith) in
    let d : is_ascii_digit (48 + minute % 10) ≡ true = digit_is (minute % 10) (omega arith) in
    let hours : (48 + hour / 10 - 48) * 10 + (48 + hour % 10 - 48) ≡ hour = omega arith in
    let minutes : (48 + minute / 10 - 48) * 10 + (48 + minute % 10 - 48) ≡ minute = omega arith in
    let in_day : nat_lt hour 24 ≡ true = grind (arith, nat_tests) in
    let in_hour : nat_lt minute 60 ≡ true = grind (arith, nat_tests) in
    rw (a, b, c, d, hours, minutes, in_day, in_hour)

-- a comparison with spaces tests them
pub spaces_are : (columns : List ℕ) → pointwise nat_eq columns (replicate (length columns) 32) ≡ is_blank columns
spaces_are [] = refl
spaces_are (c ∷ columns) = ap (λ b. nat_eq c 32 && b) (spaces_are columns)

-- columns that are all spaces
blank_is : (columns : List ℕ) → is_blank columns ≡ true → columns ≡ replicate (length columns) 32
blank_is [] h = refl
blank_is (c ∷ columns) h =
    let p : (nat_eq c 32 ≡ true) × (is_blank columns ≡ true) = and_parts _ _ h in
    cc (eqb-true c 32 p.0, blank_is columns p.1)

pub four : (xs : List ℕ) → length xs ≡ 4 → xs ≡ get_or xs 0 0 ∷ get_or xs 1 0 ∷ get_or xs 2 0 ∷ get_or xs 3 0 ∷ []
four xs h = text_from_reads xs _ h (search rules)

pub five : (xs : List ℕ) → length xs ≡ 5 → xs ≡ get_or xs 0 0 ∷ get_or xs 1 0 ∷ get_or xs 2 0 ∷ get_or xs 3 0 ∷ get_or xs 4 0 ∷ []
five xs h = text_from_reads xs _ h (search rules)

chosen_at : (b : Bool) (columns time : List ℕ) → b ≡ true → columns ≡ time → cond b (Some columns) None ≡ Some time
chosen_at true columns time h same = ap Some same
chosen_at false columns time h same = cc

mark_is : (half : ℕ) → nat_eq half 32 || nat_eq half 72 ≡ true → (half ≡ 32) ⊎ (half ≡ 72)
mark_is half h =
    ⊎_elim (λ (space : nat_eq half 32 ≡ true). inl (eqb-true half 32 space)) (λ late. inr (eqb-true half 72 late)) (or_cases _ _ h)

mark_passes : (half : ℕ) → (half ≡ 32) ⊎ (half ≡ 72) → nat_eq half 32 || nat_eq half 72 ≡ true
mark_passes half (inl e) = rw e
mark_passes half (inr e) = rw e

-- ---- public times

public_form : (b t : Bool) (columns : List ℕ) → length columns ≡ 4 → is_blank columns ≡ b
    → is_clock (get_or columns 0 0) (get_or columns 1 0) (get_or columns 2 0) (get_or columns 3 0) ≡ t → b || t ≡ true
    → public.IsPublicTime columns
public_form true t columns width blank clock h = inl (rw width at (blank_is columns blank))
public_form false true columns width blank clock h =
    let P : List ℕ → Type 0 = IsHourMinute in
    inr (subst P (sym (four columns width)) (hour_minute _ _ _ _ clock))
public_form false false columns width blank clock h = cc

-- what passes the test stands in its four columns
pub public-stands : (columns : List ℕ) → length columns ≡ 4 → public.is_public_time columns ≡ true → public.StandsIn columns columns
public-stands columns width h = record { same = refl; form = public_form (is_blank columns) _ columns width refl refl h }

public_passes : (columns : List ℕ) → public.IsPublicTime columns → public.is_public_time columns ≡ true
public_passes columns (inl blank) = rw blank
public_passes columns (inr clock) = rw clock.spelled (or_right _ _ (is_clock-digits clock.hour clock.minute clock.hour_in clock.minute_in))

-- what stands in columns is found there
pub public_time_in-stands : (columns time : List ℕ) → public.StandsIn columns time → public.public_time_in columns ≡ Some time
public_time_in-stands columns time s = chosen_at _ columns time (public_passes columns s.form) s.same

-- ---- working times

work_form : (b t m : Bool) (columns : List ℕ) → length columns ≡ 5 → is_blank columns ≡ b
    → is_clock (get_or columns 0 0) (get_or columns 1 0) (get_or columns 2 0) (get_or columns 3 0) ≡ t
    → nat_eq (get_or columns 4 0) 32 || nat_eq (get_or columns 4 0) 72 ≡ m → b || (t && m) ≡ true → work.IsWorkTime columns
work_form true t m columns width blank clock mark h = inl (rw width at (blank_is columns blank))
work_form false true true columns width blank clock mark h =
    inr (record {
      clock = get_or columns 0 0 ∷ get_or columns 1 0 ∷ get_or columns 2 0 ∷ get_or columns 3 0 ∷ [];
      half = get_or columns 4 0;
      spelled = five columns width;
      time = hour_minute _ _ _ _ clock;
      mark = mark_is (get_or columns 4 0) mark;
    })
work_form false true false columns width blank clock mark h = cc
work_form false false m columns width blank clock mark h = cc

-- what passes the test stands in its five columns
pub work-stands : (columns : List ℕ) → length columns ≡ 5 → work.is_work_time columns ≡ true → work.StandsIn columns columns
work-stands columns width h = record { same = refl; form = work_form (is_blank columns) _ _ columns width refl refl refl h }

work_passes : (columns : List ℕ) → work.IsWorkTime columns → work.is_work_time columns ≡ true
work_passes columns (inl blank) = rw blank
work_passes columns (inr timed) =
    let time = timed.time in
    rw (timed.spelled, time.spelled)
    (or_right _ _ (and_from _ _ (is_clock-digits time.hour time.minute time.hour_in time.minute_in) (mark_passes timed.half timed.mark)))

-- what stands in columns is found there
pub work_time_in-stands : (columns time : List ℕ) → work.StandsIn columns time → work.work_time_in columns ≡ Some time
work_time_in-stands columns time s = chosen_at _ columns time (work_passes columns s.form) s.same

-- ---- printable

digit_printable : (d : ℕ) → d < 10 → IsPrintable (48 + d)
digit_printable d h = (omega arith, omega arith)

pub digits_printable : (n : ℕ) → n < 100 → ArePrintable (two_digits n)
digits_printable n h =
    All-cons IsPrintable (48 + n / 10) ((48 + n % 10) ∷ []) (digit_printable (n / 10) (omega arith))
    (All-cons IsPrintable (48 + n % 10) [] (digit_printable (n % 10) (omega arith)) (All-nil IsPrintable))

clock_printable : (columns : List ℕ) → IsHourMinute columns → ArePrintable columns
clock_printable columns h =
    let below : h.hour < 100 = omega (arith, h.hour_in) in
    let minutes : h.minute < 100 = omega (arith, h.minute_in) in
    rw h.spelled
    (All-append IsPrintable (two_digits h.hour) (two_digits h.minute) (digits_printable h.hour below) (digits_printable h.minute minutes))

mark_printable : (half : ℕ) → (half ≡ 32) ⊎ (half ≡ 72) → IsPrintable half
mark_printable half (inl e) = (omega arith, omega arith)
mark_printable half (inr e) = (omega arith, omega arith)

-- times are printable
pub public_printable : (columns : List ℕ) → public.IsPublicTime columns → ArePrintable columns
public_printable columns (inl blank) = rw blank (All-replicate IsPrintable 4 32 (omega arith, omega arith))
public_printable columns (inr clock) = clock_printable columns clock

pub work_printable : (columns : List ℕ) → work.IsWorkTime columns → ArePrintable columns
work_printable columns (inl blank) = rw blank (All-replicate IsPrintable 5 32 (omega arith, omega arith))
work_printable columns (inr timed) =
    rw timed.spelled
    (All-append IsPrintable timed.clock (timed.half ∷ []) (clock_printable timed.clock timed.time)
    (All-cons IsPrintable timed.half [] (mark_printable timed.half timed.mark) (All-nil IsPrintable)))
