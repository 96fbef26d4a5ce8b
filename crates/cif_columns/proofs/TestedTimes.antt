-- Times, by what stands in each of their columns.
use Rattle.cif_columns.proofs.Names.{Bool, [], arith, false, inl, inr, is_ascii_digit, is_blank, is_clock, nat_eq, nat_lt, nat_tests}
use Rattle.cif_columns.proofs.Names.{or_right, refl, true, ℕ, ◌&&◌, ◌*◌, ◌+◌, ◌-◌, ◌<◌, ◌||◌, ◌∷◌, ◌≡◌, ◌≤◌, ◌⊎◌}
use Rattle.std.specs.Cmp.Derive.{both_true}

-- a byte in a range, or a space
abbrev pub InOrSpace : ℕ → ℕ → ℕ → Type 0
InOrSpace least most b = ((least ≤ b) × (b ≤ most)) ⊎ (b ≡ 32)

in_range : (least most b : ℕ) → InOrSpace least most b → (b ≡ 32 → ⊥) → (least ≤ b) × (b ≤ most)
in_range least most b (inl h) other = h
in_range least most b (inr e) other = absurd (other e)

digit : (b : ℕ) → 48 ≤ b → b ≤ 57 → is_ascii_digit b ≡ true
digit b least most = grind (arith, nat_tests)

-- what four columns have, so that they are an hour and a minute, or blank
pub record IsClockOrBlank (a b c d : ℕ) : Type 0 where
  pub tens : InOrSpace 48 50 a
  pub ones : InOrSpace 48 57 b
  pub minute_tens : InOrSpace 48 53 c
  pub minute_ones : InOrSpace 48 57 d
  pub on_b : a ≡ 32 → b ≡ 32
  pub on_c : b ≡ 32 → c ≡ 32
  pub on_d : c ≡ 32 → d ≡ 32
  pub back_a : b ≡ 32 → a ≡ 32
  pub back_b : c ≡ 32 → b ≡ 32
  pub back_c : d ≡ 32 → c ≡ 32
  pub late : a ≡ 50 → b ≤ 51

late_at : (a b : ℕ) → a ≤ 50 → b ≤ 57 → (a ≡ 50 → b ≤ 51) → (a - 48) * 10 + (b - 48) < 24
late_at a b ha hb late = at (nat_eq a 50) refl
  where
    at : (s : Bool) → nat_eq a 50 ≡ s → (a - 48) * 10 + (b - 48) < 24
    at true e =
        let two : a ≡ 50 = grind (arith, nat_tests) in
        let most = late two in
        omega (arith, two, most)
    at false e =
        let less : a < 50 = grind (arith, nat_tests) in
        omega (arith, less)

pub clock_passes : (a b c d : ℕ) → IsClockOrBlank a b c d → (a ≡ 32 → ⊥) → is_clock a b c d ≡ true
clock_passes a b c d h other =
    let ra = in_range 48 50 a h.tens other in
    let rb = in_range 48 57 b h.ones (λ e. other (h.back_a e)) in
    let rc = in_range 48 53 c h.minute_tens (λ e. other (h.back_a (h.back_b e))) in
    let rd = in_range 48 57 d h.minute_ones (λ e. other (h.back_a (h.back_b (h.back_c e)))) in
    let da : is_ascii_digit a ≡ true = digit a ra.0 (omega (arith, ra.1)) in
    let db : is_ascii_digit b ≡ true = digit b rb.0 rb.1 in
    let dc : is_ascii_digit c ≡ true = digit c rc.0 (omega (arith, rc.1)) in
    let dd : is_ascii_digit d ≡ true = digit d rd.0 rd.1 in
    let hours = late_at a b ra.1 rb.1 h.late in
    let hour : nat_lt ((a - 48) * 10 + (b - 48)) 24 ≡ true = grind (arith, nat_tests, hours) in
    let minutes : (c - 48) * 10 + (d - 48) < 60 = omega (arith, rc.1, rd.1) in
    let minute : nat_lt ((c - 48) * 10 + (d - 48)) 60 ≡ true = grind (arith, nat_tests, minutes) in
    rw (da, db, dc, dd, hour, minute)

pub public_passes : (a b c d : ℕ) → IsClockOrBlank a b c d → is_blank (a ∷ b ∷ c ∷ d ∷ []) || is_clock a b c d ≡ true
public_passes a b c d h = at (nat_eq a 32) refl
  where
    at : (s : Bool) → nat_eq a 32 ≡ s → is_blank (a ∷ b ∷ c ∷ d ∷ []) || is_clock a b c d ≡ true
    at true e =
        let first : a ≡ 32 = grind (arith, nat_tests) in
        rw (first, h.on_b first, h.on_c (h.on_b first), h.on_d (h.on_c (h.on_b first)))
    at false e = or_right _ _ (clock_passes a b c d h (λ space. let clash : ⊥ = grind (arith, nat_tests) in clash))

mark_passes : (f : ℕ) → InOrSpace 72 72 f → nat_eq f 32 || nat_eq f 72 ≡ true
mark_passes f (inl h) =
    let same : f ≡ 72 = omega (arith, h.0, h.1) in
    rw same
mark_passes f (inr e) = rw e

pub work_passes : (a b c d f : ℕ) → IsClockOrBlank a b c d → InOrSpace 72 72 f → (d ≡ 32 → f ≡ 32)
    → is_blank (a ∷ b ∷ c ∷ d ∷ f ∷ []) || (is_clock a b c d && (nat_eq f 32 || nat_eq f 72)) ≡ true
work_passes a b c d f h mark on_f = at (nat_eq a 32) refl
  where
    at : (s : Bool) → nat_eq a 32 ≡ s → is_blank (a ∷ b ∷ c ∷ d ∷ f ∷ []) || (is_clock a b c d && (nat_eq f 32 || nat_eq f 72)) ≡ true
    at true e =
        let first : a ≡ 32 = grind (arith, nat_tests) in
        let fourth = h.on_d (h.on_c (h.on_b first)) in
        rw (first, h.on_b first, h.on_c (h.on_b first), fourth, on_f fourth)
    at false e =
        or_right _ _ (both_true (clock_passes a b c d h (λ space. let clash : ⊥ = grind (arith, nat_tests) in clash)) (mark_passes f mark))
