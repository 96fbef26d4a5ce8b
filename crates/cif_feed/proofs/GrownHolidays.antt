-- Holidays that grow by one code, and dates by one day.
use Rattle.cif_feed.proofs.Names.{Bool, Contains, Contains-cases, Contains-first, Contains-permutation, Contains-rest, E, G, HasMore}
use Rattle.cif_feed.proofs.Names.{HolidayCode, Holidays, IsHoliday, IsNonDecreasing, IsNonDecreasingBy-insert, IsPermutation-insert}
use Rattle.cif_feed.proofs.Names.{IsPermutation-sym, IsTrue, List, Names, X, arith, dates_of, false, get_or_default, inl, inr, insert}
use Rattle.cif_feed.proofs.Names.{length, refl, slice_index, subst, sym, true, ℕ, ⊎_elim, ◌<◌, ◌↔◌, ◌∷◌, ◌≡◌, ◌≤◌, ◌⊎◌}
use Rattle.std.proofs.Common.{if◌then◌else◌}
use Rattle.cif_feed.specs.declared.holidays.HolidayDates.{HolidayDates}

-- dates with one more among them
pub dates-inserted : (xs ys : List ℕ) (i day : ℕ) → ys ≡ insert xs i day → (d : ℕ) → Contains ys d ↔ (Contains xs d ⊎ (d ≡ day))
dates-inserted xs ys i day is d = (
  λ has. ⊎_elim (λ first. inr (sym first)) (λ rest. inl rest)
      (Contains-cases day xs d (Contains-permutation (insert xs i day) (day ∷ xs) d
      (IsPermutation-sym (day ∷ xs) (insert xs i day) (IsPermutation-insert xs i day))
      (subst (λ (l : List ℕ). Contains l d) is has))),
  λ has. subst (λ (l : List ℕ). Contains l d) (sym is) (Contains-permutation (day ∷ xs) (insert xs i day) d (IsPermutation-insert xs i day)
      (⊎_elim (λ old. Contains-rest day xs d old)
      (λ same. subst (λ (n : ℕ). Contains (day ∷ xs) n) (sym same) (Contains-first day xs)) has)),
)

-- two codes are one or not
same_code : (a b : HolidayCode) → (a ≡ b) ⊎ (a ≡ b → ⊥)
same_code X X = inl refl
same_code E E = inl refl
same_code G G = inl refl
same_code _ _ = inr (λ e. absurd (cc))

-- one code is named and has these days more, and the others are as before
pub has-more : (old new : Holidays) (code : HolidayCode) (P : ℕ → Type 0) → Names new code
    → ((d : ℕ) → IsHoliday new code d ↔ (IsHoliday old code d ⊎ P d))
    → ((other : HolidayCode) → (other ≡ code → ⊥) → dates_of new other ≡ dates_of old other)
    → (at : HolidayCode) → at ≡ code → HasMore old at P new
has-more old new code P named days others at is_at = subst (λ (c : HolidayCode). HasMore old c P new) (sym is_at) (record {
  names = λ other. ⊎_elim
      (λ is. (λ h. inr is, λ h. subst (λ (c : HolidayCode). Names new c) (sym is) named))
      (λ apart. (
        λ h. inl (subst (λ (x : HolidayDates). IsTrue x.is_named) (others other apart) h),
        λ h. ⊎_elim (λ was. subst (λ (x : HolidayDates). IsTrue x.is_named) (sym (others other apart)) was) (λ is. absurd (apart is)) h,
      ))
      (same_code other code);
  days = λ other d. ⊎_elim
      (λ is. (
        λ h. ⊎_elim (λ was. inl (subst (λ (c : HolidayCode). IsHoliday old c d) (sym is) was)) (λ p. inr (is, p))
            ((days d).0 (subst (λ (c : HolidayCode). IsHoliday new c d) is h)),
        λ h. subst (λ (c : HolidayCode). IsHoliday new c d) (sym is)
            ((days d).1 (⊎_elim (λ was. inl (subst (λ (c : HolidayCode). IsHoliday old c d) is was)) (λ p. inr p.1) h)),
      ))
      (λ apart. (
        λ h. inl (subst (λ (x : HolidayDates). Contains x.days.items d) (others other apart) h),
        λ h. ⊎_elim (λ was. subst (λ (x : HolidayDates). Contains x.days.items d) (sym (others other apart)) was)
            (λ p. absurd (apart p.0)) h,
      ))
      (same_code other code);
})

-- no day more
pub no-more : (A : Type 0) → A ↔ (A ⊎ ⊥)
no-more A = (λ a. inl a, λ h. ⊎_elim (λ a. a) (λ none. absurd none) h)

-- the codes other than one
pub others-X : (P : HolidayCode → Type 0) → P E → P G → (other : HolidayCode) → (other ≡ X → ⊥) → P other
others-X P e g X apart = absurd (apart refl)
others-X P e g E apart = e
others-X P e g G apart = g

pub others-E : (P : HolidayCode → Type 0) → P X → P G → (other : HolidayCode) → (other ≡ E → ⊥) → P other
others-E P x g X apart = x
others-E P x g E apart = absurd (apart refl)
others-E P x g G apart = g

pub others-G : (P : HolidayCode → Type 0) → P X → P E → (other : HolidayCode) → (other ≡ G → ⊥) → P other
others-G P x e X apart = x
others-G P x e E apart = e
others-G P x e G apart = absurd (apart refl)

-- dates rise with one more at its place
pub rising-inserted : (xs ys : List ℕ) (i day : ℕ) (fits : Bool) → ys ≡ (if fits then insert xs i day else xs) → IsNonDecreasing xs
    → i ≤ length xs → ((k : ℕ) → k < i → slice_index xs k < day) → ((k : ℕ) → i ≤ k → k < length xs → day ≤ slice_index xs k)
    → IsNonDecreasing ys
rising-inserted xs ys i day true is up within low high = rw is (IsNonDecreasingBy-insert (λ d. d) xs i day up within
    (λ k d below. omega (arith, get_or_default xs k d 0 (omega arith), low k below))
    (λ k d from below. omega (arith, get_or_default xs k d 0 below, high k from below)))
rising-inserted xs ys i day false is up within low high = rw is up

-- dates of which one is named again
pub dates-there : (xs : List ℕ) (day : ℕ) → Contains xs day → (d : ℕ) → Contains xs d ↔ (Contains xs d ⊎ (d ≡ day))
dates-there xs day there d = (λ has. inl has, λ has. ⊎_elim (λ old. old) (λ same. subst (λ (n : ℕ). Contains xs n) (sym same) there) has)
