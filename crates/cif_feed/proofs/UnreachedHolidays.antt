-- Which holidays don't reach is computed by `unreached`.
use Rattle.cif_feed.proofs.Names.{Contains, G, E, HolidayCode, Holidays, IsNonDecreasing, List, None, Option, PublishedParts, PublishedSchedule}
use Rattle.cif_feed.proofs.Names.{Some, X, [], ap, arith, cond, false, get_or, inl, inr, length, refl, same_Some, subst}
use Rattle.cif_feed.proofs.Names.{sym, true, ℕ, ⊎_elim, ◌+◌, ◌<◌, ◌∙◌, ◌∷◌, ◌≡◌, ◌≤◌, ◌⊎◌}
use Rattle.cif_feed.specs.Unreached.{DoesNotReach, far_dates, is_code, is_far, is_of_code, unreached}
use Rattle.cif_feed.specs.declared.unreached.Unreached.{Unreached}
use Rattle.cif_feed.specs.Holidays.{dates_of}
use Rattle.std.specs.List.{Any, list_any}
use Rattle.std.proofs.lemmas.List.Folds.{Any-from_list_any, list_any-from_Any}
use Rattle.std.proofs.Common.{lt-ltb, ltb-true, nat_lt, ◌-◌, ◌||◌}
use Rattle.std.proofs.lemmas.{Grind.get_or_default_zero, List.Elements.Contains-get_or}
use Rattle.std.proofs.lemmas.Bool.{false≢true, or_cases, or_right}

-- ---- codes

code-is : (code : HolidayCode) (other : Option HolidayCode) → is_code code other ≡ true → other ≡ Some code
code-is X (Some X) is = refl
code-is E (Some E) is = refl
code-is G (Some G) is = refl
code-is code None is = absurd (false≢true is)
code-is X (Some E) is = absurd (false≢true is)
code-is X (Some G) is = absurd (false≢true is)
code-is E (Some X) is = absurd (false≢true is)
code-is E (Some G) is = absurd (false≢true is)
code-is G (Some X) is = absurd (false≢true is)
code-is G (Some E) is = absurd (false≢true is)

is-code : (code : HolidayCode) (other : Option HolidayCode) → other ≡ Some code → is_code code other ≡ true
is-code X other is = rw is refl
is-code E other is = rw is refl
is-code G other is = rw is refl

-- ---- dates

-- of a window that they don't reach
record AreFar (code : HolidayCode) (from upto : ℕ) (days : List ℕ) (u : Unreached) : Type 0 where
  code_is : u.code ≡ code
  is_first : Contains days u.first
  none_before : (d : ℕ) → Contains days d → u.first ≤ d
  is_last : Contains days u.last
  none_after : (d : ℕ) → Contains days d → d ≤ u.last
  window_first : u.window_first ≡ from
  window_last : u.window_last ≡ upto
  far : (u.last + 250 < upto) ⊎ (from + 250 < u.first)

far-from : (first last from upto : ℕ) → is_far first last from upto ≡ true → (last + 250 < upto) ⊎ (from + 250 < first)
far-from first last from upto is = ⊎_elim
    (λ early. inl (ltb-true (last + 250) upto early))
    (λ late. inr (ltb-true (from + 250) first late))
    (or_cases (nat_lt (last + 250) upto) (nat_lt (from + 250) first) is)

is-far : (first last from upto : ℕ) → (last + 250 < upto) ⊎ (from + 250 < first) → is_far first last from upto ≡ true
is-far first last from upto is = ⊎_elim
    (λ early. ap (λ b. b || nat_lt (from + 250) first) (lt-ltb (last + 250) upto early))
    (λ late. or_right (nat_lt (last + 250) upto) (nat_lt (from + 250) first) (lt-ltb (from + 250) first late))
    is

-- the first and the last of dates that rise
module _ (days : List ℕ) (rising : IsNonDecreasing days) (n : ℕ) (long : length days ≡ n + 1) where
  least : (d : ℕ) → Contains days d → get_or days 0 0 ≤ d
  least d (k, below, at) =
      let low : get_or days 0 d ≤ get_or days k d = rising 0 k d (omega arith) below in
      let same : get_or days 0 d ≡ get_or days 0 0 = get_or_default_zero days 0 d (omega (arith, long)) in
      let there : get_or days k d ≡ d = at in
      omega (arith, low, same, there)

  greatest : (d : ℕ) → Contains days d → d ≤ get_or days n 0
  greatest d (k, below, at) =
      let within : k < length days = below in
      let high : get_or days k d ≤ get_or days n d = rising k n d (omega (arith, within, long)) (omega (arith, long)) in
      let same : get_or days n d ≡ get_or days n 0 = get_or_default_zero days n d (omega (arith, long)) in
      let there : get_or days k d ≡ d = at in
      omega (arith, high, same, there)

  first-in : Contains days (get_or days 0 0)
  first-in = Contains-get_or days 0 0 (omega (arith, long))

  last-in : Contains days (get_or days n 0)
  last-in = Contains-get_or days n 0 (omega (arith, long))

found : (code : HolidayCode) (from upto : ℕ) (days : List ℕ) (u : Unreached) → IsNonDecreasing days → far_dates code from upto days ≡ Some u →
    AreFar code from upto days u
found code from upto [] u rising is = cc
found code from upto (day ∷ rest) u rising is =
    elim (is_far day last from upto) as (λ b. is_far day last from upto ≡ b → cond b (Some made) None ≡ Some u →
    AreFar code from upto (day ∷ rest) u) [
      | true ↦ λ far same. subst (AreFar code from upto (day ∷ rest)) (same_Some made u same) (are far)
      | false ↦ λ far same. cc
    ] refl is
  where
    last : ℕ
    last = get_or (day ∷ rest) (length rest) 0

    made : Unreached
    made = record { code = code; first = day; last = last; window_first = from; window_last = upto }

    are : is_far day last from upto ≡ true → AreFar code from upto (day ∷ rest) made
    are far = record {
      code_is = refl;
      is_first = first-in (day ∷ rest) rising (length rest) (omega arith);
      none_before = least (day ∷ rest) rising (length rest) (omega arith);
      is_last = last-in (day ∷ rest) rising (length rest) (omega arith);
      none_after = greatest (day ∷ rest) rising (length rest) (omega arith);
      window_first = refl;
      window_last = refl;
      far = far-from day last from upto far;
    }

abbrev made : HolidayCode → ℕ → ℕ → ℕ → ℕ → Unreached
made c first last window_first window_last =
    record { code = c; first = first; last = last; window_first = window_first; window_last = window_last }

only : (code : HolidayCode) (from upto : ℕ) (days : List ℕ) (u : Unreached) → IsNonDecreasing days → AreFar code from upto days u →
    far_dates code from upto days ≡ Some u
only code from upto [] u rising are = let (k, below, at) = are.is_first in let b : k < 0 = below in absurd (omega arith)
only code from upto (day ∷ rest) u rising are =
    let first : day ≡ u.first =
    omega (arith, least (day ∷ rest) rising (length rest) (omega arith) u.first are.is_first, are.none_before day (first-in (day ∷ rest) rising (length rest) (omega arith))) in
    let last : get_or (day ∷ rest) (length rest) 0 ≡ u.last =
    omega (arith, greatest (day ∷ rest) rising (length rest) (omega arith) u.last are.is_last, are.none_after _ (last-in (day ∷ rest) rising (length rest) (omega arith))) in
    let far : is_far day (get_or (day ∷ rest) (length rest) 0) from upto ≡ true =
    subst (λ d. is_far d (get_or (day ∷ rest) (length rest) 0) from upto ≡ true) (sym first)
    (subst (λ d. is_far u.first d from upto ≡ true) (sym last) (is-far u.first u.last from upto are.far)) in
    ap (λ b. cond b (Some (made code day (get_or (day ∷ rest) (length rest) 0) from upto)) None) far
    ∙ ap (λ c. Some (made c day (get_or (day ∷ rest) (length rest) 0) from upto)) (sym are.code_is)
    ∙ ap (λ d. Some (made u.code d (get_or (day ∷ rest) (length rest) 0) from upto)) first
    ∙ ap (λ d. Some (made u.code u.first d from upto)) last
    ∙ ap (λ d. Some (made u.code u.first u.last d upto)) (sym are.window_first)
    ∙ ap (λ d. Some (made u.code u.first u.last u.window_first d)) (sym are.window_last)

-- ---- the holidays of a code

module _ (h : Holidays) (p : PublishedParts) where
  abbrev days_of : HolidayCode → List ℕ
  days_of code = (dates_of h code).days.items

  rising-days : (code : HolidayCode) → IsNonDecreasing (days_of code)
  rising-days code = (dates_of h code).rising

  used : (code : HolidayCode) → list_any (is_of_code code) p.schedules ≡ true → Any (λ (s : PublishedSchedule). s.code ≡ Some code) p.schedules
  used code is = let (k, s, below, at, has) = Any-from_list_any (is_of_code code) p.schedules is in (k, s, below, at, code-is code s.code has)

  is-used : (code : HolidayCode) → Any (λ (s : PublishedSchedule). s.code ≡ Some code) p.schedules → list_any (is_of_code code) p.schedules ≡ true
  is-used code (k, s, below, at, has) = list_any-from_Any (is_of_code code) p.schedules (k, s, below, at, is-code code s.code has)

  pub unreached-found : (code : HolidayCode) (u : Unreached) → unreached h p code ≡ Some u → (u.code ≡ code) × DoesNotReach h p u
  unreached-found code u is =
      elim (list_any (is_of_code code) p.schedules) as (λ b. list_any (is_of_code code) p.schedules ≡ b →
      cond b (far_dates code p.header.first p.header.last (days_of code)) None ≡ Some u → (u.code ≡ code) × DoesNotReach h p u) [
        | true ↦ λ has same.
            let are = found code p.header.first p.header.last (days_of code) u (rising-days code) same in (
              are.code_is,
              record {
                has_code = subst (λ c. Any (λ (s : PublishedSchedule). s.code ≡ Some c) p.schedules) (sym are.code_is) (used code has);
                is_first = subst (λ c. Contains (days_of c) u.first) (sym are.code_is) are.is_first;
                none_before = subst (λ c. (d : ℕ) → Contains (days_of c) d → u.first ≤ d) (sym are.code_is) are.none_before;
                is_last = subst (λ c. Contains (days_of c) u.last) (sym are.code_is) are.is_last;
                none_after = subst (λ c. (d : ℕ) → Contains (days_of c) d → d ≤ u.last) (sym are.code_is) are.none_after;
                window_first = are.window_first;
                window_last = are.window_last;
                far = are.far;
              },
            )
        | false ↦ λ has same. cc
      ] refl is

  pub unreached-only : (u : Unreached) → DoesNotReach h p u → unreached h p u.code ≡ Some u
  unreached-only u is =
      ap (λ b. cond b (far_dates u.code p.header.first p.header.last (days_of u.code)) None) (is-used u.code is.has_code)
      ∙ only u.code p.header.first p.header.last (days_of u.code) u (rising-days u.code) (record {
        code_is = refl;
        is_first = is.is_first;
        none_before = is.none_before;
        is_last = is.is_last;
        none_after = is.none_after;
        window_first = is.window_first;
        window_last = is.window_last;
        far = is.far;
      })
