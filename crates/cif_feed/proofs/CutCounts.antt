-- How many records have a cut, one record after another.
use Rattle.cif_feed.proofs.Names.{AppliesAsPublished, AppliesOnAny, Bool, Contains, HasCut, HolidayCode, Holidays, IsCountOf, IsFirstFrom}
use Rattle.cif_feed.proofs.Names.{IsHolidayOf, IsHolidayOn, IsTrue, List, None, Option, PublishedTerms, Some, [], ap, arith, ended, false}
use Rattle.cif_feed.proofs.Names.{false≢true, get_or, inl, inr, is_some, length, map, plus_if, prepared_last, refl, subst, sym, take}
use Rattle.cif_feed.proofs.Names.{take_more, true, ℕ, ⊎_elim, ◌++◌, ◌+◌, ◌<◌, ◌↔◌, ◌∙◌, ◌∷◌, ◌≡◌, ◌≤◌}

module _ {A : Type 0} (P : A → Type 0) where
  count-yes : (xs : List A) (x : A) (n : ℕ) → P x → IsCountOf P xs n → IsCountOf P (xs ++ x ∷ []) (n + 1)
  count-yes [] x n has none = inl (has, (n, none, refl))
  count-yes (y ∷ ys) x n has count = ⊎_elim
      (λ yes. inl (yes.0, (yes.1.0 + 1, count-yes ys x yes.1.0 has yes.1.1, ap (λ m. m + 1) yes.1.2)))
      (λ no. inr (no.0, count-yes ys x n has no.1))
      count

  count-no : (xs : List A) (x : A) (n : ℕ) → ¬ P x → IsCountOf P xs n → IsCountOf P (xs ++ x ∷ []) n
  count-no [] x n lacks none = inr (lacks, none)
  count-no (y ∷ ys) x n lacks count = ⊎_elim
      (λ yes. inl (yes.0, (yes.1.0, count-no ys x yes.1.0 lacks yes.1.1, yes.1.2)))
      (λ no. inr (no.0, count-no ys x n lacks no.1))
      count

  module _ (xs : List A) (i : ℕ) (x : A) (n : ℕ) (below : i < length xs) (is : x ≡ get_or xs i x) (count : IsCountOf P (take i xs) n) where
    one_more : take (i + 1) xs ≡ take i xs ++ x ∷ []
    one_more = take_more xs i x below ∙ ap (λ (y : A). take i xs ++ y ∷ []) (sym is)

    pub count-more : (b : Bool) → IsTrue b ↔ P x → IsCountOf P (take (i + 1) xs) (plus_if n b)
    count-more true decided = subst (λ l. IsCountOf P l (n + 1)) (sym one_more) (count-yes (take i xs) x n (decided.0 refl) count)
    count-more false decided =
        subst (λ l. IsCountOf P l n) (sym one_more) (count-no (take i xs) x n (λ has. false≢true (decided.1 has)) count)

pub within-more : (n i : ℕ) (b : Bool) → n ≤ i → plus_if n b ≤ i + 1
within-more n i true few = omega arith
within-more n i false few = omega arith

-- the counts of properties that are the same are the same
pub count-same : {A : Type 0} (P Q : A → Type 0) → ((x : A) → P x ↔ Q x) → (xs : List A) (n : ℕ) → IsCountOf P xs n → IsCountOf Q xs n
count-same P Q same [] n none = none
count-same P Q same (x ∷ xs) n count = ⊎_elim
    (λ yes. inl ((same x).0 yes.0, (yes.1.0, count-same P Q same xs yes.1.0 yes.1.1, yes.1.2)))
    (λ no. inr (λ has. no.0 ((same x).1 has), count-same P Q same xs n no.1))
    count

pub count-map : {A C : Type 0} (f : A → C) (P : C → Type 0) (xs : List A) (n : ℕ) → IsCountOf (λ x. P (f x)) xs n → IsCountOf P (map f xs) n
count-map f P [] n none = none
count-map f P (x ∷ xs) n count = ⊎_elim
    (λ yes. inl (yes.0, (yes.1.0, count-map f P xs yes.1.0 yes.1.1, yes.1.2)))
    (λ no. inr (no.0, count-map f P xs n no.1))
    count

-- with one, there is one exactly if a first one is found
module _ {B : Type 0} (h : Holidays) (window_last : ℕ) (r : PublishedTerms B) (code : HolidayCode) (has : r.code ≡ Some code) (last : ℕ)
    (ends : last ≡ prepared_last window_last r) where
  cut-found : (d : ℕ) → IsFirstFrom (IsHolidayOn h code r.terms.days) r.terms.first last (Some d) → HasCut h window_last r
  cut-found d (from, upto, on, first) = (
    d,
    record {
      applies = record { begun = from; unfinished = subst (λ (n : ℕ). d ≤ n) ends upto; on_weekday = on.on_weekday };
      stops = subst (λ (c : Option HolidayCode). IsHolidayOf h c d) (sym has) on.listed;
    },
  )

  cut-none : IsFirstFrom (IsHolidayOn h code r.terms.days) r.terms.first last None → ¬ HasCut h window_last r
  cut-none none cut =
      none cut.0 cut.1.applies.begun (subst (λ (n : ℕ). cut.0 ≤ n) (sym ends) cut.1.applies.unfinished) (record {
        listed = subst (λ (c : Option HolidayCode). IsHolidayOf h c cut.0) has cut.1.stops;
        on_weekday = cut.1.applies.on_weekday;
      })

  pub cut-decided : (found : Option ℕ) → IsFirstFrom (IsHolidayOn h code r.terms.days) r.terms.first last found
      → IsTrue (is_some found) ↔ HasCut h window_last r
  cut-decided None none = (λ e. absurd (false≢true e), λ cut. absurd (cut-none none cut))
  cut-decided (Some d) found = (λ e. cut-found d found, λ cut. refl)

-- whether a record applies on one of some dates
pub on-any : {B : Type 0} (h : Holidays) (window_last : ℕ) (r : PublishedTerms B) (last : ℕ) → last ≡ prepared_last window_last r
    → (dates : List ℕ) (b : Bool) → IsTrue b ↔ ((d : ℕ) × Contains dates d × AppliesAsPublished h r.code (ended last r.terms) d)
    → (days : List ℕ) → dates ≡ days → IsTrue b ↔ AppliesOnAny (Contains days) h window_last r
on-any h window_last r last ends dates b decided days same =
    subst (λ l. IsTrue b ↔ AppliesOnAny (Contains l) h window_last r) same
    (subst (λ (n : ℕ). IsTrue b ↔ ((d : ℕ) × Contains dates d × AppliesAsPublished h r.code (ended n r.terms) d)) ends decided)
