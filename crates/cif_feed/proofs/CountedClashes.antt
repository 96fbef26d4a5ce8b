-- The clash days of records of which some don't count on their holidays: code by code, and at last of all that count.
use Rattle.cif_feed.proofs.Names.{AllPairs, AreClashDates, AreClashDatesOn, AreClashDays, AreMerged, ArePositionsOf, Bool, Contains}
use Rattle.cif_feed.proofs.Names.{Contains-append_left, Contains-cases, Contains-first, Contains-none, Contains-permutation, Contains-push}
use Rattle.cif_feed.proofs.Names.{Contains-push_cases, Contains-rest, CountOn, CountsAmong, E, G, HasCodeAt, HolidayCode, Holidays}
use Rattle.cif_feed.proofs.Names.{IsChosen, IsHoliday, IsHolidayOf, IsPermutation-sym, IsTrue, List, None, Option, PublishedTerms, Records}
use Rattle.cif_feed.proofs.Names.{SameRecords, Some, Terms, X, [], ap, arith, code_list, dates_of, drop, false, false≢true, get_or, inl}
use Rattle.cif_feed.proofs.Names.{inr, keyed, length, map, nat_cmp, option_map, published_by, refl, same_Some, slice_get, subst, sym, take}
use Rattle.cif_feed.proofs.Names.{take_all, take_more, true, ℕ, ⊎_elim, ◌++◌, ◌+◌, ◌-◌, ◌<◌, ◌↔◌, ◌∙◌, ◌∷◌, ◌≡◌, ◌⊎◌}
use Rattle.std.proofs.{Common.IsPermutation, Common.eqb, lemmas.Map.Keys.IsStrictlyIncreasing-dedup}
use Rattle.std.specs.{List.Sorted.IsSorted, List.dedup}
use Rattle.std.proofs.lemmas.List.Kept.{AllPairs-from_increasing, Contains-dedup_nat, Contains-from_dedup}
use Rattle.std.proofs.lemmas.Option.{get_or_from_slice_get, slice_get-get_or, slice_get-map}
use Rattle.cif_calendar.proofs.{Positions.at-contains, Positions.contains-at, Sets.IsClash-same, Sets.IsClear-same}
use Rattle.cif_calendar.specs.Keys.{of_key}
use Rattle.cif_feed.proofs.{ListSteps.Contains-from_map, ListSteps.Contains-map, PreparedRuns.in-list}

turned : {B : Type 0} {xs ys : Records B} → SameRecords xs ys → SameRecords ys xs
turned e = record { same = λ r. ((e.same r).1, (e.same r).0) }

-- ---- elements at positions of mapped lists

module _ {A C : Type 0} (f : A → C) where
  from-mapped : (o : Option A) (z : C) → option_map f o ≡ Some z → (x : A) × (o ≡ Some x) × (f x ≡ z)
  from-mapped None z e = absurd (cc)
  from-mapped (Some x) z e = (x, refl, same_Some (f x) z e)

  at-mapped : (xs : List A) (i : ℕ) (z : C) → slice_get (map f xs) i ≡ Some z → (x : A) × (slice_get xs i ≡ Some x) × (f x ≡ z)
  at-mapped xs i z e = from-mapped (slice_get xs i) z (sym (slice_get-map f xs i) ∙ e)

  to-mapped : (xs : List A) (i : ℕ) (x : A) → slice_get xs i ≡ Some x → slice_get (map f xs) i ≡ Some (f x)
  to-mapped xs i x e = slice_get-map f xs i ∙ ap (option_map f) e

-- a list that isn't empty
pub first-and-rest : {A : Type 0} (xs : List A) (d : A) → 0 < length xs → xs ≡ get_or xs 0 d ∷ take (length xs - 1) (drop 1 xs)
first-and-rest [] d some = absurd (let none : 0 < 0 = some in omega arith)
first-and-rest (x ∷ xs) d some = ap (λ l. x ∷ l) (sym (take_all (length (x ∷ xs) - 1) xs (omega arith)))

-- ---- elements of a list of which Q holds, behind others

module _ {A : Type 0} (Q : A → Type 0) (old : List A) where
  abbrev pub AreAlso : List A → List A → Type 0
  AreAlso xs new = (x : A) → Contains new x ↔ (Contains old x ⊎ (Contains xs x × Q x))

  also-push : (xs new : List A) (y : A) → Q y → AreAlso xs new → AreAlso (xs ++ y ∷ []) (new ++ y ∷ [])
  also-push xs new y holds also x = (
    λ has. ⊎_elim
        (λ before. ⊎_elim (λ o. inl o) (λ more. inr (Contains-append_left xs (y ∷ []) x more.0, more.1)) ((also x).0 before))
        (λ is. inr (subst (Contains (xs ++ y ∷ [])) is (Contains-push xs y), subst Q is holds))
        (Contains-push_cases new y x has),
    λ either. ⊎_elim
        (λ o. Contains-append_left new (y ∷ []) x ((also x).1 (inl o)))
        (λ more. ⊎_elim
        (λ before. Contains-append_left new (y ∷ []) x ((also x).1 (inr (before, more.1))))
        (λ is. subst (Contains (new ++ y ∷ [])) is (Contains-push new y))
        (Contains-push_cases xs y x more.0))
        either,
  )

  also-pass : (xs new : List A) (y : A) → ¬ Q y → AreAlso xs new → AreAlso (xs ++ y ∷ []) new
  also-pass xs new y fails also x = (
    λ has. ⊎_elim (λ o. inl o) (λ more. inr (Contains-append_left xs (y ∷ []) x more.0, more.1)) ((also x).0 has),
    λ either. ⊎_elim
        (λ o. (also x).1 (inl o))
        (λ more. ⊎_elim
        (λ before. (also x).1 (inr (before, more.1)))
        (λ is. absurd (fails (subst Q (sym is) more.1)))
        (Contains-push_cases xs y x more.0))
        either,
  )

  -- one element more
  module _ (xs : List A) (i : ℕ) (y : A) (below : i < length xs) (is : y ≡ get_or xs i y) where
    more-taken : take (i + 1) xs ≡ take i xs ++ y ∷ []
    more-taken = take_more xs i y below ∙ ap (λ (z : A). take i xs ++ z ∷ []) (sym is)

    pub also-more : (now new : List A) → new ≡ now ++ y ∷ [] → Q y → AreAlso (take i xs) now → AreAlso (take (i + 1) xs) new
    also-more now new pushed holds also =
        subst (λ l. AreAlso (take (i + 1) xs) l) (sym pushed)
        (subst (λ l. AreAlso l (now ++ y ∷ [])) (sym more-taken) (also-push (take i xs) now y holds also))

    pub also-passed : (now : List A) → ¬ Q y → AreAlso (take i xs) now → AreAlso (take (i + 1) xs) now
    also-passed now fails also = subst (λ l. AreAlso l now) (sym more-taken) (also-pass (take i xs) now y fails also)

-- ---- day by day

module _ {B : Type 0} (first to : ℕ) where
  -- the same records on each day have the same clash days
  on-same : (R S : ℕ → Records B) → ((d : ℕ) → SameRecords (R d) (S d)) → (days : List ℕ) → AreClashDatesOn R first to days
      → AreClashDatesOn S first to days
  on-same R S same days a = record {
    rising = a.rising;
    are = λ d. (
      λ has. let is = (a.are d).0 has in
          record { from = is.from; before = is.before; clash = IsClash-same (R d) (S d) (same d) d is.clash },
      λ is. (a.are d).1 (record { from = is.from; before = is.before; clash = IsClash-same (S d) (R d) (turned (same d)) d is.clash }),
    );
    clear = λ d from before lacks. IsClear-same (R d) (S d) (same d) d (a.clear d from before lacks);
  }

  -- records that are the same on each day
  pub on-each : (xs : Records B) (days : List ℕ) → AreClashDates xs first to days → AreClashDatesOn (λ d. xs) first to days
  on-each xs days a = record { rising = a.rising; are = a.are; clear = a.clear }

  -- those of days on which P holds, and of the others
  pub merged-dates : (P : ℕ → Type 0) → ((d : ℕ) → P d ⊎ (¬ P d)) → (R off on : ℕ → Records B)
      → ((d : ℕ) → ¬ P d → SameRecords (off d) (R d)) → ((d : ℕ) → P d → SameRecords (on d) (R d)) → (days others all : List ℕ)
      → AreClashDatesOn off first to days → AreClashDatesOn on first to others → AreMerged P days others all
      → AreClashDatesOn R first to all
  merged-dates P decided R off on same_off same_on days others all a b m = record {
    rising = m.rising;
    are = λ d. (
      λ has. ⊎_elim
          (λ one. let is = (a.are d).0 one.0 in let e = same_off d one.1 in
          record { from = is.from; before = is.before; clash = IsClash-same (off d) (R d) e d is.clash })
          (λ one. let is = (b.are d).0 one.0 in let e = same_on d one.1 in
          record { from = is.from; before = is.before; clash = IsClash-same (on d) (R d) e d is.clash })
          ((m.are d).0 has),
      λ is. ⊎_elim
          (λ holds. let e = same_on d holds in (m.are d).1 (inr (
            (b.are d).1 (record { from = is.from; before = is.before; clash = IsClash-same (R d) (on d) (turned e) d is.clash }),
            holds,
          )))
          (λ fails. let e = same_off d fails in (m.are d).1 (inl (
            (a.are d).1 (record { from = is.from; before = is.before; clash = IsClash-same (R d) (off d) (turned e) d is.clash }),
            fails,
          )))
          (decided d),
    );
    clear = λ d from before lacks. ⊎_elim
        (λ holds. let e = same_on d holds in
        IsClear-same (on d) (R d) e d (b.clear d from before (λ has. lacks ((m.are d).1 (inr (has, holds))))))
        (λ fails. let e = same_off d fails in
        IsClear-same (off d) (R d) e d (a.clear d from before (λ has. lacks ((m.are d).1 (inl (has, fails))))))
        (decided d);
  }

-- whether the entry at a position has the code
pub code-here : {A B : Type 0} (published : A → PublishedTerms B) (xs : List A) (code : HolidayCode) (position : ℕ) (entry : A) (b : Bool)
    → position < length xs → entry ≡ get_or xs position entry → IsTrue b ↔ ((published entry).code ≡ Some code)
    → IsTrue b ↔ HasCodeAt published xs code position
code-here published xs code position entry b below is decided = (
  λ e. record { entry = entry; at = slice_get-get_or xs position entry below ∙ ap (λ x. Some x) (sym is); of_code = decided.0 e },
  λ h. decided.1 (ap (λ x. (published x).code) (is ∙ get_or_from_slice_get xs position h.entry entry h.at) ∙ h.of_code),
)

-- whether a test comes out as it is wanted
pub wanted-so : {H : Type 0} (has wanted : Bool) → IsTrue has ↔ H → has ≡ wanted → H ↔ IsTrue wanted
wanted-so has wanted decided is = (λ h. sym is ∙ decided.1 h, λ e. decided.0 (is ∙ e))

pub wanted-not : {H : Type 0} (has wanted : Bool) → IsTrue has ↔ H → (has ≡ wanted → ⊥) → ¬ (H ↔ IsTrue wanted)
wanted-not true true decided apart both = apart refl
wanted-not true false decided apart both = false≢true (both.0 (decided.0 refl))
wanted-not false true decided apart both = false≢true (decided.1 (both.1 refl))
wanted-not false false decided apart both = apart refl

-- of the one days those of which P doesn't hold, and of the others those of which it does, sorted, each once
pub merged-days : (P : ℕ → Type 0) (days others none one both sorted all : List ℕ) → none ≡ []
    → AreAlso (λ d. P d ↔ IsTrue false) none days one → AreAlso (λ d. P d ↔ IsTrue true) one others both
    → IsPermutation both sorted → IsSorted nat_cmp sorted → all ≡ dedup eqb sorted → AreMerged P days others all
merged-days P days others none one both sorted all empty first second moved up is = record {
  rising = subst (AllPairs ◌<◌) (sym is) (AllPairs-from_increasing (dedup eqb sorted) (IsStrictlyIncreasing-dedup sorted up));
  are = λ d. (
    λ has. ⊎_elim
        (λ in_one. ⊎_elim
        (λ in_none. absurd (Contains-none d (subst (λ l. Contains l d) empty in_none)))
        (λ free. inl (free.0, λ holds. false≢true (free.1.0 holds)))
        ((first d).0 in_one))
        (λ holds. inr (holds.0, holds.1.1 refl))
        ((second d).0 (Contains-permutation sorted both d (IsPermutation-sym both sorted moved)
        (Contains-from_dedup eqb sorted d (subst (λ l. Contains l d) is has)))),
    λ either. subst (λ l. Contains l d) (sym is) (Contains-dedup_nat sorted d (Contains-permutation both sorted d moved (⊎_elim
        (λ free. (second d).1 (inl ((first d).1 (inr (free.0, (λ holds. absurd (free.1 holds), λ e. absurd (false≢true e)))))))
        (λ holds. (second d).1 (inr (holds.0, (λ _. refl, λ _. holds.1))))
        either))),
  );
}

-- a day is a holiday of the code or not
pub holiday-decided : (h : Holidays) (code : HolidayCode) (d : ℕ) → IsHoliday h code d ⊎ (¬ IsHoliday h code d)
holiday-decided h code d = in-list d (dates_of h code).days.items

-- ---- the members that count

module _ {A B : Type 0} (h : Holidays) (published : A → PublishedTerms B) (xs : List A) where
  -- Where no entry has one of the codes, all do.
  module _ (codes : List HolidayCode) (none : (x : A) (code : HolidayCode) → Contains codes code → (published x).code ≡ Some code → ⊥)
      (terms : A → Terms B) (own : (x : A) → (published x).terms ≡ terms x) (members : List ℕ) where
    chosen-counts : (d : ℕ) → SameRecords (IsChosen (map terms xs) members) (CountsAmong h published xs members codes d)
    chosen-counts d = record {
      same = λ r. (
        λ c. let (x, at, is) = at-mapped terms xs c.position r c.at in record {
          position = c.position;
          member = c.member;
          entry = x;
          at = at;
          terms = own x ∙ is;
          no_holiday = λ code has of_code. absurd (none x code has of_code);
        },
        λ m. record {
          position = m.position;
          member = m.member;
          at = to-mapped terms xs m.position m.entry m.at ∙ ap (λ (t : Terms B). Some t) (sym (own m.entry) ∙ m.terms);
        },
      );
    }

    pub chosen-dates : (first to : ℕ) (days : List ℕ) → AreClashDates (IsChosen (map terms xs) members) first to days
        → AreClashDatesOn (CountsAmong h published xs members codes) first to days
    chosen-dates first to days a = on-same first to (λ d. IsChosen (map terms xs) members) (CountsAmong h published xs members codes)
        chosen-counts days (on-each first to (IsChosen (map terms xs) members) days a)

  module _ (code : HolidayCode) (others : List HolidayCode) (members : List ℕ) where
    abbrev More : ℕ → Records B
    More = CountsAmong h published xs members (code ∷ others)

    fewer : (d : ℕ) (r : Terms B) → More d r → CountsAmong h published xs members others d r
    fewer d r m = record {
      position = m.position;
      member = m.member;
      entry = m.entry;
      at = m.at;
      terms = m.terms;
      no_holiday = λ c has. m.no_holiday c (Contains-rest code others c has);
    }

    more : (d : ℕ) (r : Terms B) (m : CountsAmong h published xs members others d r)
        → ((published m.entry).code ≡ Some code → ¬ IsHoliday h code d) → More d r
    more d r m free = record {
      position = m.position;
      member = m.member;
      entry = m.entry;
      at = m.at;
      terms = m.terms;
      no_holiday = λ c has of_code. ⊎_elim
          (λ (is : code ≡ c). subst (λ (k : HolidayCode). ¬ IsHoliday h k d) is
          (free (of_code ∙ ap (λ (k : HolidayCode). Some k) (sym is))))
          (λ rest. m.no_holiday c rest of_code)
          (Contains-cases code others c has);
    }

    -- on other days the holidays of a code don't matter
    counts-off : (d : ℕ) → ¬ IsHoliday h code d → SameRecords (CountsAmong h published xs members others d) (More d)
    counts-off d free = record { same = λ r. (λ m. more d r m (λ of_code. free), fewer d r) }

    -- on its holidays those count that don't have it
    counts-on : (rest : List ℕ) → ((i : ℕ) → Contains rest i ↔ (Contains members i × (¬ HasCodeAt published xs code i))) → (d : ℕ)
        → IsHoliday h code d → SameRecords (CountsAmong h published xs rest others d) (More d)
    counts-on rest left d holiday = record {
      same = λ r. (
        λ m. let of_rest = (left m.position).0 m.member in
            more d r (record {
              position = m.position;
              member = of_rest.0;
              entry = m.entry;
              at = m.at;
              terms = m.terms;
              no_holiday = m.no_holiday;
            }) (λ of_code. absurd (of_rest.1 (record { entry = m.entry; at = m.at; of_code = of_code }))),
        λ m. record {
          position = m.position;
          member = (left m.position).1 (
            m.member,
            λ other.
                m.no_holiday code (Contains-first code others)
                (ap (λ (x : A). (published x).code) (same_Some m.entry other.entry (sym m.at ∙ other.at)) ∙ other.of_code) holiday,
          );
          entry = m.entry;
          at = m.at;
          terms = m.terms;
          no_holiday = λ c has. m.no_holiday c (Contains-rest code others c has);
        },
      );
    }

    -- nor do they where no member has it
    pub without-code : ((i : ℕ) → Contains members i → ¬ HasCodeAt published xs code i) → (first to : ℕ) (days : List ℕ)
        → AreClashDatesOn (CountsAmong h published xs members others) first to days → AreClashDatesOn More first to days
    without-code none first to days = on-same first to (CountsAmong h published xs members others) More (λ d. record {
      same = λ r. (
        λ m. more d r m (λ of_code. absurd (none m.position m.member (record { entry = m.entry; at = m.at; of_code = of_code }))),
        fewer d r,
      );
    }) days

    -- the clash days on other days, and on its holidays
    pub with-code : (rest : List ℕ) → ((i : ℕ) → Contains rest i ↔ (Contains members i × (¬ HasCodeAt published xs code i)))
        → (first to : ℕ) (days on_holidays all : List ℕ) → AreClashDatesOn (CountsAmong h published xs members others) first to days
        → AreClashDatesOn (CountsAmong h published xs rest others) first to on_holidays
        → AreMerged (IsHoliday h code) days on_holidays all → AreClashDatesOn More first to all
    with-code rest left first to = merged-dates first to (IsHoliday h code) (holiday-decided h code) More
        (CountsAmong h published xs members others) (CountsAmong h published xs rest others) counts-off (counts-on rest left)

-- ---- the records of a key

every-code : (code : HolidayCode) → Contains code_list code
every-code X = Contains-first X (E ∷ G ∷ [])
every-code E = Contains-rest X (E ∷ G ∷ []) E (Contains-first E (G ∷ []))
every-code G = Contains-rest X (E ∷ G ∷ []) G (Contains-rest E (G ∷ []) G (Contains-first G []))

no-holiday : (h : Holidays) (o : Option HolidayCode) (d : ℕ) → ((code : HolidayCode) → o ≡ Some code → ¬ IsHoliday h code d)
    → ¬ IsHolidayOf h o d
no-holiday h None d free = λ is. is
no-holiday h (Some code) d free = free code refl

module _ {A K B : Type 0} (h : Holidays) (key : A → K) (terms : A → Terms B) (published : A → PublishedTerms B)
    (own : (x : A) → (published x).terms ≡ terms x) (xs : List A) (k : K) where
  abbrev as_published : A → K × PublishedTerms B
  as_published x = (key x, published x)

  -- an entry of the key
  from-entry : (x : A) → Contains xs x → (d : ℕ) → key x ≡ k
      → ((code : HolidayCode) → (published x).code ≡ Some code → ¬ IsHoliday h code d)
      → CountOn h (published_by key published xs) k d (published x).terms
  from-entry x has d is free = record {
    open_end = (published x).open_end;
    code = (published x).code;
    listed = subst (λ (j : K). Contains (published_by key published xs) (j, published x)) is (Contains-map as_published xs x has);
    no_holiday = no-holiday h (published x).code d free;
  }

  -- a record that counts is an entry's
  to-entry : (d : ℕ) (r : Terms B) → CountOn h (published_by key published xs) k d r
      → (x : A) × Contains xs x × (key x ≡ k) × ((published x).terms ≡ r)
      × ((code : HolidayCode) → (published x).code ≡ Some code → ¬ IsHoliday h code d)
  to-entry d r count =
      let e : PublishedTerms B = record { terms = r; open_end = count.open_end; code = count.code } in
      let (x, has, is) = Contains-from_map as_published xs (k, e) count.listed in
      let same : published x ≡ e = ap (λ (p : K × PublishedTerms B). p.1) is in (
        x,
        has,
        ap (λ (p : K × PublishedTerms B). p.0) is,
        ap (λ (p : PublishedTerms B). p.terms) same,
        λ code of_code.
            subst (λ (o : Option HolidayCode). ¬ IsHolidayOf h o d)
            (sym (ap (λ (p : PublishedTerms B). p.code) same) ∙ of_code) count.no_holiday,
      )

  -- the members at a key's positions that count are the key's records that count
  module _ (members : List ℕ) (p : ArePositionsOf (keyed key terms xs) k members) where
    counts-of_key : (d : ℕ) → SameRecords (CountsAmong h published xs members code_list d) (CountOn h (published_by key published xs) k d)
    counts-of_key d = record {
      same = λ r. (
        λ m. let (s, found) = p.found m.position m.member in
            let (x, at, is) = at-mapped (λ (y : A). (key y, terms y)) xs m.position (k, s) found in
            let same : x ≡ m.entry = same_Some x m.entry (sym at ∙ m.at) in
            subst (CountOn h (published_by key published xs) k d) m.terms
            (from-entry m.entry (contains-at xs m.position m.entry m.at) d
            (sym (ap key same) ∙ ap (λ (q : K × Terms B). q.0) is)
            (λ code of_code. m.no_holiday code (every-code code) of_code)),
        λ count. let (x, has, of_k, is, free) = to-entry d r count in
            let (i, at) = at-contains xs x has in record {
              position = i;
              member = p.all i (terms x) (to-mapped (λ (y : A). (key y, terms y)) xs i x at ∙ ap (λ (j : K). Some (j, terms x)) of_k);
              entry = x;
              at = at;
              terms = is;
              no_holiday = λ code has of_code. free code of_code;
            },
      );
    }

    pub counted-days : (first to : ℕ) (days : List ℕ) → AreClashDatesOn (CountsAmong h published xs members code_list) first to days
        → AreClashDays h (published_by key published xs) first to k days
    counted-days first to days a =
        let all = on-same first to (CountsAmong h published xs members code_list) (CountOn h (published_by key published xs) k)
        counts-of_key days a in
        record { rising = all.rising; are = all.are; clear = all.clear }

  -- without an entry of the key there are none
  pub counted-none : ((r : Terms B) → of_key (keyed key terms xs) k r → ⊥) → (first to : ℕ)
      → AreClashDays h (published_by key published xs) first to k []
  counted-none none first to = record {
    rising = λ i j d less below. absurd (omega arith);
    are = λ d. (λ has. absurd (Contains-none d has), λ is. absurd (no d is.clash.one is.clash.one_wins.listed));
    clear = λ d from before lacks. record { agree = λ r s r_wins s_wins. absurd (no d r r_wins.listed) };
  }
    where
      no : (d : ℕ) (r : Terms B) → CountOn h (published_by key published xs) k d r → ⊥
      no d r count =
          let (x, has, of_k, is, free) = to-entry d r count in
          none (terms x) (subst (λ (j : K). Contains (keyed key terms xs) (j, terms x)) of_k
          (Contains-map (λ (y : A). (key y, terms y)) xs x has))
