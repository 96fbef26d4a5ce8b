-- An extract of this profile is its own prepared extract, and has no other.
use Rattle.cif_feed.proofs.Names.{AreParts, ArePrepared, AssocBody, AssocKey, Association, BodyLines, ExtractParts, HolidayCode, Holidays}
use Rattle.cif_feed.proofs.Names.{IsPart, IsPrepared, IsStop, List, None, Option, Part, PublishedTerms, Schedule, Terms, [], ap, arith}
use Rattle.cif_feed.proofs.Names.{as_published, association_as_published, association_entries, association_entry, false, map, part_terms}
use Rattle.cif_feed.proofs.Names.{published_associations, published_schedules, published_terms, refl, same_extract_parts, same_values}
use Rattle.cif_feed.proofs.Names.{schedule_as_published, schedule_entries, schedule_entry, subst, sym, ℕ, ⊎_elim, ◌++◌, ◌+◌, ◌<◌, ◌↔◌, ◌∙◌}
use Rattle.cif_feed.proofs.{Names.◌∷◌, Names.◌≡◌, Names.◌≤◌, PartLists.parts-whole}
use Rattle.cif_records.proofs.Associations.{same_association}
use Rattle.cif_extract.proofs.Schedules.{same_schedule}

-- ---- the one part of a record without a code

module _ {B : Type 0} (Stops : ℕ → Type 0) (never : (d : ℕ) → ¬ Stops d) (r : Terms B) (up : r.first ≤ r.last) where
  abbrev itself : Part
  itself = record { first = r.first; last = r.last }

  is_itself : (p : Part) → IsPart Stops r p → p ≡ itself
  is_itself p is =
      let first : p.first ≡ r.first = ⊎_elim (λ e. e) (λ cut. absurd (never cut.0 cut.2.stops)) is.begins in
      let last : p.last ≡ r.last = ⊎_elim (λ e. e) (λ cut. absurd (never (p.last + 1) cut.stops)) is.ends in
      ap (λ (n : ℕ). let q : Part = record { first = n; last = p.last } in q) first
      ∙ ap (λ (n : ℕ). let q : Part = record { first = r.first; last = n } in q) last

  one_part : (parts : List Part) → AreParts Stops r parts → parts ≡ itself ∷ []
  one_part [] are =
      ⊎_elim (λ have. let below = have.1.1 in absurd (omega arith))
      (λ cut. absurd (never r.first cut.stops)) (are.covered r.first (omega arith) up)
  one_part (p ∷ []) are = ap (λ (q : Part). q ∷ []) (is_itself p (are.are 0 p (omega arith)))
  one_part (p ∷ q ∷ parts) are =
      let one = is_itself p (are.are 0 p (omega arith)) in
      let other = is_itself q (are.are 1 p (omega arith)) in
      let before : p.last < q.first = are.rising 0 1 p (omega arith) (omega arith) in
      let last = ap (λ (x : Part). x.last) one in
      let first = ap (λ (x : Part). x.first) other in
      absurd (omega arith)

-- ---- entries

module _ {K B : Type 0} where
  -- as published ones without an open end and a code
  abbrev as_they_are : K × Terms B → K × PublishedTerms B
  as_they_are e = (e.0, published_terms e.1 false None)

  -- no record's dates are the wrong way round
  abbrev AreInOrder : List (K × Terms B) → Type 0
  AreInOrder [] = Unit {0}
  AreInOrder (e ∷ es) = (e.1.first ≤ e.1.last) × AreInOrder es

module _ {K B : Type 0} (Stops : K → Option HolidayCode → ℕ → Type 0) (never : (k : K) (d : ℕ) → ¬ Stops k None d) (window_last : ℕ) where
  prepared_is : (es prepared : List (K × Terms B)) → AreInOrder es → ArePrepared Stops window_last (map as_they_are es) prepared
      → prepared ≡ es
  prepared_is [] prepared up are = are
  prepared_is (e ∷ es) prepared up are =
      let (parts, others, own, joined, rest) = are in
      joined
      ∙ ap (λ (ps : List Part). map (λ p. (e.0, part_terms e.1 p)) ps ++ others)
      (one_part (Stops e.0 None) (never e.0) e.1 up.0 parts own)
      ∙ ap (λ (l : List (K × Terms B)). e ∷ l) (prepared_is es others up.1 rest)

  is_prepared : (es : List (K × Terms B)) → AreInOrder es → ArePrepared Stops window_last (map as_they_are es) es
  is_prepared [] up = refl
  is_prepared (e ∷ es) up = (
    record { first = e.1.first; last = e.1.last } ∷ [],
    es,
    parts-whole (Stops e.0 None) e.1 up.0 (λ d cut. never e.0 d cut.stops),
    refl,
    is_prepared es up.1,
  )

associations_in_order : (xs : List Association) → AreInOrder (association_entries xs)
associations_in_order [] = tt
associations_in_order (x ∷ xs) = (x.in_order, associations_in_order xs)

schedules_in_order : (xs : List Schedule) → AreInOrder (schedule_entries xs)
schedules_in_order [] = tt
schedules_in_order (x ∷ xs) = (x.in_order, schedules_in_order xs)

pub associations_as : (xs : List Association)
    → published_associations (map association_as_published xs) ≡ map as_they_are (association_entries xs)
associations_as [] = refl
associations_as (x ∷ xs) = ap (λ l. as_they_are (association_entry x) ∷ l) (associations_as xs)

pub schedules_as : (xs : List Schedule) → published_schedules (map schedule_as_published xs) ≡ map as_they_are (schedule_entries xs)
schedules_as [] = refl
schedules_as (x ∷ xs) = ap (λ l. as_they_are (schedule_entry x) ∷ l) (schedules_as xs)

-- ---- records by their entries

one_association : (a b : Association) → ◌≡◌ {A = AssocKey × Terms AssocBody} (association_entry a) (association_entry b) → a ≡ b
one_association a b e = same_association a b (ap (λ (v : AssocKey × Terms AssocBody). v.0) e)
    (ap (λ (v : AssocKey × Terms AssocBody). v.1.first) e) (ap (λ (v : AssocKey × Terms AssocBody). v.1.last) e)
    (ap (λ (v : AssocKey × Terms AssocBody). v.1.days) e) (ap (λ (v : AssocKey × Terms AssocBody). v.1.letter) e)
    (ap (λ (v : AssocKey × Terms AssocBody). v.1.body) e)

one_schedule : (a b : Schedule) → ◌≡◌ {A = List ℕ × Terms BodyLines} (schedule_entry a) (schedule_entry b) → a ≡ b
one_schedule a b e = same_schedule a b (ap (λ (v : List ℕ × Terms BodyLines). v.0) e)
    (ap (λ (v : List ℕ × Terms BodyLines). v.1.first) e) (ap (λ (v : List ℕ × Terms BodyLines). v.1.last) e)
    (ap (λ (v : List ℕ × Terms BodyLines). v.1.days) e) (ap (λ (v : List ℕ × Terms BodyLines). v.1.letter) e)
    (ap (λ (v : List ℕ × Terms BodyLines). v.1.body) e)

-- ---- an extract

module _ (h : Holidays) (x : ExtractParts) where
  abbrev OfAssociations : AssocKey → Option HolidayCode → ℕ → Type 0
  OfAssociations = IsStop false h (published_associations (as_published x).associations) x.header.first (x.header.last + 1)

  abbrev OfSchedules : List ℕ → Option HolidayCode → ℕ → Type 0
  OfSchedules = IsStop false h (published_schedules (as_published x).schedules) x.header.first (x.header.last + 1)

  own_prepared : IsPrepared h false (as_published x) x
  own_prepared = record {
    header = refl;
    tiplocs = refl;
    associations = subst (λ l. ArePrepared OfAssociations x.header.last l (association_entries x.associations))
        (sym (associations_as x.associations))
        (is_prepared OfAssociations (λ k d none. none) x.header.last (association_entries x.associations)
        (associations_in_order x.associations));
    schedules = subst (λ l. ArePrepared OfSchedules x.header.last l (schedule_entries x.schedules)) (sym (schedules_as x.schedules))
        (is_prepared OfSchedules (λ k d none. none) x.header.last (schedule_entries x.schedules) (schedules_in_order x.schedules));
  }

  prepared_same : (y : ExtractParts) → IsPrepared h false (as_published x) y → y ≡ x
  prepared_same y p =
      let last = x.header.last in
      let associations = same_values association_entry one_association y.associations x.associations
      (prepared_is OfAssociations (λ k d none. none) last (association_entries x.associations) (association_entries y.associations)
      (associations_in_order x.associations)
      (subst (λ l. ArePrepared OfAssociations last l (association_entries y.associations)) (associations_as x.associations)
      p.associations)) in
      let schedules = same_values schedule_entry one_schedule y.schedules x.schedules
      (prepared_is OfSchedules (λ k d none. none) last (schedule_entries x.schedules) (schedule_entries y.schedules)
      (schedules_in_order x.schedules)
      (subst (λ l. ArePrepared OfSchedules last l (schedule_entries y.schedules)) (schedules_as x.schedules) p.schedules)) in
      same_extract_parts y x p.header p.tiplocs associations schedules

  pub only_itself : (y : ExtractParts) → IsPrepared h false (as_published x) y ↔ (y ≡ x)
  only_itself y = (prepared_same y, λ same. subst (IsPrepared h false (as_published x)) (sym same) own_prepared)
