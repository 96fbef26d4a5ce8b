-- What decides among the schedules of a train, by the positions in their order.
use Rattle.cif_feed.proofs.Names.{ArePositionsOf, Contains, Contains-cases, Contains-first, Contains-none, Contains-permutation}
use Rattle.cif_feed.proofs.Names.{Contains-rest, IsPermutation-sym, List, None, Option, PublishedSchedule, Some, Terms, [], ap, arith, cases_lt}
use Rattle.cif_feed.proofs.Names.{get_or, inl, inr, keyed, map, option_map, refl, same_Some, schedule_terms, slice_get, subst, suc, sym, ℕ}
use Rattle.cif_feed.proofs.Names.{⊎_elim, ◌+◌, ◌<◌, ◌∙◌, ◌∷◌, ◌≡◌, ◌≤◌, ◌⊎◌}
use Rattle.std.proofs.Common.{IsPermutation}
use Rattle.std.proofs.lemmas.Option.{slice_get-map}
use Rattle.cif_extract.specs.Body.{BodyLines}
use Rattle.cif_feed.specs.Steps.Deciding.{AreInOrder, DecidesAmong, DecidesFor, GoesBefore, ranked_at}
use Rattle.cif_feed.proofs.ListSteps.{Contains-from_map, Contains-map}

-- ---- the order

before-trans : (p q r : ℕ × ℕ) → GoesBefore p q → GoesBefore q r → GoesBefore p r
before-trans p q r a b = (
  (let one = a.0 in let two = b.0 in omega (arith, one, two)),
  λ is.
      let one = a.0 in
      let two = b.0 in
      let first : p.0 ≡ q.0 = omega (arith, one, two, is) in
      let second : q.0 ≡ r.0 = omega (arith, one, two, is) in
      let low = a.1 first in
      let high = b.1 second in
      omega (arith, low, high),
)

before-itself : (p : ℕ × ℕ) → GoesBefore p p
before-itself p = (omega arith, λ is. omega arith)

-- of two that go before one another the positions are one
both-before : (p q : ℕ × ℕ) → GoesBefore p q → GoesBefore q p → p.1 ≡ q.1
both-before p q a b =
    let one = a.0 in
    let two = b.0 in
    let is : p.0 ≡ q.0 = omega (arith, one, two) in
    let low = a.1 is in
    let high = b.1 (sym is) in
    omega (arith, low, high)

in-order-rest : (p : ℕ × ℕ) (ps : List (ℕ × ℕ)) → AreInOrder (p ∷ ps) → AreInOrder ps
in-order-rest p ps h k d below =
    let next : suc k + 1 ≡ suc (k + 1) = omega arith in
    subst (λ (m : ℕ). GoesBefore (get_or ps k d) (get_or (p ∷ ps) m d)) next (h (suc k) d (omega (arith, below)))

-- the first goes before all
first-before : (p : ℕ × ℕ) (ps : List (ℕ × ℕ)) → AreInOrder (p ∷ ps) → (q : ℕ × ℕ) → Contains ps q → GoesBefore p q
first-before p [] h q has = absurd (Contains-none q has)
first-before p (r ∷ ps) h q has =
    let next : GoesBefore p r = h 0 r (omega arith) in
    ⊎_elim
    (λ is. subst (GoesBefore p) is next)
    (λ rest. before-trans p r q next (first-before r ps (in-order-rest p (r ∷ ps) h) q rest))
    (Contains-cases r ps q has)

equal : (m n : ℕ) → (m ≡ n) ⊎ (m ≡ n → ⊥)
equal m n = ⊎_elim
    (λ (less : m < n). inr (λ is. omega arith))
    (λ (upto : n ≤ m). ⊎_elim (λ (less : n < m). inr (λ is. omega arith)) (λ (back : m ≤ n). inl (omega arith)) (cases_lt n m))
    (cases_lt m n)

abbrev pub position : ℕ × ℕ → ℕ
position p = p.1

module _ (applies : ℕ → ℕ → Type 0) (at : ℕ → ℕ × ℕ) (own : (i : ℕ) → (at i).1 ≡ i) where
  -- each is at its position
  AreAt : List (ℕ × ℕ) → Type 0
  AreAt ranked = (p : ℕ × ℕ) → Contains ranked p → p ≡ at p.1

  -- of the positions the first that applies goes before the others that do
  among-first : (ranked : List (ℕ × ℕ)) → AreInOrder ranked → ((p : ℕ × ℕ) → Contains ranked p → p ≡ at p.1) → (n i : ℕ)
      → DecidesAmong applies (map position ranked) n i
      → Contains (map position ranked) i × applies i n
      × ((j : ℕ) → Contains (map position ranked) j → applies j n → GoesBefore (at i) (at j))
  among-first [] order are n i d = absurd d
  among-first (p ∷ ps) order are n i (inl here) = (
    subst (Contains (map position (p ∷ ps))) (sym here.1) (Contains-first (position p) (map position ps)),
    subst (λ (v : ℕ). applies v n) (sym here.1) here.0,
    λ j has on. ⊎_elim
        (λ is. subst (λ (v : ℕ). GoesBefore (at i) (at v)) is (subst (λ (v : ℕ). GoesBefore (at i) (at v)) here.1 (before-itself (at i))))
        (λ rest.
        let (q, listed, q_is) = Contains-from_map position ps j rest in
        let low = first-before p ps order q listed in
        let first : p ≡ at i = are p (Contains-first p ps) ∙ ap at (sym here.1) in
        let other : q ≡ at j = are q (Contains-rest p ps q listed) ∙ ap at q_is in
        subst (GoesBefore (at i)) other (subst (λ (v : ℕ × ℕ). GoesBefore v q) first low))
        (Contains-cases (position p) (map position ps) j has),
  )
  among-first (p ∷ ps) order are n i (inr (free, d)) =
      let (has, on, least) = among-first ps (in-order-rest p ps order) (λ q listed. are q (Contains-rest p ps q listed)) n i d in (
        Contains-rest (position p) (map position ps) i has,
        on,
        λ j listed applied. ⊎_elim
            (λ is. absurd (free (subst (λ (v : ℕ). applies v n) (sym is) applied)))
            (λ rest. least j rest applied)
            (Contains-cases (position p) (map position ps) j listed),
      )

  -- and one that goes before the others is the first
  first-among : (ranked : List (ℕ × ℕ)) → AreInOrder ranked → ((p : ℕ × ℕ) → Contains ranked p → p ≡ at p.1) → (n i : ℕ)
      → Contains (map position ranked) i → applies i n
      → ((j : ℕ) → Contains (map position ranked) j → applies j n → GoesBefore (at i) (at j))
      → DecidesAmong applies (map position ranked) n i
  first-among [] order are n i has on least = absurd (Contains-none i has)
  first-among (p ∷ ps) order are n i has on least = ⊎_elim
      (λ is. inl (subst (λ (v : ℕ). applies v n) is on, is))
      (λ apart.
      let rest : Contains (map position ps) i = ⊎_elim (λ is. absurd (apart (sym is))) (λ other. other)
      (Contains-cases (position p) (map position ps) i has) in
      let (q, listed, q_is) = Contains-from_map position ps i rest in
      let low : GoesBefore (at (position p)) (at i) =
      subst (GoesBefore (at (position p))) (are q (Contains-rest p ps q listed) ∙ ap at q_is)
      (subst (λ (v : ℕ × ℕ). GoesBefore v q) (are p (Contains-first p ps)) (first-before p ps order q listed)) in
      inr (
        λ applied. apart (sym (own i) ∙ (both-before (at i) (at (position p))
            (least (position p) (Contains-first (position p) (map position ps)) applied) low ∙ own (position p))),
        first-among ps (in-order-rest p ps order) (λ r r_in. are r (Contains-rest p ps r r_in)) n i rest on
            (λ j j_in applied. least j (Contains-rest (position p) (map position ps) j j_in) applied),
      ))
      (equal i (position p))

-- ---- the positions of a train

uid_terms : PublishedSchedule → List ℕ × Terms BodyLines
uid_terms s = (s.schedule.uid, schedule_terms s.schedule)

at-option : (o : Option PublishedSchedule) (k : List ℕ) (r : Terms BodyLines)
    → option_map {U = List ℕ × Terms BodyLines} (λ (s : PublishedSchedule). (s.schedule.uid, schedule_terms s.schedule)) o ≡ Some (k, r)
    → (s : PublishedSchedule) × (o ≡ Some s) × (s.schedule.uid ≡ k)
at-option None k r is = absurd (cc)
at-option (Some s) k r is =
    (s, refl, ap (λ (e : List ℕ × Terms BodyLines). e.0) (same_Some (s.schedule.uid, schedule_terms s.schedule) (k, r) is))

module _ (applies : ℕ → ℕ → Type 0) (schedules : List PublishedSchedule) (k : List ℕ) (members : List ℕ) (ranked : List (ℕ × ℕ))
    (of_train : ArePositionsOf (keyed (λ (s : PublishedSchedule). s.schedule.uid) (λ (s : PublishedSchedule). schedule_terms s.schedule)
    schedules) k members)
    (permuted : IsPermutation (map (ranked_at schedules) members) ranked) (order : AreInOrder ranked) where
  are : (p : ℕ × ℕ) → Contains ranked p → p ≡ ranked_at schedules p.1
  are p has =
      let (m, listed, is) = Contains-from_map (ranked_at schedules) members p
      (Contains-permutation ranked (map (ranked_at schedules) members) p
      (IsPermutation-sym (map (ranked_at schedules) members) ranked permuted) has) in
      sym is ∙ ap (ranked_at schedules) (ap position is)

  ranked-member : (j : ℕ) → Contains (map position ranked) j → Contains members j
  ranked-member j has =
      let (p, listed, is) = Contains-from_map position ranked j has in
      let (m, m_in, m_is) = Contains-from_map (ranked_at schedules) members p
      (Contains-permutation ranked (map (ranked_at schedules) members) p
      (IsPermutation-sym (map (ranked_at schedules) members) ranked permuted) listed) in
      subst (Contains members) (ap position m_is ∙ is) m_in

  member-ranked : (j : ℕ) → Contains members j → Contains (map position ranked) j
  member-ranked j has = Contains-map position ranked (ranked_at schedules j)
      (Contains-permutation (map (ranked_at schedules) members) ranked (ranked_at schedules j) permuted
      (Contains-map (ranked_at schedules) members j has))

  member-at : (j : ℕ) → Contains members j → (s : PublishedSchedule) × (slice_get schedules j ≡ Some s) × (s.schedule.uid ≡ k)
  member-at j has =
      let (r, at) = of_train.found j has in
      at-option (slice_get schedules j) k r
      (sym (slice_get-map (λ (s : PublishedSchedule). (s.schedule.uid, schedule_terms s.schedule)) schedules j) ∙ at)

  at-member : (j : ℕ) (s : PublishedSchedule) → slice_get schedules j ≡ Some s → s.schedule.uid ≡ k → Contains members j
  at-member j s at is =
      of_train.all j (schedule_terms s.schedule)
      (slice_get-map (λ (t : PublishedSchedule). (t.schedule.uid, schedule_terms t.schedule)) schedules j
      ∙ (ap (option_map {U = List ℕ × Terms BodyLines} (λ (t : PublishedSchedule). (t.schedule.uid, schedule_terms t.schedule))) at
      ∙ ap (λ (u : List ℕ). Some (u, schedule_terms s.schedule)) is))

  -- what decides among the positions is what decides for the train
  pub among-for : (n i : ℕ) → DecidesAmong applies (map position ranked) n i → DecidesFor applies schedules k n i
  among-for n i d =
      let (has, on, least) = among-first applies (ranked_at schedules) (λ j. refl) ranked order are n i d in
      let (s, at, is) = member-at i (ranked-member i has) in
      record {
        it = s;
        at = at;
        of_train = is;
        on = on;
        least = λ j other other_at other_is applied. least j (member-ranked j (at-member j other other_at other_is)) applied;
      }

  pub for-among : (n i : ℕ) → DecidesFor applies schedules k n i → DecidesAmong applies (map position ranked) n i
  for-among n i d =
      first-among applies (ranked_at schedules) (λ j. refl) ranked order are n i
      (member-ranked i (at-member i d.it d.at d.of_train)) d.on
      (λ j has applied.
      let (s, at, is) = member-at j (ranked-member j has) in d.least j s at is applied)
