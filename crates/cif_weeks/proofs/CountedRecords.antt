-- Records of form 3 are no more than others that say the same and don't overlap; and where one record is exact, it is the only one.
use Rattle.cif_weeks.proofs.Names.{All-contains, AllPairs, Bool, Contains, Contains-cases, Contains-first, Contains-rest, HaveForm, IsExact}
use Rattle.cif_weeks.proofs.Names.{IsWithin, List, Permanent}
use Rattle.cif_weeks.proofs.Names.{Permanents, Three, Window, [], ap, arith, cases_lt, get_or, inl, inr, length, subst, suc}
use Rattle.cif_weeks.proofs.Names.{sym, zero, ℕ, ⊎_elim, ◌+◌, ◌<◌, ◌↔◌, ◌∙◌, ◌∷◌, ◌≡◌, ◌≢◌, ◌≤◌, ◌⊎◌}
use Rattle.cif_weeks.proofs.AlignedDays.{within-tight}
use Rattle.cif_weeks.proofs.Exact.{exact-mask, exact-part, exact-within}
use Rattle.cif_weeks.proofs.UniqueFewest.{exact-record, longest-record, one-in-range, tight-fewest}
use Rattle.cif_weeks.proofs.UniqueWeeks.{records_equal}
use Rattle.cif_weeks.specs.{Applies.Applies, WhatRuns.HasBody}

-- ---- a list whose items have each an item of their own in another isn't longer than that

-- a list without one of its items
record IsLess {Y : Type 0} (ys : List Y) (y : Y) (less : List Y) : Type 0 where
  long : length ys ≡ length less + 1
  rest : (z : Y) → Contains ys z → (z ≡ y) ⊎ Contains less z

without : {Y : Type 0} (ys : List Y) (y : Y) → Contains ys y → (less : List Y) × IsLess ys y less
without [] y (i, below, is) = absurd (omega (arith, below))
without (x ∷ ys) y (zero, below, is) = (
  ys,
  record {
    long = omega arith;
    rest = λ z listed. ⊎_elim (λ same. inl (sym same ∙ is)) (λ later. inr later) (Contains-cases x ys z listed);
  },
)
without (x ∷ ys) y (suc i, below, is) =
    let (less, h) = without ys y (i, omega (arith, below), is) in (
      x ∷ less,
      record {
        long = omega (arith, h.long);
        rest = λ z listed. ⊎_elim
            (λ same. inr (subst (Contains (x ∷ less)) same (Contains-first x less)))
            (λ later. ⊎_elim (λ is_y. inl is_y) (λ other. inr (Contains-rest x less z other)) (h.rest z later))
            (Contains-cases x ys z listed);
      },
    )

module _ {X Y : Type 0} (R : X → Y → Type 0) where
  pub no-longer_list : (xs : List X) (ys : List Y) → ((x : X) → Contains xs x → (y : Y) × Contains ys y × R x y) →
      AllPairs (λ x z. (y : Y) → R x y → ¬ R z y) xs → length xs ≤ length ys
  no-longer_list [] ys own apart = omega arith
  no-longer_list (x ∷ xs) ys own apart =
      let (y, listed, has) = own x (Contains-first x xs) in
      let (less, h) = without ys y listed in
      let first-apart = λ (z : X) (in_xs : Contains xs z).
      All-contains (λ z. (y : Y) → R x y → ¬ R z y) xs z (λ k d below. apart zero (suc k) d (omega arith) (omega arith)) in_xs in
      let shorter = no-longer_list xs less
      (λ z in_xs.
      let (w, in_ys, z_has) = own z (Contains-rest x xs z in_xs) in
      ⊎_elim
      (λ same. absurd (first-apart z in_xs y has (subst (R z) same z_has)))
      (λ other. (w, other, z_has))
      (h.rest w in_ys))
      (λ i j d sooner below. apart (suc i) (suc j) d (omega arith) (omega arith)) in
      omega (arith, shorter, h.long)

module _ {B : Type 0} (window : Window) (xs : Permanents B) (x : HaveForm Three window xs) where
  -- the days on which a record with body b applies lie in the window
  pub within-body : (b : B) (n : ℕ) → HasBody xs n b → IsWithin window n
  within-body b n h = within-tight h.it window (tight-fewest window xs x h.it h.listed) n h.applies

  -- ---- others that say the same of a body
  module _ (b : B) (ys : Permanents B) (same : (n : ℕ) → IsWithin window n → HasBody xs n b ↔ HasBody ys n b)
      (apart : (y z : Permanent B) → ys y → ys z → y.body ≡ b → z.body ≡ b → (n : ℕ) → IsWithin window n → y.first ≤ n → n ≤ y.last →
      z.first ≤ n → n ≤ z.last → y ≡ z) where
    -- y is one of them, and applies on the first day of record r
    record HasFirst (r y : Permanent B) : Type 0 where
      listed : xs r
      body : r.body ≡ b
      other : ys y
      other_body : y.body ≡ b
      applies : Applies y r.first

    has-first : (r : Permanent B) → xs r → r.body ≡ b → (y : Permanent B) × HasFirst r y
    has-first r listed body =
        let t = tight-fewest window xs x r listed in
        let h = (same r.first t.first_within).0 (record { it = r; listed = listed; applies = t.on_first; body = body }) in
        (h.it, record { listed = listed; body = body; other = h.listed; other_body = h.body; applies = h.applies })

    within-days : (n : ℕ) → window.first ≤ n → n ≤ window.last → IsWithin window n
    within-days n from upto = record { from = from; upto = upto }

    -- none of them has the first days of two records: the earlier could go on to the later
    not-both : (r s y : Permanent B) → r.first < s.first → HasFirst r y → ¬ HasFirst s y
    not-both r s y less of_r of_s =
        let t = tight-fewest window xs x r of_r.listed in
        let u = tight-fewest window xs x s of_s.listed in
        let from = t.first_within.from in
        let upto = u.first_within.upto in
        let begun = of_r.applies.begun in
        let unfinished = of_s.applies.unfinished in
        let on_s : HasBody xs s.first b = record { it = s; listed = of_s.listed; applies = u.on_first; body = of_s.body } in
        let on_r : HasBody xs r.first b = record { it = r; listed = of_r.listed; applies = t.on_first; body = of_r.body } in
        let (part, e) = exact-within r.first s.first y.days (omega arith) on_r on_s
        (λ n after before has. (same n (within-days n (omega arith) (omega arith))).1 (record {
          it = y;
          listed = of_r.other;
          applies = record { begun = omega arith; unfinished = omega arith; on_weekday = has };
          body = of_r.other_body;
        }))
        (λ n after before h.
        let in_window = within-days n (omega arith) (omega arith) in
        let other = (same n in_window).0 h in
        let one = apart other.it y other.listed of_r.other other.body of_r.other_body n in_window other.applies.begun
        other.applies.unfinished (omega arith) (omega arith) in
        (subst (λ v. Applies v n) one other.applies).on_weekday) in
        let r_last = t.on_first.unfinished in
        let after : r.last < s.first = ⊎_elim
        (λ later. later)
        (λ upto_r. absurd (let one = one-in-range window xs x r s s.first of_r.listed of_s.listed (of_r.body ∙ sym of_s.body)
        (omega arith) upto_r (omega arith) u.on_first.unfinished in omega (arith, ap (λ (v : Permanent B). v.first) one)))
        (cases_lt r.last s.first) in
        longest-record window xs x r s of_r.listed of_s.listed (of_r.body ∙ sym of_s.body) after part
        (subst (λ c. IsExact (λ n. HasBody xs n c) r.first s.first part) (sym of_r.body) e)

    -- two records that begin on one day are the same
    one-first : (r s : Permanent B) → xs r → xs s → r.first ≡ s.first → r ≡ s
    one-first r s in_r in_s first = x.single r.first r s in_r in_s (tight-fewest window xs x r in_r).on_first
        (subst (λ v. Applies s v) (sym first) (tight-fewest window xs x s in_s).on_first)

    pub no-more : (few others : List (Permanent B)) → AllPairs (λ r s. r ≢ s) few →
        ((r : Permanent B) → Contains few r → xs r × (r.body ≡ b)) →
        ((y : Permanent B) → ys y → y.body ≡ b → (n : ℕ) → IsWithin window n → Applies y n → Contains others y) →
        length few ≤ length others
    no-more few others different some all = no-longer_list HasFirst few others
        (λ r in_few.
        let (listed, body) = some r in_few in
        let (y, h) = has-first r listed body in
        (y, all y h.other h.other_body r.first (tight-fewest window xs x r listed).first_within h.applies, h))
        (λ i j d less below y of_r of_s.
        let r = get_or few i d in
        let s = get_or few j d in
        ⊎_elim
        (λ sooner. not-both r s y sooner of_r of_s)
        (λ from. ⊎_elim
        (λ later. not-both s r y later of_s of_r)
        (λ upto. different i j d less below (one-first r s of_r.listed of_s.listed (omega arith)))
        (cases_lt s.first r.first))
        (cases_lt r.first s.first))

  -- ---- one exact record
  module _ (b : B) (first last : ℕ) (days : List Bool) (e : IsExact (λ n. HasBody xs n b) first last days)
      (all : (n : ℕ) → HasBody xs n b → (first ≤ n) × (n ≤ last)) where
    abbrev it : Permanent B
    it = record { first = first; last = last; days = days; body = b }

    -- each record of the body is it
    pub is-it : (s : Permanent B) → xs s → s.body ≡ b → s ≡ it
    is-it s in_s body =
        let h = e.first_on in
        let r = h.it in
        let t = tight-fewest window xs x r h.listed in
        let on_first : HasBody xs r.first b = record { it = r; listed = h.listed; applies = t.on_first; body = h.body } in
        let on_last : HasBody xs r.last b = record { it = r; listed = h.listed; applies = t.on_last; body = h.body } in
        let begun = h.applies.begun in
        let (after, _) = all r.first on_first in
        let (_, before) = all r.last on_last in
        let starts : r.first ≡ first = omega arith in
        let ordered = t.on_first.unfinished in
        let ends : r.last ≡ last = ⊎_elim
        (λ less. absurd (
        let g = e.last_on in
        let next = g.it in
        let same : r.body ≡ next.body = h.body ∙ sym g.body in
        let u = tight-fewest window xs x next g.listed in
        let next_begun = g.applies.begun in
        let next_ended = g.applies.unfinished in
        let next_order = u.on_first.unfinished in
        let on_next : HasBody xs next.first b = record { it = next; listed = g.listed; applies = u.on_first; body = g.body } in
        let (from, _) = all next.first on_next in
        let later : r.last < next.first = ⊎_elim
        (λ later. later)
        (λ upto. absurd (let one = one-in-range window xs x r next next.first h.listed g.listed same (omega arith) upto (omega arith)
        next_order in omega (arith, ap (λ (v : Permanent B). v.last) one)))
        (cases_lt r.last next.first) in
        let (part, t_part) = exact-part first next.first last days e from next_begun on_next in
        longest-record window xs x r next h.listed g.listed same later part
        (subst (λ v. IsExact (λ n. HasBody xs n r.body) v next.first part) (sym starts)
        (subst (λ c. IsExact (λ n. HasBody xs n c) first next.first part) (sym h.body) t_part))))
        (λ upto. omega arith)
        (cases_lt r.last last) in
        let own = exact-record window xs x r h.listed in
        let mask : r.days ≡ days = exact-mask first last r.days days
        (subst (λ v. IsExact (λ n. HasBody xs n b) v last r.days) starts
        (subst (λ v. IsExact (λ n. HasBody xs n b) r.first v r.days) ends
        (subst (λ c. IsExact (λ n. HasBody xs n c) r.first r.last r.days) h.body own))) e in
        let s_tight = tight-fewest window xs x s in_s in
        let (s_from, s_upto) = all s.first (record { it = s; listed = in_s; applies = s_tight.on_first; body = body }) in
        let one = one-in-range window xs x s r s.first in_s h.listed (body ∙ sym h.body) (omega arith) s_tight.on_first.unfinished
        (omega arith) (omega arith) in
        one ∙ records_equal r it starts ends mask h.body

    pub it-listed : xs it
    it-listed = let h = e.first_on in subst xs (is-it h.it h.listed h.body) h.listed
