-- Two sets of records that have form 3 and say the same have the same records.
use Rattle.cif_weeks.proofs.Names.{Bool, HaveForm, IsExact, List, Permanent, Permanents, SayTheSame, Three, Window}
use Rattle.cif_weeks.proofs.Names.{ap, arith, cases_eq, cases_lt, refl, subst, suc, sym, zero, ℕ, ⊎_elim, ◌+◌, ◌<◌}
use Rattle.cif_weeks.proofs.Names.{◌∙◌, ◌≡◌, ◌≤◌}
use Rattle.cif_weeks.proofs.AlignedDays.{IsTight, tight, within-tight}
use Rattle.cif_weeks.proofs.Exact.{exact-over, exact-part}
use Rattle.cif_weeks.proofs.UniqueWeeks.{SayTheSame-sym, same_record}
use Rattle.cif_weeks.specs.{Applies.Applies, WhatRuns.HasBody}

module _ {B : Type 0} (window : Window) where
  module _ (xs : Permanents B) (x : HaveForm Three window xs) where
    pub tight-fewest : (r : Permanent B) → xs r → IsTight window r
    tight-fewest r in_r = tight r window Three (x.aligned r in_r)

    -- two records with one body that have a day in their ranges are the same
    pub one-in-range : (r s : Permanent B) (n : ℕ) → xs r → xs s → r.body ≡ s.body → r.first ≤ n → n ≤ r.last → s.first ≤ n →
        n ≤ s.last → r ≡ s
    one-in-range r s n in_r in_s same from upto begun unfinished = ⊎_elim
        (λ first. x.single r.first r s in_r in_s (tight-fewest r in_r).on_first
        (subst (λ v. Applies s v) (sym first) (tight-fewest s in_s).on_first))
        (λ apart. absurd ((x.separate r s in_r in_s (λ one. apart (ap (λ v. v.first) one)) same).apart n
        (record { from = from; upto = upto }) (record { from = begun; upto = unfinished })))
        (cases_eq r.first s.first)

    -- a record is exact for the days on which its body runs
    pub exact-record : (r : Permanent B) → xs r → IsExact (λ n. HasBody xs n r.body) r.first r.last r.days
    exact-record r in_r =
        let t = tight-fewest r in_r in
        record {
          seven = t.seven;
          in_order = t.on_first.unfinished;
          first_on = record { it = r; listed = in_r; applies = t.on_first; body = refl };
          last_on = record { it = r; listed = in_r; applies = t.on_last; body = refl };
          only = λ n on. record { it = r; listed = in_r; applies = on; body = refl };
          all = λ n from upto h. subst (λ s. Applies s n)
              (one-in-range h.it r n h.listed in_r h.body h.applies.begun h.applies.unfinished from upto) h.applies;
          used = t.used;
        }

    -- no record after it begins where it could go on to
    pub longest-record : (r s : Permanent B) → xs r → xs s → r.body ≡ s.body → r.last < s.first → (days : List Bool) →
        ¬ IsExact (λ n. HasBody xs n r.body) r.first s.first days
    longest-record r s in_r in_s same after days t =
        let ordered = (tight-fewest r in_r).on_first.unfinished in
        (x.separate r s in_r in_s (λ one. absurd (omega (arith, ap (λ (v : Permanent B). v.first) one))) same).follows after days t

  module _ (xs ys : Permanents B) (x : HaveForm Three window xs) (y : HaveForm Three window ys) (h : SayTheSame window xs ys) where
    -- where a record of the one applies, so does one of the other with its body
    there : (n : ℕ) (b : B) → HasBody xs n b → HasBody ys n b
    there n b has = (h.same n b (within-tight has.it window (tight-fewest xs x has.it has.listed) n has.applies)).0 has

  -- a record that begins where one of the other does ends no later
  no-longer : (xs ys : Permanents B) → HaveForm Three window xs → HaveForm Three window ys → SayTheSame window xs ys →
      (r s : Permanent B) → xs r → ys s → r.body ≡ s.body → r.first ≡ s.first → s.last ≤ r.last
  no-longer xs ys x y h r s in_r in_s same first = ⊎_elim
      (λ longer.
      let back = SayTheSame-sym window xs ys h in
      let e = exact-record ys y s in_s in
      let ordered = (tight-fewest xs x r in_r).on_first.unfinished in
      let found = there ys xs y x back s.last s.body e.last_on in
      let next = found.it in
      let body : r.body ≡ next.body = same ∙ sym found.body in
      let begun = found.applies.begun in
      let ended = found.applies.unfinished in
      let next_order = (tight-fewest xs x next found.listed).on_first.unfinished in
      let after : r.last < next.first = ⊎_elim
      (λ less. less)
      (λ from. absurd (⊎_elim
      (λ sooner. let one = one-in-range xs x r next r.first in_r found.listed body (omega arith) ordered (omega arith) (omega arith) in
      omega (arith, ap (λ (v : Permanent B). v.last) one))
      (λ later. let one = one-in-range xs x r next next.first in_r found.listed body (omega arith) (omega arith) (omega arith) next_order in
      omega (arith, ap (λ (v : Permanent B). v.last) one))
      (cases_lt next.first r.first)))
      (cases_lt r.last next.first) in
      let on_next = there xs ys x y h next.first s.body (record {
        it = next;
        listed = found.listed;
        applies = (tight-fewest xs x next found.listed).on_first;
        body = found.body;
      }) in
      let (part, t) = exact-part s.first next.first s.last s.days e (omega arith) begun on_next in
      absurd (longest-record xs x r next in_r found.listed body after part
      (subst (λ v. IsExact (λ n. HasBody xs n r.body) v next.first part) (sym first)
      (subst (λ b. IsExact (λ n. HasBody xs n b) s.first next.first part) (sym same)
      (exact-over s.first next.first part t
      (λ n _ _. there ys xs y x back n s.body) (λ n _ _. there xs ys x y h n s.body))))))
      (λ upto. upto)
      (cases_lt r.last s.last)

  -- so it is that one
  same-first : (xs ys : Permanents B) → HaveForm Three window xs → HaveForm Three window ys → SayTheSame window xs ys →
      (r s : Permanent B) → xs r → ys s → r.body ≡ s.body → r.first ≡ s.first → r ≡ s
  same-first xs ys x y h r s in_r in_s same first =
      let back = SayTheSame-sym window xs ys h in
      let a = no-longer xs ys x y h r s in_r in_s same first in
      let b = no-longer ys xs y x back s r in_s in_r (sym same) (sym first) in
      let forth = λ (n : ℕ) (on : Applies r n).
      let from = on.begun in
      let upto = on.unfinished in
      (exact-record ys y s in_s).all n (omega arith) (omega arith)
      (subst (HasBody ys n) same (there xs ys x y h n r.body (record { it = r; listed = in_r; applies = on; body = refl }))) in
      let other = λ (n : ℕ) (on : Applies s n).
      let from = on.begun in
      let upto = on.unfinished in
      (exact-record xs x r in_r).all n (omega arith) (omega arith)
      (subst (HasBody xs n) (sym same) (there ys xs y x back n s.body (record { it = s; listed = in_s; applies = on; body = refl }))) in
      same_record window r s (tight-fewest xs x r in_r) (tight-fewest ys y s in_s) same forth other

  -- each record that begins before a day is one of the other set
  module _ (xs ys : Permanents B) (x : HaveForm Three window xs) (y : HaveForm Three window ys) (h : SayTheSame window xs ys) where
    member-before : (limit : ℕ) (r : Permanent B) → r.first < limit → xs r → ys r
    member-before zero r less in_r = absurd (omega arith)
    member-before (suc limit) r less in_r =
        let t = tight-fewest xs x r in_r in
        let found = there xs ys x y h r.first r.body (record { it = r; listed = in_r; applies = t.on_first; body = refl }) in
        let s = found.it in
        let tight_s = tight-fewest ys y s found.listed in
        let begun = found.applies.begun in
        ⊎_elim
        (λ sooner.
        let back = SayTheSame-sym window xs ys h in
        let before = there ys xs y x back s.first s.body
        (record { it = s; listed = found.listed; applies = tight_s.on_first; body = refl }) in
        let q = before.it in
        let q_begun = before.applies.begun in
        let in_ys = member-before limit q (omega arith) before.listed in
        let same = y.single s.first q s in_ys found.listed before.applies tight_s.on_first in
        let in_xs = subst xs same before.listed in
        let one = x.single r.first s r in_xs in_r found.applies t.on_first in
        subst ys one found.listed)
        (λ from.
        let first : r.first ≡ s.first = omega arith in
        subst ys (sym (same-first xs ys x y h r s in_r found.listed (sym found.body) first)) found.listed)
        (cases_lt s.first r.first)

    pub member-fewest : (r : Permanent B) → xs r → ys r
    member-fewest r = member-before (r.first + 1) r (omega arith)
