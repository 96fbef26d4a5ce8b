-- Two sets of records that have one form, 1 or 2, and say the same have the same records.
use Rattle.cif_weeks.proofs.Names.{Bool, Change, ChangeBetween, EitherApplies, Form, HaveForm, IsAligned, IsAlignedOne, IsAlignedTwo}
use Rattle.cif_weeks.proofs.Names.{IsByWeeks, IsWeekOf, List, One, Option, Permanent, Permanents, RunsOn, SayTheSame, SayWhatRuns, Three}
use Rattle.cif_weeks.proofs.Names.{Two, Window, ap, arith, cases_eq, cases_lt, inl, inr, refl, subst}
use Rattle.cif_weeks.proofs.Names.{sym, week_of, ℕ, ◌+◌, ◌-◌, ◌∙◌, ◌≡◌, ◌≢◌, ◌≤◌}
use Rattle.cif_weeks.proofs.AlignedDays.{DayOfWeek, IsTight, day_in_week, full_two, full_week, tight, week_of-applies, within-tight}
use Rattle.cif_weeks.proofs.Separate.{weeks-separate}
use Rattle.cif_weeks.{proofs.WeekDays.masks_equal, specs.Applies.Applies, specs.WhatRuns.HasBody}

-- two records apply on the same days of a week
record ApplyAlike {B : Type 0} (r s : Permanent B) (week : ℕ) : Type 0 where
  there : (n : ℕ) → week_of n ≡ week → Applies r n → Applies s n
  back : (n : ℕ) → week_of n ≡ week → Applies s n → Applies r n

-- form 1: then their masks are equal, if the week is one of both
module _ {B : Type 0} (window : Window) where
  mask_within : (r s : Permanent B) (week : ℕ) → IsAlignedOne window r → IsWeekOf r week
      → ((n : ℕ) → week_of n ≡ week → Applies r n → Applies s n) → (w : ℕ) → RunsOn r.days w → RunsOn s.days w
  mask_within r s week a of_r there w on =
      let d : DayOfWeek r week w = full_week r window a week w of_r on in
      subst (λ v. RunsOn s.days v) d.on_weekday (there d.day d.in_week d.applies).on_weekday

  same_masks : (r s : Permanent B) (week : ℕ) → IsAlignedOne window r → IsAlignedOne window s → IsWeekOf r week → IsWeekOf s week
      → ApplyAlike r s week → r.days ≡ s.days
  same_masks r s week a b of_r of_s alike = masks_equal r.days s.days (a.seven ∙ sym b.seven)
      (mask_within r s week a of_r alike.there) (mask_within s r week b of_s alike.back)

-- A record r that has both weeks, and applies in the first as s, which ends in it, and in the second as t, which begins
-- in it: so there is no change from s to t.
module _ {B : Type 0} (window : Window) (r s t : Permanent B) (week : ℕ)
    (last : week_of s.last ≡ week) (first : week_of t.first ≡ week + 1)
    (r_week : IsWeekOf r week) (r_next : IsWeekOf r (week + 1)) (s_week : IsWeekOf s week) (t_next : IsWeekOf t (week + 1))
    (alike_s : ApplyAlike s r week) (alike_t : ApplyAlike t r (week + 1)) where
  no_change_one : IsAlignedOne window r → IsAlignedOne window s → IsAlignedOne window t → s.days ≢ t.days → ⊥
  no_change_one a b c differ = differ
      (same_masks window s r week b a s_week r_week alike_s
      ∙ sym (same_masks window t r (week + 1) c a t_next r_next alike_t))

  -- in s's last week t doesn't apply, and in t's first week s doesn't
  applies_last : (m : ℕ) → week_of m ≡ week → EitherApplies s t m → Applies s m
  applies_last m at (inl h) = h
  applies_last m at (inr h) = let begun : week_of t.first ≤ week_of m = (week_of-applies t m h).begun in absurd (omega arith)

  applies_first : (n : ℕ) → week_of n ≡ week + 1 → EitherApplies s t n → Applies t n
  applies_first n at (inr h) = h
  applies_first n at (inl h) = let unfinished : week_of n ≤ week_of s.last = (week_of-applies s n h).unfinished in absurd (omega arith)

  module _ (a : IsAlignedTwo window r) (m n : ℕ) (change : ChangeBetween window s t m n) where
    at_last : week_of m ≡ week
    at_last = change.in_last_week ∙ last

    at_first : week_of n ≡ week + 1
    at_first = change.in_first_week ∙ first

    carries_on : Applies s m → Applies t n
    carries_on h = alike_t.back n at_first
        (full_two r window a n change.next_within (subst (λ v. IsWeekOf r v) (sym at_first) r_next)
        (subst (λ v. RunsOn r.days v) change.one_weekday (alike_s.there m at_last h).on_weekday))

    carries_back : Applies t n → Applies s m
    carries_back h = alike_s.back m at_last
        (full_two r window a m change.within (subst (λ v. IsWeekOf r v) (sym at_last) r_week)
        (subst (λ v. RunsOn r.days v) (sym change.one_weekday) (alike_t.there n at_first h).on_weekday))

    no_change_two : ⊥
    no_change_two = elim change.on_one [
      | inl p ↦ p.1 (inr (carries_on (applies_last m at_last p.0)))
      | inr p ↦ p.0 (inl (carries_back (applies_first n at_first p.1)))
    ]

  no_change : (form : Form) → IsByWeeks form → (on : ℕ → Type 0) → IsAligned form window r → IsAligned form window s →
      IsAligned form window t → Change form window on s t → ⊥
  no_change One by on a b c change = no_change_one a b c change
  no_change Two by on a b c (m, n, change) = no_change_two a m n change
  no_change Three by on a b c change = absurd by

fields_equal : {B : Type 0} (f g l m : ℕ) (d e : List Bool) (a b : B) → f ≡ g → l ≡ m → d ≡ e → a ≡ b
    → ◌≡◌ {A = Permanent B} (record { first = f; last = l; days = d; body = a }) (record { first = g; last = m; days = e; body = b })
fields_equal f g l m d e a b p q r s = cc

pub records_equal : {B : Type 0} (r s : Permanent B) → r.first ≡ s.first → r.last ≡ s.last → r.days ≡ s.days → r.body ≡ s.body → r ≡ s
records_equal r s a b c d = fields_equal r.first s.first r.last s.last r.days s.days r.body s.body a b c d

-- records with one body that apply on the same days are equal
module _ {B : Type 0} (window : Window) where
  uses : (r s : Permanent B) → IsTight window r → ((n : ℕ) → Applies r n → Applies s n) → (w : ℕ) → RunsOn r.days w → RunsOn s.days w
  uses r s t there w on =
      let (n, on_weekday, applies) = t.used w on in
      subst (λ v. RunsOn s.days v) on_weekday (there n applies).on_weekday

  pub same_record : (r s : Permanent B) → IsTight window r → IsTight window s → r.body ≡ s.body
      → ((n : ℕ) → Applies r n → Applies s n) → ((n : ℕ) → Applies s n → Applies r n) → r ≡ s
  same_record r s t u same there back =
      let a : s.first ≤ r.first = (there r.first t.on_first).begun in
      let b : r.last ≤ s.last = (there r.last t.on_last).unfinished in
      let c : r.first ≤ s.first = (back s.first u.on_first).begun in
      let d : s.last ≤ r.last = (back s.last u.on_last).unfinished in
      records_equal r s (omega arith) (omega arith)
      (masks_equal r.days s.days (t.seven ∙ sym u.seven) (uses r s t there) (uses s r u back)) same

-- it is the same the other way round
pub SayTheSame-sym : {B : Type 0} (window : Window) (xs ys : Permanents B) → SayTheSame window xs ys → SayTheSame window ys xs
SayTheSame-sym window xs ys h = record { same = λ n b within. ((h.same n b within).1, (h.same n b within).0) }

-- sets that say what runs say the same
pub SayTheSame-from_runs : {B : Type 0} (window : Window) (body_on : ℕ → Option B) (xs ys : Permanents B)
    → SayWhatRuns window body_on xs → SayWhatRuns window body_on ys → SayTheSame window xs ys
SayTheSame-from_runs window body_on xs ys x y = record {
  same = λ n b within. (λ h. (y.says n b within).0 ((x.says n b within).1 h), λ h. (x.says n b within).0 ((y.says n b within).1 h));
}

module _ {B : Type 0} (form : Form) (by : IsByWeeks form) (window : Window) where
  module _ (xs : Permanents B) (x : HaveForm form window xs) where
    tight_in : (r : Permanent B) → xs r → IsTight window r
    tight_in r in_r = tight r window form (x.aligned r in_r)

    -- two records of a set with one body that have a week in common are the same
    one_in_week : (r s : Permanent B) (week : ℕ) → xs r → xs s → r.body ≡ s.body → IsWeekOf r week → IsWeekOf s week → r ≡ s
    one_in_week r s week in_r in_s same of_r of_s = elim (cases_eq r.first s.first) [
      | inr apart ↦ absurd ((weeks-separate form by
          (x.separate r s in_r in_s (λ one. apart (ap (λ v. v.first) one)) same)).apart week of_r of_s)
      | inl first ↦ x.single r.first r s in_r in_s (tight_in r in_r).on_first
          (subst (λ v. Applies s v) (sym first) (tight_in s in_s).on_first)
    ]

  module _ (xs ys : Permanents B) (x : HaveForm form window xs) (y : HaveForm form window ys) (h : SayTheSame window xs ys) where
    -- a record of the other set applies where one of this set does
    other : (r : Permanent B) (n : ℕ) → xs r → Applies r n → HasBody ys n r.body
    other r n in_r on =
        (h.same n r.body (within-tight r window (tight_in xs x r in_r) n on)).0
        (record { it = r; listed = in_r; applies = on; body = refl })

    -- a record of the other set with that body that has the day's week applies there too
    shared : (r s : Permanent B) (n : ℕ) → xs r → ys s → r.body ≡ s.body → IsWeekOf s (week_of n) → Applies r n → Applies s n
    shared r s n in_r in_s same of_s on =
        let found : HasBody ys n r.body = other r n in_r on in
        let bodies : found.it.body ≡ s.body = found.body ∙ same in
        let one : found.it ≡ s = one_in_week ys y found.it s (week_of n) found.listed in_s bodies
        (week_of-applies found.it n found.applies) of_s in
        subst (λ t. Applies t n) one found.applies

    -- a record of the other set has r's body and one of r's weeks
    in_week : (r : Permanent B) (week : ℕ) → xs r → IsWeekOf r week → (s : Permanent B) × ys s × (s.body ≡ r.body) × IsWeekOf s week
    in_week r week in_r of_r =
        let (n, at, on) = day_in_week r window (tight_in xs x r in_r) week of_r in
        let found : HasBody ys n r.body = other r n in_r on in
        (found.it, found.listed, found.body, subst (λ v. IsWeekOf found.it v) at (week_of-applies found.it n found.applies))

  -- two records of the two sets with one body apply alike in a week that both have
  alike : (xs ys : Permanents B) → HaveForm form window xs → HaveForm form window ys → SayTheSame window xs ys
      → (r s : Permanent B) (week : ℕ) → xs r → ys s → r.body ≡ s.body → IsWeekOf r week → IsWeekOf s week → ApplyAlike r s week
  alike xs ys x y h r s week in_r in_s same of_r of_s = record {
    there = λ n at on. shared xs ys x y h r s n in_r in_s same (subst (λ v. IsWeekOf s v) (sym at) of_s) on;
    back = λ n at on. shared ys xs y x (SayTheSame-sym window xs ys h) s r n in_s in_r (sym same)
        (subst (λ v. IsWeekOf r v) (sym at) of_r) on;
  }

  module _ (xs ys : Permanents B) (x : HaveForm form window xs) (y : HaveForm form window ys) (h : SayTheSame window xs ys) where
    -- r has no two weeks in a row of which s and t of the other set have one each, not being one record
    no_seam : (r s t : Permanent B) (week : ℕ) → xs r → ys s → ys t → s.body ≡ r.body → t.body ≡ r.body
        → IsWeekOf r week → IsWeekOf r (week + 1) → IsWeekOf s week → IsWeekOf t (week + 1) → s ≢ t → ⊥
    no_seam r s t week in_r in_s in_t body_s body_t r_week r_next s_week t_next two =
        let apart = weeks-separate form by (y.separate s t in_s in_t two (body_s ∙ sym body_t)) in
        let s_begun : week_of s.first ≤ week = s_week.begun in
        let s_last : week ≤ week_of s.last = s_week.unfinished in
        let t_first : week_of t.first ≤ week + 1 = t_next.begun in
        let t_last : week + 1 ≤ week_of t.last = t_next.unfinished in
        let back : SayTheSame window ys xs = SayTheSame-sym window xs ys h in
        elim (cases_lt week (week_of s.last)) [
          | inl later ↦ apart.apart (week + 1) (record { begun = omega arith; unfinished = omega arith }) t_next
          | inr last ↦ elim (cases_lt week (week_of t.first)) [
            | inr sooner ↦ apart.apart week s_week (record { begun = sooner; unfinished = omega arith })
            | inl first ↦ no_change window r s t week (omega arith) (omega arith) r_week r_next s_week t_next
                (alike ys xs y x back s r week in_s in_r body_s s_week r_week)
                (alike ys xs y x back t r (week + 1) in_t in_r body_t t_next r_next)
                form by _ (x.aligned r in_r) (y.aligned s in_s) (y.aligned t in_t) (apart.follows (omega arith))
          ]
        ]

    -- r begins in no earlier week, and ends in no later one, than a record of the other set that shares body and week
    not_earlier : (r s : Permanent B) (week : ℕ) → xs r → ys s → s.body ≡ r.body → IsWeekOf r week → IsWeekOf s week
        → week_of s.first ≤ week_of r.first
    not_earlier r s week in_r in_s same of_r of_s = elim (cases_lt (week_of r.first) (week_of s.first)) [
      | inr first ↦ first
      | inl sooner ↦
          let r_last : week ≤ week_of r.last = of_r.unfinished in
          let s_first : week_of s.first ≤ week = of_s.begun in
          let s_last : week ≤ week_of s.last = of_s.unfinished in
          let before : ℕ = week_of s.first - 1 in
          let r_week : IsWeekOf r before = record { begun = omega arith; unfinished = omega arith } in
          let r_next : IsWeekOf r (before + 1) = record { begun = omega arith; unfinished = omega arith } in
          let s_next : IsWeekOf s (before + 1) = record { begun = omega arith; unfinished = omega arith } in
          let (t, in_t, same_t, t_week) = in_week xs ys x y h r before in_r r_week in
          let t_first : week_of t.first ≤ before = t_week.begun in
          absurd (no_seam r t s before in_r in_t in_s same_t same r_week r_next t_week s_next
          (λ one. let first : week_of t.first ≡ week_of s.first = ap (λ v. week_of v.first) one in omega arith))
    ]

    not_later : (r s : Permanent B) (week : ℕ) → xs r → ys s → s.body ≡ r.body → IsWeekOf r week → IsWeekOf s week
        → week_of r.last ≤ week_of s.last
    not_later r s week in_r in_s same of_r of_s = elim (cases_lt (week_of s.last) (week_of r.last)) [
      | inr last ↦ last
      | inl later ↦
          let r_first : week_of r.first ≤ week = of_r.begun in
          let s_first : week_of s.first ≤ week = of_s.begun in
          let s_last : week ≤ week_of s.last = of_s.unfinished in
          let end : ℕ = week_of s.last in
          let r_week : IsWeekOf r end = record { begun = omega arith; unfinished = omega arith } in
          let r_next : IsWeekOf r (end + 1) = record { begun = omega arith; unfinished = omega arith } in
          let s_week : IsWeekOf s end = record { begun = omega arith; unfinished = omega arith } in
          let (t, in_t, same_t, t_next) = in_week xs ys x y h r (end + 1) in_r r_next in
          let t_last : end + 1 ≤ week_of t.last = t_next.unfinished in
          absurd (no_seam r s t end in_r in_s in_t same same_t r_week r_next s_week t_next
          (λ one. let last : week_of s.last ≡ week_of t.last = ap (λ v. week_of v.last) one in omega arith))
    ]

    -- so the other applies wherever r does
    extends : (r s : Permanent B) (week : ℕ) → xs r → ys s → s.body ≡ r.body → IsWeekOf r week → IsWeekOf s week
        → (n : ℕ) → Applies r n → Applies s n
    extends r s week in_r in_s same of_r of_s n on =
        let at : IsWeekOf r (week_of n) = week_of-applies r n on in
        let r_first : week_of r.first ≤ week_of n = at.begun in
        let r_last : week_of n ≤ week_of r.last = at.unfinished in
        let first : week_of s.first ≤ week_of r.first = not_earlier r s week in_r in_s same of_r of_s in
        let last : week_of r.last ≤ week_of s.last = not_later r s week in_r in_s same of_r of_s in
        shared xs ys x y h r s n in_r in_s (sym same) (record { begun = omega arith; unfinished = omega arith }) on

  -- two such sets have the same records
  pub member-weeks : (xs ys : Permanents B) → HaveForm form window xs → HaveForm form window ys → SayTheSame window xs ys
      → (r : Permanent B) → xs r → ys r
  member-weeks xs ys x y h r in_r =
      let back : SayTheSame window ys xs = SayTheSame-sym window xs ys h in
      let t : IsTight window r = tight_in xs x r in_r in
      let found : HasBody ys r.first r.body = other xs ys x y h r r.first in_r t.on_first in
      let of_r : IsWeekOf r (week_of r.first) = week_of-applies r r.first t.on_first in
      let of_s : IsWeekOf found.it (week_of r.first) = week_of-applies found.it r.first found.applies in
      let one : r ≡ found.it = same_record window r found.it t (tight_in ys y found.it found.listed) (sym found.body)
      (extends xs ys x y h r found.it (week_of r.first) in_r found.listed found.body of_r of_s)
      (extends ys xs y x back found.it r (week_of r.first) found.listed in_r (sym found.body) of_s of_r) in
      subst ys (sym one) found.listed
