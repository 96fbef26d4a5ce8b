-- What suffices for a list to meet a form: conditions on its records in their order.
use Rattle.cif_weeks.proofs.Names.{AllPairs, AllPairs-members, AreSeparate, Contains, Form, HaveForm, IsAligned, IsApartFrom, IsWithin}
use Rattle.cif_weeks.proofs.Names.{List, One, Permanent, Three, Two, Window, arith, inl, inr, subst, sym, ℕ, ◌↔◌, ◌≡◌, ◌≤◌, ◌⊎◌}
use Rattle.cif_weeks.proofs.{AlignedDays.IsTight, AlignedDays.tight, AlignedDays.within-tight, Exact.exact-over}
use Rattle.cif_weeks.proofs.Separate.{AreSeparate-sym, apart-once, separate-from_before}
use Rattle.cif_weeks.specs.{Applies.Applies, WhatRuns.HasBody}

-- The conditions, where one body at most runs on a day: each pair with one body is apart, a record with a body applies where that runs,
-- and where a record applies its body runs.
pub record MeetsInOrder {B : Type 0} (form : Form) (window : Window) (runs_on : B → ℕ → Type 0) (records : List (Permanent B))
    : Type 0 where
  pub one_body : (n : ℕ) (b c : B) → runs_on b n → runs_on c n → b ≡ c
  pub aligned : (r : Permanent B) → Contains records r → IsAligned form window r
  pub apart : AllPairs (λ r s. r.body ≡ s.body → IsApartFrom form window (runs_on r.body) r s) records
  pub complete : (n : ℕ) (b : B) → IsWithin window n → runs_on b n → HasBody (Contains records) n b
  pub sound : (n : ℕ) (r : Permanent B) → Contains records r → Applies r n → runs_on r.body n

module _ {B : Type 0} (form : Form) (window : Window) (runs_on : B → ℕ → Type 0) (records : List (Permanent B))
    (m : MeetsInOrder form window runs_on records) where
  tight_in : (r : Permanent B) → Contains records r → IsTight window r
  tight_in r in_r = tight r window form (m.aligned r in_r)

  ordered : (r : Permanent B) → Contains records r → r.first ≤ r.last
  ordered r in_r = (tight_in r in_r).on_first.unfinished

  -- where a body runs a record with it applies
  abbrev has_body : B → ℕ → Type 0
  has_body b n = HasBody (Contains records) n b

  shown : (b : B) (n : ℕ) → has_body b n → runs_on b n
  shown b n h = subst (λ c. runs_on c n) h.body (m.sound n h.it h.listed h.applies)

  within-body : (b : B) (n : ℕ) → has_body b n → IsWithin window n
  within-body b n h = within-tight h.it window (tight_in h.it h.listed) n h.applies

  same-apart : (form : Form) → (r s : Permanent B) → (b : B) → IsApartFrom form window (runs_on b) r s →
      IsApartFrom form window (has_body b) r s
  same-apart One r s b h = record { before = h.before; change = h.change }
  same-apart Two r s b h = record { before = h.before; change = h.change }
  same-apart Three r s b h = record {
    before = h.before;
    longest = λ days t.
        let from = (within-body b r.first t.first_on).from in
        let upto = (within-body b s.first t.last_on).upto in
        h.longest days (exact-over r.first s.first days t (λ n _ _. shown b n)
        (λ n begun unfinished runs. m.complete n b (record { from = omega arith; upto = omega arith }) runs));
  }

  separate : (r s : Permanent B) → Contains records r → Contains records s → IsApartFrom form window (runs_on r.body) r s →
      AreSeparate form window (has_body r.body) r s
  separate r s in_r in_s h = separate-from_before window (has_body r.body) r s (ordered r in_r) (ordered s in_s) form
      (same-apart form r s r.body h)

  -- two records with one body are one record, or separate
  one_or_separate : (r s : Permanent B) → Contains records r → Contains records s → r.body ≡ s.body →
      (r ≡ s) ⊎ AreSeparate form window (has_body r.body) r s
  one_or_separate r s in_r in_s same = elim
      (AllPairs-members (λ r s. r.body ≡ s.body → IsApartFrom form window (runs_on r.body) r s) r s records m.apart in_r in_s) [
        | inl one ↦ inl one
        | inr two ↦ inr (elim two [
          | inl h ↦ separate r s in_r in_s (h same)
          | inr h ↦ subst (λ b. AreSeparate form window (has_body b) r s) (sym same)
              (AreSeparate-sym form window (has_body s.body) s r (separate s r in_s in_r (h (sym same))))
        ])
      ]

  -- so the records have the form
  pub have_form : HaveForm form window (Contains records)
  have_form = record {
    single = λ n r s in_r in_s on_r on_s. elim
        (one_or_separate r s in_r in_s (m.one_body n r.body s.body (m.sound n r in_r on_r) (m.sound n s in_s on_s))) [
          | inl one ↦ one
          | inr h ↦ absurd (apart-once form r s n h.apart on_r on_s)
        ];
    aligned = m.aligned;
    separate = λ r s in_r in_s two same. elim (one_or_separate r s in_r in_s same) [ inl one ↦ absurd (two one) | inr h ↦ h ];
  }

  -- and say what runs
  pub say : (n : ℕ) (b : B) → IsWithin window n → runs_on b n ↔ HasBody (Contains records) n b
  say n b within = (m.complete n b within, λ h. subst (λ c. runs_on c n) h.body (m.sound n h.it h.listed h.applies))
