-- Canonical records, and those of one key more.
use Rattle.cif_weeks.proofs.Names.{AllPairs, AreCanonical, Contains, Contains-append_cases, Contains-append_left, Contains-append_right}
use Rattle.cif_weeks.proofs.Names.{Contains-none, Form, HaveForm, IsTotalOrder, Less, List, Ordering, Permanent, Permanents, Precedes}
use Rattle.cif_weeks.proofs.Names.{Window, [], ap, arith, inl, inr, not_less, of_key, refl, subst, sym, with_key, ℕ, ⊎_elim, ◌++◌, ◌<◌, ◌↔◌}
use Rattle.cif_weeks.{proofs.Names.◌≡◌, proofs.Names.◌⊎◌, specs.WhatRuns.HasBody}
use Rattle.cif_weeks.proofs.Separate.{separate-over}
use Rattle.cif_weeks.proofs.JoinedLists.{AllPairs-append, AllPairs-map, Contains-from_map, Contains-map}

-- more records have the bodies of fewer
pub HasBody-more : {B : Type 0} (xs ys : Permanents B) → ((r : Permanent B) → xs r → ys r) → (n : ℕ) (b : B) → HasBody xs n b →
    HasBody ys n b
HasBody-more xs ys more n b h = record { it = h.it; listed = more h.it h.listed; applies = h.applies; body = h.body }

-- the same records have the same form
HaveForm-same : {B : Type 0} (form : Form) (window : Window) (xs ys : Permanents B) → ((r : Permanent B) → ys r ↔ xs r) →
    HaveForm form window xs → HaveForm form window ys
HaveForm-same form window xs ys same h = record {
  single = λ n r s in_r in_s. h.single n r s ((same r).0 in_r) ((same s).0 in_s);
  aligned = λ r in_r. h.aligned r ((same r).0 in_r);
  separate = λ r s in_r in_s two one. separate-over form
      (λ n. HasBody-more xs ys (λ t. (same t).1) n r.body) (λ n. HasBody-more ys xs (λ t. (same t).0) n r.body)
      (h.separate r s ((same r).0 in_r) ((same s).0 in_s) two one);
}

pub canonical-none : {K B : Type 0} (cmp : K → K → Ordering) (form : Form) (window : Window) →
    AreCanonical {K = K} {B = B} cmp form window []
canonical-none cmp form window = record {
  rising = λ i j d less within. absurd (omega arith);
  have_form = λ k. record {
    single = λ n r s in_r. absurd (Contains-none (k, r) in_r);
    aligned = λ r in_r. absurd (Contains-none (k, r) in_r);
    separate = λ r s in_r. absurd (Contains-none (k, r) in_r);
  };
}

module _ {K B : Type 0} (records : List (K × Permanent B)) (k : K) (own : List (Permanent B)) where
  -- what the list with the key's records has of each key
  pub of_key-more : (j : K) (r : Permanent B) → of_key (records ++ with_key k own) j r ↔ (of_key records j r ⊎ ((j ≡ k) × Contains own r))
  of_key-more j r = (
    λ h. ⊎_elim
        (λ old. inl old)
        (λ new.
        let (s, listed, is) = Contains-from_map (λ s. (k, s)) own (j, r) new in
        inr (
          sym (ap (λ (e : K × Permanent B). e.0) is),
          subst (λ t. Contains own t) (ap (λ (e : K × Permanent B). e.1) is) listed,
        ))
        (Contains-append_cases records (with_key k own) (j, r) h),
    λ h. ⊎_elim
        (λ old. Contains-append_left records (with_key k own) (j, r) old)
        (λ new. Contains-append_right records (with_key k own) (j, r)
        (subst (λ i. of_key (with_key k own) i r) (sym new.0) (Contains-map (λ s. (k, s)) own r new.1)))
        h,
  )

  module _ (cmp : K → K → Ordering) (total : IsTotalOrder cmp) (form : Form) (window : Window)
      (c : AreCanonical cmp form window records) (before : (j : K) (r : Permanent B) → of_key records j r → cmp j k ≡ Less)
      (rising : AllPairs (λ r s. r.first < s.first) own) (have_form : HaveForm form window (Contains own)) where
    -- a key's records are all old, or all new
    key-form : (j : K) (r : Permanent B) → of_key (records ++ with_key k own) j r →
        HaveForm form window (of_key (records ++ with_key k own) j)
    key-form j r h = ⊎_elim
        (λ old. HaveForm-same form window (of_key records j) (of_key (records ++ with_key k own) j) (λ s. (
          λ in_s. ⊎_elim
              (λ also. also)
              (λ new. absurd (not_less cmp total j k new.0 (before j r old)))
              ((of_key-more j s).0 in_s),
          λ also. (of_key-more j s).1 (inl also),
        )) (c.have_form j))
        (λ new. HaveForm-same form window (Contains own) (of_key (records ++ with_key k own) j) (λ s. (
          λ in_s. ⊎_elim
              (λ old. absurd (not_less cmp total j k new.0 (before j s old)))
              (λ also. also.1)
              ((of_key-more j s).0 in_s),
          λ also. (of_key-more j s).1 (inr (new.0, also)),
        )) have_form)
        ((of_key-more j r).0 h)

    pub canonical-more : AreCanonical cmp form window (records ++ with_key k own)
    canonical-more = record {
      rising = AllPairs-append (Precedes cmp) records (with_key k own) c.rising
          (AllPairs-map (λ r. (k, r)) (Precedes cmp) own (λ i j d less within. inr (refl, rising i j d less within)))
          (λ x y in_x in_y.
          let (s, listed, is) = Contains-from_map (λ s. (k, s)) own y in_y in
          subst (λ e. Precedes cmp x e) is (inl (before x.0 x.1 in_x)));
      have_form = λ j. record {
        single = λ n r s in_r. (key-form j r in_r).single n r s in_r;
        aligned = λ r in_r. (key-form j r in_r).aligned r in_r;
        separate = λ r s in_r. (key-form j r in_r).separate r s in_r;
      };
    }
