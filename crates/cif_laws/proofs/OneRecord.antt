-- A list of one aligned record, and an empty one, are canonical in form 2.
use Rattle.std.proofs.Common.{[], ap, arith, subst, sym, ⊎_elim, ◌<◌, ◌∙◌, ◌∷◌, ◌≡◌}
use Rattle.cif_calendar.proofs.{Elements.Contains-cases, RisingLists.Contains-none}
use Rattle.cif_calendar.specs.Keys.{of_key}
use Rattle.cif_weeks.specs.{Aligned.IsAlignedTwo, Canonical.AreCanonical, Permanent.Permanent, Window.Window}
use Rattle.cif_weeks.specs.declared.form.Form.TheVariants.{Two}
use Rattle.std.specs.declared.cmp.Ordering.{Ordering}

module _ {K B : Type 0} (cmp : K → K → Ordering) (window : Window) where
  pub none-canonical : AreCanonical {K = K} {B = B} cmp Two window []
  none-canonical = record {
    rising = λ i j d less below. absurd (omega (arith, below));
    have_form = λ k. record {
      single = λ n r s has_r has_s on_r on_s. absurd (Contains-none (k, r) has_r);
      aligned = λ r has. absurd (Contains-none (k, r) has);
      separate = λ r s has_r has_s differ bodies. absurd (Contains-none (k, r) has_r);
    };
  }

  module _ (key : K) (permanent : Permanent B) (aligned : IsAlignedTwo window permanent) where
    is-it : (k : K) (r : Permanent B) → of_key ((key, permanent) ∷ []) k r → permanent ≡ r
    is-it k r has = ⊎_elim
        (λ is. ap (λ (v : K × Permanent B). v.1) is)
        (λ none. absurd (Contains-none (k, r) none))
        (Contains-cases (key, permanent) [] (k, r) has)

    pub one-canonical : AreCanonical cmp Two window ((key, permanent) ∷ [])
    one-canonical = record {
      rising = λ i j d less below. let b : j < 1 = below in absurd (omega (arith, less, b));
      have_form = λ k. record {
        single = λ n r s has_r has_s on_r on_s. sym (is-it k r has_r) ∙ is-it k s has_s;
        aligned = λ r has. subst (IsAlignedTwo window) (is-it k r has) aligned;
        separate = λ r s has_r has_s differ bodies. absurd (differ (sym (is-it k r has_r) ∙ is-it k s has_s));
      };
    }
