-- When the week after a record's last doesn't join it.
use Rattle.cif_weeks.proofs.Names.{Bool, Breaks, ExactlyOne, Form, IsGrown, IsMask, IsWithin, List, MasksDiffer, One, Permanent, RunsOn}
use Rattle.cif_weeks.proofs.Names.{Three, Two, Window, arith, inl, inr, subst, sym, week_of, weekday_of, ℕ, ◌+◌, ◌∙◌, ◌≡◌}
use Rattle.cif_weeks.proofs.{Grown.fits_last, Masks.mask_runs, Masks.one_mask, WeekDays.week_of-next, WeekDays.weekday_of-next}

-- no list has a weekday that an equal one doesn't have
pub not_equal : (x y : List Bool) (w : ℕ) → x ≡ y → ¬ ExactlyOne (RunsOn x w) (RunsOn y w)
not_equal x y w same (inl p) = p.1 (subst (λ v. RunsOn v w) same p.0)
not_equal x y w same (inr p) = p.0 (subst (λ v. RunsOn v w) (sym same) p.1)

module _ {B : Type 0} (window : Window) (on : ℕ → Type 0) (inside : (n : ℕ) → on n → IsWithin window n) where
  -- the mask of the next week differs from the record's
  pub breaks_differ : (form : Form) (r : Permanent B) (next : List Bool) → IsGrown form window on r
      → IsMask on (week_of r.last + 1) next → MasksDiffer form window (week_of r.last) r.days next
      → Breaks form window on r
  breaks_differ Three r next g k differ = fits_last window on inside Three r g
  breaks_differ One r next g k (w, below, counts, one) = λ other is_mask same.
      not_equal r.days next w (same ∙ one_mask on (week_of r.last + 1) other next is_mask k) one
  breaks_differ Two r next g k (w, below, (i, week_i, day_i, within, next_within), one) =
      let there : week_of (i + 7) ≡ week_of r.last + 1 = omega (arith, week_of-next i) in
      let day_there : weekday_of (i + 7) ≡ w = weekday_of-next i ∙ day_i in (
        i,
        record {
          in_week = week_i;
          within = within;
          next_within = next_within;
          on_one = elim one [
            | inl p ↦ inl (
              (fits_last window on inside Two r g).full i week_i within (subst (λ v. RunsOn r.days v) (sym day_i) p.0),
              λ e. p.1 (subst (λ v. RunsOn next v) day_there (k.shows (i + 7) there e)),
            )
            | inr p ↦ inr (
              λ e. p.0 (subst (λ v. RunsOn r.days v) day_i ((fits_last window on inside Two r g).shows i week_i e)),
              mask_runs on (week_of r.last + 1) next (i + 7) k there (subst (λ v. RunsOn next v) (sym day_there) p.1),
            )
          ];
        },
      )
