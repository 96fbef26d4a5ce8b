-- Runs of the same days: what is known of them over one set of days is known over the other.
use Rattle.cif_weeks.proofs.Names.{Breaks, Fits, Form, IsGrown, One, Permanent, Three, Two, Window, inl, inr, week_of, ℕ, ◌+◌}
use Rattle.cif_weeks.proofs.Masks.{mask-over}

module _ {B : Type 0} (window : Window) {on other : ℕ → Type 0} (forth : (n : ℕ) → on n → other n) (back : (n : ℕ) → other n → on n)
    (r : Permanent B) where
  fits-over : (form : Form) (week : ℕ) → Fits form window on r.days week → Fits form window other r.days week
  fits-over Three week f = f
  fits-over One week m = mask-over week r.days (λ n _. forth n) (λ n _. back n) m
  fits-over Two week f = record { shows = λ n at h. f.shows n at (back n h); full = λ n at within runs. forth n (f.full n at within runs) }

  pub grown-over : (form : Form) → IsGrown form window on r → IsGrown form window other r
  grown-over form g = record {
    seven = g.seven;
    in_order = g.in_order;
    first_runs = forth r.first g.first_runs;
    last_runs = forth r.last g.last_runs;
    earliest = λ n at h. g.earliest n at (back n h);
    latest = λ n at h. g.latest n at (back n h);
    used = λ w runs. let (n, day, begun, unfinished, h) = g.used w runs in (n, day, begun, unfinished, forth n h);
    fits = λ week begun unfinished. fits-over form week (g.fits week begun unfinished);
  }

  pub breaks-over : (form : Form) → Breaks form window on r → Breaks form window other r
  breaks-over Three h = h
  breaks-over One h = λ next m. h next (mask-over (week_of r.last + 1) next (λ n _. back n) (λ n _. forth n) m)
  breaks-over Two (n, t) = (
    n,
    record {
      in_week = t.in_week;
      within = t.within;
      next_within = t.next_within;
      on_one = elim t.on_one [
        | inl p ↦ inl (forth n p.0, λ h. p.1 (back (n + 7) h))
        | inr p ↦ inr (λ h. p.0 (back n h), forth (n + 7) p.1)
      ];
    },
  )
