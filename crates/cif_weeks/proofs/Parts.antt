-- The part of a run from one day to another, weekday by weekday.
use Rattle.cif_weeks.proofs.Names.{Bool, IsPart, IsRunDay, List, Run, RunsOn, arith}
use Rattle.cif_weeks.proofs.Names.{cases_lt, inl, inr, length, nat_cmp, refl, rules, subst}
use Rattle.cif_weeks.proofs.Names.{sym, weekday_of, ℕ, ⊎_elim, ◌+◌, ◌<◌, ◌↔◌, ◌∙◌, ◌≡◌, ◌≤◌, ◌⊎◌}
use Rattle.std.specs.Ordering.{ord_max, ord_min}

later-of : (a b it : ℕ) → it ≡ ord_max nat_cmp a b → (a ≤ it) × (b ≤ it) × ((it ≡ a) ⊎ (it ≡ b))
later-of a b it is = (search rules, search rules, search rules)

earlier-of : (a b it : ℕ) → it ≡ ord_min nat_cmp a b → (it ≤ a) × (it ≤ b) × ((it ≡ a) ⊎ (it ≡ b))
earlier-of a b it is = (search rules, search rules, search rules)

-- day n lies in the range, and its weekday is one of the run's, and before this one
pub record IsSeen (run : Run) (first last weekday n : ℕ) : Type 0 where
  pub from : first ≤ n
  pub upto : n ≤ last
  pub has : RunsOn run.days (weekday_of n)
  pub before : weekday_of n < weekday

-- The mask has the weekdays of the days that are seen, and they lie from `start` to `end`.
pub record IsPartBefore (run : Run) (first last weekday : ℕ) (days : List Bool) (start end : ℕ) : Type 0 where
  pub seven : length days ≡ 7
  pub shown : (n : ℕ) → IsSeen run first last weekday n → RunsOn days (weekday_of n) × (start ≤ n) × (n ≤ end)
  pub used : (w : ℕ) → RunsOn days w → (n : ℕ) × (weekday_of n ≡ w) × IsSeen run first last weekday n
  pub start_is : (start ≡ last) ⊎ IsSeen run first last weekday start
  pub end_is : (end ≡ first) ⊎ IsSeen run first last weekday end

-- the first and the last day of a weekday in the range
abbrev pub AreFirstAndLast : ℕ → ℕ → ℕ → ℕ → ℕ → Type 0
AreFirstAndLast first last weekday one other = (first ≤ one) × (one < first + 7) × (weekday_of one ≡ weekday) × (one ≤ other)
    × (other ≤ last) × (last < other + 7) × (weekday_of other ≡ weekday)

module _ (run : Run) (first last : ℕ) where
  pub part-start : (days : List Bool) → length days ≡ 7 → ((w : ℕ) → ¬ RunsOn days w) → IsPartBefore run first last 0 days last first
  part-start days seven none = record {
    seven = seven;
    shown = λ n seen. absurd (let before = seen.before in omega arith);
    used = λ w has. absurd (none w has);
    start_is = inl refl;
    end_is = inl refl;
  }

  module _ (weekday : ℕ) (days : List Bool) (start end : ℕ) (h : IsPartBefore run first last weekday days start end) where
    seen-more : (n : ℕ) → IsSeen run first last weekday n → IsSeen run first last (weekday + 1) n
    seen-more n seen =
        record { from = seen.from; upto = seen.upto; has = seen.has; before = let before = seen.before in omega arith }

    seen-cases : (n : ℕ) → IsSeen run first last (weekday + 1) n → IsSeen run first last weekday n ⊎ (weekday_of n ≡ weekday)
    seen-cases n seen = ⊎_elim
        (λ sooner. inl (record { from = seen.from; upto = seen.upto; has = seen.has; before = sooner }))
        (λ from. inr (let before = seen.before in omega arith))
        (cases_lt (weekday_of n) weekday)

    -- a weekday more, of which there is no such day
    pub part-same : ((n : ℕ) → first ≤ n → n ≤ last → RunsOn run.days (weekday_of n) → ¬ (weekday_of n ≡ weekday)) →
        IsPartBefore run first last (weekday + 1) days start end
    part-same none = record {
      seven = h.seven;
      shown = λ n seen. ⊎_elim
          (λ old. h.shown n old)
          (λ new. absurd (none n seen.from seen.upto seen.has new))
          (seen-cases n seen);
      used = λ w has. let (n, day, seen) = h.used w has in (n, day, seen-more n seen);
      start_is = ⊎_elim (λ same. inl same) (λ seen. inr (seen-more start seen)) h.start_is;
      end_is = ⊎_elim (λ same. inl same) (λ seen. inr (seen-more end seen)) h.end_is;
    }

    seen-on-weekday : RunsOn run.days weekday → (n : ℕ) → first ≤ n → n ≤ last → weekday_of n ≡ weekday →
        IsSeen run first last (weekday + 1) n
    seen-on-weekday has n from upto day =
        record { from = from; upto = upto; has = subst (RunsOn run.days) (sym day) has; before = omega arith }

    -- or there are some
    pub part-more : (both : List Bool) (one other sooner later : ℕ) → RunsOn run.days weekday →
        AreFirstAndLast first last weekday one other →
        length both ≡ 7 → ((w : ℕ) → RunsOn both w ↔ (RunsOn days w ⊎ (w ≡ weekday))) → sooner ≡ ord_min nat_cmp start one →
        later ≡ ord_max nat_cmp end other → IsPartBefore run first last (weekday + 1) both sooner later
    part-more both one other sooner later has (a, b, c, d, e, f, g) seven union is_sooner is_later =
        let (upto_start, upto_one, which) = earlier-of start one sooner is_sooner in
        let (from_end, from_other, which_end) = later-of end other later is_later in
        let seen-day = λ (n : ℕ) (from : first ≤ n) (upto : n ≤ last) (day : weekday_of n ≡ weekday). seen-on-weekday has n from upto day in
        record {
          seven = seven;
          shown = λ n known. ⊎_elim
              (λ old. let (shows, from, upto) = h.shown n old in ((union (weekday_of n)).1 (inl shows), omega arith, omega arith))
              (λ new.
              let from = known.from in
              let upto = known.upto in
              ((union (weekday_of n)).1 (inr new), omega arith, omega arith))
              (seen-cases n known);
          used = λ w shows. ⊎_elim
              (λ old. let (n, day, known) = h.used w old in (n, day, seen-more n known))
              (λ new. (one, c ∙ sym new, seen-day one a (omega arith) c))
              ((union w).0 shows);
          start_is = ⊎_elim
              (λ same. ⊎_elim
              (λ at. inl (same ∙ at))
              (λ known. inr (subst (IsSeen run first last (weekday + 1)) (sym same) (seen-more start known)))
              h.start_is)
              (λ same. inr (subst (IsSeen run first last (weekday + 1)) (sym same) (seen-day one a (omega arith) c)))
              which;
          end_is = ⊎_elim
              (λ same. ⊎_elim
              (λ at. inl (same ∙ at))
              (λ known. inr (subst (IsSeen run first last (weekday + 1)) (sym same) (seen-more end known)))
              h.end_is)
              (λ same. inr (subst (IsSeen run first last (weekday + 1)) (sym same) (seen-day other (omega arith) e g)))
              which_end;
        }

-- all weekdays are done
module _ (run : Run) (from to first last : ℕ) (begins : first ≡ ord_max nat_cmp run.first from)
    (ends : last ≡ ord_min nat_cmp run.last to) (weekday : ℕ) (all : 7 ≤ weekday) (days : List Bool) (start end : ℕ)
    (h : IsPartBefore run first last weekday days start end) where
  within : (n : ℕ) → IsRunDay run n → from ≤ n → n ≤ to → IsSeen run first last weekday n
  within n on after upto =
      let (a, b, which) = later-of run.first from first begins in
      let (c, d, which_last) = earlier-of run.last to last ends in
      let begun = on.begun in
      let unfinished = on.unfinished in
      record { from = omega arith; upto = omega arith; has = on.on_weekday; before = omega arith }

  pub part-none : ((w : ℕ) → ¬ RunsOn days w) → (n : ℕ) → IsRunDay run n → from ≤ n → to < n
  part-none none n on after = ⊎_elim
      (λ beyond. beyond)
      (λ upto. absurd (none (weekday_of n) (h.shown n (within n on after upto)).0))
      (cases_lt to n)

  module _ (w : ℕ) (some : RunsOn days w) where
    start-seen : IsSeen run first last weekday start
    start-seen = ⊎_elim
        (λ same.
        let (n, day, seen) = h.used w some in
        let (shows, from_n, upto_n) = h.shown n seen in
        let upto = seen.upto in
        let is : n ≡ start = omega arith in
        subst (IsSeen run first last weekday) is seen)
        (λ seen. seen)
        h.start_is

    end-seen : IsSeen run first last weekday end
    end-seen = ⊎_elim
        (λ same.
        let (n, day, seen) = h.used w some in
        let (shows, from_n, upto_n) = h.shown n seen in
        let begun = seen.from in
        let is : n ≡ end = omega arith in
        subst (IsSeen run first last weekday) is seen)
        (λ seen. seen)
        h.end_is

    abbrev it : Run
    it = record { first = start; last = end; days = days; source = run.source }

    seen-on : (n : ℕ) → IsSeen run first last weekday n → IsRunDay it n
    seen-on n seen = let (shows, after, upto) = h.shown n seen in record { begun = after; unfinished = upto; on_weekday = shows }

    pub part-is : IsPart run from to (record { first = start; last = end; days = days; source = run.source })
    part-is =
        let (a, b, which) = later-of run.first from first begins in
        let (c, d, which_last) = earlier-of run.last to last ends in
        let seen_start = start-seen in
        let seen_end = end-seen in
        let begins = seen_start.from in
        let ends = seen_end.upto in
        record {
          seven = h.seven;
          source_is = refl;
          days = λ n. (
            λ on.
                let (m, day, seen) = h.used (weekday_of n) on.on_weekday in
                let begun = on.begun in
                let unfinished = on.unfinished in (
                  record { begun = omega arith; unfinished = omega arith; on_weekday = subst (RunsOn run.days) day seen.has },
                  omega arith,
                  omega arith,
                ),
            λ (on, after, upto). seen-on n (within n on after upto),
          );
          first_on = seen-on start seen_start;
          last_on = seen-on end seen_end;
          used = λ u has. let (n, day, seen) = h.used u has in (n, day, seen-on n seen);
        }
