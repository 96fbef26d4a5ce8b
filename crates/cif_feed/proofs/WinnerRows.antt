-- On each day one row shows what runs.
use Rattle.cif_feed.proofs.Names.{Applies, Bool, CountOn, Holidays, IsHolidayOf, IsClashDay, IsTrue, List, None, Option, PublishedParts}
use Rattle.cif_feed.proofs.Names.{HolidayCode, PublishedSchedule, Records, Runs, Some, Stp, Terms, Wins, [], arith, cases_lt, false, inl, inr, length}
use Rattle.cif_feed.proofs.Names.{published_schedules, refl, schedule_terms, slice_cmp, nat_cmp, slice_get, slice_get_within, subst, suc, sym, true, ℕ, ⊎_elim}
use Rattle.cif_feed.proofs.Names.{◌+◌, ◌<◌, ◌↔◌, ◌∙◌, ◌≡◌, ◌≤◌, ◌⊎◌}
use Rattle.std.proofs.Common.{zero}
use Rattle.std.specs.Prelude.{IsNone}
use Rattle.std.proofs.lemmas.Cmp.{nat_list_cmp_total}
use Rattle.cif_calendar.proofs.KeyTurns.{decided}
use Rattle.cif_calendar.specs.{Keys.of_key, Laws.Bodied.cancelled-from_bodied}
use Rattle.cif_columns.specs.Stp.{letter}
use Rattle.cif_columns.specs.declared.stp.Stp.TheVariants.{C}
use Rattle.cif_extract.specs.Body.{BodyLines}
use Rattle.cif_weeks.specs.{Permanent.Permanent, Window.IsWithin, Window.window_from}
use Rattle.cif_weeks.specs.Applies.{Applies as AppliesRow}
use Rattle.cif_feed.specs.Steps.Deciding.{AppliesAt, GoesBefore, precedence_in, ranked_at}
use Rattle.cif_feed.specs.{Winners.AreWinners, Winners.Decides, WinnersDays.SaysWhatRuns}
use Rattle.cif_feed.proofs.FoundDeciders.{IsOn, at-on, counted-at, for-published, on-at}
use Rattle.cif_feed.proofs.{PreparedRuns.in-list, TrainRows.same_uid}

-- ---- what runs

least-letter : (stp : Stp) → letter stp ≤ letter C → stp ≡ C
least-letter C low = refl
least-letter _ low = absurd (omega (arith, low))

-- what a winner has runs
winner-runs : {B : Type 0} (records : Records B) (d : ℕ) (r : Terms B) → Wins records d r → (IsNone r.body ↔ (r.letter ≡ C))
    → (o : Option B) → r.body ≡ o → Runs records d o
winner-runs records d r wins cancels (Some b) is = record { winner = r; wins = wins; body = is }
winner-runs records d r wins cancels None is =
    let own : r.letter ≡ C = cancels.0 (subst IsNone (sym is) refl) in
    record {
      cancelled = λ s other.
          let low : letter s.letter ≤ letter r.letter = other.least r wins.listed wins.applies in
          least-letter s.letter (subst (λ (stp : Stp). letter s.letter ≤ letter stp) own low);
    }

module _ (h : Holidays) (drops : Bool) (p : PublishedParts) (rows : List (List ℕ × Permanent ℕ)) (are : AreWinners h drops p rows)
    (train : List ℕ) (d : ℕ) where
  pub one-row : (row other : Permanent ℕ) → of_key rows train row → of_key rows train other → AppliesRow row d → AppliesRow other d
      → row ≡ other
  one-row row other listed listed_too on on_too = (are.canonical.have_form train).single d row other listed listed_too on on_too

  pub row-says : IsWithin (window_from p.header.first p.header.last) d → (row : Permanent ℕ) → of_key rows train row → AppliesRow row d
      → SaysWhatRuns h p train d row.body
  row-says within row listed on =
      let w = ((are.say train d row.body within).1 (record { it = row; listed = listed; applies = on; body = refl })).wins in
      let cancels = cancelled-from_bodied w.schedule.schedule.letter w.schedule.schedule.body w.schedule.schedule.bodied in record {
        schedule = w.schedule;
        at = w.at;
        of_train = w.of_train;
        runs = winner-runs (CountOn h (published_schedules p.schedules) train d) d (schedule_terms w.schedule.schedule) w.wins cancels
            w.schedule.schedule.body refl;
        cancelled = cancels;
      }

-- ---- which schedule decides

runs-decided : (o : Option Bool) → (o ≡ Some true) ⊎ (¬ (o ≡ Some true))
runs-decided None = inr (λ is. absurd (cc))
runs-decided (Some true) = inl refl
runs-decided (Some false) = inr (λ is. absurd (cc))

applies-decided : {B : Type 0} (r : Terms B) (d : ℕ) → Applies r d ⊎ (¬ Applies r d)
applies-decided r d = ⊎_elim
    (λ (early : d < r.first). inr (λ on. let begun : r.first ≤ d = on.begun in omega (arith, begun, early)))
    (λ (from : r.first ≤ d). ⊎_elim
    (λ (late : r.last < d). inr (λ on. let unfinished : d ≤ r.last = on.unfinished in omega (arith, unfinished, late)))
    (λ (upto : d ≤ r.last). ⊎_elim
    (λ runs. inl (record { begun = from; unfinished = upto; on_weekday = runs }))
    (λ idle. inr (λ on. idle on.on_weekday))
    (runs-decided _))
    (cases_lt r.last d))
    (cases_lt d r.first)

holiday-decided : (h : Holidays) (code : Option HolidayCode) (d : ℕ) → IsHolidayOf h code d ⊎ (¬ IsHolidayOf h code d)
holiday-decided h None d = inr (λ none. none)
holiday-decided h (Some code) d = in-list d _

-- the first by precedence of the positions of which something holds
module _ (schedules : List PublishedSchedule) (On : ℕ → Type 0) (one-way : (j : ℕ) → On j ⊎ (¬ On j)) where
  abbrev rank : ℕ → ℕ
  rank j = precedence_in (slice_get schedules j)

  record IsBest (n i : ℕ) : Type 0 where
    below : i < n
    on : On i
    least : (j : ℕ) → j < n → On j → GoesBefore (ranked_at schedules i) (ranked_at schedules j)

  at-end : (j n : ℕ) → j < suc n → n ≤ j → n ≡ j
  at-end j n below upto = omega (arith, below, upto)

  best-more : (n : ℕ) → ((j : ℕ) → j < n → ¬ On j) ⊎ ((i : ℕ) × IsBest n i) → On n ⊎ (¬ On n)
      → ((j : ℕ) → j < suc n → ¬ On j) ⊎ ((i : ℕ) × IsBest (suc n) i)
  best-more n (inl none) (inr lacks) = inl (λ j below on. ⊎_elim
      (λ less. none j less on)
      (λ upto. lacks (subst On (sym (at-end j n below upto)) on))
      (cases_lt j n))
  best-more n (inl none) (inl here) = inr (
    n,
    record {
      below = omega arith;
      on = here;
      least = λ j below on. ⊎_elim
          (λ less. absurd (none j less on))
          (λ upto. subst (λ (m : ℕ). GoesBefore (ranked_at schedules n) (ranked_at schedules m)) (at-end j n below upto)
          (omega arith, λ same. omega arith))
          (cases_lt j n);
    },
  )
  best-more n (inr (i, best)) (inr lacks) = inr (
    i,
    record {
      below = (let b : i < n = best.below in omega (arith, b));
      on = best.on;
      least = λ j below on. ⊎_elim
          (λ less. best.least j less on)
          (λ upto. absurd (lacks (subst On (sym (at-end j n below upto)) on)))
          (cases_lt j n);
    },
  )
  best-more n (inr (i, best)) (inl here) = ⊎_elim
      (λ (better : rank n < rank i). inr (
        n,
        record {
          below = omega arith;
          on = here;
          least = λ j below on. ⊎_elim
              (λ less. let low : rank i ≤ rank j = (best.least j less on).0 in
              (omega (arith, low, better), λ same. absurd (let is : rank n ≡ rank j = same in omega (arith, low, better, is))))
              (λ upto. subst (λ (m : ℕ). GoesBefore (ranked_at schedules n) (ranked_at schedules m)) (at-end j n below upto)
              (omega arith, λ same. omega arith))
              (cases_lt j n);
        },
      ))
      (λ (no_better : rank i ≤ rank n). inr (
        i,
        record {
          below = (let b : i < n = best.below in omega (arith, b));
          on = best.on;
          least = λ j below on. ⊎_elim
              (λ less. best.least j less on)
              (λ upto. subst (λ (m : ℕ). GoesBefore (ranked_at schedules i) (ranked_at schedules m)) (at-end j n below upto)
              (no_better, λ same. let b : i < n = best.below in omega (arith, b)))
              (cases_lt j n);
        },
      ))
      (cases_lt (rank n) (rank i))

  best-of : (n : ℕ) → ((j : ℕ) → j < n → ¬ On j) ⊎ ((i : ℕ) × IsBest n i)
  best-of zero = inl (λ j below on. omega (arith, below))
  best-of (suc n) = best-more n (best-of n) (one-way n)

module _ (h : Holidays) (p : PublishedParts) (k : List ℕ) (n : ℕ) (within : IsWithin (window_from p.header.first p.header.last) n) where
  abbrev no_days : List ℕ → List ℕ
  no_days train = []

  abbrev applies : ℕ → ℕ → Type 0
  applies = AppliesAt h no_days p.header.last p.schedules

  -- a schedule of the train applies at this position
  record IsAt (j : ℕ) : Type 0 where
    it : PublishedSchedule
    at : slice_get p.schedules j ≡ Some it
    of_train : it.schedule.uid ≡ k
    on : applies j n

  on-of : (j : ℕ) (s : PublishedSchedule) → slice_get p.schedules j ≡ Some s → s.schedule.uid ≡ k → applies j n
      → IsOn h false p no_days (λ is. absurd (cc)) (λ is train. refl) k n within s
  on-of j s at uid a = on-at h false p no_days (λ is. absurd (cc)) (λ is train. refl) k n within j s at uid a

  some-decided : (j : ℕ) (s : PublishedSchedule) → slice_get p.schedules j ≡ Some s → (s.schedule.uid ≡ k) ⊎ (s.schedule.uid ≡ k → ⊥)
      → Applies (schedule_terms s.schedule) n ⊎ (¬ Applies (schedule_terms s.schedule) n)
      → IsHolidayOf h s.code n ⊎ (¬ IsHolidayOf h s.code n) → IsAt j ⊎ (¬ IsAt j)
  some-decided j s at (inr apart) a b = inr (λ other.
      let same : other.it ≡ s = (let e : Some other.it ≡ Some s = sym other.at ∙ at in cc) in
      apart (subst (λ (u : PublishedSchedule). u.schedule.uid ≡ k) same other.of_train))
  some-decided j s at (inl uid) (inr idle) b = inr (λ other. idle (on-of j s at uid other.on).applies)
  some-decided j s at (inl uid) (inl on) (inl holiday) = inr (λ other. (on-of j s at uid other.on).no_holiday holiday)
  some-decided j s at (inl uid) (inl on) (inr free) = inl (record {
    it = s;
    at = at;
    of_train = uid;
    on = at-on h false p no_days (λ is. absurd (cc)) (λ is train. refl) k n within j s at uid
        (record { applies = on; no_holiday = free; free = λ has. let (i, below, is) = has in omega (arith, below) });
  })

  at-decided : (j : ℕ) (o : Option PublishedSchedule) → slice_get p.schedules j ≡ o → IsAt j ⊎ (¬ IsAt j)
  at-decided j None is = inr (λ other. let e : None ≡ Some other.it = sym is ∙ other.at in absurd (cc))
  at-decided j (Some s) is = some-decided j s is
      (decided (slice_cmp nat_cmp) nat_list_cmp_total same_uid s.schedule.uid k (slice_cmp nat_cmp s.schedule.uid k) refl)
      (applies-decided (schedule_terms s.schedule) n) (holiday-decided h s.code n)

  -- where a schedule applies, one decides
  pub decider : (r : Terms BodyLines) → CountOn h (published_schedules p.schedules) k n r → Applies r n → (i : ℕ) × Decides h false p k n i
  decider r counts on =
      let stands = counted-at h false p no_days (λ is. absurd (cc)) (λ is train. refl) k n within r counts in
      let here : IsAt stands.position = record {
        it = stands.schedule;
        at = stands.at;
        of_train = stands.uid;
        on = at-on h false p no_days (λ is. absurd (cc)) (λ is train. refl) k n within stands.position stands.schedule stands.at stands.uid
            (record {
              applies = subst (λ (t : Terms BodyLines). Applies t n) (sym stands.terms) on;
              no_holiday = stands.no_holiday;
              free = λ has. let (i, below, is) = has in omega (arith, below);
            });
      } in
      let inside : (j : ℕ) (s : PublishedSchedule) → slice_get p.schedules j ≡ Some s → j < length p.schedules =
      λ j s at. slice_get_within p.schedules j s at in
      ⊎_elim
      (λ none. absurd (none stands.position (inside stands.position stands.schedule stands.at) here))
      (λ found.
      let best = found.1 in (
        found.0,
        for-published h false p no_days (λ is. absurd (cc)) (λ is train. refl) k n within found.0 (record {
          it = best.on.it;
          at = best.on.at;
          of_train = best.on.of_train;
          on = best.on.on;
          least = λ j other at uid a.
              best.least j (inside j other at) (record { it = other; at = at; of_train = uid; on = a });
        }),
      ))
      (best-of p.schedules IsAt (λ j. at-decided j (slice_get p.schedules j) refl) (length p.schedules))

-- and so a row shows the day, unless it is dropped
pub some-row : (h : Holidays) (drops : Bool) (p : PublishedParts) (rows : List (List ℕ × Permanent ℕ)) → AreWinners h drops p rows
    → (train : List ℕ) (d : ℕ) → IsWithin (window_from p.header.first p.header.last) d
    → ¬ (IsTrue drops × IsClashDay h (published_schedules p.schedules) p.header.first (p.header.last + 1) train d)
    → (r : Terms BodyLines) → CountOn h (published_schedules p.schedules) train d r → Applies r d
    → (row : Permanent ℕ) × of_key rows train row × AppliesRow row d
some-row h drops p rows are train d within kept r counts on =
    let (i, decides) = decider h p train d within r counts on in
    let shown = (are.say train d i within).0 (record { wins = decides.wins; first = decides.first; kept = kept }) in
    (shown.it, shown.listed, shown.applies)
