-- The runs of one body, week by week: weeks without a day of it, a run that begins, and one that goes on.
use Rattle.cif_weeks.proofs.Names.{AreAdded, AreBodyRuns, AreFewestBefore, AreGrownTo, AreRunsBefore}
use Rattle.cif_weeks.proofs.Names.{AreRunsOfBody, Bool, BreaksBefore, Form, HaveOneMask}
use Rattle.cif_weeks.proofs.Names.{IsAgreed, IsByWeeks, IsDay, IsExact, One, Three, Two, monday_of}
use Rattle.cif_weeks.proofs.Names.{IsFirstOf, IsGrown, IsLastDay, IsLastOf, IsLatest, IsMask, IsWithin, List, MasksAgree, MasksDiffer}
use Rattle.cif_weeks.proofs.Names.{Permanent, Run, RunsOn, Shows, Span, Weeks, Window, [], ap, append-nil, append_assoc, arith, cases_lt}
use Rattle.cif_weeks.proofs.Names.{dates_of, get_or, get_or-append_seam, length, length-append, refl, reverse, reverse-append}
use Rattle.cif_weeks.proofs.Names.{reverse-reverse, set, subst, sym, week_of, weekday_of, ℕ, ⊎_elim, ◌*◌, ◌++◌, ◌+◌, ◌-◌, ◌<◌, ◌↔◌, ◌∙◌}
use Rattle.cif_weeks.proofs.Names.{◌∷◌, ◌≡◌, ◌≤◌, ◌⊎◌}
use Rattle.std.proofs.Math.Seq.{set-append_seam}
use Rattle.cif_weeks.proofs.{Ended.breaks_differ, FewestRuns.fewest-idle, Growing.grown_more}
use Rattle.cif_weeks.proofs.{Growing.grown_start, Jump.grown_jump, Masks.mask_runs}
use Rattle.cif_weeks.proofs.WeekDays.{RunsOn-below}

module _ (form : Form) (window : Window) (on : ℕ → Type 0) (source : ℕ) where
  -- weeks more, without a day
  pub body-idle : (limit later : ℕ) (runs : List Run) → limit ≤ later → ((n : ℕ) → limit ≤ week_of n → week_of n < later → ¬ on n) →
      AreBodyRuns form window on source limit runs → AreBodyRuns form window on source later runs
  body-idle limit later [] upto none before = λ n less. ⊎_elim
      (λ sooner. before n sooner)
      (λ from. none n from less)
      (cases_lt (week_of n) limit)
  body-idle limit later (run ∷ runs) upto none (latest, breaks, before) = (
    record {
      grown = latest.grown;
      source_is = latest.source_is;
      upto = omega (arith, latest.upto);
      none_after = λ n after less. ⊎_elim
          (λ sooner. latest.none_after n after sooner)
          (λ from. none n from less)
          (cases_lt (week_of n) limit);
    },
    breaks,
    before,
  )

  -- what is before a run doesn't depend on how it ends
  pub breaks-first : (run other : Run) (before : List Run) → run.first ≡ other.first → BreaksBefore form window on run before →
      BreaksBefore form window on other before
  breaks-first run other [] same breaks = tt
  breaks-first run other (last ∷ before) same breaks = λ next. breaks (ap week_of same ∙ next)

  module _ (inside : (n : ℕ) → on n → IsWithin window n) where
    -- weeks that have one mask, with the first weekday f and the last one l
    module _ (by : IsByWeeks form) (week until : ℕ) (it : Weeks) (h : HaveOneMask on week until it) (f l : ℕ)
        (is_first : IsFirstOf it.days f) (is_last : IsLastOf it.days l) where
      abbrev days : List Bool
      days = it.days

      abbrev last : ℕ
      last = it.last

      masks : (v : ℕ) → week ≤ v → v ≤ last → IsMask on v days
      masks v from upto = h.masks v from upto

      here : IsMask on week days
      here = masks week (omega arith) h.from

      below : (w : ℕ) → RunsOn days w → w < 7
      below w runs = RunsOn-below days w here.seven runs

      -- the days with which they begin and end are days of the window
      pub first-date : IsDay window.last → (n : ℕ) × (n + 4 ≡ week * 7 + f) × IsDay n
      first-date is_day =
          let (n, at, day, is) = here.only f is_first.runs in
          let within = inside n is in
          (n, omega arith, omega (arith, is_day, within.upto))

      pub last-date : IsDay window.last → (n : ℕ) × (n + 4 ≡ last * 7 + l) × IsDay n
      last-date is_day =
          let (n, at, day, is) = (masks last h.from (omega arith)).only l is_last.runs in
          let within = inside n is in
          (n, omega arith, omega (arith, is_day, within.upto))

      module _ (end : ℕ) (end_at : end + 4 ≡ last * 7 + l) where
        -- the last day of the first of the weeks
        week-end : (n : ℕ) × IsLastDay week days n × (end ≡ n + 7 * (last - week))
        week-end =
            let (n, at, day, is) = here.only l is_last.runs in
            let l_below = below l is_last.runs in (
              n,
              record {
                in_week = at;
                runs = subst (RunsOn days) (sym day) is_last.runs;
                latest = λ m at_m runs. ⊎_elim
                    (λ after. absurd (is_last.none_after (weekday_of m) (omega arith) runs))
                    (λ h. h)
                    (cases_lt n m);
              },
              omega arith,
            )

        grown-on : {B : Type 0} (r : Permanent B) → (n : ℕ) → end ≡ n + 7 * (last - week) → week_of n ≡ week →
            IsGrown form window on (record { first = r.first; last = n; days = r.days; body = r.body }) →
            IsGrown form window on (record { first = r.first; last = end; days = r.days; body = r.body })
        grown-on r n is at grown =
            subst (λ v. IsGrown form window on (record { first = r.first; last = v; days = r.days; body = r.body })) (sym is)
            (grown_jump window on inside form (record { first = r.first; last = n; days = r.days; body = r.body }) week (last - week) days
            at grown (λ v from to. masks v from (omega arith)))

        latest-of : (run : Run) → run.last ≡ end → run.source ≡ source → IsGrown form window on (dates_of run) →
            IsLatest form window on source (last + 1) run
        latest-of run is source_is grown =
            let l_below = below l is_last.runs in
            record { grown = grown; source_is = source_is; upto = omega arith; none_after = λ n after less. absurd (omega arith) }

        -- a run that begins with these weeks
        new-grown : (first : ℕ) → first + 4 ≡ week * 7 + f →
            IsGrown form window on (record { first = first; last = end; days = days; body = source })
        new-grown first first_at =
            let (n, is_end, is) = week-end in
            let (m, at, day, on_m) = here.only f is_first.runs in
            let same : m ≡ first = omega arith in
            let begins : week_of first ≡ week = omega (arith, below f is_first.runs) in
            grown-on (record { first = first; last = n; days = days; body = source }) n is is_end.in_week
            (grown_start window on inside form by (record { first = first; last = n; days = days; body = source })
            (subst (λ v. IsMask on v days) (sym begins) here) (subst (λ v. IsLastDay v days n) (sym begins) is_end)
            (subst on same on_m)
            (λ i at_i on_i. ⊎_elim
            (λ before. absurd (is_first.none_before (weekday_of i) (omega arith) (here.shows i (at_i ∙ begins) on_i)))
            (λ h. h)
            (cases_lt i first)))

        -- a run of the week before that goes on in these weeks
        longer-grown : (run : Run) (both : List Bool) → IsGrown form window on (dates_of run) → week_of run.last + 1 ≡ week →
            MasksAgree form window (week_of run.last) run.days days → length both ≡ 7 →
            ((w : ℕ) → RunsOn both w ↔ (RunsOn run.days w ⊎ RunsOn days w)) →
            IsGrown form window on (record { first = run.first; last = end; days = both; body = run.source })
        longer-grown run both grown next agree seven union =
            let (n, is_end, is) = week-end in
            grown-on (record { first = run.first; last = n; days = both; body = run.source }) n is is_end.in_week
            (grown_more window on inside form (dates_of run) (week_of run.last) days both n refl grown
            (subst (λ v. IsMask on v days) (sym next) here) agree seven union (subst (λ v. IsLastDay v days n) (sym next) is_end))

        -- what is found after these weeks: the run has them too
        pub grow-longer : (before : List Run) (run : Run) (both : List Bool) → AreBodyRuns form window on source week (run ∷ before) →
            week_of run.last + 1 ≡ week → ((v : ℕ) → v + 1 ≡ week → MasksAgree form window v run.days days) → length both ≡ 7 →
            ((w : ℕ) → RunsOn both w ↔ (RunsOn run.days w ⊎ RunsOn days w)) →
            AreBodyRuns form window on source (last + 1)
            (record { first = run.first; last = end; days = both; source = run.source } ∷ before)
        grow-longer before run both (latest, breaks, rest) next agree seven union =
            let it : Run = record { first = run.first; last = end; days = both; source = run.source } in (
              latest-of it refl latest.source_is (longer-grown run both latest.grown next (agree (week_of run.last) next) seven union),
              breaks-first run it before refl breaks,
              rest,
            )

        -- or another begins
        module _ (first : ℕ) (first_at : first + 4 ≡ week * 7 + f) where
          abbrev it-begins : Run
          it-begins = record { first = first; last = end; days = days; source = source }

          begins-in : week ≡ week_of first
          begins-in = let f_below = below f is_first.runs in omega arith

          pub grow-first : AreBodyRuns form window on source week [] → AreBodyRuns form window on source (last + 1) (it-begins ∷ [])
          grow-first none = (
            latest-of it-begins refl refl (new-grown first first_at),
            tt,
            subst (λ v. AreBodyRuns form window on source v []) begins-in none,
          )

          pub grow-next : (before : List Run) (run : Run) → AreBodyRuns form window on source week (run ∷ before) →
              (week_of run.last + 1 ≡ week → MasksDiffer form window (week_of run.last) run.days days) →
              AreBodyRuns form window on source (last + 1) (it-begins ∷ run ∷ before)
          grow-next before run (latest, breaks, rest) differ = (
            latest-of it-begins refl refl (new-grown first first_at),
            λ next.
                let adjoins : week_of run.last + 1 ≡ week = sym next ∙ sym begins-in in
                breaks_differ window on inside form (dates_of run) days latest.grown
                (subst (λ v. IsMask on v days) (sym adjoins) here) (differ adjoins),
            subst (λ v. AreBodyRuns form window on source v (run ∷ before)) begins-in (latest, breaks, rest),
          )

-- weeks more, without a day, in each form
pub runs-idle : (form : Form) (window : Window) (on : ℕ → Type 0) (source limit later : ℕ) (runs : List Run) → limit ≤ later →
    ((n : ℕ) → limit ≤ week_of n → week_of n < later → ¬ on n) → AreRunsBefore form window on source limit runs →
    AreRunsBefore form window on source later runs
runs-idle One window on source limit later runs upto none h = body-idle One window on source limit later runs upto none h
runs-idle Two window on source limit later runs upto none h = body-idle Two window on source limit later runs upto none h
runs-idle Three window on source limit later runs upto none h = fewest-idle on source (monday_of limit) (monday_of later) runs (omega arith)
    (λ n from less. none n (omega arith) (omega arith)) h

-- what weeks more do to the runs of their form
pub grown-weeks : (form : Form) → IsByWeeks form → (window : Window) (on : ℕ → Type 0) (source week later : ℕ) (old runs grown : List Run) →
    (AreAdded old runs (AreBodyRuns form window on source week) → AreAdded old grown (AreBodyRuns form window on source later)) →
    AreGrownTo form window on source week old runs → AreGrownTo form window on source later old grown
grown-weeks One by window on source week later old runs grown h = h
grown-weeks Two by window on source week later old runs grown h = h
grown-weeks Three by window on source week later old runs grown h = absurd by

pub grown-days : (form : Form) → form ≡ Three → (window : Window) (on : ℕ → Type 0) (source week later : ℕ) (old runs grown : List Run) →
    (AreAdded old runs (AreFewestBefore on source (monday_of week)) → AreAdded old grown (AreFewestBefore on source (monday_of later))) →
    AreGrownTo form window on source week old runs → AreGrownTo form window on source later old grown
grown-days form is window on source week later old runs grown h =
    subst (λ f. AreGrownTo f window on source week old runs → AreGrownTo f window on source later old grown) (sym is) h

pub by-weeks : (form : Form) → (form ≡ One) ⊎ (form ≡ Two) → IsByWeeks form
by-weeks form is = ⊎_elim (λ one. subst IsByWeeks (sym one) tt) (λ two. subst IsByWeeks (sym two) tt) is

-- Weeks that have one mask, with the first weekday f and the last one l, are the days of one run.
module _ (on : ℕ → Type 0) (week until : ℕ) (it : Weeks) (h : HaveOneMask on week until it) (f l : ℕ) (is_first : IsFirstOf it.days f)
    (is_last : IsLastOf it.days l) (first last : ℕ) (first_at : first + 4 ≡ week * 7 + f) (last_at : last + 4 ≡ it.last * 7 + l) where
  mask-at : (v : ℕ) → week ≤ v → v ≤ it.last → IsMask on v it.days
  mask-at v from upto = h.masks v from upto

  week-mask : IsMask on week it.days
  week-mask = mask-at week (omega arith) h.from

  first-below : f < 7
  first-below = RunsOn-below it.days f week-mask.seven is_first.runs

  last-below : l < 7
  last-below = RunsOn-below it.days l week-mask.seven is_last.runs

  from-first : (w : ℕ) → RunsOn it.days w → f ≤ w
  from-first w has = ⊎_elim (λ sooner. absurd (is_first.none_before w sooner has)) (λ from. from) (cases_lt w f)

  upto-last : (w : ℕ) → RunsOn it.days w → w ≤ l
  upto-last w has = ⊎_elim (λ later. absurd (is_last.none_after w later has)) (λ upto. upto) (cases_lt l w)

  pub weeks-exact : IsExact on first last it.days
  weeks-exact =
      let (n, at, day, runs) = week-mask.only f is_first.runs in
      let (m, at_m, day_m, runs_m) = (mask-at it.last h.from (omega arith)).only l is_last.runs in
      let below = first-below in
      let below_l = last-below in
      let order = upto-last f is_first.runs in
      let from = h.from in
      let is_n : n ≡ first = omega arith in
      let is_m : m ≡ last = omega arith in
      record {
        seven = week-mask.seven;
        in_order = omega arith;
        first_on = subst on is_n runs;
        last_on = subst on is_m runs_m;
        only = λ k among.
            let begun = among.begun in
            let unfinished = among.unfinished in
            mask_runs on (week_of k) it.days k (mask-at (week_of k) (omega arith) (omega arith)) refl among.on_weekday;
        all = λ k begun unfinished on_k. record {
          begun = begun;
          unfinished = unfinished;
          on_weekday = (mask-at (week_of k) (omega arith) (omega arith)).shows k refl on_k;
        };
        used = λ w has.
            let (k, at_k, day_k, on_k) = week-mask.only w has in
            let from_f = from-first w has in
            let upto_l = upto-last w has in
            (k, day_k, record { begun = omega arith; unfinished = omega arith; on_weekday = subst (RunsOn it.days) (sym day_k) has });
      }

  -- none of the set is in these weeks before it, or after it
  pub none-sooner : (n : ℕ) → monday_of week ≤ n → n < first → ¬ on n
  none-sooner n from less runs =
      let below = first-below in
      let has = week-mask.shows n (omega arith) runs in
      let begun = from-first (weekday_of n) has in
      omega arith

  pub none-later : (n : ℕ) → last + 1 ≤ n → n < monday_of (it.last + 1) → ¬ on n
  none-later n after less runs =
      let below = last-below in
      let has = (mask-at it.last h.from (omega arith)).shows n (omega arith) runs in
      let ended = upto-last (weekday_of n) has in
      omega arith

-- a run that is pushed is the latest
pub made-more : (old made : List Run) (run : Run) → (old ++ reverse made) ++ run ∷ [] ≡ old ++ reverse (run ∷ made)
made-more old made run = append_assoc old (reverse made) (run ∷ []) ∙ ap (λ v. old ++ v) (sym (reverse-append (run ∷ []) made))

-- the last run of the list, where one is made, is the latest
pub last-made : (old runs made : List Run) (place : ℕ) (run : Run) → runs ≡ old ++ reverse made → length old < length runs →
    place + 1 ≡ length runs → run ≡ get_or runs place run →
    (before : List Run) × (made ≡ run ∷ before) × (runs ≡ (old ++ reverse before) ++ run ∷ []) × (place ≡ length (old ++ reverse before))
last-made old runs [] place run are some at is = absurd (omega (arith, ap length (are ∙ append-nil old)))
last-made old runs (r ∷ before) place run are some at is =
    let cut : runs ≡ (old ++ reverse before) ++ r ∷ [] = are ∙ sym (made-more old before r) in
    let long = ap length cut ∙ length-append (old ++ reverse before) (r ∷ []) in
    let here : place ≡ length (old ++ reverse before) = omega (arith, long) in
    let same : run ≡ r = is ∙ ap (λ ys. get_or ys place run) cut ∙ ap (λ k. get_or ((old ++ reverse before) ++ r ∷ []) k run) here
    ∙ get_or-append_seam (old ++ reverse before) r [] run in
    (before, ap (λ v. v ∷ before) (sym same), cut ∙ ap (λ v. (old ++ reverse before) ++ v ∷ []) (sym same), here)

-- another run takes its place
pub last-set : (old runs before : List Run) (place : ℕ) (run it : Run) → runs ≡ (old ++ reverse before) ++ run ∷ [] →
    place ≡ length (old ++ reverse before) → set runs place it ≡ old ++ reverse (it ∷ before)
last-set old runs before place run it cut at = ap (λ ys. set ys place it) cut ∙ ap (λ k. set ((old ++ reverse before) ++ run ∷ []) k it) at
    ∙ set-append_seam (old ++ reverse before) run [] it ∙ made-more old before it

-- where the list is no longer than the old one, none is made
pub none-made : (old runs made : List Run) → runs ≡ old ++ reverse made → length runs ≤ length old → made ≡ []
none-made old runs [] are upto = refl
none-made old runs (r ∷ before) are upto =
    let long = ap length (are ∙ sym (made-more old before r)) ∙ length-append (old ++ reverse before) (r ∷ [])
    ∙ ap (λ n. n + 1) (length-append old (reverse before)) in
    absurd (omega (arith, long))

-- after the last week they are all the body's runs
pub body-made : (form : Form) (window : Window) (spans : List Span) (source limit : ℕ) →
    ((n : ℕ) → Shows spans source n → week_of n < limit) →
    ((n : ℕ) → Shows spans source n → IsAgreed spans n) → (old runs : List Run) →
    AreGrownTo form window (Shows spans source) source limit old runs →
    (added : List Run) × (runs ≡ old ++ added) × AreRunsOfBody form window spans source added
body-made form window spans source limit over agreed old runs (made, are, body) = (
  reverse made,
  are,
  record {
    limit = limit;
    over = over;
    body_runs = subst (AreRunsBefore form window (Shows spans source) source limit) (sym (reverse-reverse made)) body;
    agreed = agreed;
  },
)
