-- Runs of form 3 that show which schedule decides on each day.
use Rattle.cif_feed.proofs.Names.{All, AllPairs, Contains, List, None, Option, Some, Terms, [], ap, arith, get_or}
use Rattle.cif_feed.proofs.Names.{length, map, refl, slice_get, subst, sym, ℕ, ◌++◌, ◌+◌, ◌<◌, ◌↔◌, ◌∙◌, ◌∷◌, ◌≡◌}
use Rattle.std.specs.List.{AllZip, range_with_len}
use Rattle.std.proofs.lemmas.Slice.Zip.{AllZip-map}
use Rattle.std.proofs.lemmas.Simd.{map-map}
use Rattle.cif_calendar.specs.{Calendar.CalendarParts, Calendar.IsCalendar, Calendar.body_on, Clash.IsClear, Runs.BodyRuns}
use Rattle.cif_calendar.specs.{Source.IsChosen, Source.body_at, Terms.AreLawful, Terms.SameRecords}
use Rattle.cif_calendar.proofs.{Meaning.Runs-unique, Positions.at-contains, Positions.contains-at, Sets.Runs-same, Sets.Wins-same}
use Rattle.cif_calendar.proofs.KeyPositions.{range-whole}
use Rattle.cif_weeks.proofs.JoinedLists.{zip-with}
use Rattle.cif_weeks.specs.{HaveForm.HaveForm, MemberRuns.AreRunsOfMembers, MemberRuns.IsMembersRun, Permanent.Permanent, Runs.AreCanonicalRuns}
use Rattle.cif_weeks.specs.{Meets.Meets, Runs.IsRunOf, Runs.record_of, Runs.window_of, WhatRuns.HasBody, Window.IsWithin, Window.Window}
use Rattle.cif_weeks.specs.declared.{form.Form.TheVariants.Three, form.Run.Run}
use Rattle.cif_feed.specs.Steps.Deciding.{AreRunsAt, AreShown, IsRunAt, ShowsOn, as_record, as_records, source_in, sourced, terms_in, terms_of_dates}
use Rattle.cif_feed.specs.declared.deciding.DecidingDates.{DecidingDates}
use Rattle.std.proofs.{Common.map-id, lemmas.Option.slice_get-map}
use Rattle.std.proofs.lemmas.List.FromFn.{map-range_with_len_more}
use Rattle.cif_calendar.proofs.Names.{slice_get-get_or}
use Rattle.cif_columns.proofs.Names.{slice_get_within}
use Rattle.std.proofs.lemmas.List.Elements.{All-cons, All-nil}
use Rattle.std.proofs.lemmas.List.{drop_more, get_or_at, length-map}
use Rattle.cif_feed.proofs.Names.{All-contains, Contains-get_or, drop, length-take, take}
use Rattle.cif_feed.proofs.ListSteps.{Contains-from_map, Contains-map}
use Rattle.cif_calendar.specs.Clash.{IsFirstClash}
use Rattle.cif_weeks.specs.Window.{window_from}

-- the entries at all positions are all entries
pub all-chosen : {B : Type 0} (xs : List (Terms B)) (n : ℕ) → length xs ≡ n → SameRecords (IsChosen xs (range_with_len 0 n)) (Contains xs)
all-chosen xs n long = record {
  same = λ r. (
    λ c. contains-at xs c.position r c.at,
    λ has.
        let (i, at) = at-contains xs r has in
        let within : i < length xs = slice_get_within xs i r at in
        record { position = i; member = range-whole n i (omega (arith, within, long)); at = at },
  );
}

module _ (xs : List (Terms ℕ)) (n : ℕ) (long : length xs ≡ n) (window : Window) where
  chosen : SameRecords (IsChosen xs (range_with_len 0 n)) (Contains xs)
  chosen = all-chosen xs n long

  back : SameRecords (Contains xs) (IsChosen xs (range_with_len 0 n))
  back = record { same = λ r. let s = chosen.same r in (s.1, s.0) }

  -- runs of few entries
  pub few-runs : (runs : List Run) → AreRunsOfMembers Three xs (range_with_len 0 n) window runs → AreRunsAt window xs runs
  few-runs runs a = record {
    records = a.records;
    runs_of = zip-with (IsMembersRun xs (range_with_len 0 n)) (IsRunAt xs) runs a.records
        (λ run r listed is. record { dates = is.dates; body = is.body }) a.runs_of;
    rising = a.rising;
    have_form = a.have_form;
    say = λ d i within.
        let say = a.say d i within in (
          λ told. say.0 (Runs-same _ _ back d (Some i) told),
          λ has. Runs-same _ _ chosen d (Some i) (say.1 has),
        );
  }

  module _ (c : CalendarParts) (is : IsCalendar xs (range_with_len 0 n) window.first window.last c)
      (lawful : AreLawful (IsChosen xs (range_with_len 0 n))) where
    window-is : window_of c ≡ window
    window-is = ap (λ v. window_from v c.last) is.first_is ∙ ap (λ v. window_from window.first v) is.last_is

    -- those of a calendar
    pub calendar-runs : (runs : List Run) → AreCanonicalRuns Three xs c runs → AreRunsAt window xs runs
    calendar-runs runs a =
        let meets = subst (λ (w : Window). Meets Three w (body_on xs c) a.records) window-is a.meets in
        record {
          records = a.records;
          runs_of = zip-with (IsRunOf xs c) (IsRunAt xs) runs a.records (λ run r listed is. record { dates = is.dates; body = is.body })
              a.runs_of;
          rising = meets.rising;
          have_form = meets.have_form;
          say = λ d i within.
              let say = meets.say.says d i within in
              let here = is.runs d within.from within.upto in
              let clear = is.clear.clear d within.from within.upto in (
                λ told. say.0 (sym (Runs-unique (IsChosen xs (range_with_len 0 n)) d (Some i) (body_on xs c d) lawful clear
                    (Runs-same _ _ back d (Some i) told) here)),
                λ has. Runs-same _ _ chosen d (Some i)
                    (subst (λ o. Rattle.cif_calendar.specs.Runs.Runs (IsChosen xs (range_with_len 0 n)) d o) (say.1 has) here),
              );
        }

-- where all days are clear, no day is the first with a clash
pub clear-unclashed : (xs : List (Terms ℕ)) (n : ℕ) → length xs ≡ n → (window : Window)
    → ((d : ℕ) → IsWithin window d → IsClear (Contains xs) d) → (d : ℕ)
    → IsFirstClash (IsChosen xs (range_with_len 0 n)) window.first window.last d → ⊥
clear-unclashed xs n long window clear d is =
    let same = all-chosen xs n long in
    let clash = is.clash in
    clash.bodies_differ ((clear d (record { from = is.from; upto = is.upto })).agree clash.one clash.other
    (Wins-same _ _ same d clash.one clash.one_wins) (Wins-same _ _ same d clash.other clash.other_wins))

-- one position more
pub range-more : (n : ℕ) → range_with_len 0 n ++ n ∷ [] ≡ range_with_len 0 (n + 1)
range-more n =
    ap (λ (l : List ℕ). l ++ n ∷ []) (sym (map-id (range_with_len 0 n)))
    ∙ (sym (map-range_with_len_more (λ (i : ℕ). i) 0 n n (omega arith)) ∙ map-id (range_with_len 0 (n + 1)))

-- ---- the positions of schedules

-- an entry that is found has its position
pub entry-source : (es : List DecidingDates) (place : ℕ) (d : DecidingDates) (other : ℕ) → place < length es
    → source_in (slice_get es place) other ≡ (get_or es place d).run.source
entry-source es place d other within = ap (λ (o : Option DecidingDates). source_in o other) (slice_get-get_or es place d within)

body-found : (o : Option DecidingDates) (b other : ℕ)
    → Rattle.std.specs.Option.option_and_then (λ (t : Terms ℕ). t.body)
    (Rattle.std.specs.Prelude.option_map (λ (d : DecidingDates). terms_of_dates d.run d.before) o) ≡ Some b
    → source_in o other ≡ b
body-found None b other is = absurd (cc)
body-found (Some d) b other is = cc

module _ (es : List DecidingDates) where
  body-source : (run : Run) (b : ℕ) → body_at (terms_in es) (Some run.source) ≡ Some b → source_in (slice_get es run.source) run.source ≡ b
  body-source run b is =
      body-found (slice_get es run.source) b run.source
      (ap (Rattle.std.specs.Option.option_and_then (λ (t : Terms ℕ). t.body))
      (sym (slice_get-map (λ (d : DecidingDates). terms_of_dates d.run d.before) es run.source)) ∙ is)

  named-record : (run : Run) (r : Permanent ℕ) → IsRunAt (terms_in es) run r → r ≡ as_record (sourced es run)
  named-record run r is = is.dates ∙ ap (λ (b : ℕ). record_of run b) (sym (body-source run r.body is.body))

  pub named-records : (runs : List Run) (records : List (Permanent ℕ)) → AllZip (IsRunAt (terms_in es)) runs records
      → records ≡ as_records (map (sourced es) runs)
  named-records runs records zip =
      AllZip-map (λ (run : Run). as_record (sourced es run)) runs records
      (zip-with (IsRunAt (terms_in es)) (λ run r. r ≡ as_record (sourced es run)) runs records (λ run r listed is. named-record run r is) zip)
      ∙ sym (map-map as_record (sourced es) runs)

  source-within : (run : Run) (b : ℕ) → body_at (terms_in es) (Some run.source) ≡ Some b → run.source < length es
  source-within run b is = at (slice_get es run.source) refl
    where
      at : (o : Option DecidingDates) → slice_get es run.source ≡ o → run.source < length es
      at (Some d) found = slice_get_within es run.source d found
      at None found = absurd (none-body (
          ap (Rattle.std.specs.Option.option_and_then (λ (t : Terms ℕ). t.body))
          (slice_get-map (λ (d : DecidingDates). terms_of_dates d.run d.before) es run.source
          ∙ ap (Rattle.std.specs.Prelude.option_map (λ (d : DecidingDates). terms_of_dates d.run d.before)) found)) is)
        where
          none-body : body_at (terms_in es) (Some run.source) ≡ None → body_at (terms_in es) (Some run.source) ≡ Some b → ⊥
          none-body none some = let both : None ≡ Some b = sym none ∙ some in cc

  -- each run is of an entry
  pub sources-within : (runs : List Run) (records : List (Permanent ℕ)) → AllZip (IsRunAt (terms_in es)) runs records
      → All (λ run. run.source < length es) runs
  sources-within [] records zip = All-nil _
  sources-within (run ∷ runs) [] zip = absurd zip
  sources-within (run ∷ runs) (r ∷ records) zip =
      All-cons (λ (one : Run). one.source < length es) run runs (source-within run r.body zip.0.body) (sources-within runs records zip.1)

  -- the runs with the positions of schedules show what runs by the entries
  pub named-shown : (window : Window) (runs : List Run) → AreRunsAt window (terms_in es) runs
      → AreShown window (BodyRuns (Contains (terms_in es))) (map (sourced es) runs)
  named-shown window runs a =
      let same = named-records runs a.records a.runs_of in
      subst (λ (records : List (Permanent ℕ)). AllPairs (λ (r : Permanent ℕ) (s : Permanent ℕ). r.first < s.first) records
      × HaveForm Three window (Contains records)
      × ((n i : ℕ) → IsWithin window n → BodyRuns (Contains (terms_in es)) n i ↔ HasBody (Contains records) n i)
      → AreShown window (BodyRuns (Contains (terms_in es))) (map (sourced es) runs)) (sym same)
      (λ all. record { rising = all.0; have_form = all.1; say = all.2 }) (a.rising, a.have_form, a.say)

-- a run whose place comes after those that have their positions is one of an entry
pub place-within : (es : List DecidingDates) (old now : List Run) (place : ℕ) → All (λ run. run.source < length es) old
    → place < length old → now ≡ map (sourced es) (take place old) ++ drop place old → (run : Run) → run ≡ get_or now place run
    → run.source < length es
place-within es old now place within below is run at =
    let front = map (sourced es) (take place old) in
    let long : length front ≡ place = length-map (take place old) (sourced es) ∙ omega (arith, length-take place old, below) in
    let parts : now ≡ front ++ get_or old place run ∷ drop (place + 1) old = is ∙ ap (λ l. front ++ l) (drop_more old place run below) in
    let read : run ≡ get_or old place run = at ∙ (ap (λ (l : List Run). get_or l place run) parts
    ∙ get_or_at front (get_or old place run) (drop (place + 1) old) run place long) in
    subst (λ (r : Run). r.source < length es) (sym read) (within place run below)

-- what is said of a run's first day is its source
pub shown-source : (window : Window) (on : ℕ → ℕ → Type 0) (runs : List Run) → AreShown window on runs → (run : Run) → Contains runs run
    → on run.first run.source
shown-source window on runs shown run listed =
    let own : Contains (as_records runs) (as_record run) = Contains-map as_record runs run listed in
    let is = shown.have_form.aligned (as_record run) own in
    (shown.say run.first run.source is.first_within).1 (record { it = as_record run; listed = own; applies = is.on_first; body = refl })

-- so where it is said of positions within a bound alone, all sources are within it
pub sources-bound : (window : Window) (on : ℕ → ℕ → Type 0) (runs : List Run) → AreShown window on runs → (bound : ℕ)
    → ((n i : ℕ) → on n i → i < bound) → All (λ run. run.source < bound) runs
sources-bound window on runs shown bound within k d below =
    within (get_or runs k d).first (get_or runs k d).source
    (shown-source window on runs shown (get_or runs k d) (Contains-get_or runs k d below))

-- what runs show is one of their sources
pub shown-bound : (runs : List Run) (bound : ℕ) → All (λ run. run.source < bound) runs → (n i : ℕ) → ShowsOn runs n i → i < bound
shown-bound runs bound within n i shows =
    let (run, listed, is) = Contains-from_map as_record runs shows.it shows.listed in
    let source : run.source ≡ i = ap (λ (r : Permanent ℕ). r.body) is ∙ shows.body in
    subst (λ (j : ℕ). j < bound) source (All-contains (λ (one : Run). one.source < bound) runs run within listed)
