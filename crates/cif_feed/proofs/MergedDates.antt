-- Dates of two lists of runs, of which the first go before the others.
use Rattle.cif_feed.proofs.Names.{Applies, Bool, Contains, Contains-append_cases, Contains-append_left, Contains-append_right, IsClear, List}
use Rattle.cif_feed.proofs.Names.{Some, Terms, ap, arith, false, inl, inr, map, map-append, map-map, max, refl, subst, sym, true, ℕ, ⊎_elim}
use Rattle.cif_feed.proofs.Names.{Wins, ◌++◌, ◌↔◌, ◌∙◌, ◌≡◌, ◌≤◌, ◌⊎◌}
use Rattle.std.proofs.Math.Nat.{le-max_right}
use Rattle.cif_calendar.specs.Runs.{BodyRuns}
use Rattle.cif_columns.specs.Stp.{letter}
use Rattle.cif_weeks.specs.{Permanent.Permanent, Window.IsWithin, Window.Window, declared.form.Run.Run}
use Rattle.cif_feed.specs.Steps.Deciding.{AreForm3, AreShown, IsFirstOf, ShowsOn, as_record, as_records, dates_with, letter_by, terms_in}
use Rattle.cif_feed.specs.Steps.Deciding.{terms_of_dates}
use Rattle.cif_feed.specs.declared.deciding.DecidingDates.{DecidingDates}
use Rattle.cif_feed.proofs.ListSteps.{Contains-from_map, Contains-map}

-- the terms of dates that go before others, or don't
abbrev pub terms_by : Bool → Run → Terms ℕ
terms_by before run = terms_of_dates run before

pub entries-of : (before after : List Run) → terms_in (map (dates_with true) before ++ map (dates_with false) after)
    ≡ map (terms_by true) before ++ map (terms_by false) after
entries-of before after =
    let f = λ (d : DecidingDates). terms_of_dates d.run d.before in
    map-append f (map (dates_with true) before) (map (dates_with false) after)
    ∙ (ap (λ (l : List (Terms ℕ)). l ++ map f (map (dates_with false) after)) (map-map f (dates_with true) before)
    ∙ ap (λ (l : List (Terms ℕ)). map (terms_by true) before ++ l) (map-map f (dates_with false) after))

-- dates of a list that are one day's
record IsDate (runs : List Run) (front : Bool) (n i : ℕ) (t : Terms ℕ) : Type 0 where
  shows : ShowsOn runs n i
  body : t.body ≡ Some i
  letter_is : t.letter ≡ letter_by front

module _ (window : Window) (runs : List Run) (form : AreForm3 window runs) where
  -- dates that have a day show it
  date-shows : (front : Bool) (n : ℕ) (t : Terms ℕ) → Contains (map (terms_by front) runs) t → Applies t n
      → (i : ℕ) × IsDate runs front n i t
  date-shows front n t has on =
      let (run, listed, is) = Contains-from_map (terms_by front) runs t has in
      let here : Applies (terms_by front run) n = subst (λ (u : Terms ℕ). Applies u n) (sym is) on in
      let own : Contains (as_records runs) (as_record run) = Contains-map as_record runs run listed in
      let ordered = (form.aligned (as_record run) own).on_first.unfinished in
      let upto : n ≤ run.last = (let late : n ≤ max run.first run.last = here.unfinished in
      let wide : run.first ≤ run.last = ordered in omega (arith, late, wide)) in (
        run.source,
        record {
          shows = record {
            it = as_record run;
            listed = own;
            applies = record { begun = here.begun; unfinished = upto; on_weekday = here.on_weekday };
            body = refl;
          };
          body = ap (λ (u : Terms ℕ). u.body) (sym is);
          letter_is = ap (λ (u : Terms ℕ). u.letter) (sym is);
        },
      )

  -- and what is shown has dates
  shown-date : (front : Bool) (n i : ℕ) → ShowsOn runs n i
      → (t : Terms ℕ) × Contains (map (terms_by front) runs) t × Applies t n × (t.body ≡ Some i) × (t.letter ≡ letter_by front)
  shown-date front n i shows =
      let (run, listed, is) = Contains-from_map as_record runs shows.it shows.listed in
      let source : run.source ≡ i = ap (λ (r : Permanent ℕ). r.body) is ∙ shows.body in
      let begun : run.first ≤ n = subst (λ (r : Permanent ℕ). r.first ≤ n) (sym is) shows.applies.begun in
      let upto : n ≤ run.last = subst (λ (r : Permanent ℕ). n ≤ r.last) (sym is) shows.applies.unfinished in (
        terms_by front run,
        Contains-map (terms_by front) runs run listed,
        record {
          begun = begun;
          unfinished = (let wide : run.last ≤ max run.first run.last = le-max_right run.first run.last in omega (arith, upto, wide));
          on_weekday = subst (λ (r : Permanent ℕ). Rattle.cif_columns.specs.DaysRun.RunsOn r.days (Rattle.cif_columns.specs.Day.weekday_of n))
              (sym is) shows.applies.on_weekday;
        },
        ap Some source,
        refl,
      )

  -- one position is shown
  one-shown : (n i j : ℕ) → ShowsOn runs n i → ShowsOn runs n j → i ≡ j
  one-shown n i j one other =
      sym one.body
      ∙ (ap (λ (r : Permanent ℕ). r.body) (form.single n one.it other.it one.listed other.listed one.applies other.applies) ∙ other.body)

before-after : letter (letter_by false) ≤ letter (letter_by true) → ⊥
before-after upto = omega (arith, upto)

module _ (window : Window) (before after : List Run) (first : AreForm3 window before) (other : AreForm3 window after) where
  abbrev both : List (Terms ℕ)
  both = map (terms_by true) before ++ map (terms_by false) after

  cases : (t : Terms ℕ) → Contains both t → Contains (map (terms_by true) before) t ⊎ Contains (map (terms_by false) after) t
  cases t = Contains-append_cases (map (terms_by true) before) (map (terms_by false) after) t

  -- dates of the others don't win where those that go before them have the day
  not-over : (n i : ℕ) (t : Terms ℕ) → Wins (Contains both) n t → t.letter ≡ letter_by false → ShowsOn before n i → ⊥
  not-over n i t wins is shows =
      let (u, has, on, body, lettered) = shown-date window before first true n i shows in
      before-after (subst (λ l. letter l ≤ letter (letter_by true)) is (subst (λ l. letter t.letter ≤ letter l) lettered
      (wins.least u (Contains-append_left (map (terms_by true) before) (map (terms_by false) after) u has) on)))

  clear : (n : ℕ) → IsClear (Contains both) n
  clear n = record {
    agree = λ r s r_wins s_wins. ⊎_elim
        (λ r_in. ⊎_elim
        (λ s_in.
        let (i, one) = date-shows window before first true n r r_in r_wins.applies in
        let (j, two) = date-shows window before first true n s s_in s_wins.applies in
        one.body ∙ (ap Some (one-shown window before first n i j one.shows two.shows) ∙ sym two.body))
        (λ s_in.
        let (i, one) = date-shows window before first true n r r_in r_wins.applies in
        let (j, two) = date-shows window after other false n s s_in s_wins.applies in
        absurd (not-over n i s s_wins two.letter_is one.shows))
        (cases s s_wins.listed))
        (λ r_in. ⊎_elim
        (λ s_in.
        let (i, one) = date-shows window after other false n r r_in r_wins.applies in
        let (j, two) = date-shows window before first true n s s_in s_wins.applies in
        absurd (not-over n j r r_wins one.letter_is two.shows))
        (λ s_in.
        let (i, one) = date-shows window after other false n r r_in r_wins.applies in
        let (j, two) = date-shows window after other false n s s_in s_wins.applies in
        one.body ∙ (ap Some (one-shown window after other n i j one.shows two.shows) ∙ sym two.body))
        (cases s s_wins.listed))
        (cases r r_wins.listed);
  }

  same-position : (i j : ℕ) (t : Terms ℕ) → t.body ≡ Some i → t.body ≡ Some j → i ≡ j
  same-position i j t one two = let both : Some i ≡ Some j = sym one ∙ two in cc

  runs-first : (n i : ℕ) → BodyRuns (Contains both) n i → IsFirstOf (ShowsOn before) (ShowsOn after) n i
  runs-first n i runs =
      let t = runs.winner in
      ⊎_elim
      (λ in'.
      let (j, one) = date-shows window before first true n t in' runs.wins.applies in
      inl (subst (ShowsOn before n) (same-position j i t one.body runs.body) one.shows))
      (λ in'.
      let (j, one) = date-shows window after other false n t in' runs.wins.applies in
      inr (λ k shows. not-over n k t runs.wins one.letter_is shows, subst (ShowsOn after n) (same-position j i t one.body runs.body) one.shows))
      (cases t runs.wins.listed)

  least-before : (n : ℕ) (t s : Terms ℕ) → t.letter ≡ letter_by true → Contains both s → Applies s n → letter t.letter ≤ letter s.letter
  least-before n t s is has on = ⊎_elim
      (λ in'. let (j, one) = date-shows window before first true n s in' on in
      subst (λ l. letter l ≤ letter s.letter) (sym is) (subst (λ l. letter (letter_by true) ≤ letter l) (sym one.letter_is) (omega arith)))
      (λ in'. let (j, one) = date-shows window after other false n s in' on in
      subst (λ l. letter l ≤ letter s.letter) (sym is) (subst (λ l. letter (letter_by true) ≤ letter l) (sym one.letter_is) (omega arith)))
      (cases s has)

  first-runs : (n i : ℕ) → IsFirstOf (ShowsOn before) (ShowsOn after) n i → BodyRuns (Contains both) n i
  first-runs n i (inl shows) =
      let (t, has, on, body, lettered) = shown-date window before first true n i shows in
      record {
        winner = t;
        wins = record {
          listed = Contains-append_left (map (terms_by true) before) (map (terms_by false) after) t has;
          applies = on;
          least = λ s listed applies. least-before n t s lettered listed applies;
        };
        body = body;
      }
  first-runs n i (inr (none, shows)) =
      let (t, has, on, body, lettered) = shown-date window after other false n i shows in
      record {
        winner = t;
        wins = record {
          listed = Contains-append_right (map (terms_by true) before) (map (terms_by false) after) t has;
          applies = on;
          least = λ s listed applies. ⊎_elim
              (λ in'. let (j, one) = date-shows window before first true n s in' applies in absurd (none j one.shows))
              (λ in'. let (j, one) = date-shows window after other false n s in' applies in
              subst (λ l. letter l ≤ letter s.letter) (sym lettered)
              (subst (λ l. letter (letter_by false) ≤ letter l) (sym one.letter_is) (omega arith)))
              (cases s listed);
        };
        body = body;
      }

  -- so the dates of both lists never clash,
  pub merged-clear : (n : ℕ) → IsWithin window n
      → IsClear (Contains (terms_in (map (dates_with true) before ++ map (dates_with false) after))) n
  merged-clear n within = subst (λ (l : List (Terms ℕ)). IsClear (Contains l) n) (sym (entries-of before after)) (clear n)

  -- and their runs show what the one list shows, or else the other
  pub merged-shown : (runs : List Run)
      → AreShown window (BodyRuns (Contains (terms_in (map (dates_with true) before ++ map (dates_with false) after)))) runs
      → AreShown window (IsFirstOf (ShowsOn before) (ShowsOn after)) runs
  merged-shown runs shown =
      let say = subst (λ (l : List (Terms ℕ)). (n i : ℕ) → IsWithin window n → BodyRuns (Contains l) n i ↔ ShowsOn runs n i)
      (entries-of before after) shown.say in
      record {
        rising = shown.rising;
        have_form = shown.have_form;
        say = λ n i within. (
          λ is. (say n i within).0 (first-runs n i is),
          λ shows. runs-first n i ((say n i within).1 shows),
        );
      }
