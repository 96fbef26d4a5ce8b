-- The dates of the parts of one schedule, on which it alone can decide.
use Rattle.cif_feed.proofs.Names.{All-contains, Applies, AreAdded, AreParts, Bool, Contains, Holidays, IsClear, IsPart, IsStopAmong}
use Rattle.cif_feed.proofs.Names.{List, Part, PreparedRecord, PublishedSchedule, Schedule, Some, Terms, [], ap, arith, ended, holidays_of, inl}
use Rattle.cif_feed.proofs.Names.{inr, map, map-map, part_entry, prepared_last, published_schedule_terms, records_on, refl}
use Rattle.cif_feed.proofs.Names.{same_Some, schedule_terms, slice_get, subst, sym, ℕ, ⊎_elim, ◌↔◌, ◌∙◌, ◌∷◌, ◌≡◌, ◌≤◌, ◌⊎◌}
use Rattle.cif_calendar.specs.Runs.{BodyRuns}
use Rattle.cif_columns.specs.declared.stp.Stp.TheVariants.{P}
use Rattle.cif_extract.specs.Body.{BodyLines}
use Rattle.cif_weeks.specs.{Window.Window, declared.form.Run.Run}
use Rattle.cif_feed.specs.Steps.Deciding.{AppliesAt, AreShown, DecidesAmong, dates_of_part, terms_in, terms_of_dates}
use Rattle.cif_feed.specs.declared.deciding.DecidingDates.{DecidingDates}
use Rattle.cif_feed.proofs.{ListSteps.Contains-from_map, ListSteps.Contains-map, PreparedLists.holiday-days}
use Rattle.cif_feed.proofs.PreparedRuns.{applies-part, part-applies}

-- the dates of a part
abbrev pub part_dates : ℕ → List Bool → Part → Terms ℕ
part_dates position days p = record { first = p.first; last = p.last; days = days; letter = P; body = Some position }

-- those of a record on its dates
abbrev record_dates : ℕ → List Bool → List ℕ × Terms BodyLines → Terms ℕ
record_dates position days e =
    record { first = e.1.first; last = e.1.last; days = days; letter = P; body = Some position }

module _ (position : ℕ) (days : List Bool) where
  pub entries-of_parts : (Stops : ℕ → Type 0) (k : List ℕ) (r : Terms BodyLines) (parts : List (PreparedRecord Schedule ℕ))
      (added : AreAdded Stops k r [] (records_on (λ (s : Schedule). s.uid) schedule_terms parts))
      → terms_in (map (dates_of_part position days) parts) ≡ map (part_dates position days) added.0
  entries-of_parts Stops k r parts added =
      map-map (λ (d : DecidingDates). terms_of_dates d.run d.before) (dates_of_part position days) parts
      ∙ (sym (map-map (record_dates position days)
      (λ (p : PreparedRecord Schedule ℕ). (p.entry.now.uid, Rattle.cif_feed.specs.PreparedRecord.terms_on (schedule_terms p.entry.now) p.first p.last)) parts)
      ∙ (ap (map (record_dates position days)) added.2 ∙ map-map (record_dates position days) (part_entry k r) added.0))

  -- all have one position
  pub parts-clear : (own : List Part) (n : ℕ) → IsClear (Contains (map (part_dates position days) own)) n
  parts-clear own n = record {
    agree = λ r s r_wins s_wins.
        let (p, p_in, p_is) = Contains-from_map (part_dates position days) own r r_wins.listed in
        let (q, q_in, q_is) = Contains-from_map (part_dates position days) own s s_wins.listed in
        ap (λ (t : Terms ℕ). t.body) (sym p_is) ∙ ap (λ (t : Terms ℕ). t.body) q_is;
  }

  -- and it is what runs
  pub part-position : (own : List Part) (n i : ℕ) → BodyRuns (Contains (map (part_dates position days) own)) n i → position ≡ i
  part-position own n i runs =
      let (p, listed, is) = Contains-from_map (part_dates position days) own runs.winner runs.wins.listed in
      same_Some position i (ap (λ (t : Terms ℕ). t.body) is ∙ runs.body)

module _ (h : Holidays) (days : List ℕ → List ℕ) (window : Window) (schedules : List PublishedSchedule) (position : ℕ)
    (s : PublishedSchedule) (at : slice_get schedules position ≡ Some s) (last : ℕ)
    (last_is : last ≡ prepared_last window.last (published_schedule_terms s)) (holidays dates : List ℕ)
    (holidays_are : holidays ≡ holidays_of h s.code) (dates_are : dates ≡ days s.schedule.uid) (own : List Part)
    (are : AreParts (λ (d : ℕ). Contains holidays d ⊎ Contains dates d) (ended last (schedule_terms s.schedule)) own) where
  abbrev stops : ℕ → Type 0
  stops d = Contains holidays d ⊎ Contains dates d

  abbrev own_dates : List (Terms ℕ)
  own_dates = map (part_dates position s.schedule.days) own

  stops-as : (n : ℕ) → stops n ↔ IsStopAmong h days s.schedule.uid s.code n
  stops-as n = (
    λ stop. ⊎_elim (λ on. inl ((holiday-days h s.code n).0 (subst (λ (l : List ℕ). Contains l n) holidays_are on)))
        (λ on. inr (subst (λ (l : List ℕ). Contains l n) dates_are on)) stop,
    λ stop. ⊎_elim (λ on. inl (subst (λ (l : List ℕ). Contains l n) (sym holidays_are) ((holiday-days h s.code n).1 on)))
        (λ on. inr (subst (λ (l : List ℕ). Contains l n) (sym dates_are) on)) stop,
  )

  part-at : (n : ℕ) (t : Terms ℕ) → Contains own_dates t → Applies t n → AppliesAt h days window.last schedules position n
  part-at n t has on =
      let (p, listed, is) = Contains-from_map (part_dates position s.schedule.days) own t has in
      let here : Applies (part_dates position s.schedule.days p) n = subst (λ (u : Terms ℕ). Applies u n) (sym is) on in
      let part = All-contains (IsPart stops (ended last (schedule_terms s.schedule))) own p are.are listed in
      let upto : n ≤ last = (let early : n ≤ p.last = here.unfinished in let late : p.last ≤ last = part.upto in omega (arith, early, late)) in
      let (applies, free) = applies-part stops (ended last (schedule_terms s.schedule)) last own are n upto p listed
      (record { begun = here.begun; unfinished = here.unfinished; on_weekday = here.on_weekday }) in
      record {
        it = s;
        at = at;
        applies = subst (λ (v : ℕ). Applies (ended v (schedule_terms s.schedule)) n) last_is applies;
        goes_on = λ stop. free ((stops-as n).1 stop);
      }

  at-part : (n : ℕ) → AppliesAt h days window.last schedules position n → BodyRuns (Contains own_dates) n position
  at-part n a =
      let same : a.it ≡ s = same_Some a.it s (sym a.at ∙ at) in
      let applies : Applies (ended last (schedule_terms s.schedule)) n =
      subst (λ (v : ℕ). Applies (ended v (schedule_terms s.schedule)) n) (sym last_is)
      (subst (λ (u : PublishedSchedule). Applies (ended (prepared_last window.last (published_schedule_terms u)) (schedule_terms u.schedule)) n)
      same a.applies) in
      let free : ¬ IsStopAmong h days s.schedule.uid s.code n =
      subst (λ (u : PublishedSchedule). ¬ IsStopAmong h days u.schedule.uid u.code n) same a.goes_on in
      let (p, listed, on) = part-applies stops (ended last (schedule_terms s.schedule)) last own are n applies.unfinished applies
      (λ stop. free ((stops-as n).0 stop)) in
      record {
        winner = part_dates position s.schedule.days p;
        wins = record {
          listed = Contains-map (part_dates position s.schedule.days) own p listed;
          applies = record { begun = on.begun; unfinished = on.unfinished; on_weekday = on.on_weekday };
          least = λ t has other.
              let (q, q_in, q_is) = Contains-from_map (part_dates position s.schedule.days) own t has in
              subst (λ (u : Terms ℕ). Rattle.cif_columns.specs.Stp.letter P ≤ Rattle.cif_columns.specs.Stp.letter u.letter) q_is (omega arith);
        };
        body = refl;
      }

  -- the runs of the dates show the schedule where it applies and isn't stopped
  pub parts-shown : (runs : List Run) → AreShown window (BodyRuns (Contains own_dates)) runs
      → AreShown window (DecidesAmong (AppliesAt h days window.last schedules) (position ∷ [])) runs
  parts-shown runs shown = record {
    rising = shown.rising;
    have_form = shown.have_form;
    say = λ n i within.
        let say = shown.say n i within in (
          λ decides. ⊎_elim
              (λ here. say.0 (subst (BodyRuns (Contains own_dates) n) (sym here.1) (at-part n here.0)))
              (λ none. absurd none.1) decides,
          λ shows.
              let runs = say.1 shows in
              let (p, listed, is) = Contains-from_map (part_dates position s.schedule.days) own runs.winner runs.wins.listed in
              let both : Some position ≡ Some i = ap (λ (t : Terms ℕ). t.body) is ∙ runs.body in
              inl (part-at n runs.winner runs.wins.listed runs.wins.applies, sym (same_Some position i both)),
        );
  }
