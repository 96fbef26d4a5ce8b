-- What decides for a train by its schedules as they are cut is what decides as they were published.
use Rattle.cif_feed.proofs.Names.{Applies, AreClashDays, Bool, Contains, Contains-none, CountOn, HolidayCode, Holidays, IsClashDay, IsHolidayOf}
use Rattle.cif_feed.proofs.Names.{IsStopAmong, IsTrue, List, Option, PublishedParts, PublishedSchedule, PublishedTerms, Some, Terms, [], ap, arith}
use Rattle.cif_feed.proofs.Names.{ended, false, false≢true, inl, inr, last_day, last_is_day, max, prepared_last, published_schedule_terms}
use Rattle.cif_feed.proofs.Names.{published_schedules, refl, same_Some, schedule_terms, slice_get, subst, sym, true, ℕ, ⊎_elim, ◌+◌}
use Rattle.cif_feed.proofs.Names.{◌∙◌, ◌≡◌, ◌≤◌}
use Rattle.std.proofs.Math.Nat.{le-max_right}
use Rattle.cif_calendar.proofs.Positions.{at-contains, contains-at}
use Rattle.cif_calendar.specs.Wins.{Wins}
use Rattle.cif_columns.specs.Stp.{letter}
use Rattle.cif_extract.specs.Body.{BodyLines}
use Rattle.cif_weeks.specs.Window.{IsWithin, window_from}
use Rattle.cif_feed.specs.Steps.Deciding.{AppliesAt, DecidesFor, precedence_in}
use Rattle.cif_feed.specs.Winners.{Decides}
use Rattle.cif_feed.proofs.ListSteps.{Contains-from_map, Contains-map}

-- ---- open ends

module _ (s : PublishedSchedule) (last n : ℕ) (upto : n ≤ last) (is_day : last ≤ last_day) where
  abbrev r : Terms BodyLines
  r = schedule_terms s.schedule

  closed-unfinished : (open_end : Bool) → (IsTrue open_end → s.schedule.last ≡ last_day)
      → n ≤ prepared_last last (record { terms = r; open_end = open_end; code = s.code }) → n ≤ s.schedule.last
  closed-unfinished true closed late = let end = closed refl in omega (arith, end, upto, is_day)
  closed-unfinished false closed late = late

  open-unfinished : (open_end : Bool) → n ≤ s.schedule.last → n ≤ prepared_last last (record { terms = r; open_end = open_end; code = s.code })
  open-unfinished true late = let wide : last ≤ max s.schedule.first last = le-max_right s.schedule.first last in omega (arith, wide, upto)
  open-unfinished false late = late

  pub as-published : Applies (ended (prepared_last last (published_schedule_terms s)) r) n → Applies r n
  as-published on = record { begun = on.begun; unfinished = closed-unfinished s.open_end s.closed on.unfinished; on_weekday = on.on_weekday }

  pub as-prepared : Applies r n → Applies (ended (prepared_last last (published_schedule_terms s)) r) n
  as-prepared on = record { begun = on.begun; unfinished = open-unfinished s.open_end on.unfinished; on_weekday = on.on_weekday }

-- ---- a train on a day

module _ (h : Holidays) (drops : Bool) (p : PublishedParts) (days : List ℕ → List ℕ)
    (dropping : IsTrue drops → (k : List ℕ) → AreClashDays h (published_schedules p.schedules) p.header.first (p.header.last + 1) k (days k))
    (keeping : drops ≡ false → (k : List ℕ) → days k ≡ []) (k : List ℕ) (n : ℕ)
    (within : IsWithin (window_from p.header.first p.header.last) n) where
  abbrev clashes : Type 0
  clashes = IsClashDay h (published_schedules p.schedules) p.header.first (p.header.last + 1) k n

  abbrev applies : ℕ → ℕ → Type 0
  applies = AppliesAt h days p.header.last p.schedules

  abbrev counted : Terms BodyLines → Type 0
  counted = CountOn h (published_schedules p.schedules) k n

  free-kept : (b : Bool) → drops ≡ b → ¬ Contains (days k) n → ¬ (IsTrue drops × clashes)
  free-kept true is free both = free (((dropping is k).are n).1 both.1)
  free-kept false is free both = false≢true (sym is ∙ both.0)

  kept-free : (b : Bool) → drops ≡ b → ¬ (IsTrue drops × clashes) → ¬ Contains (days k) n
  kept-free true is kept has = kept (is, ((dropping is k).are n).0 has)
  kept-free false is kept has = Contains-none n (subst (λ (l : List ℕ). Contains l n) (keeping is k) has)

  is_day : p.header.last ≤ last_day
  is_day = let d = last_is_day p.header in omega arith

  -- a schedule of the train that applies counts
  pub record IsOn (s : PublishedSchedule) : Type 0 where
    pub applies : Applies (schedule_terms s.schedule) n
    pub no_holiday : ¬ IsHolidayOf h s.code n
    pub free : ¬ Contains (days k) n

  pub on-at : (j : ℕ) (s : PublishedSchedule) → slice_get p.schedules j ≡ Some s → s.schedule.uid ≡ k → applies j n → IsOn s
  on-at j s at uid a =
      let same : a.it ≡ s = same_Some a.it s (sym a.at ∙ at) in
      let goes : ¬ IsStopAmong h days s.schedule.uid s.code n =
      subst (λ (u : PublishedSchedule). ¬ IsStopAmong h days u.schedule.uid u.code n) same a.goes_on in
      record {
        applies = as-published s p.header.last n within.upto is_day
            (subst (λ (u : PublishedSchedule). Applies (ended (prepared_last p.header.last (published_schedule_terms u))
            (schedule_terms u.schedule)) n) same a.applies);
        no_holiday = λ holiday. goes (inl holiday);
        free = λ has. goes (inr (subst (λ (u : List ℕ). Contains (days u) n) (sym uid) has));
      }

  pub at-on : (j : ℕ) (s : PublishedSchedule) → slice_get p.schedules j ≡ Some s → s.schedule.uid ≡ k → IsOn s → applies j n
  at-on j s at uid on = record {
    it = s;
    at = at;
    applies = as-prepared s p.header.last n within.upto is_day on.applies;
    goes_on = λ stop. ⊎_elim (λ holiday. on.no_holiday holiday)
        (λ has. on.free (subst (λ (u : List ℕ). Contains (days u) n) uid has)) stop;
  }

  counts : (j : ℕ) (s : PublishedSchedule) → slice_get p.schedules j ≡ Some s → s.schedule.uid ≡ k → ¬ IsHolidayOf h s.code n
      → counted (schedule_terms s.schedule)
  counts j s at uid no_holiday = record {
    open_end = s.open_end;
    code = s.code;
    listed = subst (λ (u : List ℕ). Contains (published_schedules p.schedules) (u, published_schedule_terms s)) uid
        (Contains-map (λ (t : PublishedSchedule). (t.schedule.uid, published_schedule_terms t)) p.schedules s (contains-at p.schedules j s at));
    no_holiday = no_holiday;
  }

  -- what counts stands at a position
  pub record StandsAt (r : Terms BodyLines) : Type 0 where
    pub position : ℕ
    pub schedule : PublishedSchedule
    pub at : slice_get p.schedules position ≡ Some schedule
    pub uid : schedule.schedule.uid ≡ k
    pub terms : schedule_terms schedule.schedule ≡ r
    pub no_holiday : ¬ IsHolidayOf h schedule.code n

  pub counted-at : (r : Terms BodyLines) → counted r → StandsAt r
  counted-at r c =
      let (s, listed, is) = Contains-from_map (λ (t : PublishedSchedule). (t.schedule.uid, published_schedule_terms t)) p.schedules _ c.listed in
      let (j, at) = at-contains p.schedules s listed in record {
        position = j;
        schedule = s;
        at = at;
        uid = ap (λ (e : List ℕ × PublishedTerms BodyLines). e.0) is;
        terms = ap (λ (e : List ℕ × PublishedTerms BodyLines). e.1.terms) is;
        no_holiday = subst (λ (o : Option HolidayCode). ¬ IsHolidayOf h o n)
            (sym (ap (λ (e : List ℕ × PublishedTerms BodyLines). e.1.code) is)) c.no_holiday;
      }

  precedence-at : (j : ℕ) (s : PublishedSchedule) → slice_get p.schedules j ≡ Some s
      → precedence_in (slice_get p.schedules j) ≡ letter s.schedule.letter
  precedence-at j s at = ap precedence_in at

  -- what decides among the prepared records decides among the published ones
  pub for-published : (i : ℕ) → DecidesFor applies p.schedules k n i → Decides h drops p k n i
  for-published i d =
      let own = on-at i d.it d.at d.of_train d.on in
      let wins : Wins counted n (schedule_terms d.it.schedule) = record {
        listed = counts i d.it d.at d.of_train own.no_holiday;
        applies = own.applies;
        least = λ s listed on.
            let at = counted-at s listed in
            let other = at-on at.position at.schedule at.at at.uid (record {
              applies = subst (λ (t : Terms BodyLines). Applies t n) (sym at.terms) on;
              no_holiday = at.no_holiday;
              free = own.free;
            }) in
            let low = (d.least at.position at.schedule at.at at.uid other).0 in
            subst (λ (t : Terms BodyLines). letter d.it.schedule.letter ≤ letter t.letter) at.terms
            (subst (λ (v : ℕ). v ≤ letter at.schedule.schedule.letter) (precedence-at i d.it d.at)
            (subst (λ (v : ℕ). precedence_in (slice_get p.schedules i) ≤ v) (precedence-at at.position at.schedule at.at) low));
      } in record {
        wins = record { schedule = d.it; at = d.at; of_train = d.of_train; no_holiday = own.no_holiday; wins = wins };
        first = λ j w.
            let other = at-on j w.schedule w.at w.of_train (record { applies = w.wins.applies; no_holiday = w.no_holiday; free = own.free }) in
            let before = d.least j w.schedule w.at w.of_train other in
            let low = before.0 in
            let high : letter w.schedule.schedule.letter ≤ letter d.it.schedule.letter =
            w.wins.least (schedule_terms d.it.schedule) wins.listed wins.applies in
            let one = precedence-at i d.it d.at in
            let two = precedence-at j w.schedule w.at in
            before.1 (omega (arith, low, high, one, two));
        kept = free-kept drops refl own.free;
      }

  -- and the other way round
  pub published-for : (i : ℕ) → Decides h drops p k n i → DecidesFor applies p.schedules k n i
  published-for i d =
      let w = d.wins in
      let free = kept-free drops refl d.kept in record {
        it = w.schedule;
        at = w.at;
        of_train = w.of_train;
        on = at-on i w.schedule w.at w.of_train (record { applies = w.wins.applies; no_holiday = w.no_holiday; free = free });
        least = λ j s at uid applied.
            let other = on-at j s at uid applied in
            let listed = counts j s at uid other.no_holiday in
            let low : letter w.schedule.schedule.letter ≤ letter s.schedule.letter =
            w.wins.least (schedule_terms s.schedule) listed other.applies in
            let one = precedence-at i w.schedule w.at in
            let two = precedence-at j s at in (
              omega (arith, low, one, two),
              λ same. d.first j (record {
                schedule = s;
                at = at;
                of_train = uid;
                no_holiday = other.no_holiday;
                wins = record {
                  listed = listed;
                  applies = other.applies;
                  least = λ t t_in on.
                      let least : letter w.schedule.schedule.letter ≤ letter t.letter = w.wins.least t t_in on in
                      omega (arith, least, low, one, two, same);
                };
              }),
            );
      }
