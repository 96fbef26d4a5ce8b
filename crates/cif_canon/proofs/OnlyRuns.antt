-- The runs of what is left of a calendar are those of what only it says.
use Rattle.cif_canon.proofs.Names.{AllPairs, AllZip, AreCanonicalRuns, AreOnlyRuns, AreRisingRuns, AreSources, CalendarParts, Contains-none}
use Rattle.cif_canon.proofs.Names.{IsOnlyCalendar, IsWithin, List, None, Permanent, Run, Some, Terms, Two, [], ap, arith, body_on, get_or}
use Rattle.cif_canon.proofs.Names.{get_or_from_slice_get, slice_get-get_or, slice_get_within, source_at, subst, sym, window_from, window_of}
use Rattle.cif_canon.proofs.Names.{zip-at, ℕ, ⊎_elim, ◌<◌, ◌↔◌, ◌∙◌, ◌≡◌, ◌≢◌, ◌≤◌}
use Rattle.cif_calendar.specs.Source.{body_at}
use Rattle.cif_weeks.specs.Runs.{IsRunOf as IsCalendarRun}
use Rattle.cif_canon.proofs.KeyRecords.{runs-as}

-- what holds of the pairs of one list holds of those of another that goes with it one by one
module _ {X Y : Type 0} (R : X → Y → Type 0) (P : X → X → Type 0) (Q : Y → Y → Type 0)
    (with' : (x u : X) (y v : Y) → R x y → R u v → Q y v → P x u) where
  pub pairs-zip : (xs : List X) (ys : List Y) → AllZip R xs ys → AllPairs Q ys → AllPairs P xs
  pairs-zip xs ys z a i j d less within =
      let (y, at_y, h) = zip-at R xs ys z i (get_or xs i d) (slice_get-get_or xs i d (omega arith)) in
      let (v, at_v, k) = zip-at R xs ys z j (get_or xs j d) (slice_get-get_or xs j d within) in
      with' (get_or xs i d) (get_or xs j d) y v h k (subst (λ w. Q w v) (get_or_from_slice_get ys i y y at_y)
      (subst (λ w. Q (get_or ys i y) w) (get_or_from_slice_get ys j v y at_v) (a i j y less (slice_get_within ys j v at_v))))

-- the runs of records rise as these do
pub rising-runs : {B : Type 0} (xs : List (Terms B)) (c : CalendarParts) (runs : List Run) (records : List (Permanent B)) →
    AllZip (IsCalendarRun xs c) runs records → AllPairs (λ r s. r.first < s.first) records → AreRisingRuns runs
rising-runs {B} xs c runs records z rising =
    pairs-zip (IsCalendarRun xs c) (λ r s. r.first < s.first) (λ (r s : Permanent B). r.first < s.first)
    (λ x u y v h k less.
    let one : y.first ≡ x.first = ap (λ (r : Permanent B). r.first) h.dates in
    let other : v.first ≡ u.first = ap (λ (r : Permanent B). r.first) k.dates in
    omega (arith, one, other, less))
    runs records z rising

module _ {B : Type 0} (xs : List (Terms B)) (c : CalendarParts) (ys : List (Terms B)) (e : CalendarParts) (only : CalendarParts)
    (is : IsOnlyCalendar xs c ys e only) where
  window-is : window_of only ≡ window_of c
  window-is = ap (λ n. window_from n only.last) is.first_is ∙ ap (λ n. window_from c.first n) is.last_is

  -- what is left of a day's source is that source
  source-left : (d i : ℕ) → IsWithin (window_of c) d → source_at only.pieces d ≡ Some i → source_at c.pieces d ≡ Some i
  source-left d i within at = ⊎_elim
      (λ same. absurd (let no : None ≡ Some i = sym same.1 ∙ at in cc))
      (λ differ. sym differ.1 ∙ at)
      (is.sources d within.from within.upto)

  pub only-sources : AreSources xs c → AreSources xs only
  only-sources sources = record {
    bodied = λ n i from upto at.
        let after : c.first ≤ n = subst (λ f. f ≤ n) is.first_is from in
        let before : n ≤ c.last = subst (λ l. n ≤ l) is.last_is upto in
        sources.bodied n i after before (source-left n i (record { from = after; upto = before }) at);
  }

  own-run : (run : Run) (r : Permanent B) → IsWithin (window_of only) r.first → IsCalendarRun xs only run r → IsCalendarRun xs c run r
  own-run run r within z = record {
    dates = z.dates;
    source = source-left run.first run.source (subst (λ (s : Permanent B). IsWithin (window_of c) s.first) z.dates
        (subst (λ w. IsWithin w r.first) window-is within)) z.source;
    body = z.body;
  }

  -- its body is one that the other calendar hasn't
  left-says : (n : ℕ) (b : B) → IsWithin (window_of c) n →
      (body_on xs only n ≡ Some b) ↔ ((body_on xs c n ≡ Some b) × (body_on ys e n ≢ Some b))
  left-says n b within = ⊎_elim
      (λ same. (
        λ h. absurd (let no : None ≡ Some b = sym (ap (body_at xs) same.1) ∙ h in cc),
        λ h. absurd (h.1 (sym same.0 ∙ h.0)),
      ))
      (λ differ. (
        λ h.
            let own : body_on xs c n ≡ Some b = sym (ap (body_at xs) differ.1) ∙ h in
            (own, λ other. differ.0 (own ∙ sym other)),
        λ h. ap (body_at xs) differ.1 ∙ h.0,
      ))
      (is.sources n within.from within.upto)

  pub only-runs : (runs : List Run) → AreCanonicalRuns Two xs only runs → AreOnlyRuns xs c ys e runs
  only-runs runs a =
      runs-as Two (window_of only) (window_of c) window-is (IsCalendarRun xs only) (IsCalendarRun xs c) own-run
      (λ n b. body_on xs only n ≡ Some b) (λ n b. (body_on xs c n ≡ Some b) × (body_on ys e n ≢ Some b))
      (λ n b within. left-says n b (subst (λ w. IsWithin w n) window-is within)) runs
      (record { records = a.records; runs_of = a.runs_of; rising = a.meets.rising; have_form = a.meets.have_form; say = a.meets.say.says })

-- where the calendars have the same bodies nothing is said by one alone
module _ {B : Type 0} (xs : List (Terms B)) (c : CalendarParts) (ys : List (Terms B)) (e : CalendarParts)
    (alike : (d : ℕ) → c.first ≤ d → d ≤ c.last → body_on xs c d ≡ body_on ys e d) where
  pub only-none : AreOnlyRuns xs c ys e []
  only-none = record {
    records = [];
    runs_of = tt;
    rising = λ i j d less within. absurd (omega arith);
    have_form = record {
      single = λ n r s in_r. absurd (Contains-none r in_r);
      aligned = λ r in_r. absurd (Contains-none r in_r);
      separate = λ r s in_r. absurd (Contains-none r in_r);
    };
    say = λ n b within. (λ h. absurd (h.1 (sym (alike n within.from within.upto) ∙ h.0)), λ h. absurd (Contains-none h.it h.listed));
  }
