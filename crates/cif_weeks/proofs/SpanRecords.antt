-- The records of runs that are made from spans: one for each run, with the body at its source.
use Rattle.cif_weeks.proofs.Names.{AllPairs, AllPairs-members, AllZip, AreNear, AreRunsOfSpans, Bool, Breaks, Contains, Contains-first}
use Rattle.cif_weeks.proofs.Names.{Contains-rest, EndsBefore, Form, IsAmongDates, IsApartFrom, IsByWeeks, IsExact, IsLongest, IsMade}
use Rattle.cif_weeks.proofs.Names.{IsSpansRun, IsWeeksFrom, IsWithin, Leads, List, Option, Permanent, Run, RunsOn, Shows, Some, Span, Terms}
use Rattle.cif_weeks.proofs.Names.{Window, [], ap, arith, at-contains, body_at, cases_lt, contains-at, dates_of, get_or_from_slice_get}
use Rattle.cif_weeks.proofs.Names.{record_of, refl, same_Some, slice_get, slice_get-get_or, slice_get_within, subst, sym, week_of}
use Rattle.cif_weeks.proofs.Names.{weekday_of, ℕ, ⊎_elim, ◌+◌, ◌<◌, ◌∙◌, ◌∷◌, ◌≡◌, ◌≤◌}
use Rattle.cif_weeks.proofs.Exact.{exact-near, exact-over, exact-part}
use Rattle.cif_weeks.proofs.Forms.{any-change, ends-order, ends-weeks, form-cases, made-aligned, made-exact, made-grown, weeks-apart_from}
use Rattle.cif_weeks.proofs.Grown.{grown_change}
use Rattle.cif_weeks.{proofs.JoinedLists.zip-at, proofs.JoinedLists.zip-back, proofs.Meeting.MeetsInOrder, specs.Steps.BodyRuns.HasBody}

-- a span with this body leads on day n, or one without a body
pub record Shown {B : Type 0} (xs : List (Terms B)) (spans : List Span) (body : Option B) (n : ℕ) : Type 0 where
  pub it : Span
  pub listed : Contains spans it
  pub leads : Leads spans n it
  pub body_is : body_at xs (Some it.source) ≡ body

-- The spans' days lie in the window. A span has a body exactly if there is one at its source, and of spans with one body those
-- near each other have one source.
pub record HaveBodies {B : Type 0} (xs : List (Terms B)) (window : Window) (spans : List Span) : Type 0 where
  pub inside : (source n : ℕ) → Shows spans source n → IsWithin window n
  pub has_body : (s : Span) → Contains spans s → (b : B) → body_at xs (Some s.source) ≡ Some b → HasBody s
  pub body_of : (s : Span) → Contains spans s → HasBody s → (b : B) × (body_at xs (Some s.source) ≡ Some b)
  pub one_source : (s t : Span) → Contains spans s → Contains spans t → AreNear s t →
      body_at xs (Some s.source) ≡ body_at xs (Some t.source) → s.source ≡ t.source

-- the run has the dates and the mask of permanent record r, whose body is at its source
pub record IsBodysRun {B : Type 0} (xs : List (Terms B)) (run : Run) (r : Permanent B) : Type 0 where
  pub dates : r ≡ record_of run r.body
  pub body : body_at xs (Some run.source) ≡ Some r.body

module _ {B : Type 0} (xs : List (Terms B)) (window : Window) (spans : List Span) (have : HaveBodies xs window spans)
    (form : Form) (runs : List Run) (are : AreRunsOfSpans form window spans runs) where
  -- where a span with a body leads, what leads has that body
  pub one-body : (n : ℕ) (b : B) (o : Option B) → Shown xs spans (Some b) n → Shown xs spans o n → Some b ≡ o
  one-body n b o s t =
      let agreed = are.agreed s.it n s.listed (have.has_body s.it s.listed b s.body_is)
      (record { it = s.it; listed = s.listed; is = refl; on = s.leads }) in
      sym s.body_is ∙ ap (λ v. body_at xs (Some v)) (agreed.agree s.it t.it s.listed t.listed s.leads t.leads) ∙ t.body_is

  records-from : (some : List Run) → ((run : Run) → Contains some run → IsSpansRun form window spans run) →
      (records : List (Permanent B)) × AllZip (IsBodysRun xs) some records
  records-from [] each = ([], tt)
  records-from (run ∷ some) each =
      let e = each run (Contains-first run some) in
      let (b, is) = have.body_of e.span e.listed e.has_body in
      let (records, zip) = records-from some (λ s listed. each s (Contains-rest run some s listed)) in
      let first : IsBodysRun xs run (record_of run b) = record {
        dates = refl;
        body = ap (λ v. body_at xs (Some v)) (sym e.source) ∙ is;
      } in
      (record_of run b ∷ records, (first, zip))

  -- each run has its record
  pub records-of : (records : List (Permanent B)) × AllZip (IsBodysRun xs) runs records
  records-of = records-from runs are.each

  exact-run : (h : Run) → Contains runs h → IsExact (Shows spans h.source) h.first h.last h.days
  exact-run h in_h = made-exact window (Shows spans h.source) (dates_of h) (have.inside h.source) form (are.each h in_h).made

  -- by the week after a run's last, a span with its body that leads has its source
  near-source : (h : Run) → Contains runs h → (n : ℕ) → week_of h.first ≤ week_of n → week_of n ≤ week_of h.last + 1 → (t : Span) →
      Contains spans t → Leads spans n t → body_at xs (Some h.source) ≡ body_at xs (Some t.source) → h.source ≡ t.source
  near-source h in_h n from upto t in_t leads same =
      let (m, near, next, s) = exact-near h.first h.last h.days (exact-run h in_h) (week_of n) from upto in
      sym s.is ∙ have.one_source s.it t s.listed in_t (record {
        reaches = omega (arith, s.on.has.from, leads.has.upto);
        reached = omega (arith, leads.has.from, s.on.has.upto);
      }) (ap (λ (v : ℕ). body_at xs (Some v)) s.is ∙ same)

  -- a run that begins by the week after another, which begins before it, has the other's source if they have one body
  same-source : (h i : Run) → Contains runs h → Contains runs i → h.first < i.first → week_of i.first ≤ week_of h.last + 1 →
      body_at xs (Some h.source) ≡ body_at xs (Some i.source) → h.source ≡ i.source
  same-source h i in_h in_i less upto same =
      let t = (exact-run i in_i).first_on in
      near-source h in_h i.first (omega arith) upto t.it t.listed t.on (same ∙ ap (λ (v : ℕ). body_at xs (Some v)) (sym t.is)) ∙ t.is

  -- of two runs of one source that are two, the one that ends later begins later
  later-run : (h k : Run) → Contains runs h → Contains runs k → h.source ≡ k.source → (n : ℕ) → h.last < n → n ≤ k.last → h.first < k.first
  later-run h k in_h in_k same n after upto = ⊎_elim
      (λ one. absurd (omega (arith, ap (λ (v : Run). v.last) one)))
      (⊎_elim
      (λ less. less)
      (λ more.
      let before = ends-order window (Shows spans k.source) form k h (are.apart k h in_k in_h (sym same) more) in
      let ordered = (exact-run h in_h).in_order in
      absurd (omega arith)))
      (AllPairs-members (λ (r s : Run). r.first < s.first) h k runs are.rising in_h in_k)

  module _ (records : List (Permanent B)) (zip : AllZip (IsBodysRun xs) runs records) where
    made-of : (run : Run) (r : Permanent B) → Contains runs run → IsBodysRun xs run r → IsMade form window (Shows spans run.source) r
    made-of run r listed of = subst (λ s. IsMade form window (Shows spans run.source) s) (sym of.dates)
        (are.each run listed).made

    -- what is known of a record
    record Stands (k : ℕ) (r : Permanent B) : Type 0 where
      run : Run
      at : slice_get runs k ≡ Some run
      listed : Contains runs run
      of : IsBodysRun xs run r
      made : IsMade form window (Shows spans run.source) r

    stands : (k : ℕ) (r : Permanent B) → slice_get records k ≡ Some r → Stands k r
    stands k r at =
        let (run, there, of) = zip-at (λ s run. IsBodysRun xs run s) records runs (zip-back (IsBodysRun xs) runs records zip) k r at in
        let listed = contains-at runs k run there in
        record { run = run; at = there; listed = listed; of = of; made = made-of run r listed of }

    stands-in : (r : Permanent B) → Contains records r → (k : ℕ) × Stands k r
    stands-in r listed = let (k, at) = at-contains records r listed in (k, stands k r at)

    -- the body of a record is shown where its run's source is
    shown-of : (run : Run) (r : Permanent B) → IsBodysRun xs run r → (n : ℕ) → Shows spans run.source n → Shown xs spans (Some r.body) n
    shown-of run r of n s =
        record { it = s.it; listed = s.listed; leads = s.on; body_is = ap (λ v. body_at xs (Some v)) s.is ∙ of.body }

    exact-of : (run : Run) (r : Permanent B) → Contains runs run → IsBodysRun xs run r →
        IsExact (Shows spans run.source) r.first r.last r.days
    exact-of run r listed of = made-exact window (Shows spans run.source) r (have.inside run.source) form (made-of run r listed of)

    first-of : (run : Run) (r : Permanent B) → IsBodysRun xs run r → r.first ≡ run.first
    first-of run r of = ap (λ (v : Permanent B). v.first) of.dates

    last-of : (run : Run) (r : Permanent B) → IsBodysRun xs run r → r.last ≡ run.last
    last-of run r of = ap (λ (v : Permanent B). v.last) of.dates

    -- two records with one body
    module _ (h i : Run) (r s : Permanent B) (in_h : Contains runs h) (in_i : Contains runs i) (of_h : IsBodysRun xs h r)
        (of_i : IsBodysRun xs i s) (rises : h.first < i.first) (same : r.body ≡ s.body) where
      one-source : week_of i.first ≤ week_of h.last + 1 → h.source ≡ i.source
      one-source near = same-source h i in_h in_i rises near (of_h.body ∙ ap Some same ∙ sym of_i.body)

      -- forms 1 and 2
      pair-weeks : IsByWeeks form → (on : ℕ → Type 0) → IsWeeksFrom form window on r s
      pair-weeks by on =
          let first_s = first-of i s of_i in
          let last_r = last-of h r of_h in
          ⊎_elim
          (λ far. record { before = omega arith; change = λ next. absurd (omega arith) })
          (λ near.
          let sources = one-source near in
          let ends = ends-weeks window (Shows spans h.source) form by h i (are.apart h i in_h in_i sources rises) in
          let shows = Shows spans h.source in
          record {
            before = omega (arith, ends.before);
            change = λ next. any-change form by window shows on r s (grown_change window shows (have.inside h.source) form r s
                (made-grown window shows r form by (made-of h r in_h of_h))
                (subst (λ v. Breaks form window shows v) (sym of_h.dates) (ends.breaks (omega arith)))
                (made-grown window shows s form by
                (subst (λ v. IsMade form window (Shows spans v) s) (sym sources) (made-of i s in_i of_i)))
                next);
          })
          (cases_lt (week_of h.last + 1) (week_of i.first))

      -- form 3: a run of the source that begins soon after, to which the record would go on
      module _ (is_three : (k : Run) → Contains runs k → h.source ≡ k.source → h.first < k.first →
          IsLongest (Shows spans h.source) (dates_of h) (dates_of k)) where
        abbrev on_b : ℕ → Type 0
        on_b n = Shown xs spans (Some r.body) n

        from-shown : (n : ℕ) → week_of h.first ≤ week_of n → week_of n ≤ week_of h.last + 1 → on_b n → Shows spans h.source n
        from-shown n from upto b = record {
          it = b.it;
          listed = b.listed;
          is = sym (near-source h in_h n from upto b.it b.listed b.leads (of_h.body ∙ sym b.body_is));
          on = b.leads;
        }

        not-soon : (k : Run) → Contains runs k → h.source ≡ k.source → h.first < k.first → week_of k.first ≤ week_of h.last + 1 →
            (days : List Bool) → ¬ IsExact on_b r.first k.first days
        not-soon k in_k sources less soon days t =
            let first_r = first-of h r of_h in
            (is_three k in_k sources less).longest days (subst (λ v. IsExact (Shows spans h.source) v k.first days) first_r
            (exact-over r.first k.first days t
            (λ n from upto b. from-shown n (omega arith) (omega arith) b)
            (λ n from upto s. shown-of h r of_h n s)))

        pair-longest : IsLongest on_b r s
        pair-longest =
            let first_r = first-of h r of_h in
            let first_s = first-of i s of_i in
            let last_r = last-of h r of_h in
            let ordered = (exact-run h in_h).in_order in
            ⊎_elim
            (λ far. record {
              before = omega arith;
              longest = λ days t.
                  let n = h.last + 7 in
                  let last = (exact-run h in_h).last_on in
                  let has = (t.all h.last (omega arith) (omega arith) (shown-of h r of_h h.last last)).on_weekday in
                  let day : weekday_of n ≡ weekday_of h.last = omega arith in
                  let b = t.only n
                  (record { begun = omega arith; unfinished = omega arith; on_weekday = subst (RunsOn days) (sym day) has }) in
                  let shows = from-shown n (omega arith) (omega arith) b in
                  let w = are.complete shows.it n shows.listed (have.has_body shows.it shows.listed r.body
                  (ap (λ v. body_at xs (Some v)) shows.is ∙ of_h.body))
                  (record { it = shows.it; listed = shows.listed; is = refl; on = shows.on }) in
                  let sources = sym shows.is ∙ sym w.is in
                  let k = w.run in
                  let begun = w.on.begun in
                  let less = later-run h k in_h w.listed sources n (omega arith) w.on.unfinished in
                  let (part, e) = exact-part r.first k.first s.first days t (omega arith) (omega arith)
                  (shown-of h r of_h k.first (subst (λ v. Shows spans v k.first) (sym {a = h.source} {b = w.run.source} sources)
                  (exact-run k w.listed).first_on)) in
                  not-soon k w.listed sources less (omega arith) part e;
            })
            (λ near.
            let sources = one-source near in
            record {
              before = let before = (is_three i in_i sources rises).before in omega arith;
              longest = λ days t. not-soon i in_i sources rises near days (subst (λ v. IsExact on_b r.first v days) first_s t);
            })
            (cases_lt (week_of h.last + 1) (week_of i.first))

      pair-apart : IsApartFrom form window (λ n. Shown xs spans (Some r.body) n) r s
      pair-apart = ⊎_elim
          (λ by. weeks-apart_from window _ form by r s (pair-weeks by _))
          (λ three. subst (λ v. IsApartFrom v window (λ n. Shown xs spans (Some r.body) n) r s) (sym three)
          (pair-longest (λ k in_k sources less. subst (λ v. EndsBefore v window (Shows spans h.source) h k) three
          (are.apart h k in_h in_k sources less))))
          (form-cases form)

    rises-at : (j k : ℕ) (r s : Permanent B) → j < k → (h : Stands j r) (i : Stands k s) → h.run.first < i.run.first
    rises-at j k r s less h i =
        let rising = are.rising j k h.run less (slice_get_within runs k i.run i.at) in
        rw (get_or_from_slice_get runs j h.run h.run h.at, get_or_from_slice_get runs k i.run h.run i.at) at rising

    pair : (j k : ℕ) (r s : Permanent B) → j < k → slice_get records j ≡ Some r → slice_get records k ≡ Some s →
        (r.first < s.first) × (r.body ≡ s.body → IsApartFrom form window (λ n. Shown xs spans (Some r.body) n) r s)
    pair j k r s less at_r at_s =
        let h = stands j r at_r in
        let i = stands k s at_s in
        let rises = rises-at j k r s less h i in
        let first_r = first-of h.run r h.of in
        let first_s = first-of i.run s i.of in (
          omega arith,
          pair-apart h.run i.run r s h.listed i.listed h.of i.of rises,
        )

    -- the records rise by first day
    pub records-rising : AllPairs (λ r s. r.first < s.first) records
    records-rising i j d less below =
        (pair i j _ _ less (slice_get-get_or records i d (omega arith)) (slice_get-get_or records j d below)).0

    -- and they have the form, and say what the spans show
    pub in-order : MeetsInOrder form window (λ b n. Shown xs spans (Some b) n) records
    in-order = record {
      one_body = λ n b c s t. same_Some b c (one-body n b (Some c) s t);
      aligned = λ r listed.
          let (k, h) = stands-in r listed in
          made-aligned window (Shows spans h.run.source) r (have.inside h.run.source) form h.made;
      apart = λ i j d less below. (pair i j _ _ less (slice_get-get_or records i d (omega arith)) (slice_get-get_or records j d below)).1;
      complete = λ n b within s.
          let shows : Shows spans s.it.source n = record { it = s.it; listed = s.listed; is = refl; on = s.leads } in
          let w = are.complete s.it n s.listed (have.has_body s.it s.listed b s.body_is) shows in
          let (k, at) = at-contains runs w.run w.listed in
          let (r, there, of) = zip-at (IsBodysRun xs) runs records zip k w.run at in
          record {
            it = r;
            listed = contains-at records k r there;
            applies = subst (λ (v : Permanent B). IsAmongDates v.first v.last v.days n) (sym of.dates) w.on;
            body = same_Some r.body b (sym of.body ∙ ap (λ v. body_at xs (Some v)) w.is ∙ s.body_is);
          };
      sound = λ n r listed on.
          let (k, h) = stands-in r listed in
          shown-of h.run r h.of n ((exact-of h.run r h.listed h.of).only n on);
    }
