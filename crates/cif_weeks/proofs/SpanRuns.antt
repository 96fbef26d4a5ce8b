-- The runs of few records: those of one source after another.
use Rattle.cif_weeks.proofs.Names.{All, All-cons, All-contains, AllPairs, AllPairs-cons, AllPairs-members, AreBodyRuns, AreFewestBefore}
use Rattle.cif_weeks.proofs.Names.{AreRunsOfBody, AreRunsOfSpans, Bool, Contains, Contains-append_cases, Contains-append_left}
use Rattle.cif_weeks.proofs.Names.{Contains-append_right, Contains-cases, Contains-first, Contains-get_or, Contains-none}
use Rattle.cif_weeks.proofs.Names.{Contains-permutation, Contains-push, Contains-push_cases, Contains-rest, EndsBefore, EndsWeeksBefore}
use Rattle.cif_weeks.proofs.Names.{Form, HasDayOf, HasSource, IsAgreed, IsByWeeks, IsExact, IsGrown, IsLatest, IsLatestExact, IsLongest}
use Rattle.cif_weeks.proofs.Names.{IsMade, IsNonDecreasingBy, IsPermutation, IsPermutation-reverse, IsPermutation-sym, IsWithin, List, One}
use Rattle.cif_weeks.proofs.Names.{Run, Shows, Span, Three, Two, Window, [], ap, arith, cases_lt, dates_of, false, get_or, inl, inr}
use Rattle.cif_weeks.proofs.Names.{monday_of, nat_tests, refl, reverse, subst, suc, sym, week_of, ℕ, ⊎_elim, ◌++◌, ◌+◌, ◌<◌, ◌==◌, ◌∙◌}
use Rattle.cif_weeks.proofs.Names.{◌∷◌, ◌≡◌, ◌≢◌, ◌≤◌, ◌⊎◌}
use Rattle.std.proofs.lemmas.Map.Keys.{IsDistinct-IsPermutation, IsDistinct-from_apart, apart_from_distinct}
use Rattle.cif_weeks.proofs.{Exact.exact-part, Grown.grown_applies, JoinedLists.AllPairs-append}
use Rattle.cif_weeks.proofs.Forms.{ends-over, grown-made, made-first, made-over, runs-weeks, weeks-ends}
use Rattle.cif_weeks.specs.Steps.BodyRuns.{HasBody}

-- whether two runs begin on one date
abbrev begin_together : Run → Run → Bool
begin_together r s = r.first == s.first

-- The runs are those of these sources, in some order. No two places have runs that begin on one date.
pub record AreRunsOf (form : Form) (window : Window) (spans : List Span) (sources : ℕ → Type 0) (runs : List Run) : Type 0 where
  pub each : (run : Run) → Contains runs run → sources run.source × IsMade form window (Shows spans run.source) (dates_of run)
  pub once : AllPairs (λ r s. begin_together r s ≡ false) runs
  pub apart : (r s : Run) → Contains runs r → Contains runs s → r.source ≡ s.source → r.first < s.first →
      EndsBefore form window (Shows spans r.source) r s
  pub complete : (i n : ℕ) → sources i → Shows spans i n → HasDayOf runs i n
  pub agreed : (i n : ℕ) → sources i → Shows spans i n → IsAgreed spans n

-- a list with the runs of another has their days
has_day : {xs ys : List Run} {i n : ℕ} → ((run : Run) → Contains xs run → Contains ys run) → HasDayOf xs i n → HasDayOf ys i n
has_day also h = record { run = h.run; listed = also h.run h.listed; is = h.is; on = h.on }

module _ (form : Form) (window : Window) (spans : List Span) where
  -- the runs in another order
  pub runs-permuted : {sources : ℕ → Type 0} {xs ys : List Run} → IsPermutation xs ys → AreRunsOf form window spans sources xs →
      AreRunsOf form window spans sources ys
  runs-permuted {xs = xs} {ys = ys} p h =
      let back : (r : Run) → Contains ys r → Contains xs r = λ r. Contains-permutation ys xs r (IsPermutation-sym xs ys p) in
      record {
        each = λ r listed. h.each r (back r listed);
        once = λ i j d. apart_from_distinct begin_together ys i j d (IsDistinct-IsPermutation begin_together
            (λ x y. grind (arith, nat_tests)) xs ys p (IsDistinct-from_apart begin_together xs h.once));
        apart = λ r s in_r in_s. h.apart r s (back r in_r) (back s in_s);
        complete = λ i n of shows. has_day (λ r. Contains-permutation xs ys r p) (h.complete i n of shows);
        agreed = h.agreed;
      }

  module _ (source : ℕ) where
    -- each run of a body is the latest before some week
    body_run : (limit : ℕ) (runs : List Run) → AreBodyRuns form window (Shows spans source) source limit runs → (r : Run)
        → Contains runs r → (week : ℕ) × (week ≤ limit) × IsLatest form window (Shows spans source) source week r
    body_run limit [] h r listed = absurd (Contains-none r listed)
    body_run limit (x ∷ xs) (latest, breaks, rest) r listed = ⊎_elim
        (λ same. (limit, omega arith, subst (λ v. IsLatest form window (Shows spans source) source limit v) same latest))
        (λ later.
        let (week, upto, h) = body_run (week_of x.first) xs rest r later in
        (week, omega (arith, latest.upto, latest.grown.in_order), h))
        (Contains-cases x xs r listed)

    -- The latest first, each is apart from those before it. Only the last of these can end in the week before it.
    body_apart : (limit : ℕ) (runs : List Run) → AreBodyRuns form window (Shows spans source) source limit runs →
        AllPairs (λ s r. EndsWeeksBefore form window (Shows spans source) r s) runs
    body_apart limit [] h = λ i j d less within. absurd (omega arith)
    body_apart limit (x ∷ []) h = λ i j d less within. absurd (omega arith)
    body_apart limit (x ∷ y ∷ ys) (latest, breaks, rest) =
        AllPairs-cons (λ s r. EndsWeeksBefore form window (Shows spans source) r s) x (y ∷ ys)
        (All-cons (λ r. EndsWeeksBefore form window (Shows spans source) r x) y ys (record { before = rest.0.upto; breaks = breaks })
        (λ k d below.
        let (week, upto, h) = body_run (week_of y.first) ys rest.2 (get_or ys k d) (Contains-get_or ys k d below) in
        let far : week_of (get_or ys k d).last + 1 < week_of x.first = omega (arith, h.upto, rest.0.upto, rest.0.grown.in_order) in
        record { before = omega arith; breaks = λ at. absurd (omega arith) }))
        (body_apart (week_of x.first) (y ∷ ys) rest)

    body_complete : ((n : ℕ) → Shows spans source n → IsWithin window n) → (limit : ℕ) (runs : List Run) →
        AreBodyRuns form window (Shows spans source) source limit runs → (n : ℕ) → week_of n < limit → Shows spans source n →
        HasDayOf runs source n
    body_complete inside limit [] h n below shows = absurd (h n below shows)
    body_complete inside limit (x ∷ xs) (latest, breaks, rest) n below shows = ⊎_elim
        (λ later. absurd (latest.none_after n later below shows))
        (λ upto. ⊎_elim
        (λ sooner. has_day (Contains-rest x xs) (body_complete inside (week_of x.first) xs rest n sooner shows))
        (λ from. record {
          run = x;
          listed = Contains-first x xs;
          is = latest.source_is;
          on = grown_applies window (Shows spans source) inside form (dates_of x) latest.grown n from upto shows;
        })
        (cases_lt (week_of n) (week_of x.first)))
        (cases_lt (week_of x.last) (week_of n))

    runs-of_weeks : IsByWeeks form → ((n : ℕ) → Shows spans source n → IsWithin window n) → (added : List Run) →
        AreRunsOfBody form window spans source added → AreRunsOf form window spans (λ i. source ≡ i) added
    runs-of_weeks by inside added h =
        let xs = reverse added in
        let are = runs-weeks window (Shows spans source) form by source h.limit xs h.body_runs in
        let run = body_run h.limit xs are in
        let pairs = body_apart h.limit xs are in
        runs-permuted (IsPermutation-sym added xs (IsPermutation-reverse added)) (record {
          each = λ r listed.
              let b = (run r listed).2 in (
                sym b.source_is,
                grown-made window (Shows spans r.source) (dates_of r) form by
                    (subst (λ v. IsGrown form window (Shows spans v) (dates_of r)) (sym b.source_is) b.grown),
              );
          once = λ i j d less below.
              let b = (run (get_or xs j d) (Contains-get_or xs j d below)).2 in
              grind (arith, nat_tests, (pairs i j d less below).before, b.grown.in_order);
          apart = λ r s in_r in_s same less. weeks-ends window (Shows spans r.source) form by r s (⊎_elim
              (λ one. absurd (omega (arith, ap (λ (v : Run). v.first) one)))
              (⊎_elim
              (λ a. absurd (omega (arith, a.before, (run s in_s).2.grown.in_order)))
              (λ a. subst (λ v. EndsWeeksBefore form window (Shows spans v) r s) (sym (run r in_r).2.source_is) a))
              (AllPairs-members (λ s r. EndsWeeksBefore form window (Shows spans source) r s) r s xs pairs in_r in_s));
          complete = λ i n is shows.
              let own : Shows spans source n = subst (λ v. Shows spans v n) (sym is) shows in
              subst (λ v. HasDayOf xs v n) is (body_complete inside h.limit xs are n (h.over n own) own);
          agreed = λ i n is shows. h.agreed n (subst (λ v. Shows spans v n) (sym is) shows);
        })

  -- the runs of some sources and of others
  pub runs-joined : {some other both : ℕ → Type 0} {xs ys : List Run} → ((i : ℕ) → some i → both i) → ((i : ℕ) → other i → both i) →
      ((i : ℕ) → both i → some i ⊎ other i) → ((i : ℕ) → some i → ¬ other i) → AreRunsOf form window spans some xs →
      AreRunsOf form window spans other ys → AreRunsOf form window spans both (xs ++ ys)
  runs-joined {some = some} {xs = xs} {ys = ys} one two either apart x y =
      let cases = Contains-append_cases xs ys in
      let differ : (r t : Run) → Contains xs r → Contains ys t → r.source ≢ t.source =
      λ r t in_r in_t same. apart t.source (subst (λ i. some i) same (x.each r in_r).0) (y.each t in_t).0 in
      record {
        each = λ r listed. ⊎_elim
            (λ h. let (has, grown) = x.each r h in (one r.source has, grown))
            (λ h. let (has, grown) = y.each r h in (two r.source has, grown))
            (cases r listed);
        once = AllPairs-append (λ r t. begin_together r t ≡ false) xs ys x.once y.once (λ r t in_r in_t.
            let (has, grown) = y.each t in_t in
            let no : r.first ≢ t.first = λ same.
            let a = subst (Shows spans r.source) same
            (made-first window (Shows spans r.source) (dates_of r) form (x.each r in_r).1) in
            let b = made-first window (Shows spans t.source) (dates_of t) form grown in
            differ r t in_r in_t
            (sym a.is ∙ (y.agreed t.source t.first has b).agree a.it b.it a.listed b.listed a.on b.on ∙ b.is) in
            grind (arith, nat_tests));
        apart = λ r t in_r in_t same less. ⊎_elim
            (λ a. ⊎_elim (λ b. x.apart r t a b same less) (λ b. absurd (differ r t a b same)) (cases t in_t))
            (λ a. ⊎_elim (λ b. absurd (differ t r b a (sym same))) (λ b. y.apart r t a b same less) (cases t in_t))
            (cases r in_r);
        complete = λ i n has shows. ⊎_elim
            (λ old. has_day (Contains-append_left xs ys) (x.complete i n old shows))
            (λ new. has_day (Contains-append_right xs ys) (y.complete i n new shows))
            (either i has);
        agreed = λ i n has shows. ⊎_elim (λ old. x.agreed i n old shows) (λ new. y.agreed i n new shows) (either i has);
      }

  -- one span more
  module _ (done : List Span) (s : Span) {runs : List Run} (x : AreRunsOf form window spans (HasSource done) runs) where
    has_old : (i : ℕ) → HasSource done i → HasSource (done ++ s ∷ []) i
    has_old i (t, listed, body, is) = (t, Contains-append_left done (s ∷ []) t listed, body, is)

    has_cases : (i : ℕ) → HasSource (done ++ s ∷ []) i → HasSource done i ⊎ (HasBody s × (s.source ≡ i))
    has_cases i (t, listed, body, is) = ⊎_elim
        (λ h. inl (t, h, body, is))
        (λ same. inr (subst (λ (v : Span). HasBody v × (v.source ≡ i)) (sym same) (body, is)))
        (Contains-push_cases done s t listed)

    pub runs-skipped : (HasBody s → HasSource done s.source) → AreRunsOf form window spans (HasSource (done ++ s ∷ [])) runs
    runs-skipped known =
        let before : (i : ℕ) → HasSource (done ++ s ∷ []) i → HasSource done i =
        λ i has. ⊎_elim (λ h. h) (λ h. subst (HasSource done) h.1 (known h.0)) (has_cases i has) in
        record {
          each = λ r listed. let (has, grown) = x.each r listed in (has_old r.source has, grown);
          once = x.once;
          apart = x.apart;
          complete = λ i n has. x.complete i n (before i has);
          agreed = λ i n has. x.agreed i n (before i has);
        }

    pub runs-added : {added : List Run} → HasBody s → All (λ t. HasBody t → t.source ≢ s.source) done →
        AreRunsOf form window spans (λ i. s.source ≡ i) added → AreRunsOf form window spans (HasSource (done ++ s ∷ [])) (runs ++ added)
    runs-added body new = runs-joined has_old
        (λ i is. (s, Contains-push done s, body, is))
        (λ i has. ⊎_elim inl (λ h. inr h.1) (has_cases i has))
        (λ i (v, listed, has_body, is) same.
        All-contains (λ v. HasBody v → v.source ≢ s.source) done v new listed has_body (is ∙ sym same))
        x

  -- the runs of all spans, after the sort
  pub runs-sorted : {runs : List Run} → IsNonDecreasingBy (λ (r : Run). r.first) runs → AreRunsOf form window spans (HasSource spans) runs →
      AreRunsOfSpans form window spans runs
  runs-sorted up h = record {
    rising = λ i j d less within.
        let upto = up i j d (omega arith) within in
        let two = h.once i j d less within in
        grind (arith, nat_tests);
    each = λ run listed.
        let ((s, in_spans, body, is), grown) = h.each run listed in
        record { span = s; listed = in_spans; has_body = body; source = is; made = grown };
    apart = h.apart;
    complete = λ s n listed body. h.complete s.source n (s, listed, body, refl);
    agreed = λ s n listed body. h.agreed s.source n (s, listed, body, refl);
  }

module _ (window : Window) (spans : List Span) where
  -- form 3: each run is the latest before some day
  module _ (source : ℕ) where
    few_run : (limit : ℕ) (runs : List Run) → AreFewestBefore (Shows spans source) source limit runs → (r : Run) → Contains runs r →
        (day : ℕ) × (day ≤ limit) × IsLatestExact (Shows spans source) source day r
    few_run limit [] h r listed = absurd (Contains-none r listed)
    few_run limit (x ∷ xs) (latest, longest, rest) r listed = ⊎_elim
        (λ same. (limit, omega arith, subst (λ v. IsLatestExact (Shows spans source) source limit v) same latest))
        (λ later.
        let (day, upto, h) = few_run x.first xs rest r later in
        (day, omega (arith, latest.upto, latest.exact.in_order), h))
        (Contains-cases x xs r listed)

    -- the latest first, none of those before it can go on to it, since each could go on to the last of them
    few_apart : (limit : ℕ) (runs : List Run) → AreFewestBefore (Shows spans source) source limit runs →
        AllPairs (λ s r. IsLongest (Shows spans source) (dates_of r) (dates_of s)) runs
    few_apart limit [] h = λ i j d less within. absurd (omega arith)
    few_apart limit (x ∷ []) h = λ i j d less within. absurd (omega arith)
    few_apart limit (x ∷ y ∷ ys) (latest, longest, rest) =
        let others = few_apart x.first (y ∷ ys) rest in
        AllPairs-cons (λ s r. IsLongest (Shows spans source) (dates_of r) (dates_of s)) x (y ∷ ys)
        (All-cons (λ r. IsLongest (Shows spans source) (dates_of r) (dates_of x)) y ys
        (record { before = rest.0.upto; longest = longest })
        (λ k d below.
        let r = get_or ys k d in
        let (day, upto, h) = few_run y.first ys rest.2 r (Contains-get_or ys k d below) in
        let pair = others 0 (suc k) d (omega arith) (omega arith) in
        let r_order = h.exact.in_order in
        let y_order = rest.0.exact.in_order in
        let before = h.upto in
        let next = rest.0.upto in
        record {
          before = omega arith;
          longest = λ days t.
              let (part, e) = exact-part r.first y.first x.first days t (omega arith) (omega arith) rest.0.exact.first_on in
              pair.longest part e;
        }))
        others

    few_complete : (limit : ℕ) (runs : List Run) → AreFewestBefore (Shows spans source) source limit runs → (n : ℕ) → n < limit →
        Shows spans source n → HasDayOf runs source n
    few_complete limit [] h n below shows = absurd (h n below shows)
    few_complete limit (x ∷ xs) (latest, longest, rest) n below shows = ⊎_elim
        (λ later. absurd (latest.none_after n later below shows))
        (λ upto. ⊎_elim
        (λ sooner. has_day (Contains-rest x xs) (few_complete x.first xs rest n sooner shows))
        (λ from. record {
          run = x;
          listed = Contains-first x xs;
          is = latest.source_is;
          on = latest.exact.all n from upto shows;
        })
        (cases_lt n x.first))
        (cases_lt x.last n)

    fewest-of_body : (added : List Run) → AreRunsOfBody Three window spans source added →
        AreRunsOf Three window spans (λ i. source ≡ i) added
    fewest-of_body added h =
        let xs = reverse added in
        let limit = monday_of h.limit in
        let run = few_run limit xs h.body_runs in
        let pairs = few_apart limit xs h.body_runs in
        runs-permuted Three window spans (IsPermutation-sym added xs (IsPermutation-reverse added)) (record {
          each = λ r listed.
              let b = (run r listed).2 in
              (sym b.source_is, subst (λ v. IsExact (Shows spans v) r.first r.last r.days) (sym b.source_is) b.exact);
          once = λ i j d less below.
              let b = (run (get_or xs j d) (Contains-get_or xs j d below)).2 in
              grind (arith, nat_tests, (pairs i j d less below).before, b.exact.in_order);
          apart = λ r s in_r in_s same less. ⊎_elim
              (λ one. absurd (omega (arith, ap (λ (v : Run). v.first) one)))
              (⊎_elim
              (λ a. absurd (omega (arith, a.before, (run s in_s).2.exact.in_order)))
              (λ a. subst (λ v. IsLongest (Shows spans v) (dates_of r) (dates_of s)) (sym (run r in_r).2.source_is) a))
              (AllPairs-members (λ s r. IsLongest (Shows spans source) (dates_of r) (dates_of s)) r s xs pairs in_r in_s);
          complete = λ i n is shows.
              let own : Shows spans source n = subst (λ v. Shows spans v n) (sym is) shows in
              let less = h.over n own in
              subst (λ v. HasDayOf xs v n) is (few_complete limit xs h.body_runs n (omega arith) own);
          agreed = λ i n is shows. h.agreed n (subst (λ v. Shows spans v n) (sym is) shows);
        })

-- the runs of one body, in each form
pub runs-of_body : (form : Form) (window : Window) (spans : List Span) (source : ℕ) →
    ((n : ℕ) → Shows spans source n → IsWithin window n) → (added : List Run) → AreRunsOfBody form window spans source added →
    AreRunsOf form window spans (λ i. source ≡ i) added
runs-of_body One window spans source inside added h = runs-of_weeks One window spans source tt inside added h
runs-of_body Two window spans source inside added h = runs-of_weeks Two window spans source tt inside added h
runs-of_body Three window spans source inside added h = fewest-of_body window spans source added h

-- the same runs, of other spans that show these sources on the same days
pub runs-over : (form : Form) (window : Window) (p q : List Span) {sources : ℕ → Type 0} {runs : List Run} →
    ((i n : ℕ) → sources i → Shows p i n → Shows q i n) → ((i n : ℕ) → sources i → Shows q i n → Shows p i n) →
    ((n : ℕ) → IsAgreed q n) → AreRunsOf form window p sources runs → AreRunsOf form window q sources runs
runs-over form window p q forth back agreed h = record {
  each = λ r listed.
      let (of, grown) = h.each r listed in
      (of, made-over window (λ n. forth r.source n of) (λ n. back r.source n of) form (dates_of r) grown);
  once = h.once;
  apart = λ r s in_r in_s same less.
      let of = (h.each r in_r).0 in
      ends-over window (λ n. forth r.source n of) (λ n. back r.source n of) form r s (h.apart r s in_r in_s same less);
  complete = λ i n of shows. h.complete i n of (back i n of shows);
  agreed = λ i n of shows. agreed n;
}
