-- A run goes on into the days after it as long as can be, and of those that are left another is made.
use Rattle.cif_weeks.proofs.Names.{AreFewestBefore, Bool, HasGoneOn, IsAmongDates, IsExact, IsLatestExact, IsLeft, IsLongestBefore}
use Rattle.cif_weeks.proofs.Names.{IsPart, IsReach, IsRunDay, List, None, Option, Run, RunsOn, Some, [], arith, cases_lt, inl, inr, length}
use Rattle.std.specs.Prelude.{IfNone, IfSome}
use Rattle.cif_weeks.proofs.Names.{refl, subst, sym, weekday_of, ℕ, ⊎_elim, ◌+◌, ◌-◌, ◌<◌, ◌↔◌, ◌∙◌, ◌∷◌, ◌≡◌, ◌≤◌, ◌⊎◌}
use Rattle.cif_weeks.proofs.Exact.{runs-cases}

module _ (on : ℕ → Type 0) where
  -- a part of a run that is exact is exact
  pub part-exact : (run it : Run) (from to : ℕ) → IsExact on run.first run.last run.days → IsPart run from to it →
      IsExact on it.first it.last it.days
  part-exact run it from to e p =
      let first = (p.days it.first).0 p.first_on in
      let last = (p.days it.last).0 p.last_on in
      record {
        seven = p.seven;
        in_order = p.first_on.unfinished;
        first_on = e.only it.first first.0;
        last_on = e.only it.last last.0;
        only = λ n h. e.only n ((p.days n).0 h).0;
        all = λ n begun unfinished runs. (p.days n).1 (
          e.all n (omega (arith, first.0.begun, begun)) (omega (arith, last.0.unfinished, unfinished)) runs,
          omega (arith, first.1, begun),
          omega (arith, last.2, unfinished),
        );
        used = p.used;
      }

  module _ (run next : Run) (e : IsExact on run.first run.last run.days) (f : IsExact on next.first next.last next.days)
      (after : run.last < next.first) (gap : (n : ℕ) → run.last < n → n < next.first → ¬ on n) (reach : ℕ)
      (r : IsReach run next reach) where
    -- what goes on up to there
    module _ (head : Run) (h : IsPart next next.first reach head) (both : List Bool) (seven : length both ≡ 7)
        (union : (w : ℕ) → RunsOn both w ↔ (RunsOn run.days w ⊎ RunsOn head.days w)) where
      -- before `next` a weekday of it that has a day from the run's first on is one of the run's
      old-weekday : (n : ℕ) → run.first ≤ n → n < next.first → RunsOn head.days (weekday_of n) → RunsOn run.days (weekday_of n)
      old-weekday n from before has =
          let (m, day, on_m) = h.used (weekday_of n) has in
          let (there, begun, upto) = (h.days m).0 on_m in
          ⊎_elim
          (λ old. old)
          (λ new. absurd (let late = (r.goes_on m upto).new there.on_weekday begun
          (λ old. new (subst (RunsOn run.days) day old)) n (sym day) from in omega arith))
          (runs-cases run.days (weekday_of n))

      next-weekday : (w : ℕ) → RunsOn head.days w → RunsOn next.days w
      next-weekday w has =
          let (m, day, on_m) = h.used w has in subst (RunsOn next.days) day ((h.days m).0 on_m).0.on_weekday

      head-last : IsRunDay next head.last × (next.first ≤ head.last) × (head.last ≤ reach)
      head-last = (h.days head.last).0 h.last_on

      longer-only : (n : ℕ) → IsAmongDates run.first head.last both n → on n
      longer-only n among =
          let has = (union (weekday_of n)).0 among.on_weekday in
          let from = among.begun in
          let upto = among.unfinished in
          let (there, last_from, last_upto) = head-last in
          let last_within = there.unfinished in
          ⊎_elim
          (λ later.
          let runs = λ (old : RunsOn run.days (weekday_of n)).
          let (begun, new) = (r.goes_on n (omega arith)).old old later in
          f.only n (record { begun = begun; unfinished = omega arith; on_weekday = new }) in
          ⊎_elim runs (λ new. ⊎_elim
          (λ before. runs (old-weekday n from before new))
          (λ begun. f.only n (record { begun = begun; unfinished = omega arith; on_weekday = next-weekday (weekday_of n) new }))
          (cases_lt n next.first)) has)
          (λ own.
          let runs = λ (old : RunsOn run.days (weekday_of n)). e.only n
          (record { begun = from; unfinished = own; on_weekday = old }) in
          ⊎_elim runs (λ new. runs (old-weekday n from (omega arith) new)) has)
          (cases_lt run.last n)

      pub longer-exact : IsExact on run.first head.last both
      longer-exact =
          let (there, last_from, last_upto) = head-last in
          let ordered = e.in_order in
          record {
            seven = seven;
            in_order = omega arith;
            first_on = e.first_on;
            last_on = f.only head.last there;
            only = longer-only;
            all = λ n from upto runs. record {
              begun = from;
              unfinished = upto;
              on_weekday = (union (weekday_of n)).1 (⊎_elim
                  (λ later. ⊎_elim
                  (λ before. absurd (gap n later before runs))
                  (λ begun.
                  let known = f.all n begun (let within = there.unfinished in omega arith) runs in
                  inr ((h.days n).1 (known, begun, omega arith)).on_weekday)
                  (cases_lt n next.first))
                  (λ own. inl (e.all n from own runs).on_weekday)
                  (cases_lt run.last n));
            };
            used = λ w has. ⊎_elim
                (λ old.
                let (n, day, among) = e.used w old in
                let upto = among.unfinished in (
                  n,
                  day,
                  record { begun = among.begun; unfinished = omega arith; on_weekday = subst (RunsOn both) (sym day) has },
                ))
                (λ new.
                let (n, day, among) = h.used w new in
                let begun = ((h.days n).0 among).1 in (
                  n,
                  day,
                  record { begun = omega arith; unfinished = among.unfinished; on_weekday = subst (RunsOn both) (sym day) has },
                ))
                ((union w).0 has);
          }

    -- `it` is the run as far as it has gone on: none of the days up to `reach` are left
    pub record HasAll (it : Run) : Type 0 where
      pub exact : IsExact on it.first it.last it.days
      pub first_is : it.first ≡ run.first
      pub source_is : it.source ≡ run.source
      pub from : run.last ≤ it.last
      pub upto : (it.last ≤ reach) ⊎ (it.last ≡ run.last)
      pub none : (n : ℕ) → it.last < n → n ≤ reach → ¬ on n

    longer-all : (head it : Run) → IsPart next next.first reach head → it.first ≡ run.first → it.last ≡ head.last → it.source ≡ run.source →
        length it.days ≡ 7 → ((w : ℕ) → RunsOn it.days w ↔ (RunsOn run.days w ⊎ RunsOn head.days w)) → HasAll it
    longer-all head it h first last source seven union =
        let (there, from, upto) = head-last head h it.days seven union in
        record {
          exact = subst (λ v. IsExact on it.first v it.days) (sym last)
              (subst (λ v. IsExact on v head.last it.days) (sym first) (longer-exact head h it.days seven union));
          first_is = first;
          source_is = source;
          from = omega arith;
          upto = inl (omega arith);
          none = λ n later before runs.
              let known = f.all n (omega arith) (let within = r.upto in omega arith) runs in
              let mine = ((h.days n).1 (known, omega arith, before)).unfinished in
              omega arith;
        }

    same-all : ((n : ℕ) → IsRunDay next n → next.first ≤ n → reach < n) → HasAll run
    same-all none = record {
      exact = e;
      first_is = refl;
      source_is = refl;
      from = omega arith;
      upto = inr refl;
      none = λ n later before runs. ⊎_elim
          (λ sooner. gap n later sooner runs)
          (λ begun.
          let beyond = none n (f.all n begun (let within = r.upto in omega arith) runs) begun in
          omega arith)
          (cases_lt n next.first);
    }

    -- what is left begins where the run can't go on
    stops-longest : (left : Run) → reach < next.last → IsPart next (reach + 1) next.last left → (days : List Bool) →
        ¬ IsExact on run.first left.first days
    stops-longest left less p days t =
        let stop = reach + 1 in
        let (there, from, upto) = (p.days left.first).0 p.first_on in
        let begins = there.begun in
        let ordered = e.in_order in
        ⊎_elim
        (λ missing.
        let (m, day, among) = e.used (weekday_of stop) missing.has in
        let own = among.unfinished in
        let later = missing.after in
        let has = (t.all m among.begun (omega arith) (e.only m among)).on_weekday in
        let runs = t.only stop (record { begun = omega arith; unfinished = from; on_weekday = subst (RunsOn days) day has }) in
        ⊎_elim
        (λ before. gap stop later before runs)
        (λ begun. missing.no_day begun (f.all stop begun (omega arith) runs).on_weekday)
        (cases_lt stop next.first))
        (λ late.
        let known : IsRunDay next stop = record { begun = late.from; unfinished = omega arith; on_weekday = late.has } in
        let first = ((p.days stop).1 (known, omega arith, omega arith)).begun in
        let far = late.late in
        let near = late.first in
        let has = (t.all stop (omega arith) from (f.only stop known)).on_weekday in
        let m = stop - 7 in
        let day : weekday_of m ≡ weekday_of stop = omega arith in
        let runs = t.only m (record { begun = omega arith; unfinished = omega arith; on_weekday = subst (RunsOn days) (sym day) has }) in
        ⊎_elim
        (λ after_run. gap m after_run (omega arith) runs)
        (λ own. late.new (subst (RunsOn run.days) day (e.all m (omega arith) own runs).on_weekday))
        (cases_lt run.last m))
        (r.stops less)

    module _ (it : Run) (a : HasAll it) where
      ends : it.last ≤ next.last
      ends =
          let ordered = f.in_order in
          let within = r.upto in
          ⊎_elim (λ upto. omega arith) (λ same. omega arith) a.upto

      gone-on : (left : Option Run) → IsLeft on it.first it.last next left → HasGoneOn on run next it left
      gone-on left rest = record { exact = a.exact; first_is = a.first_is; source_is = a.source_is; upto = ends; rest = rest }

      -- a day after it is one of `next` after `reach`
      later-day : (n : ℕ) → it.last < n → n ≤ next.last → on n → IsRunDay next n × (reach < n)
      later-day n later within runs =
          let from = a.from in
          ⊎_elim
          (λ beyond. ⊎_elim
          (λ before. absurd (gap n (omega arith) before runs))
          (λ begun. (f.all n begun within runs, beyond))
          (cases_lt n next.first))
          (λ before. absurd (a.none n later before runs))
          (cases_lt reach n)

      pub left-all : ¬ (reach < next.last) → HasGoneOn on run next it None
      left-all none = gone-on None (λ n later within runs. let beyond = (later-day n later within runs).1 in none (omega arith))

      pub left-none : ((n : ℕ) → IsRunDay next n → reach + 1 ≤ n → next.last < n) → HasGoneOn on run next it None
      left-none none = gone-on None (λ n later within runs.
          let (known, beyond) = later-day n later within runs in
          let out = none n known (omega arith) in
          omega arith)

      pub left-some : (left : Run) → reach < next.last → IsPart next (reach + 1) next.last left → HasGoneOn on run next it (Some left)
      left-some left less p =
          let (there, from, upto) = (p.days left.first).0 p.first_on in
          let begins = there.begun in
          let (last_there, last_from, last_upto) = (p.days left.last).0 p.last_on in
          let ordered = p.first_on.unfinished in
          let before : it.last < left.first = ⊎_elim (λ upto. omega arith) (λ same. omega arith) a.upto in
          gone-on (Some left) (
            part-exact next left (reach + 1) next.last f p,
            p.source_is,
            before,
            last_upto,
            λ n later sooner runs.
                let (known, beyond) = later-day n later (omega arith) runs in
                let first = ((p.days n).1 (known, omega arith, omega arith)).begun in
                omega arith,
            λ n later within runs.
                let (known, beyond) = later-day n (omega arith) within runs in
                let mine = ((p.days n).1 (known, omega arith, within)).unfinished in
                omega arith,
            λ days t. stops-longest left less p days (subst (λ v. IsExact on v left.first days) a.first_is t),
          )

      -- what is left, if anything is
      pub left-part : (day : ℕ) (left : Option Run) → reach < next.last → day ≡ reach + 1 → IfSome left (IsPart next day next.last) →
          IfNone left ((n : ℕ) → IsRunDay next n → day ≤ n → next.last < n) → HasGoneOn on run next it left
      left-part day None less is some none = left-none (λ n known later. none n known (omega arith))
      left-part day (Some left) less is some none = left-some left less (subst (λ v. IsPart next v next.last left) is some)

    pub longer : (head it : Run) → IsPart next next.first reach head → it.first ≡ run.first → it.last ≡ head.last → it.source ≡ run.source →
        length it.days ≡ 7 → ((w : ℕ) → RunsOn it.days w ↔ (RunsOn run.days w ⊎ RunsOn head.days w)) → HasAll it
    longer = longer-all

    pub same : ((n : ℕ) → IsRunDay next n → next.first ≤ n → reach < n) → HasAll run
    same = same-all

-- ---- the runs so far, the latest first

module _ (on : ℕ → Type 0) (source : ℕ) where
  -- days more, without one of the set
  pub fewest-idle : (limit later : ℕ) (runs : List Run) → limit ≤ later → ((n : ℕ) → limit ≤ n → n < later → ¬ on n) →
      AreFewestBefore on source limit runs → AreFewestBefore on source later runs
  fewest-idle limit later [] upto none before = λ n less. ⊎_elim
      (λ sooner. before n sooner)
      (λ from. none n from less)
      (cases_lt n limit)
  fewest-idle limit later (run ∷ runs) upto none (latest, longest, before) = (
    record {
      exact = latest.exact;
      source_is = latest.source_is;
      upto = omega (arith, latest.upto);
      none_after = λ n after less. ⊎_elim
          (λ sooner. latest.none_after n after sooner)
          (λ from. none n from less)
          (cases_lt n limit);
    },
    longest,
    before,
  )

  -- what is before a run doesn't depend on how it ends
  longest-first : (run other : Run) (before : List Run) → run.first ≡ other.first → IsLongestBefore on run before →
      IsLongestBefore on other before
  longest-first run other [] first longest = tt
  longest-first run other (last ∷ before) first longest = λ days t. longest days (subst (λ v. IsExact on last.first v days) (sym first) t)

  module _ (next : Run) (f : IsExact on next.first next.last next.days) (of : next.source ≡ source) (limit : ℕ)
      (upto : limit ≤ next.first) (none : (n : ℕ) → limit ≤ n → n < next.first → ¬ on n) where
    -- the first run
    pub few-first : AreFewestBefore on source limit [] → AreFewestBefore on source (next.last + 1) (next ∷ [])
    few-first before = (
      record { exact = f; source_is = of; upto = omega arith; none_after = λ n after less. absurd (omega arith) },
      tt,
      λ n less. ⊎_elim (λ sooner. before n sooner) (λ from. none n from less) (cases_lt n limit),
    )

    -- after the latest run there is none before `next`
    pub few-gap : (run : Run) (before : List Run) → AreFewestBefore on source limit (run ∷ before) →
        (run.last < next.first) × ((n : ℕ) → run.last < n → n < next.first → ¬ on n)
    few-gap run before (latest, longest, rest) = (
      omega (arith, latest.upto),
      λ n after less. ⊎_elim
          (λ sooner. latest.none_after n after sooner)
          (λ from. none n from less)
          (cases_lt n limit),
    )

    module _ (run it : Run) (before : List Run) (a : AreFewestBefore on source limit (run ∷ before)) where
      longer-latest : (limit : ℕ) (left : Option Run) → HasGoneOn on run next it left → it.last < limit →
          ((n : ℕ) → it.last < n → n < limit → ¬ on n) → IsLatestExact on source limit it
      longer-latest limit left g upto none =
          record { exact = g.exact; source_is = g.source_is ∙ a.0.source_is; upto = upto; none_after = none }

      before-it : {left : Option Run} → HasGoneOn on run next it left →
          IsLongestBefore on it before × AreFewestBefore on source it.first before
      before-it g = (
        longest-first run it before (sym g.first_is) a.1,
        subst (λ v. AreFewestBefore on source v before) (sym g.first_is) a.2,
      )

      -- it has gone on to the end
      pub few-longer : HasGoneOn on run next it None → AreFewestBefore on source (next.last + 1) (it ∷ before)
      few-longer g = (
        longer-latest (next.last + 1) None g (omega (arith, g.upto)) (λ n later less. g.rest n later (omega arith)),
        (before-it g).0,
        (before-it g).1,
      )

      -- or another begins
      pub few-more : (left : Run) → HasGoneOn on run next it (Some left) → AreFewestBefore on source (next.last + 1) (left ∷ it ∷ before)
      few-more left g =
          let (exact, source_is, later, ends, between, after, longest) = g.rest in (
            record {
              exact = exact;
              source_is = source_is ∙ of;
              upto = omega (arith, ends);
              none_after = λ n beyond less. after n beyond (omega arith);
            },
            longest,
            (longer-latest left.first (Some left) g later between, (before-it g).0, (before-it g).1),
          )
