-- Without a code the members' own clash dates; with one more, those on its holidays are others (`with-code`).
use Rattle.cif_feed.proofs.Names.{AreClashDatesOn, Contains, CountsAmong, Global, HasCodeAt, HolidayCode, IfOk-weaker, List, Vec, X, arith}
use Rattle.cif_feed.proofs.Names.{drop, false≢true, get_or, length, published_schedule_terms, refl, schedule_terms, subst, sym, take, ℕ}
use Rattle.cif_feed.proofs.Names.{◌+◌, ◌-◌, ◌↔◌}
use Rattle.cif_feed.proofs.CountedClashes.{chosen-dates, first-and-rest, with-code, without-code}
use Rattle.cif_feed.proofs.counting.+clash_dates_by.Goals as goal

pub returns-in_default : goal.returns-in_default
returns-in_default t c =
    let window = c.args.window.now in
    IfOk-weaker _ _ _ (λ (days : Vec ℕ Global) are. chosen-dates c.args.holidays.now published_schedule_terms c.args.schedules.now
    c.args.codes.now (λ s code has of_code. let (k, below, is) = has in omega (arith, c.in_default.len_below, below))
    (λ s. schedule_terms s.schedule) (λ s. refl) c.args.members.now window.first (window.last + 1) days.items are) c.clash_dates.ensures

pub returns-then-not-have_code : goal.returns-then-not-have_code
returns-then-not-have_code t c =
    let codes = c.args.codes.now in
    let window = c.args.window.now in
    let days = c.in_ok-days.days.items in
    subst (λ (l : List HolidayCode). AreClashDatesOn (CountsAmong c.args.holidays.now published_schedule_terms c.args.schedules.now
    c.args.members.now l) window.first (window.last + 1) days) (sym (first-and-rest codes X c.in-len1-up.len_at_least))
    (without-code c.args.holidays.now published_schedule_terms c.args.schedules.now (get_or codes 0 X)
    (take (length codes - 1) (drop 1 codes)) c.args.members.now
    (λ i member has. false≢true (c.if-not-have_code.ensures i member has)) window.first (window.last + 1) days c.in_ok-days.ensures)

pub returns : goal.returns
returns t c =
    let h = c.args.holidays.now in
    let published = published_schedule_terms in
    let entries = c.args.schedules.now in
    let members = c.args.members.now in
    let codes = c.args.codes.now in
    let window = c.args.window.now in
    let code = get_or codes 0 X in
    let others = take (length codes - 1) (drop 1 codes) in
    let rest = c.as_slice.result.now in
    IfOk-weaker _ _ _ (λ (days : Vec ℕ Global) merged. subst
    (λ (l : List HolidayCode). AreClashDatesOn (CountsAmong h published entries members l)
    window.first (window.last + 1) days.items) (sym (first-and-rest codes X c.in-len1-up.len_at_least))
    (with-code h published entries code others members rest
    (subst (λ (l : List ℕ). (i : ℕ) → Contains l i ↔ (Contains members i × (¬ HasCodeAt published entries code i)))
    (sym c.as_slice.ensures.value) c.in_ok-rest.ensures.rest) window.first (window.last + 1) c.as_slice-2.result.now
    c.as_slice-3.result.now days.items
    (subst (λ (l : List ℕ). AreClashDatesOn (CountsAmong h published entries members others) window.first (window.last + 1) l)
    (sym c.as_slice-2.ensures.value) c.in_ok-days.ensures)
    (subst (λ (l : List ℕ). AreClashDatesOn (CountsAmong h published entries rest others) window.first (window.last + 1) l)
    (sym c.as_slice-3.ensures.value) c.in_ok-on_holidays.ensures) merged)) c.merged.ensures
