-- While spans are left: one has ended (`left-fewer`), or weeks are done in which they have one mask (`mask-all`, `agree-all`). Then
-- the runs are made (`body-made`).
use Rattle.cif_weeks.proofs.Names.{Shows, arith, cases_lt, sym, week_of, window_days, ℕ, ⊎_elim, ◌+◌, ◌<◌, ◌∙◌, ◌≤◌}
use Rattle.cif_weeks.proofs.ActiveSpans.{SameOn, agree-all, disputed-all, left-fewer, left-later, left-same, mask-all, none-after}
use Rattle.cif_weeks.proofs.{ActiveSpans.none-before, BodyRuns.body-made, BodyRuns.runs-idle, body_runs.add_body_runs.Goals.Else-min-from}
use Rattle.cif_weeks.proofs.body_runs.add_body_runs.Goals as goal

pub loop-left-preserved-then-min-from : goal.loop-left-preserved-then-min-from
loop-left-preserved-then-min-from c =
    let i = c.loop-left.invariant in
    record {
      grown = i.grown;
      agreed = i.agreed;
      left = left-fewer i.left c.span-item.result c.in-len1-up.len_at_least c.span-item.is
          (λ n has from upto. omega (arith, has.from, has.upto, c.if-min-from.true, c.max-from.ensures));
    }

-- in these weeks the spans that are left are all that count
same : (c : Else-min-from) → (n : ℕ) → c.max-from.result ≤ week_of n → week_of n ≤ c.weeks_of-first.result.1 →
    SameOn c.loop-left.left.now c.args.spans.now n
same c = left-same (left-later c.loop-left.invariant.left c.max-from.result (omega (arith, c.max-from.ensures)))

pub returns-in_default-weeks_shown : goal.returns-in_default-weeks_shown
returns-in_default-weeks_shown c =
    let j = (goal.at.returns-in_default-weeks_shown c).Else-min-from in
    let (n, at, disputed) = c.in_default-weeks_shown.ensures.disputed in
    (n, disputed-all (same j n (omega arith) (omega (arith, c.if-min-from.false))) disputed)

pub add_weeks-requires-clause-shown : goal.add_weeks-requires-clause-shown
add_weeks-requires-clause-shown c = (
  c.args.spans.now,
  record {
    inside = c.requires.inside;
    one_mask = mask-all (same (goal.at.add_weeks-requires-clause-shown c).Else-min-from) c.in-Some.ensures.weeks;
  },
)

pub loop-left-preserved : goal.loop-left-preserved
loop-left-preserved c =
    let j = (goal.at.loop-left-preserved c).Else-min-from in
    let a = c.args in
    let i = c.loop-left.invariant in
    let shown = c.in-Some.ensures in
    let later = c.max-from.ensures in
    let none = λ (n : ℕ) (from : c.loop-left.week ≤ week_of n) (less : week_of n < c.max-from.result)
    (shows : Shows a.spans.now a.source n). none-before i.left c.span-item.result c.in-len1-up.len_at_least c.span-item.is n from
    (c.weeks_of-first.ensures.weeks n shows).1 (omega arith) shows in
    record {
      grown = c.in_ok-add_weeks.ensures a.spans.now a.runs.now.items
          (record { inside = c.requires.inside; one_mask = mask-all (same j) shown.weeks }) (sym (c.len-start.ensures ∙ a.runs.now.ok.0)) (
            i.grown.0,
            i.grown.1,
            runs-idle a.joining.now.form (window_days a.joining.now.window) (Shows a.spans.now a.source)
                a.source
                c.loop-left.week c.max-from.result i.grown.0 (omega arith) (λ n from less. none n from less) i.grown.2,
          );
      agreed = λ n less shows. ⊎_elim
          (λ before. i.agreed n before shows)
          (λ from. ⊎_elim
          (λ idle. absurd (none n from idle shows))
          (λ begun. agree-all (same j) shown.weeks shown.agreed n begun (omega arith) shows)
          (cases_lt (week_of n) c.max-from.result))
          (cases_lt (week_of n) c.loop-left.week);
      left = left-later i.left (c.in-Some.weeks.last + 1) (omega (arith, shown.weeks.from));
    }

pub returns : goal.returns
returns c =
    let a = c.args in
    let i = c.loop-left.invariant in
    let over = λ (n : ℕ) (shows : Shows a.spans.now a.source n). none-after i.left c.in_default.len_below n
    (c.weeks_of-first.ensures.weeks n shows).1 shows in
    body-made a.joining.now.form (window_days a.joining.now.window) a.spans.now a.source
    c.loop-left.week over
    (λ n shows. i.agreed n (over n shows) shows) a.runs.now.items c.loop-left.runs.items i.grown
