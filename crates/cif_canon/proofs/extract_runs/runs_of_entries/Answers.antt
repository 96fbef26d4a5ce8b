-- Key by key (`MadeRecords`): the first run of positions is all of a key, whose records go behind, or whose clash is first.
use Rattle.cif_canon.proofs.Names.{All, All-drop, All-take, AreLawful-of_key, List, Run, [], all-within, ap, arith, eqb-true}
use Rattle.cif_canon.proofs.Names.{err_from_is_err_and, keyed, length, length-drop, length-take-le, nil_from_length, same_key-cmp, subst}
use Rattle.cif_canon.proofs.Names.{sym, window_days, ℕ, ◌-◌, ◌<◌, ◌∙◌, ◌≡◌}
use Rattle.cif_canon.proofs.MadeRecords.{IsMade, made-all, made-fault, made-key, made-nothing}
use Rattle.cif_canon.proofs.extract_runs.runs_of_entries.Goals as goal

pub loop-rest-init : goal.loop-rest-init
loop-rest-init g c =
    let es = keyed g.E.Entry.key g.E.Entry.terms c.args.entries.now in
    let window = window_days c.args.window.now in record {
      within = subst (λ (rest : List ℕ). All (λ i. i < length c.args.entries.now) rest) (sym c.as_slice-rest.ensures.value)
          (all-within g.E.Entry.key g.E.Entry.terms c.args.entries.now c.in_ok-positions.positions.items c.in_ok-positions.ensures.within);
      made = subst (λ (runs : List Run). IsMade g.E.Key.Ord.cmp c.args.form window es runs c.as_slice-rest.result.now)
          (sym c.new-all.ensures.items)
          (subst (λ (rest : List ℕ). IsMade g.E.Key.Ord.cmp c.args.form window es [] rest) (sym c.as_slice-rest.ensures.value)
          (made-nothing g.E.Key.Ord.cmp c.args.form window es c.in_ok-positions.positions.items
          c.in_ok-positions.ensures.whole c.in_ok-positions.ensures.rising));
    }

pub add_runs_of_key-requires-clause-within : goal.add_runs_of_key-requires-clause-within
add_runs_of_key-requires-clause-within g c =
    subst (λ (front : List ℕ). All (λ i. i < length c.args.entries.now) front) (sym c.split_at.ensures.front)
    (All-take (λ i. i < length c.args.entries.now) _ _ c.loop-rest.invariant.within)

pub add_runs_of_key-requires-clause-some : goal.add_runs_of_key-requires-clause-some
add_runs_of_key-requires-clause-some g c =
    let first = c.count_of_first_key.ensures in
    let front : length c.split_at.result.0.now ≡ c.count_of_first_key.result =
    ap length c.split_at.ensures.front ∙ length-take-le c.count_of_first_key.result c.loop-rest.rest.now first.count.upto in
    omega (arith, front, first.some)

pub loop-rest-smaller : goal.loop-rest-smaller
loop-rest-smaller g c =
    let first = c.count_of_first_key.ensures in
    let later : length c.split_at.result.1.now ≡ length c.loop-rest.rest.now - c.count_of_first_key.result =
    ap length c.split_at.ensures.back ∙ length-drop c.count_of_first_key.result c.loop-rest.rest.now in
    omega (arith, later, first.some, first.count.upto)

pub loop-rest-preserved : goal.loop-rest-preserved
loop-rest-preserved g c =
    let es = keyed g.E.Entry.key g.E.Entry.terms c.args.entries.now in
    let window = window_days c.args.window.now in
    let same = same_key-cmp g.E.Key.PartialEq.eq g.E.Key.Ord.cmp g.met.E.Key.Ord.matches_eq g.met.E.Entry.same_key in
    record {
      within = subst (λ (rest : List ℕ). All (λ i. i < length c.args.entries.now) rest) (sym c.split_at.ensures.back)
          (All-drop (λ i. i < length c.args.entries.now) c.count_of_first_key.result c.loop-rest.rest.now c.loop-rest.invariant.within);
      made = rw (c.in_ok-extend_from_slice.ensures.items, c.as_slice.ensures.value, c.split_at.ensures.back)
          (made-key g.E.Key.Ord.cmp c.args.form window es g.met.E.Key.Ord.total same c.loop-rest.all.items c.loop-rest.rest.now
          c.loop-rest.invariant.made c.count_of_first_key.result c.count_of_first_key.ensures c.add_runs_of_key.new.made.items
          (rw c.split_at.ensures.front at c.in_ok-add_runs_of_key.ensures.runs));
    }

pub returns-in_err-add_runs_of_key-clause-fault : goal.returns-in_err-add_runs_of_key-clause-fault
returns-in_err-add_runs_of_key-clause-fault g c =
    let es = keyed g.E.Entry.key g.E.Entry.terms c.args.entries.now in
    let window = window_days c.args.window.now in
    let same = same_key-cmp g.E.Key.PartialEq.eq g.E.Key.Ord.cmp g.met.E.Key.Ord.matches_eq g.met.E.Entry.same_key in
    let p = err_from_is_err_and c.from_residual-in_err-add_runs_of_key.result c.from_residual-in_err-add_runs_of_key.ensures.1 in
    rw (p.1, p.2) (made-fault g.E.Key.Ord.cmp c.args.form window es g.met.E.Key.Ord.total same c.loop-rest.all.items c.loop-rest.rest.now
    c.loop-rest.invariant.made c.count_of_first_key.result c.count_of_first_key.ensures g.E.NamedEntry.clash_of
    c.in_err-add_runs_of_key.field-0.0
    (rw c.split_at.ensures.front at c.in_err-add_runs_of_key.ensures.fault))

pub returns-clause-records : goal.returns-clause-records
returns-clause-records g c =
    let es = keyed g.E.Entry.key g.E.Entry.terms c.args.entries.now in
    let window = window_days c.args.window.now in
    made-all g.E.Key.Ord.cmp c.args.form window es
    (AreLawful-of_key g.E.Entry.key g.E.Entry.terms g.met.E.Entry.cancelled c.args.entries.now) c.loop-rest.all.items
    (subst (λ (rest : List ℕ). IsMade g.E.Key.Ord.cmp c.args.form window es c.loop-rest.all.items rest)
    (nil_from_length c.loop-rest.rest.now (eqb-true _ _ (sym c.loop-rest-test.ensures))) c.loop-rest.invariant.made)

pub look_ahead-requires : goal.look_ahead-requires
look_ahead-requires g c = record { within = All-take (λ i. i < length c.args.entries.now) _ _ c.loop-rest.invariant.within }

pub count_of_first_key-requires-clause-within : goal.count_of_first_key-requires-clause-within
count_of_first_key-requires-clause-within g c = c.loop-rest.invariant.within

pub count_of_first_key-requires-clause-rising : goal.count_of_first_key-requires-clause-rising
count_of_first_key-requires-clause-rising g c = c.loop-rest.invariant.made.rising

pub split_at-requires : goal.split_at-requires
split_at-requires g c = c.count_of_first_key.ensures.count.upto
