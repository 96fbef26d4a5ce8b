-- The fronts of both rests are the positions of one key (`ComparedKeys`), whose differences go behind the others (`found-key`).
use Rattle.cif_canon.proofs.Names.{All, All-drop, All-take, AreAllByKey, List, Run, Sided, [], all-within, calendar_sources, keyed, length}
use Rattle.cif_canon.proofs.Names.{nil_from_length, refl, same_key-cmp, subst, sym, window_days, window_from, ℕ, ◌<◌, ◌∙◌}
use Rattle.cif_canon.proofs.FoundRecords.{AreFound, found-all, found-enough, found-first, found-key, found-turns}
use Rattle.cif_canon.proofs.{KeyDifferences.key-of, differing.different_records.Given.Over}
use Rattle.cif_canon.proofs.{differing.different_records.Goals.In_ok-push_differences}
use Rattle.cif_canon.proofs.differing.different_records.Goals as goal

pub loop-first-init : goal.loop-first-init
loop-first-init g c =
    let cmp = g.E.Key.Ord.cmp in
    let key = g.E.Entry.key in
    let terms = g.E.Entry.terms in
    let xs = keyed key terms c.args.left.now in
    let ys = keyed key terms c.args.right.now in
    let same = same_key-cmp g.E.Key.PartialEq.eq cmp g.met.E.Key.Ord.matches_eq g.met.E.Entry.same_key in
    let l = c.as_slice-left_rest.result.now in
    let r = c.as_slice-right_rest.result.now in
    let left = subst (AreAllByKey cmp xs) (sym c.as_slice-left_rest.ensures.value) c.in_ok-left_positions.ensures in
    let right = subst (AreAllByKey cmp ys) (sym c.as_slice-right_rest.ensures.value) c.in_ok-right_positions.ensures in
    let window = window_days c.args.window.now in
    let none = found-first cmp g.met.E.Key.Ord.total same window xs ys l r left right in
    record {
      left_within = all-within key terms c.args.left.now _ left.within;
      right_within = all-within key terms c.args.right.now _ right.within;
      found = subst (λ (runs : List (Sided Run)). AreFound cmp window xs ys l r runs) (sym c.new-found.ensures.items) none;
    }

pub calendar-requires : goal.calendar-requires
calendar-requires g c = record {
  positions = subst (λ (is : List ℕ). All (λ i. i < length c.args.left.now) is) (sym c.in-Some.ensures.left_split.prefix_is)
      (All-take (λ i. i < length c.args.left.now) _ _ c.loop-first.invariant.left_within);
}

pub calendar-requires-in-Some : goal.calendar-requires-in-Some
calendar-requires-in-Some g c = record {
  positions = subst (λ (is : List ℕ). All (λ i. i < length c.args.right.now) is) (sym c.in-Some.ensures.right_split.prefix_is)
      (All-take (λ i. i < length c.args.right.now) _ _ c.loop-first.invariant.right_within);
}

pub push_differences-requires : goal.push_differences-requires
push_differences-requires g c = record {
  first = c.in_ok-other.ensures.calendar.first_is ∙ sym c.in_ok-one.ensures.calendar.first_is;
  last = c.in_ok-other.ensures.calendar.last_is ∙ sym c.in_ok-one.ensures.calendar.last_is;
  left = calendar_sources _ _ _ _ _ c.in_ok-one.ensures.calendar;
  right = calendar_sources _ _ _ _ _ c.in_ok-other.ensures.calendar;
}

pub loop-first-smaller : goal.loop-first-smaller
loop-first-smaller g c =
    let f = c.in-Some.ensures in
    let same = same_key-cmp g.E.Key.PartialEq.eq g.E.Key.Ord.cmp g.met.E.Key.Ord.matches_eq g.met.E.Entry.same_key in
    rw (f.left_split.later_is, f.right_split.later_is)
    (found-turns g.E.Key.Ord.cmp g.met.E.Key.Ord.total same (window_days c.args.window.now)
    (keyed g.E.Entry.key g.E.Entry.terms c.args.left.now) (keyed g.E.Entry.key g.E.Entry.terms c.args.right.now) c.loop-first.left_rest.now
    c.loop-first.right_rest.now c.loop-first.found.items c.loop-first.invariant.found (g.E.Entry.key c.in-Some.first.entry.now) f.first _ _
    f.left_split.is_count f.right_split.is_count).smaller

-- with the key's differences behind the others
more : (g : Over) (c : In_ok-push_differences g) →
    AreFound g.E.Key.Ord.cmp (window_days c.args.window.now)
    (keyed g.E.Entry.key g.E.Entry.terms c.args.left.now) (keyed g.E.Entry.key g.E.Entry.terms c.args.right.now)
    c.in-Some.first.left_later.now c.in-Some.first.right_later.now c.push_differences.new.found.items
more g c =
    let key = g.E.Entry.key in
    let terms = g.E.Entry.terms in
    let es = c.args.left.now in
    let fs = c.args.right.now in
    let first = c.args.window.now.first in
    let last = c.args.window.now.last in
    let k = key c.in-Some.first.entry.now in
    let same = same_key-cmp g.E.Key.PartialEq.eq g.E.Key.Ord.cmp g.met.E.Key.Ord.matches_eq g.met.E.Entry.same_key in
    let d = c.in_ok-push_differences.ensures in
    let f = c.in-Some.ensures in
    rw (f.left_split.later_is, f.right_split.later_is)
    (found-key g.E.Key.Ord.cmp g.met.E.Key.Ord.total same (window_from first last) (keyed key terms es) (keyed key terms fs)
    c.loop-first.left_rest.now c.loop-first.right_rest.now c.loop-first.found.items c.loop-first.invariant.found k f.first _ _
    f.left_split.is_count f.right_split.is_count d.appended.merged
    (λ p q. key-of key terms g.met.E.Entry.cancelled es fs k c.in-Some.first.left.now c.in-Some.first.right.now
    (rw f.left_split.prefix_is p) (rw f.right_split.prefix_is q) first last c.in_ok-one.one c.in_ok-other.other
    c.in_ok-one.ensures.calendar c.in_ok-other.ensures.calendar g.E.Body.PartialEq.eq g.met.E.Entry.same_body c.loop-first.found.items
    c.push_differences.new.found.items d) c.push_differences.new.found.items d.appended.appended)

pub returns-then-is_enough : goal.returns-then-is_enough
returns-then-is_enough g c =
    let enough = c.if-is_enough.ensures.0 refl in
    let at = goal.at.returns-then-is_enough g c in
    found-enough g.E.Key.Ord.cmp g.met.E.Key.Ord.total (window_days c.args.window.now) _ _ _ _
    c.push_differences.new.found.items (more g at.In_ok-push_differences) c.args.extent enough.0
    (rw c.as_slice.ensures.value at enough.1)

pub loop-first-preserved : goal.loop-first-preserved
loop-first-preserved g c =
    let left = c.args.left.now in
    let right = c.args.right.now in
    record {
      left_within = subst (λ (rest : List ℕ). All (λ i. i < length left) rest) (sym c.in-Some.ensures.left_split.later_is)
          (All-drop (λ i. i < length left) _ _ c.loop-first.invariant.left_within);
      right_within = subst (λ (rest : List ℕ). All (λ i. i < length right) rest) (sym c.in-Some.ensures.right_split.later_is)
          (All-drop (λ i. i < length right) _ _ c.loop-first.invariant.right_within);
      found = more g (goal.at.loop-first-preserved g c).In_ok-push_differences;
    }

pub returns : goal.returns
returns g c =
    let cmp = g.E.Key.Ord.cmp in
    let xs = keyed g.E.Entry.key g.E.Entry.terms c.args.left.now in
    let ys = keyed g.E.Entry.key g.E.Entry.terms c.args.right.now in
    let window = window_days c.args.window.now in
    let same = same_key-cmp g.E.Key.PartialEq.eq cmp g.met.E.Key.Ord.matches_eq g.met.E.Entry.same_key in
    let none = c.in_default.ensures in
    found-all cmp g.met.E.Key.Ord.total window xs ys same c.loop-first.found.items
    (subst (λ (l : List ℕ). AreFound cmp window xs ys l [] c.loop-first.found.items)
    (nil_from_length c.loop-first.left_rest.now none.0)
    (subst (λ (r : List ℕ). AreFound cmp window xs ys c.loop-first.left_rest.now r c.loop-first.found.items)
    (nil_from_length c.loop-first.right_rest.now none.1) c.loop-first.invariant.found)) c.args.extent
