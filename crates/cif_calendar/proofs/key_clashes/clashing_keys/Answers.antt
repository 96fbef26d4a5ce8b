-- Key by key (`FoundClashes`): the first run of positions is all of a key, whose clash goes behind.
use Rattle.cif_calendar.proofs.Names.{All, All-drop, All-nil, All-take, List, [], eqb-true, keyed, length, nil_from_length, subst, sym, ℕ}
use Rattle.cif_calendar.{proofs.Names.◌<◌, proofs.FirstClash.same_key-cmp, proofs.KeyPositions.all-within}
use Rattle.cif_calendar.proofs.FoundClashes.{AreFound, found-all, found-key, found-nothing}
use Rattle.cif_calendar.proofs.key_clashes.clashing_keys.Goals as goal

pub loop-rest-init : goal.loop-rest-init
loop-rest-init g c =
    let es = keyed g.E.Entry.key g.E.Entry.terms c.args.entries.now in
    let window = c.args.window.now in record {
      within = subst (λ (rest : List ℕ). All (λ i. i < length c.args.entries.now) rest) (sym c.as_slice-rest.ensures.value)
          (all-within g.E.Entry.key g.E.Entry.terms c.args.entries.now c.in_ok-positions.positions.items c.in_ok-positions.ensures.within);
      found_within = rw (c.new-found.ensures.items) (All-nil _);
      found = rw (c.new-found.ensures.items)
          (subst (λ (rest : List ℕ). AreFound g.E.Key.Ord.cmp es window.first window.last [] rest) (sym c.as_slice-rest.ensures.value)
          (found-nothing g.E.Key.Ord.cmp es window.first window.last c.in_ok-positions.positions.items
          c.in_ok-positions.ensures.whole c.in_ok-positions.ensures.rising));
    }

pub add_clash_of_key-requires-clause-within : goal.add_clash_of_key-requires-clause-within
add_clash_of_key-requires-clause-within g c =
    subst (λ (front : List ℕ). All (λ i. i < length c.args.entries.now) front) (sym c.split_at.ensures.front)
    (All-take (λ i. i < length c.args.entries.now) _ _ c.loop-rest.invariant.within)

pub loop-rest-preserved : goal.loop-rest-preserved
loop-rest-preserved g c =
    let es = keyed g.E.Entry.key g.E.Entry.terms c.args.entries.now in
    let window = c.args.window.now in
    let same = same_key-cmp g.E.Key.PartialEq.eq g.E.Key.Ord.cmp g.met.E.Key.Ord.matches_eq g.met.E.Entry.same_key in
    record {
      within = subst (λ (rest : List ℕ). All (λ i. i < length c.args.entries.now) rest) (sym c.split_at.ensures.back)
          (All-drop (λ i. i < length c.args.entries.now) c.count_of_first_key.result c.loop-rest.rest.now c.loop-rest.invariant.within);
      found_within = c.in_ok-add_clash_of_key.ensures.within c.loop-rest.invariant.found_within;
      found = rw (c.split_at.ensures.back)
          (found-key g.E.Key.Ord.cmp es window.first window.last g.met.E.Key.Ord.total same
          c.loop-rest.found.items _ c.loop-rest.rest.now c.loop-rest.invariant.found c.count_of_first_key.result
          c.count_of_first_key.ensures (rw c.split_at.ensures.front at c.in_ok-add_clash_of_key.ensures.added));
    }

pub returns-clause-clashes : goal.returns-clause-clashes
returns-clause-clashes g c =
    let es = keyed g.E.Entry.key g.E.Entry.terms c.args.entries.now in
    let window = c.args.window.now in
    found-all g.E.Key.Ord.cmp es window.first window.last c.loop-rest.found.items
    (subst (λ (rest : List ℕ). AreFound g.E.Key.Ord.cmp es window.first window.last c.loop-rest.found.items rest)
    (nil_from_length c.loop-rest.rest.now (eqb-true _ _ (sym c.loop-rest-test.ensures))) c.loop-rest.invariant.found)
