-- Key by key (`FoundKeys`): the first run of positions is all of a key, whose clash dates are found.
use Rattle.cif_feed.proofs.Names.{All, All-drop, All-take, AreClashDays, List, all-within, arith, eqb-true, get, keyed, length}
use Rattle.cif_feed.proofs.Names.{nil_from_length, published_by, subst, sym, ℕ, ◌+◌, ◌<◌}
use Rattle.cif_calendar.proofs.FirstClash.{same_key-cmp}
use Rattle.cif_feed.proofs.CountedClashes.{counted-none}
use Rattle.cif_feed.proofs.FoundKeys.{AreFoundUpTo, found-all, found-more, found-nothing, get-none, key-reported}
use Rattle.cif_feed.proofs.dropped.find_clash_dates.Goals as goal

pub loop-rest-init : goal.loop-rest-init
loop-rest-init g c =
    let es = keyed g.E.Entry.key g.E.Entry.terms c.args.entries.now in
    let are = AreClashDays c.args.holidays.now (published_by g.E.Entry.key g.E.PublishedEntry.published c.args.entries.now)
    c.args.window.now.first (c.args.window.now.last + 1) in record {
      within = subst (λ (rest : List ℕ). All (λ i. i < length c.args.entries.now) rest) (sym c.as_slice-rest.ensures.value)
          (all-within g.E.Entry.key g.E.Entry.terms c.args.entries.now c.in_ok-positions.positions.items c.in_ok-positions.ensures.within);
      found = subst (λ (rest : List ℕ). AreFoundUpTo g.E.Key.Ord.cmp es are g.E.NamedEntry.clash_of
          g.E.RankedEntry.stands_for c.args.reported.now.items c.args.reported.now.items
          (get g.E.Rank.Ord.cmp c.new-dates.result) rest) (sym c.as_slice-rest.ensures.value)
          (found-nothing g.E.Key.Ord.cmp es are g.E.NamedEntry.clash_of g.E.RankedEntry.stands_for
          c.args.reported.now.items
          (λ k none. counted-none c.args.holidays.now g.E.Entry.key g.E.Entry.terms g.E.PublishedEntry.published
          g.met.E.PublishedEntry.own_terms c.args.entries.now k none c.args.window.now.first (c.args.window.now.last + 1))
          c.in_ok-positions.positions.items c.in_ok-positions.ensures.whole c.in_ok-positions.ensures.rising
          (get g.E.Rank.Ord.cmp c.new-dates.result)
          (get-none g.E.Rank.Ord.cmp c.new-dates.result c.new-dates.ensures.empty));
    }

pub loop-rest-preserved : goal.loop-rest-preserved
loop-rest-preserved g c =
    let es = keyed g.E.Entry.key g.E.Entry.terms c.args.entries.now in
    let are = AreClashDays c.args.holidays.now (published_by g.E.Entry.key g.E.PublishedEntry.published c.args.entries.now)
    c.args.window.now.first (c.args.window.now.last + 1) in
    let same = same_key-cmp g.E.Key.PartialEq.eq g.E.Key.Ord.cmp g.met.E.Key.Ord.matches_eq g.met.E.Entry.same_key in
    let some : 0 < length c.split_at.result.0.now = omega (arith, c.split_at.ensures.front_len, c.count_of_first_key.ensures.some) in
    let within : All (λ i. i < length c.args.entries.now) c.split_at.result.0.now =
    subst (λ (front : List ℕ). All (λ i. i < length c.args.entries.now) front) (sym c.split_at.ensures.front)
    (All-take (λ i. i < length c.args.entries.now) _ _ c.loop-rest.invariant.within) in
    let of_key = key-reported c.args.holidays.now g.E.Entry.key g.E.Entry.terms g.E.PublishedEntry.published
    g.met.E.PublishedEntry.own_terms c.args.entries.now c.split_at.result.0.now g.E.Key.Ord.cmp g.E.NamedEntry.clash_of
    g.E.RankedEntry.stands_for _ _ _ _ _ _ c.index-entries-members.result _ some (within 0 0 some) c.index-entries-members.is
    c.in_ok-found.ensures c.in_ok-list_key.ensures in
    record {
      within = subst (λ (rest : List ℕ). All (λ i. i < length c.args.entries.now) rest) (sym c.split_at.ensures.back)
          (All-drop (λ i. i < length c.args.entries.now) c.count_of_first_key.result c.loop-rest.rest.now c.loop-rest.invariant.within);
      found = rw (c.split_at.ensures.back)
          (found-more g.E.Key.Ord.cmp es are g.E.NamedEntry.clash_of g.E.RankedEntry.stands_for c.args.reported.now.items
          g.met.E.Key.Ord.total same c.loop-rest.reported.items _ _ _ c.loop-rest.rest.now c.loop-rest.invariant.found
          c.count_of_first_key.result c.count_of_first_key.ensures (rw c.split_at.ensures.front at of_key));
    }

pub returns : goal.returns
returns g c =
    let es = keyed g.E.Entry.key g.E.Entry.terms c.args.entries.now in
    let are = AreClashDays c.args.holidays.now (published_by g.E.Entry.key g.E.PublishedEntry.published c.args.entries.now)
    c.args.window.now.first (c.args.window.now.last + 1) in
    found-all g.E.Key.Ord.cmp es are g.E.NamedEntry.clash_of g.E.RankedEntry.stands_for c.args.reported.now.items
    c.loop-rest.reported.items (get g.E.Rank.Ord.cmp c.loop-rest.dates)
    (subst (λ (rest : List ℕ). AreFoundUpTo g.E.Key.Ord.cmp es are g.E.NamedEntry.clash_of
    g.E.RankedEntry.stands_for c.args.reported.now.items c.loop-rest.reported.items (get g.E.Rank.Ord.cmp c.loop-rest.dates) rest)
    (nil_from_length c.loop-rest.rest.now (eqb-true _ _ (sym c.loop-rest-test.ensures))) c.loop-rest.invariant.found)

pub count_of_first_key-requires-clause-within : goal.count_of_first_key-requires-clause-within
count_of_first_key-requires-clause-within g c = c.loop-rest.invariant.within

pub count_of_first_key-requires-clause-rising : goal.count_of_first_key-requires-clause-rising
count_of_first_key-requires-clause-rising g c = c.loop-rest.invariant.found.searched.rising

pub split_at-requires : goal.split_at-requires
split_at-requires g c = c.count_of_first_key.ensures.count.upto

pub clash_dates-requires : goal.clash_dates-requires
clash_dates-requires g c = rw c.split_at.ensures.front (All-take (λ i. i < length c.args.entries.now) _ _ c.loop-rest.invariant.within)

pub loop-rest-smaller : goal.loop-rest-smaller
loop-rest-smaller g c =
    omega (arith, c.split_at.ensures.back_len, c.count_of_first_key.ensures.some, c.count_of_first_key.ensures.count.upto)
