-- The sorted pairs are those of all entries, in the order of what stands for their keys.
use Rattle.cif_calendar.proofs.Names.{AreAllByKey, AreRanked, IfOk-weaker, IsSortedBy, keyed, length, length-map, map, ranks_by, rules}
use Rattle.cif_calendar.proofs.Names.{subst, sym, ℕ, ◌∙◌, ◌≡◌}
use Rattle.std.proofs.{lemmas.Fn.always_returns_same, lemmas.Iterator.Consumers.YieldsList-at}
use Rattle.std.proofs.lemmas.Iterator.{YieldsList-from_map, YieldsList-from_slice, items_from_collect}
use Rattle.std.specs.declared.alloc.AllocError.{AllocError}
use Rattle.cif_calendar.proofs.SortedPositions.{by-ranks, is_before}
use Rattle.cif_calendar.proofs.by_key.positions_by_key.Goals as goal

pub returns : goal.returns
returns g c =
    let es = keyed g.E.Entry.key g.E.Entry.terms c.args.entries.now in
    let cmp = g.E.Rank.Ord.cmp in
    let stands = g.E.RankedEntry.stands_for in
    let pairs = c.sort_unstable_by.new.self.items in
    let long : length c.args.entries.now ≡ length es =
    sym (length-map c.args.entries.now (λ x. (g.E.Entry.key x, g.E.Entry.terms x))) in
    let ranked : AreRanked stands es (length es) c.in_ok-ranked.ranked.items =
    subst (λ n. AreRanked stands es n c.in_ok-ranked.ranked.items) long c.in_ok-ranked.ensures in
    let up : IsSortedBy (is_before cmp) pairs =
    c.sort_unstable_by.ensures.sorted (is_before cmp) (ranks_by g.met.E.Rank.Ord.total (λ (p : g.row.E-Rank.Denot × ℕ). p.0))
    (always_returns_same _ _ _ (λ a r f k. search rules)) in
    IfOk-weaker c.collect.result (λ w. w.items ≡ map (λ (p : g.row.E-Rank.Denot × ℕ). p.1) pairs)
    (λ positions. AreAllByKey g.E.Key.Ord.cmp es positions.items)
    (λ positions is. subst (AreAllByKey g.E.Key.Ord.cmp es) (sym is)
    (by-ranks stands es cmp g.E.Key.Ord.cmp g.met.E.Rank.Ord.total g.met.E.Key.Ord.total g.met.E.RankedEntry.same_order
    c.in_ok-ranked.ranked.items pairs ranked c.sort_unstable_by.ensures.permutation up))
    (items_from_collect {E = AllocError} c.collect.result c.collect.ensures.ran
    (YieldsList-from_map _ (λ (p : g.row.E-Rank.Denot × ℕ). p.1)
    (YieldsList-at c.map.ensures.source (YieldsList-from_slice pairs (c.iter.ensures.rest ∙ c.deref.ensures.value))) c.map.ensures.closure
    (λ x r q k. search rules)))
