-- One change more is the last of its key (`last-more`).
use Rattle.cif_feed.proofs.Names.{AreLast, Some, at_keys, changes_of, cond, eq_by_cmp, eq_by_cmp_equiv, get, on_equiv, same_by, subst, sym}
use Rattle.cif_feed.{proofs.Names.take, proofs.Names.take_all, proofs.Names.◌≡◌, specs.Changes.parts_of}
use Rattle.cif_feed.proofs.ChangeSteps.{changes-long, changes-more, last-more}
use Rattle.cif_feed.proofs.changes.last_changes.Goals as goal

pub loop-at-preserved : goal.loop-at-preserved
loop-at-preserved g c =
    let cmp = g.R.Rank.Ord.cmp in
    let rank = g.R.Keyed.rank in
    let same = same_by cmp rank in
    let key = g.R.Keyed.key in
    let xs = c.args.changes.now in
    let at = c.loop-at.at in
    let x = c.index-changes-at.result in
    subst (λ l. AreLast same l (at_keys rank (get cmp c.insert.new.self)))
    (sym (changes-more key xs at x c.loop-at-test.true c.index-changes-at.is))
    (last-more same (on_equiv rank (eq_by_cmp_equiv g.met.R.Rank.Ord.total)) (changes_of key (take at xs)) (parts_of key x) at
    (at_keys rank (get cmp c.loop-at.last)) (at_keys rank (get cmp c.insert.new.self)) c.loop-at.invariant
    (changes-long key xs at x c.loop-at-test.true c.index-changes-at.is)
    (λ q. subst (λ n. get cmp c.insert.new.self (rank q) ≡ cond (eq_by_cmp cmp n (rank q)) (Some at) (get cmp c.loop-at.last (rank q)))
    c.rank_of.ensures (c.in_ok-insert.ensures.updates.0 (rank q))))

pub returns : goal.returns
returns g c =
    subst (λ l. AreLast (same_by g.R.Rank.Ord.cmp g.R.Keyed.rank) (changes_of g.R.Keyed.key l)
    (at_keys g.R.Keyed.rank (get g.R.Rank.Ord.cmp c.loop-at.last)))
    (take_all c.loop-at.at c.args.changes.now c.loop-at-test.false) c.loop-at.invariant
