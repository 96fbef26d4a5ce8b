-- One record more, of a key that is changed (`alone-put`) or not (`alone-other`).
use Rattle.cif_feed.proofs.ChangeSteps.{alone-other, alone-put, last-some, made-more, records-more, says-there}
use Rattle.cif_feed.proofs.Names.{Bool, SaysAlone, Some, [], ap, at_keys, cond, eq_by_cmp, eq_by_cmp_equiv, get, is_changed, is_some, map}
use Rattle.cif_feed.proofs.Names.{on_equiv, same_by, subst, sym, take, take_all, true, with_keys, ◌++◌, ◌∙◌, ◌∷◌, ◌≡◌}
use Rattle.cif_feed.proofs.changes.keys_there.Goals as goal
use Rattle.cif_feed.proofs.changes.keys_there.Goals.{else-is_changed, then-is_changed+in_ok-insert}

pub loop-record-preserved : goal.loop-record-preserved
loop-record-preserved g c =
    let cmp = g.R.Rank.Ord.cmp in
    let rank = g.R.Keyed.rank in
    let same = same_by cmp rank in
    let laws = on_equiv rank (eq_by_cmp_equiv g.met.R.Rank.Ord.total) in
    let key = g.R.Keyed.key in
    let xs = c.args.records.now in
    let i = c.loop-record.record-index in
    let x = c.record-item.result in
    let found : c.contains_key-is_changed.result ≡ is_some (get cmp c.args.last.now (rank (key x))) =
    (c.contains_key-is_changed.ensures ∙ ap (λ n. is_some (get cmp c.args.last.now n)) c.rank-rank.ensures) in (
      λ changes last.
          let so_far = c.loop-record.invariant.0 changes last in
          let one = records-more key xs i x c.loop-record-test.true c.record-item.is in
          let has : c.contains_key-is_changed.result ≡ is_changed same changes (key x) =
          (found ∙ ap is_some (last.are (key x)) ∙ last-some same laws 0 changes (key x)) in
          elim c.if-is_changed.branch [
            | then-is_changed+in_ok-insert w ↦ rw (w.there-is, one)
                (alone-put same laws (with_keys key (take i xs)) changes (key x, x) (at_keys rank (get cmp c.loop-record.there)) so_far
                (at_keys rank (get cmp w.insert.new.self)) (sym has ∙ w.if-is_changed.true)
                (λ q. subst (λ n. get cmp w.insert.new.self (rank q)
                ≡ cond (eq_by_cmp cmp n (rank q)) (Some true) (get cmp c.loop-record.there (rank q)))
                c.rank-rank.ensures (w.in_ok-insert.ensures.updates.0 (rank q))))
            | else-is_changed w ↦ rw (w.there-is, one)
                (alone-other same laws (with_keys key (take i xs)) changes (key x, x) (at_keys rank (get cmp c.loop-record.there)) so_far
                (sym has ∙ w.if-is_changed.false))
          ],
      c.in_ok-push.ensures.items ∙ ap (λ l. l ++ c.contains_key-is_changed.result ∷ []) c.loop-record.invariant.1
          ∙ ap (λ (b : Bool). map (λ (r : g.row.R.Denot). is_some (get cmp c.args.last.now (rank (key r)))) (take i xs) ++ b ∷ []) found
          ∙ sym (made-more (λ (r : g.row.R.Denot). is_some (get cmp c.args.last.now (rank (key r)))) xs i x c.loop-record-test.true
          c.record-item.is),
    )

pub returns-clause-there : goal.returns-clause-there
returns-clause-there g c = λ changes last.
    let same = same_by g.R.Rank.Ord.cmp g.R.Keyed.rank in
    let there = at_keys g.R.Keyed.rank (get g.R.Rank.Ord.cmp c.loop-record.there) in
    says-there same (on_equiv g.R.Keyed.rank (eq_by_cmp_equiv g.met.R.Rank.Ord.total))
    (with_keys g.R.Keyed.key c.args.records.now) changes there
    (subst (λ l. SaysAlone same (with_keys g.R.Keyed.key l) changes there)
    (take_all c.loop-record.record-index c.args.records.now c.loop-record-test.false) (c.loop-record.invariant.0 changes last))

pub returns-clause-changed : goal.returns-clause-changed
returns-clause-changed g c =
    c.loop-record.invariant.1
    ∙ ap (map (λ (r : g.row.R.Denot). is_some (get g.R.Rank.Ord.cmp c.args.last.now (g.R.Keyed.rank (g.R.Keyed.key r)))))
    (take_all c.loop-record.record-index c.args.records.now c.loop-record-test.false)
