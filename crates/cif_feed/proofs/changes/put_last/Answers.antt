-- The change that is taken next is put if it is the last of its key.
use Rattle.cif_feed.proofs.Names.{Option, [], ap, append-nil, arith, at_keys, changes_of, cond, drop, drop-drop, eq_by_cmp_equiv, get}
use Rattle.cif_feed.proofs.Names.{length, length-append, length-reverse, nil_from_length, on_equiv, option_to_list, put_last, reverse}
use Rattle.cif_feed.proofs.Names.{reverse-append, same_by, sym, with_keys, ◌++◌, ◌∙◌, ◌∷◌, ◌≡◌}
use Rattle.cif_feed.proofs.ChangeSteps.{last-of_all, put-more}
use Rattle.cif_feed.proofs.changes.put_last.Goals as goal

pub loop-change-preserved : goal.loop-change-preserved
loop-change-preserved g c =
    let (long, rest, so_far) = c.loop-change.invariant in
    let cmp = g.R.Rank.Ord.cmp in
    let rank = g.R.Keyed.rank in
    let same = same_by cmp rank in
    let key = g.R.Keyed.key in
    let all = reverse c.args.changes.items in
    let at = c.loop-change.at in
    let change = c.in-Some.change in
    let others = reverse c.pop.new.self.items in
    let turned : reverse c.loop-change.changes.items ≡ change ∷ others =
    ap reverse c.in-Some.ensures.items ∙ reverse-append c.pop.new.self.items (change ∷ []) in
    let next : change ∷ others ≡ drop at all = sym turned ∙ rest in (
      omega (arith, long, ap length c.in-Some.ensures.items, length-append c.pop.new.self.items (change ∷ [])),
      ap (drop 1) next ∙ drop-drop 1 at all,
      λ last. put-more key same c.loop-change.records.items c.put_if.new.records.items change others c.is_last-is_last.result
          (c.in_ok-put_if.ensures
          ∙ ap (λ (o : Option g.row.R.Denot). c.loop-change.records.items ++ cond c.is_last-is_last.result (option_to_list o) [])
          c.record_of.ensures)
          (c.is_last-is_last.ensures
          ∙ last-of_all key same (on_equiv rank (eq_by_cmp_equiv g.met.R.Rank.Ord.total)) all change others at
          (at_keys rank (get cmp c.args.last.now)) last next
          (omega (arith, long, length-reverse c.args.changes.items)))
          ∙ ap (λ l. with_keys key c.loop-change.records.items ++ put_last same (changes_of key l)) (sym turned) ∙ so_far last,
    )

pub returns : goal.returns
returns g c =
    let (long, rest, so_far) = c.loop-change.invariant in
    let key = g.R.Keyed.key in
    let none : c.loop-change.changes.items ≡ [] =
    nil_from_length c.loop-change.changes.items (omega (arith, c.in_default.ensures.cases.0, c.loop-change.changes.ok.0)) in
    λ last.
    sym (ap (λ l. with_keys key c.loop-change.records.items ++ put_last (same_by g.R.Rank.Ord.cmp g.R.Keyed.rank)
    (changes_of key (reverse l))) none
    ∙ append-nil (with_keys key c.loop-change.records.items)) ∙ so_far last
