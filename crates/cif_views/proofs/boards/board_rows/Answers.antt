-- One schedule more (`flat-more`), and at the end the rows are put in order.
use Rattle.std.proofs.Common.{take_all}
use Rattle.std.proofs.lemmas.List.Sorted.{answers_always}
use Rattle.cif_views.proofs.Names.{IsPermutation, List, None, Some, ap, arith, flat_map, rules, subst, sym, ◌∙◌}
use Rattle.cif_views.proofs.BoardRows.{flat-more}
use Rattle.cif_views.specs.Steps.Boards.{AreGoals, rows_of}
use Rattle.cif_views.specs.declared.board.BoardRow.{BoardRow}
use Rattle.cif_views.specs.declared.boards.Wanted.{Wanted}
use Rattle.cif_views.proofs.boards.board_rows.Goals as goal
use Rattle.cif_views.proofs.boards.board_rows.Goals.{in-Some+in_ok-of-in-Some, in-None}

pub loop-position-init : goal.loop-position-init
loop-position-init c = c.new-rows.ensures.items

pub loop-position-preserved : goal.loop-position-preserved
loop-position-preserved c =
    let wanted : Wanted = record {
      kind = c.args.board.now.kind;
      day = c.args.board.now.day;
      place = c.in_ok-place.place;
      goal = c.match-board.goal;
    } in
    flat-more (rows_of wanted) c.args.schedules.now c.loop-position.position c.at.result _ _ c.at.ensures c.loop-position.invariant
    c.in_ok-add_rows.ensures

pub returns : goal.returns
returns c =
    let wanted : Wanted = record {
      kind = c.args.board.now.kind;
      day = c.args.board.now.day;
      place = c.in_ok-place.place;
      goal = c.match-board.goal;
    } in
    let schedules = c.args.schedules.now in
    let over = c.loop-position-test.false in
    let many = c.len-position-end.ensures in
    let all = c.loop-position.invariant ∙ ap (flat_map (rows_of wanted)) (take_all c.loop-position.position schedules (omega (arith, over, many))) in
    let tiplocs = c.args.tiplocs.now in
    let calling_at = c.args.board.now.calling_at in
    let goals : AreGoals tiplocs calling_at c.match-board.goal = elim c.match-board.branch [
      | in-Some+in_ok-of-in-Some w ↦
          subst (AreGoals tiplocs calling_at) (sym w.goal-is)
          (subst (λ o. AreGoals tiplocs o (Some w.in_ok-of-in-Some.field-0)) (sym w.in-Some.is) w.in_ok-of-in-Some.ensures)
      | in-None w ↦
          subst (AreGoals tiplocs calling_at) (sym w.goal-is) (subst (λ o. AreGoals tiplocs o None) (sym w.in-None.is) (tt {0}))
    ] in
    record {
      place = c.in_ok-place.place;
      are_place = c.in_ok-place.ensures;
      goal = c.match-board.goal;
      are_goal = goals;
      permuted = subst (λ (l : List BoardRow). IsPermutation l c.sort_unstable_by_key.new.self.items) all c.sort_unstable_by_key.ensures.permutation;
      sorted = c.sort_unstable_by_key.ensures.sorted (λ (r : BoardRow). r.key)
          (answers_always _ _ _ (λ f a r f' called. search rules));
    }
