-- Behind what was kept stands the line as it is kept (`kept_behind`): a line more (`one_more`).
use Rattle.cif_columns.proofs.Names.{[], ap, arith, length, ◌++◌, ◌+◌, ◌∙◌, ◌∷◌, ◌≡◌}
use Rattle.cif_columns.proofs.KeptLines.{Keep, are_kept, keep_view, kept_behind, lines_kept, one_more}
use Rattle.cif_columns.proofs.lines.Lines.push_columns.Goals as goal
use Rattle.cif_columns.proofs.lines.Lines.push_columns.Goals.{After-truncate}

appended : (c : After-truncate) → Keep c.truncate.new.self.items (c.args.self.now ++ c.args.columns.now ∷ [])
appended c =
    let old = c.self.inside.kept.items in
    let line = c.args.columns.now in
    let pushed = c.push_reserved.new.self.items in
    let room = c.in_ok-reserve.ensures.ok in
    let longer = c.push_reserved.ensures.len in
    let kept_room = c.push_reserved.ensures.capacity in
    let fits = c.extend_from_slice.ensures.succeeds (omega (arith, room, longer, kept_room, c.told-columns)) in
    let extended : c.extend_from_slice.new.self.items ≡ pushed ++ line = rw fits at c.extend_from_slice.ensures.items in
    one_more old c.truncate.new.self.items c.args.self.now line (keep_view old c.args.self.now c.self.invariant c.self.view_is)
    (record { width = c.told-columns; printable = c.requires })
    (kept_behind old pushed c.extend_from_slice.new.self.items c.truncate.new.self.items line c.used_in_line-count.result
    (length c.as_slice.result.now + c.from.result) c.used_in_line-count.ensures
    (c.push_reserved.ensures.items ∙ ap (λ l. l ++ c.used_in_line-count.result ∷ []) c.reserve.ensures.items) extended
    (omega (arith, ap length c.as_slice.ensures.value, c.from.ensures)) c.truncate.ensures.items)

pub invariant_of-self-2 : goal.invariant_of-self-2
invariant_of-self-2 c = are_kept c.truncate.new.self.items (c.args.self.now ++ c.args.columns.now ∷ []) (appended c)

pub returns : goal.returns
returns c = lines_kept c.truncate.new.self.items (c.args.self.now ++ c.args.columns.now ∷ []) (appended c)
