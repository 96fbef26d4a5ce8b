-- A train that runs later only (`no-rows-yet`) has no row, nor has one none of whose lines is at the place (`no-rows`).
use Rattle.cif_views.proofs.Names.{List, ap, ap₂, append-nil, arith, subst, sym, ◌++◌, ◌<◌, ◌∙◌, ◌≡◌}
use Rattle.std.specs.Result.{OnOk}
use Rattle.std.specs.List.{list_any}
use Rattle.cif_columns.specs.Field.{columns_from}
use Rattle.cif_views.proofs.Stops.{no-rows, no-rows-yet}
use Rattle.cif_weeks.proofs.Spans.{day-later}
use Rattle.cif_views.specs.Boards.{board_train}
use Rattle.cif_views.specs.Steps.Boards.{is_at, rows_from, stops_in}
use Rattle.cif_views.specs.declared.board.BoardRow.{BoardRow}
use Rattle.cif_views.proofs.boards.Wanted.add_rows.Goals as goal

pub returns-then-lt : goal.returns-then-lt
returns-then-lt c =
    let old = c.args.rows.now.items in
    let e = c.args.schedule.now in
    let first = c.first.ensures in
    let less = day-later c.args.self.now.day c.first.result c.lt.result c.lt.ensures c.if-lt.true in
    let late : c.args.self.now.day < e.1.first = omega (arith, first, less) in
    sym (append-nil old) ∙ ap (λ (l : List BoardRow). old ++ l) (sym (no-rows-yet c.args.self.now e late))

pub returns-then-not-are_at : goal.returns-then-not-are_at
returns-then-not-are_at c =
    let old = c.args.rows.now.items in
    let none = ap (list_any (λ line. is_at c.args.self.now.place (columns_from 3 7 line))) (sym c.further.ensures) ∙ sym c.are_at.ensures
    ∙ c.if-not-are_at.true in
    sym (append-nil old) ∙ ap (λ (l : List BoardRow). old ++ l) (sym (no-rows c.args.self.now c.args.schedule.now none))

pub returns : goal.returns
returns c =
    let e = c.args.schedule.now in
    let own = c.in_ok-stops.ensures ∙ ap stops_in c.further-2.ensures in
    let one = c.as_slice.ensures.value ∙ own in
    let other = c.as_slice-2.ensures.value ∙ own in
    let train = c.train_of-train.ensures ∙ ap (λ b. board_train b c.as_slice.result.now) c.body.ensures ∙ ap (board_train e.1.body) one in
    let rows = c.add_each.new.rows.items in
    let old = c.args.rows.now.items in
    subst (λ (l : List BoardRow). OnOk c.add_each.result (rows ≡ old ++ l))
    (ap₂ (λ t ss. rows_from c.args.self.now e t ss) train other) c.add_each.ensures
