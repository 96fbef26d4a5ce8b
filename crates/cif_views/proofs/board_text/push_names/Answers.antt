-- Names after names (`names-both`).
use Rattle.cif_views.proofs.Names.{[], arith, codes, drop, subst, sym, take, ◌∷◌}
use Rattle.cif_views.proofs.CallRows.{names-both}
use Rattle.cif_views.proofs.RowNames.{Adds, heading_text, names-added}
use Rattle.cif_views.specs.Boards.{board_names, calling_names}
use Rattle.cif_views.proofs.board_text.push_names.Goals as goal

pub returns : goal.returns
returns g c =
    let f = g.F.RowFormat.FORMAT in
    let board = c.args.board.now in
    let names = board_names board in
    let all = names-both _ _ f (take 15 names) (calling_names board.calling_at) _ _ _ _ _ _ c.push_names.ensures c.push_calling_names.ensures in
    let named = names-added _ _ f names _ _ _ _ (omega arith) all in
    subst (Adds _ _ (heading_text f names) _ _ _) (sym c.end_names.ensures) named
