-- What is said of the list is said of the clashes, which are seen as it.
use Rattle.cif_views.proofs.Names.{AreAllClashes, Clash, IsClearExtract, IsFirstClashIn, List, Some, [], extract_parts, slice_get, subst}
use Rattle.cif_views.proofs.{ClashLists.all-found, ClashLists.clashes-clear, ClashLists.clashes-first, Names.sym, Names.◌↔◌, Names.◌≡◌}
use Rattle.cif_views.proofs.{find_clashes.clashes.Goals.In_ok-all}
use Rattle.cif_views.proofs.find_clashes.clashes.Goals as goal

-- the clashes of both slices are those of the extract
found : (c : In_ok-all) → AreAllClashes (extract_parts c.args.extract.now) c.in_ok-all.all.items
found c =
    all-found (extract_parts c.args.extract.now) _ _ _ _ _ _ _ c.of-window.ensures.first c.of-window.ensures.last
    c.as_slice.ensures.value c.as_slice-2.ensures.value c.new-none.ensures.items c.in_ok-some.ensures c.in_ok-all.ensures

pub returns-clause-all : goal.returns-clause-all
returns-clause-all c =
    subst (AreAllClashes (extract_parts c.args.extract.now)) (sym c.of.ensures)
    (found (goal.at.returns-clause-all c).In_ok-all)

pub returns-clause-clear : goal.returns-clause-clear
returns-clause-clear c =
    let x = extract_parts c.args.extract.now in
    subst (λ (cs : List Clash). (cs ≡ []) ↔ IsClearExtract x) (sym c.of.ensures)
    (clashes-clear x _ (found (goal.at.returns-clause-clear c).In_ok-all))

pub returns-clause-first : goal.returns-clause-first
returns-clause-first c clash =
    let x = extract_parts c.args.extract.now in
    subst (λ (cs : List Clash). (slice_get cs 0 ≡ Some clash) ↔ IsFirstClashIn x clash) (sym c.of.ensures)
    (clashes-first x _ (found (goal.at.returns-clause-first c).In_ok-all) clash)
