-- The lesser of the first locations has moved behind the others, or both are passed (`moved`, `passed-both`).
use Rattle.cif_canon.proofs.Names.{IfOk-weaker, IsFirstOrder, Left, Right, Some, subst}
use Rattle.cif_canon.proofs.{PairedRecords.tail-is, SiftedTiplocs.moved, SiftedTiplocs.passed-both}
use Rattle.cif_canon.proofs.tiplocs.pass_first.Goals as goal

pub returns-in-Less-clause-sifting : goal.returns-in-Less-clause-sifting
returns-in-Less-clause-sifting c =
    IfOk-weaker c.push_next.result _ _ (λ rest has left right a.
    moved left right c.args.found.now.items c.push_next.new.found.items Left c.args.lefts.now c.args.rights.now _ _
    (subst (λ o. IsFirstOrder c.args.lefts.now c.args.rights.now (Some o)) c.in-Less.is c.requires) has a) c.push_next.ensures

pub returns-in-Greater-clause-sifting : goal.returns-in-Greater-clause-sifting
returns-in-Greater-clause-sifting c =
    IfOk-weaker c.push_next-in-Greater.result _ _ (λ rest has left right a.
    moved left right c.args.found.now.items c.push_next-in-Greater.new.found.items Right c.args.lefts.now c.args.rights.now _ _
    (subst (λ o. IsFirstOrder c.args.lefts.now c.args.rights.now (Some o)) c.in-Greater.is c.requires) has a)
    c.push_next-in-Greater.ensures

pub returns-in-Equal-clause-sifting : goal.returns-in-Equal-clause-sifting
returns-in-Equal-clause-sifting c left right a =
    (passed-both left right c.args.found.now.items c.args.lefts.now c.args.rights.now
    (subst (λ o. IsFirstOrder c.args.lefts.now c.args.rights.now (Some o)) c.in-Equal.is c.requires) a _ _ (tail-is c.args.lefts.now)
    (tail-is c.args.rights.now)).0
