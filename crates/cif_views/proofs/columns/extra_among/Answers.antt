-- The lines are a first one and others (`first-and-rest`).
use Rattle.cif_views.proofs.Names.{extra_in, refl, rules, subst, sym, ◌≡◌}
use Rattle.cif_views.proofs.TableRows.{first-and-rest, some-lines}
use Rattle.cif_views.proofs.columns.extra_among.Goals as goal

pub returns-in_default : goal.returns-in_default
returns-in_default c =
    let some = some-lines c.args.lines.now _ c.is_empty.ensures c.if-is_empty.false in
    let is = first-and-rest c.args.lines.now c.first-first.result _ some c.first-first.ensures refl in
    subst (λ ls. c.blank-in_default.result ≡ extra_in ls) (sym is) (search rules)
