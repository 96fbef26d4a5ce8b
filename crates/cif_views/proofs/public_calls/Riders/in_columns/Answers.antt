-- The first four columns say what they do, two and two, and the others what they do, or nothing (`said-columns`).
use Rattle.cif_views.proofs.Names.{ap, arith, bytes_decides, codes, drop, length, sym, ◌-◌, ◌∙◌, ◌≤◌}
use Rattle.cif_views.{proofs.Riders.nothing-joined, proofs.Riders.said-columns, specs.Steps.PublicRows.joined}
use Rattle.cif_views.proofs.public_calls.Riders.in_columns.Goals as goal

pub returns-then-ends_with : goal.returns-then-ends_with
returns-then-ends_with c =
    let four : 4 ≤ length c.args.columns.now = let long = c.told-columns in omega (arith, long) in
    let none = (bytes_decides (codes "        ") _).0 (sym c.ends_with.ensures.value ∙ c.if-ends_with.true) in
    sym (nothing-joined c.join-riders.result)
    ∙ said-columns c.args.columns.now (codes "        ") _ _ _ four c.of_one.ensures c.of_one-2.ensures c.join-riders.ensures
    (none ∙ ap (λ n. drop (n - 8) c.args.columns.now) c.told-columns)

pub returns-else-ends_with : goal.returns-else-ends_with
returns-else-ends_with c =
    let four : 4 ≤ length c.args.columns.now = let long = c.told-columns in omega (arith, long) in
    c.join.ensures
    ∙ ap (joined c.join-riders.result) c.in_others.ensures
    ∙ said-columns c.args.columns.now c.split_at.result.1.now _ _ _ four c.of_one.ensures c.of_one-2.ensures c.join-riders.ensures
    c.split_at.ensures.back
