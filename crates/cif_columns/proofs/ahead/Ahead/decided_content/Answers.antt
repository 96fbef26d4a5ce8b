-- A first line feed ends a content (`fed_first`), and too many bytes without one begin one that is overlong.
use Rattle.cif_columns.proofs.Names.{AreUndecided, IsFirstFeed, ap, arith, held_bytes, most_by, strip_carriage_return, subst, take, ◌∙◌}
use Rattle.cif_columns.proofs.FirstContents.{fed_first, short_undecided}
use Rattle.cif_columns.proofs.ahead.Ahead.decided_content.Goals as goal

pub returns-in-Some-clause-found : goal.returns-in-Some-clause-found
returns-in-Some-clause-found c =
    let held = c.as_slice-held.ensures in
    let most = c.of-most.ensures ∙ ap (most_by c.args.most) held in
    let line = c.without_carriage_return-len.ensures ∙ ap (λ l. strip_carriage_return (take c.in-Some.at l)) held in
    fed_first (most_by c.args.most (held_bytes c.args.self.now)) _ c.in-Some.at _ _ c.without_carriage_return-len.result.now
    (subst (λ n. IsFirstFeed n (held_bytes c.args.self.now) c.in-Some.at) most
    (subst (λ l. IsFirstFeed c.of-most.result l c.in-Some.at) held c.in-Some.ensures)) line c.pass.ensures.content c.pass.ensures.held

pub returns-then-held-most-clause-none : goal.returns-then-held-most-clause-none
returns-then-held-most-clause-none c =
    let held = c.as_slice-held.ensures in
    subst (λ n. AreUndecided n (held_bytes c.args.self.now)) (c.of-most.ensures ∙ ap (most_by c.args.most) held)
    (subst (AreUndecided c.of-most.result) held
    (short_undecided c.of-most.result c.as_slice-held.result.now (omega arith) c.in_default.ensures))
