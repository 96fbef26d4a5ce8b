-- The bytes behind the count begin with the columns of the first line: with them it is widened (`columns_wide`).
use Rattle.cif_columns.proofs.Names.{[], ap, refl, ◌++◌, ◌∙◌, ◌∷◌}
use Rattle.cif_columns.proofs.KeptLines.{Keep, columns_in_chunk, columns_in_padded, columns_printable, columns_wide, count_few, keep_view}
use Rattle.cif_columns.proofs.lines.LineSlice.first_text.Goals as goal
use Rattle.cif_columns.proofs.lines.LineSlice.first_text.Goals.{After-first_chunk}

kept : (c : After-first_chunk) → Keep c.self.inside.kept.now c.args.self.now
kept c = keep_view c.self.inside.kept.now c.args.self.now c.self.invariant c.self.view_is

pub widened-requires-clause-count : goal.widened-requires-clause-count
widened-requires-clause-count c = count_few _ _ (kept (goal.at.widened-requires-clause-count c).After-first_chunk) c.requires _ refl

pub widened-requires-in-None-clause-count : goal.widened-requires-in-None-clause-count
widened-requires-in-None-clause-count c =
    count_few _ _ (kept (goal.at.widened-requires-in-None-clause-count c).After-first_chunk) c.requires _ refl

pub widened-requires-clause-printable : goal.widened-requires-clause-printable
widened-requires-clause-printable c =
    let k = kept (goal.at.widened-requires-clause-printable c).After-first_chunk in
    columns_printable _ _ k c.requires _ refl c.in-Some.columns.now
    (columns_in_chunk _ _ k c.requires _ refl c.split_at.result.1.now _ c.split_at.ensures.back c.in-Some.ensures.cases.same)

pub widened-requires-in-None-clause-printable : goal.widened-requires-in-None-clause-printable
widened-requires-in-None-clause-printable c =
    let k = kept (goal.at.widened-requires-in-None-clause-printable c).After-first_chunk in
    columns_printable _ _ k c.requires _ refl c.left_justified.result
    (columns_in_padded _ _ k c.requires _ refl c.split_at.result.1.now _ c.split_at.ensures.back c.left_justified.ensures.columns)

pub returns-in-Some : goal.returns-in-Some
returns-in-Some c =
    let k = kept (goal.at.returns-in-Some c).After-first_chunk in
    c.widened.ensures ∙ ap (λ l. l ++ 10 ∷ []) (columns_wide _ _ k c.requires _ refl c.in-Some.columns.now
    (columns_in_chunk _ _ k c.requires _ refl c.split_at.result.1.now _ c.split_at.ensures.back c.in-Some.ensures.cases.same))

pub returns-in-None : goal.returns-in-None
returns-in-None c =
    let k = kept (goal.at.returns-in-None c).After-first_chunk in
    c.widened-in-None.ensures ∙ ap (λ l. l ++ 10 ∷ []) (columns_wide _ _ k c.requires _ refl c.left_justified.result
    (columns_in_padded _ _ k c.requires _ refl c.split_at.result.1.now _ c.split_at.ensures.back c.left_justified.ensures.columns))
