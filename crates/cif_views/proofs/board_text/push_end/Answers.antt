-- The name of the end, or its TIPLOC (`or-some`, `or-none`).
use Rattle.cif_views.proofs.Names.{List, ap, arith, codes, length, length-take-le, subst, sym, take, used, ℕ, ◌<◌, ◌∙◌, ◌≡◌, ◌≤◌}
use Rattle.cif_views.proofs.{BoardTexts.or-none, BoardTexts.or-some}
use Rattle.cif_views.proofs.RowNames.{added-is, field-added, field_text, named, text, trimmed}
use Rattle.cif_views.specs.Boards.{end_text, or_else}
use Rattle.cif_views.proofs.board_text.push_end.Goals as goal

pub returns-then-used-gt0 : goal.returns-then-used-gt0
returns-then-used-gt0 g c =
    let f = g.F.RowFormat.FORMAT in
    let name = c.location_name-name.result in
    let end = c.args.end in
    let count = c.used_columns-used.result in
    let some = c.if-used-gt0.true in
    let long = length-take-le count name c.used_columns-used.ensures.bound in
    let is : take count name ≡ end_text c.args.tiplocs.now end =
    or-some (take count name) (trimmed end) (omega (arith, some, long))
    ∙ ap (λ n. or_else (take n name) (trimmed end)) c.used_columns-used.ensures.value
    ∙ ap (λ (l : List ℕ). or_else (trimmed l) (trimmed end)) c.location_name-name.ensures in
    field-added _ _ f (named (codes "end") (text (end_text c.args.tiplocs.now end))) _ _ _ _
    (added-is _ _ _ _ _ _ _ _ (ap (λ (l : List ℕ). field_text f (named (codes "end") (text l))) is) c.push.ensures)

pub returns-else-used-gt0 : goal.returns-else-used-gt0
returns-else-used-gt0 g c =
    let f = g.F.RowFormat.FORMAT in
    let name = c.location_name-name.result in
    let end = c.args.end in
    let count = c.used_columns-used.result in
    let none = c.if-used-gt0.false in
    let long = length-take-le count name c.used_columns-used.ensures.bound in
    let own = c.used_columns-used-else-used-gt0.ensures.value in
    let is : take c.used_columns-used-else-used-gt0.result end ≡ end_text c.args.tiplocs.now end =
    ap (λ n. take n end) own
    ∙ or-none (take count name) (trimmed end) (omega (arith, none, long))
    ∙ ap (λ n. or_else (take n name) (trimmed end)) c.used_columns-used.ensures.value
    ∙ ap (λ (l : List ℕ). or_else (trimmed l) (trimmed end)) c.location_name-name.ensures in
    field-added _ _ f (named (codes "end") (text (end_text c.args.tiplocs.now end))) _ _ _ _
    (added-is _ _ _ _ _ _ _ _ (ap (λ (l : List ℕ). field_text f (named (codes "end") (text l))) is) c.push-else-used-gt0.ensures)
