-- A text of plain bytes stands in quotes as it is (`in-quotes`).
use Rattle.cif_rows.proofs.Names.{All-take, IsPlain, List, ap, arith, length-take-le, take, ℕ, ◌++◌, ◌∙◌, ◌∷◌, []}
use Rattle.cif_rows.proofs.Quoted.{in-quotes}
use Rattle.cif_rows.proofs.rows.Rows.append_text.Goals as goal

pub returns-then-is_plain-clause-text : goal.returns-then-is_plain-clause-text
returns-then-is_plain-clause-text g c =
    let n = c.args.count in
    let text : List ℕ = take n c.args.columns.now in
    let kept = length-take-le n c.args.columns.now c.requires.count in
    c.append_byte-then-is_plain.ensures
    ∙ ap (λ (l : List ℕ). l ++ (34 ∷ [])) (c.append.ensures ∙ ap (λ (l : List ℕ). l ++ text) c.append_byte.ensures)
    ∙ in-quotes c.args.self.now text (omega (arith, kept, c.if-count-eq0.false))
    (All-take IsPlain n c.args.columns.now (c.is_plain.ensures c.if-is_plain.true))
