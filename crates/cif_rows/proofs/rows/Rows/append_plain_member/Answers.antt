-- A text of plain bytes stands in quotes as it is (`member-in-quotes`).
use Rattle.cif_rows.proofs.Names.{All-take, IsPlain, List, ap, arith, codes, length, length-take-le, take, take_all, ℕ, ◌++◌, ◌∙◌, ◌∷◌, []}
use Rattle.cif_rows.proofs.Names.{◌≤◌}
use Rattle.cif_rows.proofs.Quoted.{member-in-quotes}
use Rattle.cif_rows.proofs.rows.Rows.append_plain_member.Goals as goal

pub returns-else-count-eq0-clause-text : goal.returns-else-count-eq0-clause-text
returns-else-count-eq0-clause-text g c =
    let n = c.args.count in
    let name = c.args.name.now in
    let text : List ℕ = take n c.args.columns.now in
    let kept = length-take-le n c.args.columns.now c.requires.count in
    let whole = c.as_bytes.ensures.value in
    let long = ap length whole in
    let all : length c.as_bytes.result.now ≤ length name = omega (arith, long) in
    let named = take_all (length name) c.as_bytes.result.now all ∙ whole in
    c.put_array-self-inside-else-count-eq0.ensures.text
    ∙ ap (λ (l : List ℕ). l ++ codes "\",") (c.put-at-else-count-eq0.ensures.text
    ∙ ap (λ (l : List ℕ). l ++ text) (c.put_array-at-else-count-eq0.ensures.text
    ∙ ap (λ (l : List ℕ). l ++ codes "\":\"") (c.put-at.ensures.text
    ∙ ap (λ (l : List ℕ). l ++ take (length name) c.as_bytes.result.now) (c.put_array-at.ensures.text
    ∙ ap (λ (l : List ℕ). l ++ (34 ∷ [])) c.self.view_is)
    ∙ ap (λ (l : List ℕ). (c.args.self.now ++ (34 ∷ [])) ++ l) named)))
    ∙ member-in-quotes c.args.self.now name text (omega (arith, kept, c.if-count-eq0.false))
    (All-take IsPlain n c.args.columns.now c.requires.plain)
