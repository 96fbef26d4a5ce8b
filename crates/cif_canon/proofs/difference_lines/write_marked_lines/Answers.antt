-- One line more goes behind the text (`behind`).
use Rattle.cif_canon.proofs.Names.{List, [], ap, append-nil, append_assoc, arith, drop, drop_more, flat_map, length, marked_text, nat_tests}
use Rattle.cif_canon.proofs.Names.{nil_from_length, sym, ℕ, ◌++◌, ◌<◌, ◌∙◌, ◌∷◌, ◌≡◌}
use Rattle.cif_canon.proofs.{AppendedTexts.behind, AppendedTexts.text-is, MarkedTexts.marked-lines}
use Rattle.cif_canon.proofs.difference_lines.write_marked_lines.Goals as goal

pub loop-rest-preserved : goal.loop-rest-preserved
loop-rest-preserved g c =
    let (done, split, written) = c.loop-rest.invariant in
    let rest = c.loop-rest.rest in
    let test = c.loop-rest-test.true in
    let known = c.is_empty.ensures in
    let some : 0 < length rest = grind (arith, nat_tests, test, known) in (
      done ++ c.first.result ∷ [],
      split ∙ ap (λ l. done ++ l) (drop_more rest 0 [] some ∙ ap (λ l. l ∷ drop 1 rest) (sym c.first.ensures)
          ∙ ap (λ l. c.first.result ∷ l) (sym c.rest-rest.ensures)) ∙ sym (append_assoc done (c.first.result ∷ []) c.rest-rest.result),
      behind _ _ (λ (line : List ℕ). marked_text c.args.side (line ∷ [])) done c.first.result _ _ _ written c.write_marked.ensures,
    )

pub returns : goal.returns
returns g c =
    let (done, split, written) = c.loop-rest.invariant in
    let test = c.loop-rest-test.false in
    let known = c.is_empty.ensures in
    let none : c.loop-rest.rest ≡ [] = nil_from_length c.loop-rest.rest (grind (arith, nat_tests, test, known)) in
    let all : done ≡ c.args.lines.now = sym (split ∙ ap (λ l. done ++ l) none ∙ append-nil done) in
    text-is _ _ _ _ _ _ (ap (flat_map (λ (line : List ℕ). marked_text c.args.side (line ∷ []))) all
    ∙ sym (marked-lines c.args.side c.args.lines.now)) written
