-- What is listed first of the rest goes behind what was listed (`behind`).
use Rattle.cif_canon.proofs.Names.{All, All-drop, HasSidedRecord, [], ap, append-nil, append_assoc, arith, by_pairs, flat_map, keyed}
use Rattle.cif_canon.proofs.Names.{nat_tests, nil_from_length, refl, sided_records, subst, sym, ◌++◌, ◌∙◌, ◌∷◌, ◌≡◌}
use Rattle.cif_canon.proofs.AppendedTexts.{behind, nothing, text-is}
use Rattle.cif_canon.proofs.listed_differences.write_pairs.Goals as goal

pub loop-rest-init : goal.loop-rest-init
loop-rest-init g c = record { records = c.requires; written = ([], refl, nothing _ _ _) }

pub first_listed-first-requires-clause-some : goal.first_listed-first-requires-clause-some
first_listed-first-requires-clause-some g c =
    let test = c.loop-rest-test.true in
    let known = c.is_empty.ensures in
    grind (arith, nat_tests, test, known)

pub loop-rest-preserved : goal.loop-rest-preserved
loop-rest-preserved g c =
    let xs = keyed g.E.Entry.key g.E.Entry.terms c.args.left.now in
    let ys = keyed g.E.Entry.key g.E.Entry.terms c.args.right.now in
    let cmp = g.E.Key.Ord.cmp in
    let f = c.first_listed-first.ensures in
    let (done, split, written) = c.loop-rest.invariant.written in record {
      records = subst (All (HasSidedRecord xs ys)) (sym f.behind) (All-drop (HasSidedRecord xs ys) f.count _ c.loop-rest.invariant.records);
      written = (
        done ++ c.first_listed-first.result.0 ∷ [],
        split ∙ ap (λ l. done ++ l) f.first
            ∙ sym (append_assoc done (c.first_listed-first.result.0 ∷ [])
            (by_pairs cmp (sided_records xs ys c.first_listed-first.result.1.now))),
        behind _ _ (g.L.Texts.text c.args.texts.now) done c.first_listed-first.result.0 _ _ _ written c.write.ensures,
      );
    }

pub returns : goal.returns
returns g c =
    let xs = keyed g.E.Entry.key g.E.Entry.terms c.args.left.now in
    let ys = keyed g.E.Entry.key g.E.Entry.terms c.args.right.now in
    let (done, split, written) = c.loop-rest.invariant.written in
    let test = c.loop-rest-test.false in
    let known = c.is_empty.ensures in
    let none : c.loop-rest.rest.now ≡ [] = nil_from_length c.loop-rest.rest.now (grind (arith, nat_tests, test, known)) in
    text-is _ _ _ _ _ _
    (ap (flat_map (g.L.Texts.text c.args.texts.now))
    (sym (split ∙ ap (λ l. done ++ by_pairs g.E.Key.Ord.cmp (sided_records xs ys l)) none ∙ append-nil done))) written
