-- One record after another gets its mark (`one_marked`), and its line goes behind the text (`behind`).
use Rattle.cif_views.proofs.Names.{All-nil, IsMarkAt, IsMarkOf, [], ap, arith, get_or-map, map, marked_as, placed_of, refl, subst, sym}
use Rattle.cif_views.proofs.{Explaining.one_marked, Names.◌++◌, Names.◌∙◌, Names.◌∷◌}
use Rattle.cif_canon.proofs.AppendedTexts.{behind, nothing}
use Rattle.cif_views.proofs.RowNames.{row_text}
use Rattle.cif_views.proofs.explanation.write_explained.Goals as goal

pub loop-i-init : goal.loop-i-init
loop-i-init g c = record { written = ([], (refl, All-nil _), nothing _ _ _); last = λ j is. absurd (omega (arith, is)) }

pub loop-i-preserved : goal.loop-i-preserved
loop-i-preserved g c =
    let (done, marked, appended) = c.loop-i.invariant.written in
    let of = placed_of g.E.Entry.key g.E.Entry.terms in
    let one = c.index-applying-i.result in
    let mark = c.mark_at-mark.result in
    let e = marked_as (of one) mark in
    let marks = c.mark_at-mark.ensures c.loop-i.invariant.last in
    record {
      written = (
        done ++ (e ∷ []),
        one_marked of c.args.applying.now c.loop-i.i done e one c.loop-i-test.true c.index-applying-i.is refl
            (subst (λ p. IsMarkOf (map of c.args.applying.now) p mark)
            (get_or-map of c.args.applying.now c.loop-i.i one (of one) c.loop-i-test.true ∙ ap of (sym c.index-applying-i.is))
            (marks (of one))) marked,
        behind _ _ (λ x. row_text g.F.RowFormat.FORMAT (g.E.ExplainedEntry.fields c.args.day x)) done e _ _ _ appended
            (c.write_one.ensures one.place),
      );
      last = λ j is. subst (λ n. IsMarkAt (map of c.args.applying.now) n mark) (omega (arith, is)) marks;
    }
