-- Heading, associations and trains are the explanation (`explanation`).
use Rattle.cif_views.proofs.Names.{ArePlacedInOrder, Association, IsAssociationOf, IsTrain, Schedule, association_entries}
use Rattle.cif_views.proofs.Names.{association_terms, both, explained_association_row, explained_train_row, explanation_heading}
use Rattle.cif_views.proofs.Names.{extract_parts, fault-answered, flat_map, key_cmp, map, nat_cmp, placed_of, schedule_entries}
use Rattle.cif_views.proofs.Names.{schedule_terms, slice_cmp, subst, sym, written-so, ◌++◌}
use Rattle.cif_views.proofs.{ExplainedTexts.explanation, RowNames.row_text}
use Rattle.cif_views.proofs.explanation.list_explained.Goals as goal

pub returns-clause-view : goal.returns-clause-view
returns-clause-view g c =
    let f = g.F.RowFormat.FORMAT in
    let ones = c.write_explained.ensures in
    let others = c.write_explained-2.ensures in
    let head = explanation_heading f in
    let one = flat_map (λ e. row_text f (explained_association_row c.args.day e)) ones.0 in
    let other = flat_map (λ e. row_text f (explained_train_row c.args.day e)) others.0 in (
      head ++ (one ++ other),
      fault-answered _ _ _ _ _ c.answer.result c.answer.ensures.ok c.answer.ensures.failed c.answer.ensures.fault
          (both _ _ head (one ++ other) _ _ _ c.write_names.ensures
          (both _ _ one other _ _ _ ones.2 others.2)),
      written-so c.answer.result _ (explanation f (extract_parts c.args.extract.now) c.args.uid.now c.args.day
          c.in_ok-check_within.ensures.ok c.as_slice.result.now _ ones.0 c.as_slice.ensures.value
          (subst (λ es. ArePlacedInOrder key_cmp IsAssociationOf (association_entries c.as_slice.result.now) c.args.uid.now c.args.day
          (map (placed_of (λ (a : Association). a.key) association_terms) es)) (sym c.as_slice-3.ensures.value)
          c.in_ok-associations.ensures)
          ones.1 c.as_slice-2.result.now _ others.0 c.as_slice-2.ensures.value
          (subst (λ es. ArePlacedInOrder (slice_cmp nat_cmp) IsTrain (schedule_entries c.as_slice-2.result.now) c.args.uid.now c.args.day
          (map (placed_of (λ (s : Schedule). s.uid) schedule_terms) es)) (sym c.as_slice-4.ensures.value) c.in_ok-trains.ensures)
          others.1),
    )

pub write_explained-requires : goal.write_explained-requires
write_explained-requires g c = record { rising = rw c.as_slice-3.ensures.value c.in_ok-associations.ensures.rising }

pub write_explained-requires-2 : goal.write_explained-requires-2
write_explained-requires-2 g c = record { rising = rw c.as_slice-4.ensures.value c.in_ok-trains.ensures.rising }
