-- The records that apply, with their marks, are the explanation.
use Rattle.cif_views.proofs.Names.{AreExplained, AreMarked, ArePlacedInOrder, AssocBody, AssocKey, Association, BodyLines, Explained}
use Rattle.cif_views.proofs.Names.{ExtractParts, IsAssociationOf, IsExplanation, IsTrain, IsWithin, List, Placed, Schedule}
use Rattle.cif_views.proofs.Names.{association_entries, explained_association_row, explained_train_row, explanation_heading, flat_map}
use Rattle.cif_views.proofs.Names.{header_window, key_cmp, nat_cmp, refl, schedule_entries, slice_cmp, subst, ℕ, ◌++◌, ◌≡◌}
use Rattle.cif_views.proofs.{Explaining.explained, RowNames.Format, RowNames.row_text}

pub explanation : (format : Format) (x : ExtractParts) (u : List ℕ) (d : ℕ) → IsWithin (header_window x.header) d
    → (entries : List Association) (placed : List (Placed AssocKey AssocBody)) (marked : List (Explained AssocKey AssocBody))
    → entries ≡ x.associations → ArePlacedInOrder key_cmp IsAssociationOf (association_entries entries) u d placed
    → AreMarked placed placed marked
    → (trains : List Schedule) (applying : List (Placed (List ℕ) BodyLines)) (shown : List (Explained (List ℕ) BodyLines))
    → trains ≡ x.schedules → ArePlacedInOrder (slice_cmp nat_cmp) IsTrain (schedule_entries trains) u d applying
    → AreMarked applying applying shown
    → IsExplanation format x u d (explanation_heading format
    ++ (flat_map (λ e. row_text format (explained_association_row d e)) marked ++ flat_map (λ e. row_text format (explained_train_row d e)) shown))
explanation format x u d within entries placed marked same are marks trains applying shown alike be signs = record {
  within = within;
  associations = marked;
  of_associations = subst (λ es. AreExplained key_cmp IsAssociationOf (association_entries es) u d marked) same
      (explained key_cmp IsAssociationOf (association_entries entries) u d placed are marked marks);
  trains = shown;
  of_trains = subst (λ es. AreExplained (slice_cmp nat_cmp) IsTrain (schedule_entries es) u d shown) alike
      (explained (slice_cmp nat_cmp) IsTrain (schedule_entries trains) u d applying be shown signs);
  text_is = refl;
}
