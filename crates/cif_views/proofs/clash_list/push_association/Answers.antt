-- Eight fields, of which one is empty.
use Rattle.cif_views.proofs.Names.{List, [], ap, codes, yymmdd_of, ℕ, ◌∷◌}
use Rattle.cif_columns.specs.Text.{left_justified}
use Rattle.cif_views.proofs.RowNames.{Date, Field, Whole, added-is, field-added, field_text, fields-added, named, nothing, text, three-fields}
use Rattle.cif_views.proofs.clash_list.push_association.Goals as goal

pub returns : goal.returns
returns g c =
    let f = g.F.RowFormat.FORMAT in
    let key = c.args.key.now in
    let kind : Field = named (codes "kind") (text (codes "AA")) in
    let uid : Field = named (codes "uid") nothing in
    let base : Field = named (codes "base_uid") (Whole, key.base) in
    let associated : Field = named (codes "associated_uid") (Whole, key.associated) in
    let location : Field = named (codes "location") (text (left_justified 7 key.location)) in
    let base_suffix : Field = named (codes "base_suffix") (text (left_justified 1 key.base_suffix)) in
    let suffix : Field = named (codes "associated_suffix") (text (left_justified 1 key.associated_suffix)) in
    let date : Field = named (codes "date") (Date, yymmdd_of c.args.day) in
    let of_base = added-is _ _ _ (field_text f base) _ _ _ _
    (ap (λ (l : List ℕ). field_text f (named (codes "base_uid") (Whole, l))) c.write.ensures.columns) c.push-2.ensures in
    let of_associated = added-is _ _ _ (field_text f associated) _ _ _ _
    (ap (λ (l : List ℕ). field_text f (named (codes "associated_uid") (Whole, l))) c.write-2.ensures.columns) c.push-3.ensures in
    let of_location = added-is _ _ _ (field_text f location) _ _ _ _
    (ap (λ (l : List ℕ). field_text f (named (codes "location") (text l))) c.write-3.ensures.columns) c.push-4.ensures in
    let of_base_suffix = added-is _ _ _ (field_text f base_suffix) _ _ _ _
    (ap (λ (l : List ℕ). field_text f (named (codes "base_suffix") (text l))) c.write-4.ensures.columns) c.push-5.ensures in
    let of_suffix = added-is _ _ _ (field_text f suffix) _ _ _ _
    (ap (λ (l : List ℕ). field_text f (named (codes "associated_suffix") (text l))) c.write-5.ensures.columns) c.push-6.ensures in
    let on = added-is _ _ _ (field_text f date) _ _ _ _
    (ap (λ (l : List ℕ). field_text f (named (codes "date") (Date, l))) c.to_yymmdd.ensures.columns) c.push-7.ensures in
    fields-added _ _ f (kind ∷ uid ∷ base ∷ []) (associated ∷ location ∷ base_suffix ∷ suffix ∷ date ∷ []) _ _ _ _ _ _
    (three-fields _ _ f kind uid base _ _ _ _ _ _ _ _ c.push.ensures c.push_nothing.ensures of_base)
    (fields-added _ _ f (associated ∷ location ∷ base_suffix ∷ []) (suffix ∷ date ∷ []) _ _ _ _ _ _
    (three-fields _ _ f associated location base_suffix _ _ _ _ _ _ _ _ of_associated of_location of_base_suffix)
    (fields-added _ _ f (suffix ∷ []) (date ∷ []) _ _ _ _ _ _ (field-added _ _ f suffix _ _ _ _ of_suffix)
    (field-added _ _ f date _ _ _ _ on)))
