-- Eight fields, of which five are empty.
use Rattle.cif_views.proofs.Names.{List, [], ap, codes, yymmdd_of, ℕ, ◌∷◌}
use Rattle.cif_views.proofs.RowNames.{Date, Field, Whole, added-is, field-added, field_text, fields-added, named, nothing, text, three-fields}
use Rattle.cif_views.proofs.clash_list.push_train.Goals as goal

pub returns : goal.returns
returns g c =
    let f = g.F.RowFormat.FORMAT in
    let kind : Field = named (codes "kind") (text (codes "BS")) in
    let uid : Field = named (codes "uid") (Whole, c.args.uid.now) in
    let base : Field = named (codes "base_uid") nothing in
    let associated : Field = named (codes "associated_uid") nothing in
    let location : Field = named (codes "location") nothing in
    let base_suffix : Field = named (codes "base_suffix") nothing in
    let suffix : Field = named (codes "associated_suffix") nothing in
    let date : Field = named (codes "date") (Date, yymmdd_of c.args.day) in
    let train = added-is _ _ _ (field_text f uid) _ _ _ _
    (ap (λ (l : List ℕ). field_text f (named (codes "uid") (Whole, l))) c.write.ensures.columns) c.push-2.ensures in
    let on = added-is _ _ _ (field_text f date) _ _ _ _
    (ap (λ (l : List ℕ). field_text f (named (codes "date") (Date, l))) c.to_yymmdd.ensures.columns) c.push-3.ensures in
    fields-added _ _ f (kind ∷ uid ∷ base ∷ []) (associated ∷ location ∷ base_suffix ∷ suffix ∷ date ∷ []) _ _ _ _ _ _
    (three-fields _ _ f kind uid base _ _ _ _ _ _ _ _ c.push.ensures train c.push_nothing.ensures)
    (fields-added _ _ f (associated ∷ location ∷ base_suffix ∷ []) (suffix ∷ date ∷ []) _ _ _ _ _ _
    (three-fields _ _ f associated location base_suffix _ _ _ _ _ _ _ _ c.push_nothing-2.ensures c.push_nothing-3.ensures
    c.push_nothing-4.ensures)
    (fields-added _ _ f (suffix ∷ []) (date ∷ []) _ _ _ _ _ _ (field-added _ _ f suffix _ _ _ _ c.push_nothing-5.ensures)
    (field-added _ _ f date _ _ _ _ on)))
