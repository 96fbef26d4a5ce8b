-- The change and the kind, and then the columns.
use Rattle.cif_views.proofs.Names.{List, Option, Side, [], ap, change_on, codes, drop, ℕ, ◌∷◌, ◌≡◌}
use Rattle.cif_views.proofs.RowNames.{Adds, Field, Format, added-is, field-added, field_text, fields-added, fields_text, named, text}
use Rattle.cif_columns.specs.declared.sink.Sink.{Sink}
use Rattle.cif_views.proofs.DifferenceFields.{head_fields}
use Rattle.cif_views.specs.declared.difference_table.{RecordKind.RecordKind, RecordKind.TheVariants.Association}
use Rattle.cif_views.specs.declared.difference_table.RecordKind.TheVariants.{Schedule, Tiploc}
use Rattle.cif_views.proofs.difference_table.push_head.Goals as goal

-- the fields of the columns
abbrev own : RecordKind → Option Side → List ℕ → List Field
own kind side line = drop 2 (head_fields kind side line)

module _ {W : Type 0} (contents : W → Option (List ℕ)) (errors : W → Option ℕ) (f : Format) where
  head-added : (side : Option Side) (change : List ℕ) → text change ≡ change_on side → (kind : List ℕ) (own : List Field)
      (s t u v : Sink W) (w x y z : List ℕ) →
      Adds contents errors (field_text f (named (codes "change") (text change))) s t w x →
      Adds contents errors (field_text f (named (codes "kind") (text kind))) t u x y →
      Adds contents errors (fields_text f own) u v y z →
      Adds contents errors (fields_text f (named (codes "change") (change_on side) ∷ named (codes "kind") (text kind) ∷ own)) s v w z
  head-added side change is kind own s t u v w x y z one two three =
      let a : Field = named (codes "change") (change_on side) in
      let b : Field = named (codes "kind") (text kind) in
      let first = added-is contents errors _ _ s t w x (ap (λ value. field_text f (named (codes "change") value)) is) one in
      fields-added contents errors f (a ∷ []) (b ∷ own) s t v w x z (field-added contents errors f a s t w x first)
      (fields-added contents errors f (b ∷ []) own t u v x y z (field-added contents errors f b t u x y two) three)

pub returns-in-Tiploc : goal.returns-in-Tiploc
returns-in-Tiploc g c =
    rw c.in-Tiploc.is
    (head-added _ _ g.F.RowFormat.FORMAT c.args.head.now.side _ c.change_of.ensures.text (codes "TI") (own Tiploc c.args.head.now.side c.args.head.now.line) _ _ _ _ _ _ _ _ c.push_text.ensures
    c.push_text-in-Tiploc.ensures c.push_each.ensures)

pub returns-in-Association : goal.returns-in-Association
returns-in-Association g c =
    rw c.in-Association.is
    (head-added _ _ g.F.RowFormat.FORMAT c.args.head.now.side _ c.change_of.ensures.text (codes "AA") (own Association c.args.head.now.side c.args.head.now.line) _ _ _ _ _ _ _ _ c.push_text.ensures
    c.push_text-in-Association.ensures c.push_each-in-Association.ensures)

pub returns-in-Schedule : goal.returns-in-Schedule
returns-in-Schedule g c =
    rw c.in-Schedule.is
    (head-added _ _ g.F.RowFormat.FORMAT c.args.head.now.side _ c.change_of.ensures.text (codes "BS") (own Schedule c.args.head.now.side c.args.head.now.line) _ _ _ _ _ _ _ _ c.push_text.ensures
    c.push_text-in-Schedule.ensures c.push_each-in-Schedule.ensures)
