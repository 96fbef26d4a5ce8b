-- The place after a line that spells a record is the place after that record.
use Rattle.cif_extract.proofs.Names.{Bool, IsLine, Layouts, List, None, Place, Record, Some, [], after_extra, ap, cond, false, has_body}
use Rattle.cif_extract.proofs.Names.{length, may_stand, not, own_layouts, place_after, place_behind, place_behind_by, refl, refusal_at}
use Rattle.cif_extract.proofs.Names.{refusal_of, true, ℕ, ◌++◌, ◌<◌, ◌∙◌, ◌∷◌, ◌≡◌}
use Rattle.std.proofs.lemmas.List.Sums.{fold-append}
use Rattle.cif_records.proofs.Records.{kind_of as record_kind}
use Rattle.cif_records.specs.declared.record.Record.TheVariants as of
use Rattle.cif_extract.proofs.{FirstRefusals.line_refusal, LayoutLaws.AreLayouts}
use Rattle.cif_extract.specs.declared.place.Place.TheVariants as at

-- why a line is refused after these, by the place behind them
pub refused_at : (max : ℕ) (lines : List (List ℕ)) (line : List ℕ) (place : Place) → IsLine line → length lines < max →
    place_behind lines ≡ place → refusal_of max lines line ≡ refusal_at own_layouts place line
refused_at max lines line place is_line room behind =
    line_refusal max lines line is_line room ∙ ap (λ p. refusal_at own_layouts p line) behind

-- the place after a record, from the one before it
abbrev pub place_past : Place → Record → Place
place_past place (of.Header x) = at.Tiplocs
place_past place (of.Tiploc x) = at.Tiplocs
place_past place (of.Association x) = at.Associations
place_past place (of.Basic x) = cond (has_body x.letter) at.Basic at.Cancelled
place_past place (of.Extra x) = after_extra place
place_past place (of.Origin x) = at.Journey
place_past place (of.Stop x) = at.Journey
place_past place (of.Change x) = at.Journey
place_past place (of.Terminus x) = at.Schedules
place_past place of.Trailer = at.Ended

module _ (layouts : Layouts) (laws : AreLayouts layouts) where
  past_record : (place : Place) (line : List ℕ) (r : Record) → layouts.spells line r →
      place_after place (Some (record_kind r)) (layouts.cancels line) ≡ place_past place r
  past_record place line (of.Basic b) s = ap (λ c. cond c at.Cancelled at.Basic) (laws.cancels line b s) ∙ turned (has_body b.letter)
    where
      turned : (runs : Bool) → cond (not runs) at.Cancelled at.Basic ≡ cond runs at.Basic at.Cancelled
      turned true = refl
      turned false = refl
  past_record place line _ s = refl

  -- the place behind one line more, which spells this record
  pub place_more : (lines : List (List ℕ)) (line : List ℕ) (r : Record) (place : Place) → place_behind_by layouts lines ≡ place →
      layouts.spells line r → place_behind_by layouts (lines ++ (line ∷ [])) ≡ place_past place r
  place_more lines line r place behind s =
      fold-append (λ before l. place_after before (layouts.kind l) (layouts.cancels l)) at.Start lines (line ∷ [])
      ∙ ap (λ kind. place_after (place_behind_by layouts lines) kind (layouts.cancels line)) (laws.kind line r s)
      ∙ past_record (place_behind_by layouts lines) line r s ∙ ap (λ p. place_past p r) behind

  -- what spells a record that may stand there isn't refused
  pub fine_here : (place : Place) (line : List ℕ) (r : Record) → layouts.spells line r → may_stand place (record_kind r) ≡ true
      → refusal_at layouts place line ≡ None
  fine_here place line r spells may = rw (laws.kind line r spells, may, laws.fine line r spells) refl
