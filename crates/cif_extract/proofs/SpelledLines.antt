-- The lines of an extract, one by one: none is refused behind those before it, and one is a trailer.
use Rattle.cif_extract.proofs.Names.{All, All-tail, ExtractParts, IsNoTrailer, Layouts, List, None, Place, Record, SpellAllBy}
use Rattle.cif_extract.proofs.Names.{SpellExtractBy, [], ap, append-nil, append_assoc, arith, place_behind_by, records_before_trailer, refl}
use Rattle.cif_extract.proofs.Names.{refusal_at, refusal_behind, subst, sym, ℕ, ◌++◌, ◌∙◌, ◌∷◌, ◌≡◌}
use Rattle.cif_records.specs.declared.record.Record.TheVariants as of
use Rattle.cif_extract.proofs.{LayoutLaws.AreLayouts, OrderLaws.MayStand, OrderLaws.stand_extract}
use Rattle.cif_extract.proofs.Places.{fine_here, place_more, place_past}
use Rattle.cif_extract.specs.declared.place.Place.TheVariants as at

module _ (layouts : Layouts) (laws : AreLayouts layouts) where
  fine_at : (front : List (List ℕ)) (place : Place) (before : List (List ℕ)) (line : List ℕ) (after : List (List ℕ))
      (records : List Record) (to : Place) → place_behind_by layouts front ≡ place
      → SpellAllBy layouts.spells (before ++ line ∷ after) records → MayStand place records to
      → refusal_behind layouts (front ++ before) line ≡ None
  fine_at front place [] line after [] to is spell stand = absurd spell
  fine_at front place [] line after (r ∷ records) to is spell stand =
      ap (λ ls. refusal_behind layouts ls line) (append-nil front) ∙ ap (λ p. refusal_at layouts p line) is
      ∙ fine_here layouts laws place line r spell.0 stand.0
  fine_at front place (l ∷ before) line after [] to is spell stand = absurd spell
  fine_at front place (l ∷ before) line after (r ∷ records) to is spell stand =
      ap (λ ls. refusal_behind layouts ls line) (sym (append_assoc front (l ∷ []) before))
      ∙ fine_at (front ++ (l ∷ [])) (place_past place r) before line after records to
      (place_more layouts laws front l r place is spell.0) spell.1 stand.1

  pub spelled_behind : (before : List (List ℕ)) (line : List ℕ) (after : List (List ℕ)) (x : ExtractParts)
      → SpellExtractBy layouts.spells (before ++ line ∷ after) x → refusal_behind layouts before line ≡ None
  spelled_behind before line after x s =
      fine_at [] at.Start before line after s.records at.Ended refl s.spelled (stand_extract s.records x s.are)

  -- among lines that end in a trailer's, not all are of another kind
  no_last : (lines : List (List ℕ)) (records : List Record) → SpellAllBy layouts.spells lines (records ++ (of.Trailer ∷ []))
      → All (IsNoTrailer layouts) lines → ⊥
  no_last [] [] spell all = absurd spell
  no_last [] (r ∷ records) spell all = absurd spell
  no_last (line ∷ lines) [] spell all = all 0 [] (omega arith) (laws.kind line of.Trailer spell.0)
  no_last (line ∷ lines) (r ∷ records) spell all = no_last lines records spell.1 (All-tail (IsNoTrailer layouts) line lines all)

  pub spelled_trailer : (lines : List (List ℕ)) (x : ExtractParts) → SpellExtractBy layouts.spells lines x
      → All (IsNoTrailer layouts) lines → ⊥
  spelled_trailer lines x s none =
      no_last lines (records_before_trailer x s.are.schedules) (subst (SpellAllBy layouts.spells lines) s.are.parts s.spelled) none
