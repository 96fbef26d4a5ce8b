-- The lines of an extract are in the order of the table, and lines that spell records in that order begin an extract.
use Rattle.cif_extract.proofs.Names.{All, All-head, All-tail, AllFit, AllStandIn, AreInOrder, Basic, BeginExtract, Bool, Detail}
use Rattle.cif_extract.proofs.Names.{ExtractParts, HasRead, IfSome, IsKeepable, IsLine, Kind, List, MayComeAfter, None, Option, Place}
use Rattle.cif_extract.proofs.Names.{Progress, Record, Row, Some, SpellAll, SpellExtract, [], ap, append-nil, append_assoc, basic_back}
use Rattle.cif_extract.proofs.Names.{basic_front, cond, detail_rows, detail_table, false, fits-append, fits-front, has_body, kind_in}
use Rattle.cif_extract.proofs.Names.{may_stand, no_progress, own_layouts, place_behind, plain_line, record_table, refl, row, spare}
use Rattle.cif_extract.proofs.Names.{stands-plain_line, step, subst, sym, true, ℕ, ◌++◌, ◌∙◌, ◌∷◌, ◌≡◌}
use Rattle.cif_records.proofs.Records as records
use Rattle.cif_records.specs.declared.record.Record.TheVariants as of
use Rattle.cif_extract.proofs.{GoesOn.read_begins, JourneySteps.has_read_more, LayoutLaws.own_are, OrderLaws.MayStand}
use Rattle.cif_extract.proofs.{OrderLaws.stand_extract, Places.place_more, Places.place_past, ReadingRuns.place_step}
use Rattle.cif_extract.specs.declared.place.Place.TheVariants as at

one_kind : (line : List ℕ) (j k : Kind) → kind_in line ≡ Some j → kind_in line ≡ Some k → j ≡ k
one_kind line j k p q = let same : ◌≡◌ {A = Option Kind} (Some j) (Some k) = sym p ∙ q in cc

-- ---- from the grammar to the table

in-order : (front : List (List ℕ)) (place : Place) (lines : List (List ℕ)) (rs : List Record) (to : Place) →
    place_behind front ≡ place → SpellAll lines rs → MayStand place rs to → AreInOrder front lines
in-order front place [] [] to behind spell stand = tt
in-order front place [] (r ∷ rs) to behind spell stand = absurd spell
in-order front place (line ∷ lines) [] to behind spell stand = absurd spell
in-order front place (line ∷ lines) (r ∷ rs) to behind spell stand = (
  λ kind named.
      ap (λ p. may_stand p kind) behind
      ∙ ap (λ k. may_stand place k) (one_kind line kind (records.kind_of r) named (records.kind_there line r spell.0))
      ∙ stand.0,
  in-order (front ++ (line ∷ [])) (place_past place r) lines rs to
      (place_more own_layouts own_are front line r place behind spell.0) spell.1 stand.1,
)

pub spelled-in_order : (lines : List (List ℕ)) (x : ExtractParts) → SpellExtract lines x → AreInOrder [] lines
spelled-in_order lines x s = in-order [] at.Start lines s.records at.Ended refl s.spelled (stand_extract s.records x s.are)

-- ---- from the table to the grammar

fits-back : (a b : List Row) → AllFit (a ++ b) → AllFit b
fits-back [] b p = p
fits-back (r ∷ a) b p = fits-back a b p.1

-- what fits can be kept
keepable-detail : (b : Basic) (d : Option Detail) →
    AllFit (basic_front b.uid b.first b.last b.days ++ (detail_rows d ++ basic_back b.letter)) →
    d ≡ b.detail → IsKeepable (of.Basic b)
keepable-detail b None fits is = subst (λ o. IfSome o (λ d. AllStandIn (plain_line (detail_table d)) (detail_table d))) is tt
keepable-detail b (Some d) fits is =
    let rows = fits-front (detail_rows (Some d)) (basic_back b.letter)
    (fits-back (basic_front b.uid b.first b.last b.days) (detail_rows (Some d) ++ basic_back b.letter) fits) in
    subst (λ o. IfSome o (λ d. AllStandIn (plain_line (detail_table d)) (detail_table d))) is
    (stands-plain_line (detail_table d) refl (tt, fits-append (detail_rows (Some d)) (row 79 80 spare ∷ []) rows (tt, tt)))

keepable : (r : Record) → AllFit (record_table r) → IsKeepable r
keepable (of.Basic h) fits = keepable-detail h h.detail fits refl
keepable (of.Extra h) fits = records.spells (of.Extra h) fits
keepable (of.Origin h) fits = records.spells (of.Origin h) fits
keepable (of.Stop h) fits = records.spells (of.Stop h) fits
keepable (of.Change h) fits = records.spells (of.Change h) fits
keepable (of.Terminus h) fits = records.spells (of.Terminus h) fits
keepable _ fits = tt

-- behind a record the place isn't the start
past_start : (place : Place) (r : Record) → place_past place r ≡ at.Start → ⊥
past_start place (of.Basic x) e = by_body (has_body x.letter) e
  where
    by_body : (b : Bool) → cond b at.Basic at.Cancelled ≡ at.Start → ⊥
    by_body true f = absurd (cc)
    by_body false f = absurd (cc)
past_start at.Cancelled (of.Extra x) e = absurd (cc)
past_start _ (of.Extra x) e = absurd (cc)
past_start _ _ e = absurd (cc)

-- records that have been read, so that more may follow
record IsReadSoFar (front : List (List ℕ)) (rs : List Record) : Type 0 where
  progress : Progress
  read : HasRead rs progress
  behind : place_behind front ≡ progress.place

module _ (front : List (List ℕ)) (rs : List Record) (so_far : IsReadSoFar front rs) (line : List ℕ) (is_line : IsLine line) (r : Record)
    (spells : AllStandIn line (record_table r)) (may : MayComeAfter front line) where
  one_more : IsReadSoFar (front ++ (line ∷ [])) (rs ++ (r ∷ []))
  one_more =
      let p = so_far.progress in
      let named = records.kind_there line r spells in
      let stands : may_stand p.place (records.kind_of r) ≡ true =
      ap (λ place. may_stand place (records.kind_of r)) (sym so_far.behind) ∙ may (records.kind_of r) named in record {
        progress = step p r;
        read = has_read_more rs p r (keepable r (records.fit line is_line r spells)) so_far.read stands;
        behind = place_more own_layouts own_are front line r p.place so_far.behind spells ∙ place_step p r;
      }

  started : one_more.progress.place ≡ at.Start → ⊥
  unfolding one_more
  started e = past_start so_far.progress.place r (place_step so_far.progress r ∙ e)

begins : (front : List (List ℕ)) (rs : List Record) (so_far : IsReadSoFar front rs) → (so_far.progress.place ≡ at.Start → ⊥) →
    (lines : List (List ℕ)) (more : List Record) → All IsLine lines → SpellAll lines more → AreInOrder front lines →
    BeginExtract (rs ++ more)
begins front rs so_far going [] [] are_lines spell order =
    subst BeginExtract (sym (append-nil rs)) (read_begins rs so_far.progress so_far.read going)
begins front rs so_far going [] (r ∷ more) are_lines spell order = absurd spell
begins front rs so_far going (line ∷ lines) [] are_lines spell order = absurd spell
begins front rs so_far going (line ∷ lines) (r ∷ more) are_lines spell order =
    let is_line = All-head IsLine line lines are_lines in
    subst BeginExtract (append_assoc rs (r ∷ []) more)
    (begins (front ++ (line ∷ [])) (rs ++ (r ∷ [])) (one_more front rs so_far line is_line r spell.0 order.0)
    (started front rs so_far line is_line r spell.0 order.0) lines more (All-tail IsLine line lines are_lines) spell.1 order.1)

pub in_order-begins : (line : List ℕ) (lines : List (List ℕ)) (rs : List Record) → All IsLine (line ∷ lines) → SpellAll (line ∷ lines) rs →
    AreInOrder [] (line ∷ lines) → BeginExtract rs
in_order-begins line lines [] are_lines spell order = absurd spell
in_order-begins line lines (r ∷ rs) are_lines spell order =
    let none : IsReadSoFar [] [] = record {
      progress = no_progress;
      read = record { none = refl; tiplocs = refl; associations = refl; schedules = refl };
      behind = refl;
    } in
    let is_line = All-head IsLine line lines are_lines in
    begins (line ∷ []) (r ∷ []) (one_more [] [] none line is_line r spell.0 order.0) (started [] [] none line is_line r spell.0 order.0)
    lines rs (All-tail IsLine line lines are_lines) spell.1 order.1
