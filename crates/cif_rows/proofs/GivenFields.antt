-- Fields that are added one after another, for which there is room.
use Rattle.cif_rows.proofs.Names.{Apart, Bor, Field, Format, List, [], absent, append-nil, append_assoc, arith, drop, field_text, fields_text}
use Rattle.cif_rows.proofs.Names.{ap, get_or, length, map, refl, subst, sym, texts, ℕ, ◌++◌, ◌+◌, ◌<◌, ◌∙◌, ◌∷◌, ◌≡◌, ◌≤◌}
use Rattle.cif_rows.specs.Steps.{AreOfShape, GivenField, room_for, room_of}
use Rattle.cif_rows.specs.declared.shape.Shape.TheVariants.{Trimmed}
use Rattle.std.proofs.lemmas.List.{at_drop_all, at_drop_more}

-- with the fields that are left, the text is whole, and no longer than it may be
pub record IsGrowing (format : Format) (whole : List ℕ) (most : ℕ) (row : List ℕ) (left : List Field) : Type 0 where
  pub text : row ++ fields_text format left ≡ whole
  pub room : length row + room_for left ≤ most
  pub shapes : AreOfShape left

module _ {A : Type 0} (field : A → Field) (format : Format) (whole : List ℕ) (most : ℕ) (given : List A) (i : ℕ) (row : List ℕ)
    (is : IsGrowing format whole most row (map field (drop i given))) where
  -- no field is left
  pub all-given : length given ≤ i → (row ≡ whole) × (length row ≤ most)
  all-given past =
      let end = subst (IsGrowing format whole most row) (at_drop_all (map field) given i past) is in
      let room = end.room in (sym (append-nil row) ∙ end.text, omega (arith, room))

  module _ (none : A) (below : i < length given) where
    pub first-given : IsGrowing format whole most row (field (get_or given i none) ∷ map field (drop (i + 1) given))
    first-given = subst (IsGrowing format whole most row) (at_drop_more (map field) given i none below) is

    -- one field more
    pub more-given : (new : List ℕ) → new ≡ row ++ field_text format (field (get_or given i none)) →
        length new ≤ length row + room_of (field (get_or given i none)) → IsGrowing format whole most new (map field (drop (i + 1) given))
    more-given new e upto =
        let here = first-given in
        let room = here.room in
        record {
          text = ap (λ (l : List ℕ). l ++ fields_text format (map field (drop (i + 1) given))) e
              ∙ append_assoc row (field_text format (field (get_or given i none))) (fields_text format (map field (drop (i + 1) given)))
              ∙ here.text;
          room = omega (arith, room, upto);
          shapes = here.shapes.1;
        }

-- ---- fields, and empty ones, as the code has them

abbrev pub none : GivenField
none = (record { ref_ptr = (0, 0); now = [] }, Apart, Trimmed, record { ref_ptr = (0, 0); now = [] })

abbrev pub no-name : Bor (List ℕ)
no-name = record { ref_ptr = (0, 0); now = [] }

abbrev pub absent-of : Bor (List ℕ) → Field
absent-of name = absent name.now

pub absent-names : (names : List (Bor (List ℕ))) → map absent-of names ≡ map absent (texts names)
absent-names [] = refl
absent-names (n ∷ names) = ap (λ (fs : List Field). absent n.now ∷ fs) (absent-names names)

pub absent-shapes : (names : List (Bor (List ℕ))) → AreOfShape (map absent-of names)
absent-shapes [] = tt
absent-shapes (n ∷ names) = (tt, absent-shapes names)
