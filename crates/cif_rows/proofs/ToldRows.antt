-- Texts of rows with given names tell the rows' cells, and are made of them.
use Rattle.cif_rows.proofs.Names.{All-head, All-tail, Bool, Format, Json, List, Text, Tsv, [], ap, arith, codes, drop, flat_map, get_or}
use Rattle.cif_rows.proofs.Names.{Field, false, join_with_byte, length, length-append, map, member, refl, row_text, sym, text_value, true, value_text, ℕ}
use Rattle.cif_rows.proofs.Names.{◌++◌, ◌<◌, ◌∙◌, ◌∷◌, ◌≡◌}
use Rattle.std.proofs.Common.{◌≢◌}
use Rattle.cif_rows.proofs.RowTexts.{cell_in, first-row, row-filled}
use Rattle.cif_rows.specs.{Row.number_value, ToldRows.AreRowsOf, ToldRows.IsRowOf, ToldRows.cells_in, ToldRows.is_number, ToldRows.kinds_in}
use Rattle.cif_rows.specs.declared.shape.{Shape.Shape, Shape.TheVariants.Date, Shape.TheVariants.Number, Shape.TheVariants.Trimmed}
use Rattle.cif_rows.specs.declared.shape.Shape.TheVariants.{Whole}

abbrev name_of : Field → List ℕ
name_of f = f.name

-- ---- texts tell cells

module _ (format : Format) (not : format ≢ Text) (names : List (List ℕ)) (some : 0 < length names) where
  abbrev text : List (List Field) → List ℕ
  text rows = flat_map (row_text format) rows

  no-text : (row : List Field) (rows : List (List Field)) → [] ≡ text (row ∷ rows) → ⊥
  no-text row rows same =
      let filled = row-filled format row in
      let long = length-append (row_text format row) (text rows) in
      let none = ap length same in
      omega (arith, filled, long, none)

  pub cells-told : (one other : List (List Field)) → AreRowsOf names one → AreRowsOf names other → text one ≡ text other →
      map cells_in one ≡ map cells_in other
  cells-told [] [] p q same = refl
  cells-told [] (row ∷ rows) p q same = absurd (no-text row rows same)
  cells-told (row ∷ rows) [] p q same = absurd (no-text row rows (sym same))
  cells-told (a ∷ one) (b ∷ other) p q same =
      let here = All-head (IsRowOf names) a one p in
      let there = All-head (IsRowOf names) b other q in
      let named : map name_of a ≡ names = here.0 in
      let long : length (map name_of a) ≡ length names = ap length named in
      let filled : 0 < length a = some-fields a (omega (arith, long, some)) in
      let first = first-row format not a b (text one) (text other) (here.0 ∙ sym there.0) here.1 there.1 filled same in
      let rest = cells-told one other (All-tail (IsRowOf names) a one p) (All-tail (IsRowOf names) b other q) first.1 in
      λ i. first.0 i ∷ rest i
    where
      some-fields : (row : List Field) → 0 < length (map name_of row) → 0 < length row
      some-fields [] h = h
      some-fields (f ∷ row) h = omega arith

-- ---- cells make texts

abbrev by_kind : Bool → List ℕ → List ℕ
by_kind true cell = number_value cell
by_kind false cell = text_value cell

value-by : (s : Shape) (cell : List ℕ) → value_text s cell ≡ by_kind (is_number s) cell
value-by Number cell = refl
value-by Trimmed cell = refl
value-by Whole cell = refl
value-by Date cell = refl

abbrev member_by : List ℕ → Bool → List ℕ → List ℕ
member_by name kind cell = (34 ∷ name) ++ (codes "\":" ++ by_kind kind cell)

member-is : (f : Field) → member f ≡ member_by f.name (is_number f.shape) (cell_in f)
member-is f = ap (λ (l : List ℕ). (34 ∷ f.name) ++ (codes "\":" ++ l)) (value-by f.shape (cell_in f))

same-members : (a b : List Field) → map name_of a ≡ map name_of b → kinds_in a ≡ kinds_in b → map cell_in a ≡ map cell_in b →
    map member a ≡ map member b
same-members [] [] names kinds cells = refl
same-members [] (g ∷ b) names kinds cells = absurd (let none = ap length names in omega (arith, none))
same-members (f ∷ a) [] names kinds cells = absurd (let none = ap length names in omega (arith, none))
same-members (f ∷ a) (g ∷ b) names kinds cells =
    let name : f.name ≡ g.name = ap (λ ns. get_or ns 0 []) names in
    let kind : is_number f.shape ≡ is_number g.shape = ap (λ ks. get_or ks 0 false) kinds in
    let cell : cell_in f ≡ cell_in g = ap (λ cs. get_or cs 0 []) cells in
    let here : member f ≡ member g =
    member-is f ∙ (λ i. member_by (name i) (kind i) (cell i)) ∙ sym (member-is g) in
    let rest = same-members a b (ap (drop 1) names) (ap (drop 1) kinds) (ap (drop 1) cells) in
    λ i. here i ∷ rest i

same-row : (format : Format) → format ≢ Text → (a b : List Field) → map name_of a ≡ map name_of b → kinds_in a ≡ kinds_in b →
    map cell_in a ≡ map cell_in b → row_text format a ≡ row_text format b
same-row Text not a b names kinds cells = absurd (not refl)
same-row Tsv not a b names kinds cells = ap (λ cs. join_with_byte 9 cs ++ codes "\n") cells
same-row Json not a b names kinds cells =
    ap (λ ms. codes "{" ++ (join_with_byte 44 ms ++ codes "}\n")) (same-members a b names kinds cells)

module _ (format : Format) (not : format ≢ Text) (names : List (List ℕ)) where
  pub same-texts : (one other : List (List Field)) → AreRowsOf names one → AreRowsOf names other → map cells_in one ≡ map cells_in other →
      map kinds_in one ≡ map kinds_in other → flat_map (row_text format) one ≡ flat_map (row_text format) other
  same-texts [] [] p q cells kinds = refl
  same-texts [] (b ∷ other) p q cells kinds = absurd (let none = ap length cells in omega (arith, none))
  same-texts (a ∷ one) [] p q cells kinds = absurd (let none = ap length cells in omega (arith, none))
  same-texts (a ∷ one) (b ∷ other) p q cells kinds =
      let named = (All-head (IsRowOf names) a one p).0 ∙ sym (All-head (IsRowOf names) b other q).0 in
      let here = same-row format not a b named (ap (λ ks. get_or ks 0 []) kinds) (ap (λ cs. get_or cs 0 []) cells) in
      let rest = same-texts one other (All-tail (IsRowOf names) a one p) (All-tail (IsRowOf names) b other q) (ap (drop 1) cells) (ap (drop 1) kinds) in
      λ i. here i ++ rest i
