-- Texts that are added one after another, and a row as they make it.
use Rattle.cif_rows.proofs.Names.{Adds, Apart, Field, Format, IsAppended, Json, List, Option, Sink, Text, Tsv, [], ap, append-nil, append_assoc}
use Rattle.cif_rows.proofs.Names.{arith, cell, closing, codes, drop, field_text, fields_text, flat_map, flat_map-append, get_or, heading_text}
use Rattle.cif_rows.proofs.Names.{join_with_byte, length, length-append, map, member, names_ended, names_text, opening, padded, refl, row_text, subst, sym}
use Rattle.cif_rows.proofs.Names.{take, take-append-add, take_all, take_more, without_last, ℕ, ◌++◌, ◌+◌, ◌-◌, ◌<◌, ◌∙◌, ◌∷◌, ◌≡◌, ◌≤◌}
use Rattle.cif_rows.proofs.Names.{Bor, IsTrue, are_short, leb-true, nat_le, suc, texts, zero}
use Rattle.std.proofs.lemmas.Bool.{and_parts}
use Rattle.cif_rows.proofs.AppendedTexts.{both, nothing, text-is}

module _ {W : Type 0} (contents : W → Option (List ℕ)) (errors : W → Option ℕ) where
  -- the text is this one
  pub added-is : (a b : List ℕ) (s t : Sink W) (w x : List ℕ) → a ≡ b → Adds contents errors a s t w x → Adds contents errors b s t w x
  added-is a b s t w x is h = subst (λ l. Adds contents errors l s t w x) is h

  -- bytes that wait
  pub added-waits : (text : List ℕ) (s : Sink W) (w x : List ℕ) → x ≡ w ++ text → Adds contents errors text s s w x
  added-waits text s w x is = record {
    out = [];
    written = nothing contents errors s;
    text_is = sym is;
    some = λ some. subst (λ l. 0 < length l) (sym is) some;
  }

  -- one text and then another
  pub added-both : (a b : List ℕ) (s t u : Sink W) (w x y : List ℕ) → Adds contents errors a s t w x → Adds contents errors b t u x y →
      Adds contents errors (a ++ b) s u w y
  added-both a b s t u w x y p q =
      let whole : w ++ (a ++ b) ≡ (p.out ++ q.out) ++ y =
      sym (append_assoc w a b) ∙ ap (λ (l : List ℕ). l ++ b) p.text_is ∙ append_assoc p.out x b
      ∙ ap (λ (l : List ℕ). p.out ++ l) q.text_is ∙ sym (append_assoc p.out q.out y) in
      record {
        out = p.out ++ q.out;
        written = both contents errors p.out q.out s t u p.written q.written;
        text_is = whole;
        some = λ some. q.some (kept p.some (subst (λ l. 0 < length l) (sym (append_assoc w a b)) some));
      }
    where
      kept : (0 < length (w ++ a) → 0 < length x) → 0 < length ((w ++ a) ++ b) → 0 < length (x ++ b)
      kept more some =
          elim b as (λ (l : List ℕ). 0 < length ((w ++ a) ++ l) → 0 < length (x ++ l)) [
            | [] ↦ λ some. subst (λ l. 0 < length l) (sym (append-nil x)) (more (subst (λ l. 0 < length l) (append-nil (w ++ a)) some))
            | (c ∷ l) ↦ λ some. let long = length-append x (c ∷ l) in omega (arith, long)
          ] some

  -- all of it is written
  pub added-all : (text : List ℕ) (s t u : Sink W) (w x : List ℕ) → Adds contents errors text s t w x →
      IsAppended contents errors x t u → IsAppended contents errors (w ++ text) s u
  added-all text s t u w x h last =
      text-is contents errors _ _ s u (sym h.text_is) (both contents errors h.out x s t u h.written last)

  -- bytes for which room was made
  pub added-after : (text : List ℕ) (s t : Sink W) (w x y : List ℕ) → Adds contents errors [] s t w x → y ≡ x ++ text →
      Adds contents errors text s t w y
  added-after text s t w x y made is = added-both [] text s t t w x y made (added-waits text t x y is)

-- a text without its last byte, after another text
pub without_last-append : (a b : List ℕ) → 0 < length b → without_last (a ++ b) ≡ a ++ without_last b
without_last-append a b some =
    let long = length-append a b in
    let same : length (a ++ b) - 1 ≡ length a + (length b - 1) = omega (arith, long, some) in
    ap (λ n. take n (a ++ b)) same ∙ take-append-add a b (length b - 1)

-- and one byte after it
pub without_one : (a : List ℕ) (b : ℕ) → without_last (a ++ (b ∷ [])) ≡ a
without_one a b = without_last-append a (b ∷ []) (omega arith) ∙ append-nil a

-- ---- rows

-- cells with a separator after each are those with one between them, and one after the last
module _ {A : Type 0} (cell_of : A → List ℕ) (byte : ℕ) where
  separated : (x : A) (xs : List A) → flat_map (λ y. cell_of y ++ (byte ∷ [])) (x ∷ xs)
      ≡ join_with_byte byte (map cell_of (x ∷ xs)) ++ (byte ∷ [])
  separated x [] = append-nil (cell_of x ++ (byte ∷ []))
  separated x (y ∷ ys) =
      let rest = join_with_byte byte (map cell_of (y ∷ ys)) in
      append_assoc (cell_of x) (byte ∷ []) (flat_map (λ z. cell_of z ++ (byte ∷ [])) (y ∷ ys))
      ∙ ap (λ (l : List ℕ). cell_of x ++ (byte ∷ l)) (separated y ys)
      ∙ sym (append_assoc (cell_of x) (byte ∷ rest) (byte ∷ []))

  pub joined : (before : List ℕ) (xs : List A) → 0 < length (flat_map (λ y. cell_of y ++ (byte ∷ [])) xs) →
      without_last (before ++ flat_map (λ y. cell_of y ++ (byte ∷ [])) xs) ≡ before ++ join_with_byte byte (map cell_of xs)
  joined before [] some = absurd (omega (arith, some))
  joined before (x ∷ xs) some =
      ap (λ l. without_last (before ++ l)) (separated x xs)
      ∙ ap without_last (sym (append_assoc before (join_with_byte byte (map cell_of (x ∷ xs))) (byte ∷ [])))
      ∙ without_one (before ++ join_with_byte byte (map cell_of (x ∷ xs))) byte

-- so the text of a row is that of its fields, of which the last separator makes place for what ends it
pub row-is : (format : Format) (row : List Field) → 0 < length (fields_text format row) →
    without_last (opening format ++ fields_text format row) ++ closing format ≡ row_text format row
row-is Text row some = refl
row-is Tsv row some = ap (λ (l : List ℕ). l ++ codes "\n") (joined (λ f. cell f.shape f.columns) 9 [] row some)
row-is Json row some =
    ap (λ (l : List ℕ). l ++ codes "}\n") (joined member 44 (codes "{") row some)
    ∙ append_assoc (codes "{") (join_with_byte 44 (map member row)) (codes "}\n")

closing-parts : (format : Format) → take 1 (closing format) ++ drop 1 (closing format) ≡ closing format
closing-parts Text = refl
closing-parts Tsv = refl
closing-parts Json = refl

module _ {W : Type 0} (contents : W → Option (List ℕ)) (errors : W → Option ℕ) where
  -- what waits ends in the last byte of the text, which other bytes take the place of
  pub replaced : (text end : List ℕ) (s t : Sink W) (w x : List ℕ) → Adds contents errors text s t w x → 0 < length text →
      0 < length end → Adds contents errors (without_last text ++ end) s t w (without_last x ++ end)
  replaced text end s t w x h some more =
      let long = length-append w text in
      let waits = h.some (omega (arith, long, some)) in
      let both : (w ++ without_last text) ≡ h.out ++ without_last x =
      sym (without_last-append w text some) ∙ ap without_last h.text_is ∙ without_last-append h.out x waits in
      record {
        out = h.out;
        written = h.written;
        text_is = sym (append_assoc w (without_last text) end) ∙ ap (λ (l : List ℕ). l ++ end) both
            ∙ append_assoc h.out (without_last x) end;
        some = λ all. (let longer = length-append (without_last x) end in omega (arith, longer, more));
      }

  -- a row, whose end may be written in two pieces
  opened : (format : Format) → 0 < length (take 1 (closing format))
  opened Text = omega arith
  opened Tsv = omega arith
  opened Json = omega arith

  pub row-ended : (format : Format) (row : List Field) (s t u : Sink W) (w x y : List ℕ) →
      Adds contents errors (opening format ++ fields_text format row) s t w x → 0 < length (fields_text format row) →
      Adds contents errors (drop 1 (closing format)) t u (without_last x ++ take 1 (closing format)) y →
      Adds contents errors (row_text format row) s u w y
  row-ended format row s t u w x y h some end =
      let text = opening format ++ fields_text format row in
      let long = length-append (opening format) (fields_text format row) in
      added-is contents errors _ _ s u w y
      (append_assoc (without_last text) (take 1 (closing format)) (drop 1 (closing format))
      ∙ ap (λ (l : List ℕ). without_last text ++ l) (closing-parts format) ∙ row-is format row some)
      (added-both contents errors _ _ s t u w _ y
      (replaced text (take 1 (closing format)) s t w x h (omega (arith, long, some)) (opened format)) end)

  -- the names before the rows
  pub names-added : (format : Format) (names : List (List ℕ)) (s t : Sink W) (w x : List ℕ) → 0 < length names →
      Adds contents errors (names_text format names) s t w x →
      Adds contents errors (heading_text format names) s t w (names_ended format x)
  names-added format [] s t w x some h = absurd (omega (arith, some))
  names-added Text (n ∷ names) s t w x some h = added-is contents errors _ _ s t w x (none n names) h
    where
      none : (n : List ℕ) (names : List (List ℕ)) → names_text Text (n ∷ names) ≡ []
      none n [] = refl
      none n (m ∷ names) = none m names
  names-added Json (n ∷ names) s t w x some h = added-is contents errors _ _ s t w x (none n names) h
    where
      none : (n : List ℕ) (names : List (List ℕ)) → names_text Json (n ∷ names) ≡ []
      none n [] = refl
      none n (m ∷ names) = none m names
  names-added Tsv (n ∷ names) s t w x some h =
      let line : List ℕ = names_text Tsv (n ∷ names) in
      let long = length-append n (9 ∷ names_text Tsv names) in
      let whole = ap length (append_assoc n (9 ∷ []) (names_text Tsv names)) in
      added-is contents errors _ _ s t w _
      (ap (λ (l : List ℕ). l ++ codes "\n")
      (joined (λ (name : List ℕ). name) 9 [] (n ∷ names) (omega (arith, long, whole)) ∙ ap (join_with_byte 9) (map-same (n ∷ names))))
      (replaced line (codes "\n") s t w x h (omega (arith, long, whole)) (omega arith))
    where
      map-same : (names : List (List ℕ)) → map (λ (name : List ℕ). name) names ≡ names
      map-same [] = refl
      map-same (m ∷ names) = ap (λ (ms : List (List ℕ)). m ∷ ms) (map-same names)

-- the texts of items, one after another: of one more, and of all
module _ {A W : Type 0} (contents : W → Option (List ℕ)) (errors : W → Option ℕ) (text : A → List ℕ) (items : List A) (n : ℕ)
    (s t : Sink W) (w x : List ℕ) (so_far : Adds contents errors (flat_map text (take n items)) s t w x) where
  pub one-added : (none : A) (u : Sink W) (y : List ℕ) → n < length items →
      Adds contents errors (text (get_or items n none)) t u x y → Adds contents errors (flat_map text (take (n + 1) items)) s u w y
  one-added none u y below h =
      let item = get_or items n none in
      added-is contents errors _ _ s u w y
      (ap (λ (l : List ℕ). flat_map text (take n items) ++ l) (sym (append-nil (text item)))
      ∙ sym (flat_map-append text (take n items) (item ∷ []))
      ∙ ap (flat_map text) (sym (take_more items n none below)))
      (added-both contents errors _ _ s t u w x y so_far h)

  pub all-added : length items ≤ n → Adds contents errors (flat_map text items) s t w x
  all-added over = subst (λ l. Adds contents errors (flat_map text l) s t w x) (take_all n items over) so_far

-- ---- fields

-- a field is some text, if text lays it out by itself
pub some-field : (format : Format) (f : Field) (fields : List Field) → f.padding ≡ Apart → 0 < length (fields_text format (f ∷ fields))
some-field Text f fields apart =
    let long = length-append (padded f.padding f.columns) (fields_text Text fields) in
    let own : length (padded f.padding f.columns) ≡ length (f.columns ++ codes " ") = ap (λ p. length (padded p f.columns)) apart in
    let one = length-append f.columns (codes " ") in
    omega (arith, long, own, one)
some-field Tsv f fields apart =
    let long = length-append (cell f.shape f.columns ++ codes "\t") (fields_text Tsv fields) in
    let one = length-append (cell f.shape f.columns) (codes "\t") in
    omega (arith, long, one)
some-field Json f fields apart =
    let long = length-append (member f ++ codes ",") (fields_text Json fields) in
    let one = length-append (member f) (codes ",") in
    omega (arith, long, one)

module _ {W : Type 0} (contents : W → Option (List ℕ)) (errors : W → Option ℕ) (format : Format) where
  -- one field, and fields after fields
  pub field-added : (f : Field) (s t : Sink W) (w x : List ℕ) → Adds contents errors (field_text format f) s t w x →
      Adds contents errors (fields_text format (f ∷ [])) s t w x
  field-added f s t w x h = added-is contents errors _ _ s t w x (sym (append-nil (field_text format f))) h

  pub fields-added : (fs gs : List Field) (s t u : Sink W) (w x y : List ℕ) → Adds contents errors (fields_text format fs) s t w x →
      Adds contents errors (fields_text format gs) t u x y → Adds contents errors (fields_text format (fs ++ gs)) s u w y
  fields-added fs gs s t u w x y p q =
      added-is contents errors _ _ s u w y (sym (flat_map-append (field_text format) fs gs)) (added-both contents errors _ _ s t u w x y p q)

  -- a row, from its beginning to its end
  pub row-added : (row : List Field) (s t u v : Sink W) (w x y z : List ℕ) → 0 < length (fields_text format row) →
      Adds contents errors (opening format) s t w x → Adds contents errors (fields_text format row) t u x y →
      Adds contents errors (drop 1 (closing format)) u v (without_last y ++ take 1 (closing format)) z →
      Adds contents errors (row_text format row) s v w z
  row-added row s t u v w x y z some begin all end =
      row-ended contents errors format row s u v w y z (added-both contents errors _ _ s t u w x y begin all) some end

-- what has been added to nothing is written
module _ {W : Type 0} (contents : W → Option (List ℕ)) (errors : W → Option ℕ) where
  pub all-written : (text : List ℕ) (s t u : Sink W) (w x : List ℕ) → w ≡ [] → Adds contents errors text s t w x →
      IsAppended contents errors x t u → IsAppended contents errors text s u
  all-written text s t u w x none h last =
      text-is contents errors _ _ s u (ap (λ (l : List ℕ). l ++ text) none) (added-all contents errors text s t u w x h last)

-- fields for which there is room
module _ (format : Format) (old x y : List ℕ) where
  pub field-after : (f : Field) → x ≡ old ++ field_text format f → x ≡ old ++ fields_text format (f ∷ [])
  field-after f is = is ∙ ap (λ (l : List ℕ). old ++ l) (sym (append-nil (field_text format f)))

  pub fields-after : (fs gs : List Field) → x ≡ old ++ fields_text format fs → y ≡ x ++ fields_text format gs →
      y ≡ old ++ fields_text format (fs ++ gs)
  fields-after fs gs one other =
      other ∙ ap (λ (l : List ℕ). l ++ fields_text format gs) one ∙ append_assoc old (fields_text format fs) (fields_text format gs)
      ∙ ap (λ (l : List ℕ). old ++ l) (sym (flat_map-append (field_text format) fs gs))

-- three fields
module _ {W : Type 0} (contents : W → Option (List ℕ)) (errors : W → Option ℕ) (format : Format) where
  pub three-fields : (a b c : Field) (s t u v : Sink W) (w x y z : List ℕ) → Adds contents errors (field_text format a) s t w x →
      Adds contents errors (field_text format b) t u x y → Adds contents errors (field_text format c) u v y z →
      Adds contents errors (fields_text format (a ∷ b ∷ c ∷ [])) s v w z
  three-fields a b c s t u v w x y z one two three =
      fields-added contents errors format (a ∷ []) (b ∷ c ∷ []) s t v w x z (field-added contents errors format a s t w x one)
      (fields-added contents errors format (b ∷ []) (c ∷ []) t u v x y z (field-added contents errors format b t u x y two)
      (field-added contents errors format c u v y z three))

-- ---- names that are short

pub short-at : (names : List (Bor (List ℕ))) (i : ℕ) (none : Bor (List ℕ)) → IsTrue (are_short (texts names)) → i < length names →
    length (get_or names i none).now ≤ 100
short-at [] i none all below = absurd (omega (arith, below))
short-at (n ∷ names) zero none all below = leb-true (length n.now) 100 (and_parts (nat_le (length n.now) 100) _ all).0
short-at (n ∷ names) (suc i) none all below =
    short-at names i none (and_parts (nat_le (length n.now) 100) (are_short (texts names)) all).1 (omega (arith, below))

-- ---- a list in an object of JSON

-- texts with a comma after each are those with one between them, of which the last makes place for what ends them
pub commas : (before : List ℕ) (ts : List (List ℕ)) → 0 < length ts →
    without_last (before ++ flat_map (λ t. t ++ codes ",") ts) ≡ before ++ join_with_byte 44 ts
commas before [] some = absurd (omega (arith, some))
commas before (t ∷ ts) some =
    let long = length-append (t ++ codes ",") (flat_map (λ u. u ++ codes ",") ts) in
    let one = length-append t (codes ",") in
    joined (λ (u : List ℕ). u) 44 before (t ∷ ts) (omega (arith, long, one)) ∙ ap (λ us. before ++ join_with_byte 44 us) (same (t ∷ ts))
  where
    same : (us : List (List ℕ)) → map (λ (u : List ℕ). u) us ≡ us
    same [] = refl
    same (u ∷ us) = ap (λ (l : List (List ℕ)). u ∷ l) (same us)
