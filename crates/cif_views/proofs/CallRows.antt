-- The rows of trains and their calls, as they are added.
use Rattle.cif_views.proofs.Names.{List, Option, [], ap, append-nil, append_assoc, arith, call_names, call_text, codes, drop, fields_of_call, flat_map}
use Rattle.cif_views.proofs.Names.{flat_map-append, flat_map-map, length, length-append, length-map, listed_fields, map, nested_fields, no_call_text, refl, subst, sym}
use Rattle.cif_views.proofs.Names.{take, values_of, with_calls, without_calls, ℕ, ◌++◌, ◌<◌, ◌∙◌, ◌∷◌, ◌≡◌}
use Rattle.cif_views.proofs.RowNames.{Adds, Field, Format, Json, Text, Tsv, Value, added-both, added-is, closing, field_text, fields-added}
use Rattle.cif_views.proofs.RowNames.{fields_text, name_text, named, names_text, opening, row-added, row_text, some-field, text}
use Rattle.cif_columns.specs.declared.sink.Sink.{Sink}
use Rattle.cif_rows.proofs.NestedRows.{call-added, calls-added, row-with-calls-added}
use Rattle.cif_rows.proofs.NestedRows.{call_text as nested_text}
use Rattle.cif_rows.specs.Row.{absent, without_last}
use Rattle.cif_views.specs.Steps.Rows.{IsRowText}
use Rattle.cif_views.specs.declared.calls.CallColumns.{CallColumns}

-- fields that are some text, before others and behind them
pub some-first : (f : Format) (fs gs : List Field) → 0 < length (fields_text f fs) → 0 < length (fields_text f (fs ++ gs))
some-first f fs gs some =
    let both = ap length (flat_map-append (field_text f) fs gs) in
    let long = length-append (fields_text f fs) (fields_text f gs) in
    omega (arith, some, both, long)

pub some-later : (f : Format) (first : Field) (fs : List Field) → 0 < length (fields_text f fs) → 0 < length (fields_text f (first ∷ fs))
some-later f first fs some =
    let long = length-append (field_text f first) (fields_text f fs) in omega (arith, some, long)

-- those of a call
pub some-call : (f : Format) (c : CallColumns) → 0 < length (fields_text f (fields_of_call f (values_of c)))
some-call Text c = some-field Text (named (codes "call") (text c.record)) (drop 1 (listed_fields (values_of c))) refl
some-call Tsv c = some-field Tsv (named (codes "call") (text c.record)) (drop 1 (listed_fields (values_of c))) refl
some-call Json c = some-field Json (named (codes "record") (text c.record)) (drop 1 (nested_fields (values_of c))) refl

-- one more of all is done, or none is left
pub one-done : {X : Type 0} (all done left : List X) → done ++ left ≡ all → (x : X) (later : List X) → left ≡ x ∷ later →
    (done ++ (x ∷ [])) ++ later ≡ all
one-done all done left split x later first = append_assoc done (x ∷ []) later ∙ ap (λ xs. done ++ xs) (sym first) ∙ split

-- what is written of the items of items, one more at a time
pub more-of : {A B : Type 0} (write : B → List ℕ) (items : A → List B) (done : List A) (x : A) →
    flat_map write (flat_map items done) ++ flat_map write (items x) ≡ flat_map write (flat_map items (done ++ (x ∷ [])))
more-of write items done x =
    sym (flat_map-append write (flat_map items done) (items x))
    ∙ ap (flat_map write) (ap (λ l. flat_map items done ++ l) (sym (append-nil (items x))) ∙ sym (flat_map-append items done (x ∷ [])))

-- a first one, some on the way, and a last one
pub first-and-last : {B : Type 0} (write : B → List ℕ) (first : B) (between : List B) (last : B) →
    write first ++ (flat_map write between ++ write last) ≡ flat_map write (first ∷ (between ++ (last ∷ [])))
first-and-last write first between last =
    ap (λ (l : List ℕ). write first ++ l)
    (ap (λ (l : List ℕ). flat_map write between ++ l) (sym (append-nil (write last))) ∙ sym (flat_map-append write between (last ∷ [])))

-- the fields of a row as some text, which is added
pub some-fields : (f : Format) (row : List Field) (kept : List ℕ) → IsRowText f row kept → 0 < length (fields_text f row)
some-fields f row kept h = subst (λ (l : List ℕ). 0 < length l) h.is h.some

pub kept-added : {W : Type 0} (contents : W → Option (List ℕ)) (errors : W → Option ℕ) (f : Format) (row : List Field) (kept : List ℕ)
    (s t : Sink W) (w x : List ℕ) → IsRowText f row kept → Adds contents errors kept s t w x →
    Adds contents errors (fields_text f row) s t w x
kept-added contents errors f row kept s t w x h adds = added-is contents errors _ _ s t w x h.is adds

module _ {W : Type 0} (contents : W → Option (List ℕ)) (errors : W → Option ℕ) (f : Format) where
  -- a call: its line, a row with its fields, or its object
  pub text-call : f ≡ Text → (row : List Field) (call : List Value) (s t u v : Sink W) (w x y z : List ℕ) →
      0 < length (fields_text f (fields_of_call f call)) → Adds contents errors (opening f) s t w x →
      Adds contents errors (fields_text f (fields_of_call f call)) t u x y →
      Adds contents errors (drop 1 (closing f)) u v (without_last y ++ take 1 (closing f)) z →
      Adds contents errors (call_text f row call) s v w z
  text-call e row call s t u v w x y z some begin all end =
      let same : row_text f (fields_of_call f call) ≡ call_text f row call = rw e refl in
      added-is contents errors _ _ s v w z same (row-added contents errors f (fields_of_call f call) s t u v w x y z some begin all end)

  pub tsv-call : f ≡ Tsv → (row : List Field) (call : List Value) (s t u v e : Sink W) (w x y z a : List ℕ) →
      0 < length (fields_text f row) → Adds contents errors (opening f) s t w x → Adds contents errors (fields_text f row) t u x y →
      Adds contents errors (fields_text f (fields_of_call f call)) u v y z →
      Adds contents errors (drop 1 (closing f)) v e (without_last z ++ take 1 (closing f)) a →
      Adds contents errors (call_text f row call) s e w a
  tsv-call is row call s t u v e w x y z a some begin own all end =
      let same : row_text f (row ++ fields_of_call f call) ≡ call_text f row call = rw is refl in
      added-is contents errors _ _ s e w a same
      (row-added contents errors f (row ++ fields_of_call f call) s t v e w x z a (some-first f row (fields_of_call f call) some) begin
      (fields-added contents errors f row (fields_of_call f call) t u v x y z own all) end)

  pub json-call : f ≡ Json → (row : List Field) (call : List Value) (s t u v : Sink W) (w x y z : List ℕ) →
      0 < length (fields_text f (fields_of_call f call)) → Adds contents errors (codes "{") s t w x →
      Adds contents errors (fields_text f (fields_of_call f call)) t u x y →
      Adds contents errors (codes ",") u v (without_last y ++ codes "}") z →
      Adds contents errors (call_text f row call) s v w z
  json-call is row call s t u v w x y z some begin all end =
      let own : fields_text f (fields_of_call f call) ≡ fields_text Json (nested_fields call) = rw is refl in
      let same : nested_text (nested_fields call) ≡ call_text f row call = rw is refl in
      let long : length (fields_text f (fields_of_call f call)) ≡ length (fields_text Json (nested_fields call)) = ap length own in
      added-is contents errors _ _ s v w z same
      (call-added contents errors (nested_fields call) s t u v w x y z (omega (arith, some, long)) begin
      (added-is contents errors _ _ t u x y own all) end)

  -- a row with its calls
  pub text-with-calls : f ≡ Text → (row : List Field) (calls : List (List Value)) (s t u v e : Sink W) (w x y z a : List ℕ) →
      0 < length (fields_text f row) → Adds contents errors (opening f) s t w x → Adds contents errors (fields_text f row) t u x y →
      Adds contents errors (drop 1 (closing f)) u v (without_last y ++ take 1 (closing f)) z →
      Adds contents errors (flat_map (call_text f row) calls) v e z a → Adds contents errors (with_calls f row calls) s e w a
  text-with-calls is row calls s t u v e w x y z a some begin all end more =
      let same : row_text f row ++ flat_map (call_text f row) calls ≡ with_calls f row calls = rw is refl in
      added-is contents errors _ _ s e w a same
      (added-both contents errors _ _ s v e w z a (row-added contents errors f row s t u v w x y z some begin all end) more)

  pub tsv-with-calls : f ≡ Tsv → (row : List Field) (calls : List (List Value)) (s t : Sink W) (w x : List ℕ) →
      Adds contents errors (flat_map (call_text f row) calls) s t w x → Adds contents errors (with_calls f row calls) s t w x
  tsv-with-calls is row calls s t w x all =
      let same : flat_map (call_text f row) calls ≡ with_calls f row calls = rw is refl in
      added-is contents errors _ _ s t w x same all

  pub json-with-calls : f ≡ Json → (row : List Field) (calls : List (List Value)) (s t u v e g h : Sink W) (w x y z a b c : List ℕ) →
      0 < length calls → Adds contents errors (opening f) s t w x → Adds contents errors (fields_text f row) t u x y →
      Adds contents errors (codes "\"calls\":[") u v y z → Adds contents errors (flat_map (call_text f row) calls) v e z a →
      Adds contents errors (codes ",") e g (without_last a ++ codes "]") b →
      Adds contents errors (drop 1 (closing f)) g h (without_last b ++ take 1 (closing f)) c →
      Adds contents errors (with_calls f row calls) s h w c
  json-with-calls is row calls s t u v e g h w x y z a b c some begin own start all end last =
      let nested : List (List Field) = map nested_fields calls in
      let whole : flat_map (call_text f row) calls ≡ flat_map nested_text nested = rw is (sym (flat_map-map nested_text nested_fields calls)) in
      let before : opening f ≡ opening Json = ap opening is in
      let fields : fields_text f row ≡ fields_text Json row = ap (λ x. fields_text x row) is in
      let same : with_calls Json row calls ≡ with_calls f row calls = rw is refl in
      let closed : Adds contents errors (drop 1 (closing Json)) g h (without_last b ++ take 1 (closing Json)) c = rw is at last in
      let many = length-map calls nested_fields in
      added-is contents errors _ _ s h w c same
      (row-with-calls-added contents errors row nested s t u g h w x y b c (added-is contents errors _ _ s t w x before begin)
      (added-is contents errors _ _ t u x y fields own)
      (calls-added contents errors nested u v e g y z a b (omega (arith, some, many)) start
      (added-is contents errors _ _ v e z a whole all) end)
      closed)

-- a row without calls where calls are listed
module _ {W : Type 0} (contents : W → Option (List ℕ)) (errors : W → Option ℕ) where
  pub without-calls-added : (f : Format) (row : List Field) (s t u v e : Sink W) (w x y z a : List ℕ) →
      0 < length (fields_text f row) → Adds contents errors (opening f) s t w x → Adds contents errors (fields_text f row) t u x y →
      Adds contents errors (no_call_text f) u v y z →
      Adds contents errors (drop 1 (closing f)) v e (without_last z ++ take 1 (closing f)) a →
      Adds contents errors (without_calls f row) s e w a
  without-calls-added Text row s t u v e w x y z a some begin all none end =
      row-added contents errors Text row s t v e w x z a some begin
      (added-is contents errors _ _ t v x z (append-nil (fields_text Text row)) (added-both contents errors _ _ t u v x y z all none)) end
  without-calls-added Tsv row s t u v e w x y z a some begin all none end =
      row-added contents errors Tsv (row ++ map absent call_names) s t v e w x z a (some-first Tsv row (map absent call_names) some) begin
      (fields-added contents errors Tsv row (map absent call_names) t u v x y z all none) end
  without-calls-added Json row s t u v e w x y z a some begin all none end =
      row-with-calls-added contents errors row [] s t u v e w x y z a begin all none end

-- names after names
module _ {W : Type 0} (contents : W → Option (List ℕ)) (errors : W → Option ℕ) (f : Format) where
  pub names-both : (a b : List (List ℕ)) (s t u : Sink W) (w x y : List ℕ) → Adds contents errors (names_text f a) s t w x →
      Adds contents errors (names_text f b) t u x y → Adds contents errors (names_text f (a ++ b)) s u w y
  names-both a b s t u w x y p q =
      added-is contents errors _ _ s u w y (sym (flat_map-append (name_text f) a b)) (added-both contents errors _ _ s t u w x y p q)
