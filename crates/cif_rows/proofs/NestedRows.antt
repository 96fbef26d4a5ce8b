-- A row of JSON with its calls, as they are added.
use Rattle.cif_rows.proofs.Names.{Adds, Field, Json, List, Option, Sink, [], ap, append_assoc, arith, closing, codes, drop, fields_text}
use Rattle.cif_rows.proofs.Names.{flat_map, flat_map-append, join_with_byte, length, length-append, map, member, opening, sym, take, without_last}
use Rattle.cif_rows.proofs.Names.{ℕ, ◌++◌, ◌<◌, ◌∙◌, ◌∷◌, ◌≡◌, append-nil}
use Rattle.cif_rows.proofs.AddedTexts.{added-both, added-is, commas, joined, replaced}
use Rattle.cif_rows.specs.Row.{calls_member, object_text, row_with_calls}
use Rattle.std.proofs.lemmas.List.Folds.{flat_map-map}

-- a call, and a comma after it
abbrev pub call_text : List Field → List ℕ
call_text call = object_text call ++ codes ","

some-object : (call : List Field) → 0 < length (call_text call)
some-object call =
    let long = length-append (object_text call) (codes ",") in omega (arith, long)

module _ {W : Type 0} (contents : W → Option (List ℕ)) (errors : W → Option ℕ) where
  -- one call, from its beginning to its end
  pub call-added : (call : List Field) (s t u v : Sink W) (w x y z : List ℕ) → 0 < length (fields_text Json call) →
      Adds contents errors (codes "{") s t w x → Adds contents errors (fields_text Json call) t u x y →
      Adds contents errors (codes ",") u v (without_last y ++ codes "}") z → Adds contents errors (call_text call) s v w z
  call-added call s t u v w x y z some begin all end =
      let long = length-append (codes "{") (fields_text Json call) in
      let text = codes "{" ++ fields_text Json call in
      added-is contents errors _ _ s v w z
      (ap (λ (l : List ℕ). (l ++ codes "}") ++ codes ",") (joined member 44 (codes "{") call some)
      ∙ ap (λ (l : List ℕ). l ++ codes ",") (append_assoc (codes "{") (join_with_byte 44 (map member call)) (codes "}")))
      (added-both contents errors _ _ s u v w _ z
      (replaced contents errors text (codes "}") s u w y (added-both contents errors _ _ s t u w x y begin all)
      (omega (arith, long, some)) (omega arith)) end)

  -- all calls
  pub calls-added : (calls : List (List Field)) (s t u v : Sink W) (w x y z : List ℕ) → 0 < length calls →
      Adds contents errors (codes "\"calls\":[") s t w x → Adds contents errors (flat_map call_text calls) t u x y →
      Adds contents errors (codes ",") u v (without_last y ++ codes "]") z →
      Adds contents errors (calls_member calls ++ codes ",") s v w z
  calls-added [] s t u v w x y z some begin all end = absurd (omega (arith, some))
  calls-added (call ∷ calls) s t u v w x y z some begin all end =
      let text : List ℕ = flat_map call_text (call ∷ calls) in
      let objects : List (List ℕ) = map object_text (call ∷ calls) in
      let one = some-object call in
      let more = length-append (call_text call) (flat_map call_text calls) in
      let long = length-append (codes "\"calls\":[") text in
      let whole = codes "\"calls\":[" ++ text in
      let is : without_last whole ≡ codes "\"calls\":[" ++ join_with_byte 44 objects =
      ap (λ (l : List ℕ). without_last (codes "\"calls\":[" ++ l)) (sym (flat_map-map (λ (o : List ℕ). o ++ codes ",") object_text (call ∷ calls)))
      ∙ commas (codes "\"calls\":[") objects (omega arith) in
      added-is contents errors _ _ s v w z
      (ap (λ (l : List ℕ). (l ++ codes "]") ++ codes ",") is
      ∙ ap (λ (l : List ℕ). l ++ codes ",") (append_assoc (codes "\"calls\":[") (join_with_byte 44 objects) (codes "]")))
      (added-both contents errors _ _ s u v w _ z
      (replaced contents errors whole (codes "]") s u w y (added-both contents errors _ _ s t u w x y begin all)
      (omega (arith, long, one, more)) (omega arith)) end)

  -- a row with its calls
  pub row-with-calls-added : (row : List Field) (calls : List (List Field)) (s t u v e : Sink W) (w x y z a : List ℕ) →
      Adds contents errors (opening Json) s t w x → Adds contents errors (fields_text Json row) t u x y →
      Adds contents errors (calls_member calls ++ codes ",") u v y z →
      Adds contents errors (drop 1 (closing Json)) v e (without_last z ++ take 1 (closing Json)) a →
      Adds contents errors (row_with_calls row calls) s e w a
  row-with-calls-added row calls s t u v e w x y z a begin all last end =
      let members : List (List ℕ) = map member row ++ (calls_member calls ∷ []) in
      let own : List ℕ = fields_text Json row in
      let more : List ℕ = calls_member calls ++ codes "," in
      let text : List ℕ = codes "{" ++ (own ++ more) in
      let comma : List ℕ → List ℕ = λ (m : List ℕ). m ++ codes "," in
      let flat : flat_map comma members ≡ own ++ more =
      flat_map-append comma (map member row) (calls_member calls ∷ [])
      ∙ ap (λ (l : List ℕ). l ++ flat_map comma (calls_member calls ∷ [])) (flat_map-map comma member row)
      ∙ ap (λ (l : List ℕ). own ++ l) (append-nil more) in
      let some : 0 < length members = (let long = length-append (map member row) (calls_member calls ∷ []) in omega (arith, long)) in
      let is : without_last text ≡ codes "{" ++ join_with_byte 44 members =
      ap (λ (l : List ℕ). without_last (codes "{" ++ l)) (sym flat) ∙ commas (codes "{") members some in
      let l1 = length-append (codes "{") (own ++ more) in
      added-is contents errors _ _ s e w a
      (ap (λ (l : List ℕ). (l ++ codes "}") ++ codes "\n") is
      ∙ append_assoc (codes "{" ++ join_with_byte 44 members) (codes "}") (codes "\n")
      ∙ append_assoc (codes "{") (join_with_byte 44 members) (codes "}\n"))
      (added-both contents errors _ _ s v e w _ a
      (replaced contents errors text (codes "}") s v w z
      (added-both contents errors _ _ s t v w x z begin (added-both contents errors _ _ t u v x y z all last))
      (omega (arith, l1)) (omega arith)) end)
