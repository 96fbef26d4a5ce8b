-- The text of rows tells their cells: as a line with tabs, and as an object of JSON.
use Rattle.cif_rows.proofs.Names.{All, All-cons, All-head, All-nil, All-tail, ArePrintable, Bool, Format, IsPrintable, Json, List, Number}
use Rattle.cif_rows.proofs.Names.{Text, Tsv, [], ap, append_assoc, arith, codes, drop, escape, false, false≢true, flat_map, get_or, if◌then◌else◌, is_escaped}
use Rattle.cif_rows.proofs.Names.{join_with_byte, length, length-append, map, member, padded, refl, row_text, subst, sym, text_value, true, value_text, without_last, ℕ}
use Rattle.cif_rows.proofs.Names.{◌++◌, ◌<◌, ◌∙◌, ◌∷◌, ◌≡◌}
use Rattle.std.{proofs.Common.◌≢◌, proofs.lemmas.List.append_cancel_left}
use Rattle.cif_rows.specs.Row.{Field, IsDigit, IsSaid, Value, cell_of, named, number_value, trimmed, long_date}
use Rattle.cif_rows.specs.declared.shape.Shape.TheVariants.{Date, Trimmed, Whole}

-- ---- a text, cut at a byte that no cell has

module _ (Is : ℕ → Type 0) (byte : ℕ) (not : Is byte → ⊥) where
  pub cut : (a b s t : List ℕ) → All Is a → All Is b → a ++ (byte ∷ s) ≡ b ++ (byte ∷ t) → (a ≡ b) × (s ≡ t)
  cut [] [] s t one other same = (refl, ap (drop 1) same)
  cut [] (y ∷ b) s t one other same =
      let is : y ≡ byte = sym (ap (λ (l : List ℕ). get_or l 0 0) same) in absurd (not (subst Is is (All-head Is y b other)))
  cut (x ∷ a) [] s t one other same =
      let is : x ≡ byte = ap (λ (l : List ℕ). get_or l 0 0) same in absurd (not (subst Is is (All-head Is x a one)))
  cut (x ∷ a) (y ∷ b) s t one other same =
      let rest = cut a b s t (All-tail Is x a one) (All-tail Is y b other) (ap (drop 1) same) in
      let first : x ≡ y = ap (λ (l : List ℕ). get_or l 0 0) same in
      ((λ i. first i ∷ rest.0 i), rest.1)

no-control : (byte : ℕ) → byte < 32 → IsPrintable byte → ⊥
no-control byte low is = let from = is.0 in omega (arith, low, from)

-- what is said is printable
digits-printable : (ds : List ℕ) → All IsDigit ds → ArePrintable ds
digits-printable [] all = All-nil IsPrintable
digits-printable (d ∷ ds) all =
    let digit = All-head IsDigit d ds all in
    let from = digit.0 in
    let upto = digit.1 in
    All-cons IsPrintable d ds (omega (arith, from), omega (arith, upto)) (digits-printable ds (All-tail IsDigit d ds all))

pub said-printable : (v : Value) → IsSaid v → ArePrintable (cell_of v)
said-printable (Number, columns) said = digits-printable columns said
said-printable (Trimmed, columns) said = said
said-printable (Whole, columns) said = said
said-printable (Date, columns) said = said

-- ---- a text of JSON, cut at the quote after it

escape-is : (b : ℕ) (escaped : Bool) (rest : List ℕ) → is_escaped b ≡ escaped →
    escape b ++ rest ≡ (if escaped then 92 ∷ b ∷ [] else b ∷ []) ++ rest
escape-is b escaped rest is = ap (λ (e : Bool). (if e then 92 ∷ b ∷ [] else b ∷ []) ++ rest) is

first-of : (a b : List ℕ) → a ≡ b → get_or a 0 0 ≡ get_or b 0 0
first-of a b same = ap (λ (l : List ℕ). get_or l 0 0) same

plain-differs : (b other : ℕ) → is_escaped b ≡ false → is_escaped other ≡ true → b ≡ other → ⊥
plain-differs b other is has same = false≢true (sym is ∙ ap is_escaped same ∙ has)

-- the first byte of an escaped one is no quote
no-quote : (b : ℕ) (escaped : Bool) (rest more : List ℕ) → is_escaped b ≡ escaped → escape b ++ rest ≡ 34 ∷ more → ⊥
no-quote b true rest more is same =
    let first = first-of _ _ (sym (escape-is b true rest is) ∙ same) in omega (arith, first)
no-quote b false rest more is same =
    plain-differs b 34 is refl (first-of _ _ (sym (escape-is b false rest is) ∙ same))

one-byte : (x y : ℕ) (one other : Bool) (p q : List ℕ) → is_escaped x ≡ one → is_escaped y ≡ other → escape x ++ p ≡ escape y ++ q →
    (x ≡ y) × (p ≡ q)
one-byte x y true true p q is has same =
    let both = sym (escape-is x true p is) ∙ same ∙ escape-is y true q has in
    (ap (λ (l : List ℕ). get_or l 1 0) both, ap (drop 2) both)
one-byte x y true false p q is has same =
    let both = sym (escape-is x true p is) ∙ same ∙ escape-is y false q has in
    absurd (plain-differs y 92 has refl (sym (first-of _ _ both)))
one-byte x y false true p q is has same =
    let both = sym (escape-is x false p is) ∙ same ∙ escape-is y true q has in
    absurd (plain-differs x 92 is refl (first-of _ _ both))
one-byte x y false false p q is has same =
    let both = sym (escape-is x false p is) ∙ same ∙ escape-is y false q has in
    (first-of _ _ both, ap (drop 1) both)

escaped-cut : (a b s t : List ℕ) → flat_map escape a ++ (34 ∷ s) ≡ flat_map escape b ++ (34 ∷ t) → (a ≡ b) × (s ≡ t)
escaped-cut [] [] s t same = (refl, ap (drop 1) same)
escaped-cut [] (y ∷ b) s t same =
    absurd (no-quote y (is_escaped y) (flat_map escape b ++ (34 ∷ t)) s refl
    (sym (same ∙ append_assoc (escape y) (flat_map escape b) (34 ∷ t))))
escaped-cut (x ∷ a) [] s t same =
    absurd (no-quote x (is_escaped x) (flat_map escape a ++ (34 ∷ s)) t refl
    (sym (append_assoc (escape x) (flat_map escape a) (34 ∷ s)) ∙ same))
escaped-cut (x ∷ a) (y ∷ b) s t same =
    let here = one-byte x y (is_escaped x) (is_escaped y) (flat_map escape a ++ (34 ∷ s)) (flat_map escape b ++ (34 ∷ t)) refl refl
    (sym (append_assoc (escape x) (flat_map escape a) (34 ∷ s)) ∙ same ∙ append_assoc (escape y) (flat_map escape b) (34 ∷ t)) in
    let rest = escaped-cut a b s t here.1 in
    let first = here.0 in
    ((λ i. first i ∷ rest.0 i), rest.1)

-- ---- a value of JSON, cut at the byte after it

-- what a value is: its text, by its cell
pub data Said (text cell : List ℕ) : Type 0 where
  none : text ≡ codes "null" → cell ≡ [] → Said text cell
  quote : text ≡ 34 ∷ (flat_map escape cell ++ (34 ∷ [])) → Said text cell
  digits : text ≡ cell → 0 < length cell → All IsDigit cell → Said text cell

text-said : (cell : List ℕ) → Said (text_value cell) cell
text-said [] = none refl refl
text-said (b ∷ text) = quote refl

number-said : (cell : List ℕ) → All IsDigit cell → Said (number_value cell) cell
number-said [] all = none refl refl
number-said (b ∷ ds) all = digits refl (omega arith) all

value-said : (v : Value) → IsSaid v → Said (value_text v.0 (cell_of v)) (cell_of v)
value-said (Number, columns) said = number-said columns said
value-said (Trimmed, columns) said = text-said (trimmed columns)
value-said (Whole, columns) said = text-said columns
value-said (Date, columns) said = text-said (long_date columns)

first-digit : (cell rest : List ℕ) (b : ℕ) → 0 < length cell → All IsDigit cell → get_or (cell ++ rest) 0 0 ≡ b → IsDigit b
first-digit [] rest b some all is = absurd (omega (arith, some))
first-digit (d ∷ ds) rest b some all is = subst IsDigit is (All-head IsDigit d ds all)

no-digit : (b : ℕ) → 57 < b → IsDigit b → ⊥
no-digit b high is = let upto = is.1 in omega (arith, high, upto)

-- the byte after it is no digit: a comma or a brace
module _ (end : ℕ) (not : IsDigit end → ⊥) (x y c d s t : List ℕ) (same : x ++ (end ∷ s) ≡ y ++ (end ∷ t)) where
  texts : (p q : List ℕ) → x ≡ p → y ≡ q → p ++ (end ∷ s) ≡ q ++ (end ∷ t)
  texts p q one other =
      sym (ap (λ (l : List ℕ). l ++ (end ∷ s)) one) ∙ same ∙ ap (λ (l : List ℕ). l ++ (end ∷ t)) other

  pub value-cut : Said x c → Said y d → (c ≡ d) × (s ≡ t)
  value-cut (none p e) (none q f) = (e ∙ sym f, ap (drop 5) (texts _ _ p q))
  value-cut (none p e) (quote q) = absurd (let first = first-of _ _ (texts _ _ p q) in omega (arith, first))
  value-cut (none p e) (digits q some all) =
      absurd (no-digit 110 (omega arith) (first-digit d (end ∷ t) 110 some all (sym (first-of _ _ (texts _ _ p q)))))
  value-cut (quote p) (none q f) = absurd (let first = first-of _ _ (texts _ _ p q) in omega (arith, first))
  value-cut (quote p) (quote q) =
      let both = ap (drop 1) (texts _ _ p q) in
      let here = escaped-cut c d (end ∷ s) (end ∷ t)
      (sym (append_assoc (flat_map escape c) (34 ∷ []) (end ∷ s)) ∙ both ∙ append_assoc (flat_map escape d) (34 ∷ []) (end ∷ t)) in
      (here.0, ap (drop 1) here.1)
  value-cut (quote p) (digits q some all) =
      absurd (let digit = first-digit d (end ∷ t) 34 some all (sym (first-of _ _ (texts _ _ p q))) in let from = digit.0 in omega (arith, from))
  value-cut (digits p some all) (none q f) =
      absurd (no-digit 110 (omega arith) (first-digit c (end ∷ s) 110 some all (first-of _ _ (texts _ _ p q))))
  value-cut (digits p some all) (quote q) =
      absurd (let digit = first-digit c (end ∷ s) 34 some all (first-of _ _ (texts _ _ p q)) in let from = digit.0 in omega (arith, from))
  value-cut (digits p some all) (digits q more every) = cut IsDigit end not c d s t all every (texts _ _ p q)

-- ---- rows

abbrev pub value_of : Field → Value
value_of f = (f.shape, f.columns)

abbrev pub cell_in : Field → List ℕ
cell_in f = cell_of (value_of f)

abbrev pub IsSaidField : Field → Type 0
IsSaidField f = IsSaid (value_of f)

abbrev pub AreSaid : List Field → Type 0
AreSaid row = All IsSaidField row

abbrev name_of : Field → List ℕ
name_of f = f.name

-- a member, up to its value
member-cut : (f g : Field) (end : ℕ) (s t : List ℕ) → (IsDigit end → ⊥) → f.name ≡ g.name → IsSaid (value_of f) → IsSaid (value_of g) →
    member f ++ (end ∷ s) ≡ member g ++ (end ∷ t) → (cell_in f ≡ cell_in g) × (s ≡ t)
member-cut f g end s t not named one other same =
    let x = value_text f.shape (cell_in f) in
    let y = value_text g.shape (cell_in g) in
    let apart : (n v r : List ℕ) → ((34 ∷ n) ++ (codes "\":" ++ v)) ++ r ≡ (34 ∷ n) ++ (codes "\":" ++ (v ++ r)) =
    λ n v r. append_assoc (34 ∷ n) (codes "\":" ++ v) r in
    let both : (34 ∷ g.name) ++ (codes "\":" ++ (x ++ (end ∷ s))) ≡ (34 ∷ g.name) ++ (codes "\":" ++ (y ++ (end ∷ t))) =
    ap (λ (n : List ℕ). (34 ∷ n) ++ (codes "\":" ++ (x ++ (end ∷ s)))) (sym named)
    ∙ sym (apart f.name x (end ∷ s)) ∙ same ∙ apart g.name y (end ∷ t) in
    value-cut end not x y (cell_in f) (cell_in g) s t (ap (drop 2) (append_cancel_left (34 ∷ g.name) _ _ both))
    (value-said (value_of f) one) (value-said (value_of g) other)

no-comma : IsDigit 44 → ⊥
no-comma is = let from = is.0 in omega (arith, from)

no-brace : IsDigit 125 → ⊥
no-brace is = let upto = is.1 in omega (arith, upto)

members-cut : (a b : List Field) (s t : List ℕ) → map name_of a ≡ map name_of b → AreSaid a → AreSaid b → 0 < length a →
    join_with_byte 44 (map member a) ++ (125 ∷ s) ≡ join_with_byte 44 (map member b) ++ (125 ∷ t) →
    (map cell_in a ≡ map cell_in b) × (s ≡ t)
members-cut [] b s t names one other some same = absurd (omega (arith, some))
members-cut (f ∷ a) [] s t names one other some same = absurd (let long = ap length names in omega (arith, long))
members-cut (f ∷ []) (g ∷ []) s t names one other some same =
    let here = member-cut f g 125 s t no-brace (ap (λ (ns : List (List ℕ)). get_or ns 0 []) names) (All-head IsSaidField f [] one)
    (All-head IsSaidField g [] other) same in
    ((λ i. here.0 i ∷ []), here.1)
members-cut (f ∷ []) (g ∷ h ∷ b) s t names one other some same = absurd (let long = ap length names in omega (arith, long))
members-cut (f ∷ h ∷ a) (g ∷ []) s t names one other some same = absurd (let long = ap length names in omega (arith, long))
members-cut (f ∷ h ∷ a) (g ∷ k ∷ b) s t names one other some same =
    let m = join_with_byte 44 (map member (h ∷ a)) in
    let n = join_with_byte 44 (map member (k ∷ b)) in
    let here = member-cut f g 44 (m ++ (125 ∷ s)) (n ++ (125 ∷ t)) no-comma (ap (λ (ns : List (List ℕ)). get_or ns 0 []) names)
    (All-head IsSaidField f (h ∷ a) one) (All-head IsSaidField g (k ∷ b) other)
    (sym (append_assoc (member f) (44 ∷ m) (125 ∷ s)) ∙ same ∙ append_assoc (member g) (44 ∷ n) (125 ∷ t)) in
    let rest = members-cut (h ∷ a) (k ∷ b) s t (ap (drop 1) names) (All-tail IsSaidField f (h ∷ a) one) (All-tail IsSaidField g (k ∷ b) other) (omega arith)
    here.1 in
    ((λ i. here.0 i ∷ rest.0 i), rest.1)

-- cells with a tab between them
cells-cut : (a b : List Field) (s t : List ℕ) → map name_of a ≡ map name_of b → AreSaid a → AreSaid b → 0 < length a →
    join_with_byte 9 (map cell_in a) ++ (10 ∷ s) ≡ join_with_byte 9 (map cell_in b) ++ (10 ∷ t) →
    (map cell_in a ≡ map cell_in b) × (s ≡ t)
cells-cut [] b s t names one other some same = absurd (omega (arith, some))
cells-cut (f ∷ a) [] s t names one other some same = absurd (let long = ap length names in omega (arith, long))
cells-cut (f ∷ []) (g ∷ []) s t names one other some same =
    let here = cut IsPrintable 10 (no-control 10 (omega arith)) (cell_in f) (cell_in g) s t
    (said-printable (value_of f) (All-head IsSaidField f [] one)) (said-printable (value_of g) (All-head IsSaidField g [] other)) same in
    ((λ i. here.0 i ∷ []), here.1)
cells-cut (f ∷ []) (g ∷ h ∷ b) s t names one other some same = absurd (let long = ap length names in omega (arith, long))
cells-cut (f ∷ h ∷ a) (g ∷ []) s t names one other some same = absurd (let long = ap length names in omega (arith, long))
cells-cut (f ∷ h ∷ a) (g ∷ k ∷ b) s t names one other some same =
    let m = join_with_byte 9 (map cell_in (h ∷ a)) in
    let n = join_with_byte 9 (map cell_in (k ∷ b)) in
    let here = cut IsPrintable 9 (no-control 9 (omega arith)) (cell_in f) (cell_in g) (m ++ (10 ∷ s)) (n ++ (10 ∷ t))
    (said-printable (value_of f) (All-head IsSaidField f (h ∷ a) one)) (said-printable (value_of g) (All-head IsSaidField g (k ∷ b) other))
    (sym (append_assoc (cell_in f) (9 ∷ m) (10 ∷ s)) ∙ same ∙ append_assoc (cell_in g) (9 ∷ n) (10 ∷ t)) in
    let rest = cells-cut (h ∷ a) (k ∷ b) s t (ap (drop 1) names) (All-tail IsSaidField f (h ∷ a) one) (All-tail IsSaidField g (k ∷ b) other) (omega arith)
    here.1 in
    ((λ i. here.0 i ∷ rest.0 i), rest.1)

-- a row of a table, and what stands after it
pub first-row : (format : Format) → format ≢ Text → (a b : List Field) (s t : List ℕ) → map (λ f. f.name) a ≡ map (λ f. f.name) b →
    AreSaid a → AreSaid b → 0 < length a → row_text format a ++ s ≡ row_text format b ++ t → (map cell_in a ≡ map cell_in b) × (s ≡ t)
first-row Text not a b s t names one other some same = absurd (not refl)
first-row Tsv not a b s t names one other some same =
    cells-cut a b s t names one other some
    (sym (append_assoc (join_with_byte 9 (map cell_in a)) (10 ∷ []) s) ∙ same ∙ append_assoc (join_with_byte 9 (map cell_in b)) (10 ∷ []) t)
first-row Json not a b s t names one other some same =
    let apart : (m r : List ℕ) → (codes "{" ++ (m ++ codes "}\n")) ++ r ≡ 123 ∷ (m ++ (125 ∷ (10 ∷ r))) =
    λ m r. ap (λ (l : List ℕ). 123 ∷ l) (append_assoc m (codes "}\n") r) in
    let here = members-cut a b (10 ∷ s) (10 ∷ t) names one other some
    (ap (drop 1) (sym (apart (join_with_byte 44 (map member a)) s) ∙ same ∙ apart (join_with_byte 44 (map member b)) t)) in
    (here.0, ap (drop 1) here.1)

-- it has some text
pub row-filled : (format : Format) (row : List Field) → 0 < length (row_text format row)
row-filled Text row =
    let long = length-append (without_last (flat_map (λ f. padded f.padding f.columns) row)) (codes "\n") in omega (arith, long)
row-filled Tsv row = let long = length-append (join_with_byte 9 (map cell_in row)) (codes "\n") in omega (arith, long)
row-filled Json row = omega arith
