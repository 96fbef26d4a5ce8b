-- Texts of JSON.
use Rattle.std.proofs.Common.{max}
use Rattle.std.proofs.Math.Nat.{le-max_left, le-max_right}
use Rattle.cif_rows.proofs.Names.{All, All-append, All-cons, All-head, All-nil, All-tail, Bool, IsPlain, IsTrue, List, [], ap, append_assoc, codes}
use Rattle.cif_rows.proofs.Names.{arith, escape, false, false≢true, flat_map, get_or, if◌then◌else◌, is_escaped, length, refl, subst, sym, take, take_more}
use Rattle.cif_rows.proofs.Names.{text_value, true, ℕ, ◌++◌, ◌+◌, ◌<◌, ◌∙◌, ◌∷◌, ◌≡◌}

-- bytes that have no backslash before them
abbrev mark-of : Bool → ℕ
mark-of escaped = if escaped then 1 else 0

plain-byte : (b : ℕ) (escaped : Bool) → escaped ≡ is_escaped b → mark-of escaped ≡ 0 → IsPlain b
plain-byte b false is none = rw (← is) refl
plain-byte b true is none = absurd (omega (arith, none))

pub plain-more : (xs : List ℕ) (n escaped mark new : ℕ) → n < length xs →
    mark ≡ mark-of (is_escaped (get_or xs n 0)) → new ≡ max escaped mark → (escaped ≡ 0 → All IsPlain (take n xs)) →
    new ≡ 0 → All IsPlain (take (n + 1) xs)
plain-more xs n escaped mark new below by is so_far none =
    let b = get_or xs n 0 in
    let one = le-max_left escaped mark in
    let other = le-max_right escaped mark in
    subst (All IsPlain) (sym (take_more xs n 0 below))
    (All-append IsPlain (take n xs) (b ∷ []) (so_far (omega (arith, one, is, none)))
    (All-cons IsPlain b [] (plain-byte b (is_escaped b) refl (omega (arith, other, is, none, by))) (All-nil IsPlain)))

-- a text of such bytes stays as it is
pub plain-text : (xs : List ℕ) → All IsPlain xs → flat_map escape xs ≡ xs
plain-text [] all = refl
plain-text (b ∷ xs) all =
    ap (λ (l : List ℕ). l ++ flat_map escape xs) (All-head IsPlain b xs all)
    ∙ ap (λ (l : List ℕ). b ∷ l) (plain-text xs (All-tail IsPlain b xs all))

-- in quotes it is the value of a text
pub in-quotes : (old text : List ℕ) → 0 < length text → All IsPlain text →
    ((old ++ (34 ∷ [])) ++ text) ++ (34 ∷ []) ≡ old ++ text_value text
in-quotes old [] some all = absurd (omega (arith, some))
in-quotes old (b ∷ text) some all =
    append_assoc (old ++ (34 ∷ [])) (b ∷ text) (34 ∷ [])
    ∙ append_assoc old (34 ∷ []) ((b ∷ text) ++ (34 ∷ []))
    ∙ ap (λ (l : List ℕ). old ++ (34 ∷ (l ++ (34 ∷ [])))) (sym (plain-text (b ∷ text) all))

-- also after the name of a member
pub member-in-quotes : (old name text : List ℕ) → 0 < length text → All IsPlain text →
    ((((old ++ (34 ∷ [])) ++ name) ++ codes "\":\"") ++ text) ++ codes "\","
    ≡ old ++ (((34 ∷ name) ++ (codes "\":" ++ text_value text)) ++ codes ",")
member-in-quotes old name [] some all = absurd (omega (arith, some))
member-in-quotes old name (b ∷ text) some all =
    let own = b ∷ text in
    let ending = own ++ codes "\"," in
    append_assoc (((old ++ (34 ∷ [])) ++ name) ++ codes "\":\"") own (codes "\",")
    ∙ append_assoc ((old ++ (34 ∷ [])) ++ name) (codes "\":\"") ending
    ∙ append_assoc (old ++ (34 ∷ [])) name (codes "\":\"" ++ ending)
    ∙ append_assoc old (34 ∷ []) (name ++ (codes "\":\"" ++ ending))
    ∙ ap (λ (l : List ℕ). old ++ (34 ∷ (name ++ (codes "\":\"" ++ l))))
    (sym (append_assoc own (34 ∷ []) (codes ",")) ∙ ap (λ (l : List ℕ). (l ++ (34 ∷ [])) ++ codes ",") (sym (plain-text own all)))
    ∙ ap (λ (l : List ℕ). old ++ (34 ∷ l)) (sym (append_assoc name (codes "\":" ++ text_value own) (codes ",")))
