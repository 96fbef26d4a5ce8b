-- What the activities of a call say of riders, one by one.
use Rattle.cif_views.proofs.Names.{Bool, List, Riders, [], and-true, and_assoc, ap, arith, codes, codes_in, cond, drop, eqb, eqb-true}
use Rattle.cif_views.proofs.Names.{false, get_or, length, not, or-false, or_assoc, refl, said_by, sym, take, take_rest, true, ℕ, ◌&&◌, ◌-◌}
use Rattle.cif_views.proofs.Names.{◌||◌, ◌∙◌, ◌∷◌, ◌≡◌, ◌≤◌}
use Rattle.cif_columns.specs.Activities.{has_code}
use Rattle.cif_views.specs.Steps.PublicRows.{joined}

-- tests of one activity, and of the others, in pairs
pairs : (a b c d : Bool) → (a || b) || (c || d) ≡ (a || c) || (b || d)
pairs true b c d = refl
pairs false true true d = refl
pairs false true false d = refl
pairs false false c d = refl

neither : (a b c d : Bool) → not (a || b) && not (c || d) ≡ (not a && not c) && (not b && not d)
neither true b c d = refl
neither false true true d = refl
neither false true false d = refl
neither false false true d = refl
neither false false false d = refl

-- the first test of a list is that of its first alone
first-test : (p b : Bool) → p || b ≡ (p || false) || b
first-test true b = refl
first-test false b = refl

module _ (code : List ℕ) (others : List (List ℕ)) where
  -- a code is the first or one of the others
  among : (k : List ℕ) → has_code (code ∷ others) k ≡ has_code (code ∷ []) k || has_code others k
  among k = first-test _ (has_code others k)

  abbrev own : List ℕ → Bool
  own k = has_code (code ∷ []) k

  abbrev left : List ℕ → Bool
  left k = has_code others k

  three : (k l m : List ℕ) → has_code (code ∷ others) k || (has_code (code ∷ others) l || has_code (code ∷ others) m)
      ≡ (own k || (own l || own m)) || (left k || (left l || left m))
  three k l m =
      rw (among k, among l, among m, pairs (own l) (left l) (own m) (left m))
      (pairs (own k) (left k) (own l || own m) (left l || left m))

  pub said-more : said_by (code ∷ others) ≡ joined (said_by (code ∷ [])) (said_by others)
  said-more =
      rw (
        among (codes "N "),
        among (codes "S "),
        neither (own (codes "N ")) (left (codes "N ")) (own (codes "S ")) (left (codes "S ")),
        three (codes "T ") (codes "D ") (codes "TF"),
        three (codes "T ") (codes "U ") (codes "TB"),
        among (codes "R "),
      ) refl

-- what three say is so however they are joined
pub joined-assoc : (r s t : Riders) → joined (joined r s) t ≡ joined r (joined s t)
joined-assoc r s t =
    rw (
      and_assoc r.advertised s.advertised t.advertised,
      or_assoc r.set_down s.set_down t.set_down,
      or_assoc r.pick_up s.pick_up t.pick_up,
      or_assoc r.on_request s.on_request t.on_request,
    ) refl

-- Two columns say what they do as an activity: two spaces say nothing.
two-said : (a b : ℕ) (s t : Bool) (rest : List ℕ) → eqb a 32 ≡ s → eqb b 32 ≡ t →
    said_by (cond (s && t) (codes_in rest) ((a ∷ b ∷ []) ∷ codes_in rest)) ≡ joined (said_by ((a ∷ b ∷ []) ∷ [])) (said_by (codes_in rest))
two-said a b true true rest one other = rw (eqb-true a 32 one) refl
two-said a b true false rest one other = said-more (a ∷ b ∷ []) (codes_in rest)
two-said a b false t rest one other = said-more (a ∷ b ∷ []) (codes_in rest)

said-two : (a b : ℕ) (rest : List ℕ) → said_by (codes_in (a ∷ b ∷ rest)) ≡ joined (said_by ((a ∷ b ∷ []) ∷ [])) (said_by (codes_in rest))
said-two a b rest = two-said a b (eqb a 32) (eqb b 32) rest refl refl

-- What columns say is what the first four do, two and two, and what the others do.
pub said-columns : (columns others : List ℕ) (one two riders : Riders) → 4 ≤ length columns →
    one ≡ said_by ((get_or columns 0 0 ∷ get_or columns 1 0 ∷ []) ∷ []) →
    two ≡ said_by ((get_or columns 2 0 ∷ get_or columns 3 0 ∷ []) ∷ []) →
    riders ≡ joined one two → others ≡ drop 4 columns → joined riders (said_by (codes_in others)) ≡ said_by (codes_in columns)
said-columns [] others one two riders four one_is two_is both left = absurd (omega (arith, four))
said-columns (a ∷ []) others one two riders four one_is two_is both left = absurd (omega (arith, four))
said-columns (a ∷ b ∷ []) others one two riders four one_is two_is both left = absurd (omega (arith, four))
said-columns (a ∷ b ∷ c ∷ []) others one two riders four one_is two_is both left = absurd (omega (arith, four))
said-columns (a ∷ b ∷ c ∷ d ∷ rest) others one two riders four one_is two_is both left =
    rw (both, one_is, two_is, left) (
    joined-assoc (said_by ((a ∷ b ∷ []) ∷ [])) (said_by ((c ∷ d ∷ []) ∷ [])) (said_by (codes_in rest))
    ∙ ap (joined (said_by ((a ∷ b ∷ []) ∷ []))) (sym (said-two c d rest))
    ∙ sym (said-two a b (c ∷ d ∷ rest))
    )

pub nothing-joined : (r : Riders) → joined r (said_by []) ≡ r
nothing-joined r = rw (and-true r.advertised, or-false r.set_down, or-false r.pick_up, or-false r.on_request) refl

-- What two of the columns that are left say is joined.
pub said-next : (r : Riders) (rest : List ℕ) (one next whole : Riders) → 2 ≤ length rest →
    one ≡ said_by ((get_or rest 0 0 ∷ get_or rest 1 0 ∷ []) ∷ []) → next ≡ joined r one → joined r (said_by (codes_in rest)) ≡ whole →
    joined next (said_by (codes_in (take (length rest - 2) (drop 2 rest)))) ≡ whole
said-next r [] one next whole two one_is next_is is = absurd (omega (arith, two))
said-next r (a ∷ []) one next whole two one_is next_is is = absurd (omega (arith, two))
said-next r (a ∷ b ∷ rest) one next whole two one_is next_is is =
    rw (next_is, one_is, take_rest (a ∷ b ∷ rest) 2) (
    joined-assoc r (said_by ((a ∷ b ∷ []) ∷ [])) (said_by (codes_in rest)) ∙ ap (joined r) (sym (said-two a b rest)) ∙ is
    )
