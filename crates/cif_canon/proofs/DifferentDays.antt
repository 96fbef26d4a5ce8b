-- The days on which two calendars have the same bodies.
use Rattle.cif_canon.proofs.Names.{AreAlikeBy, AreSources, Bool, CalendarParts, Contains, HasBodies, HoldsFrom, IsSome, IsTrue, List, None}
use Rattle.cif_canon.proofs.Names.{Option, Piece, Some, Terms, Tiles, ap, arith, body_on, cases_lt, false≢true, get_or, length, length-map}
use Rattle.cif_canon.proofs.Names.{map, option_and_then, slice_get_past, source_at-piece, subst, sym, terms_at, tiles-ends, weekday_of}
use Rattle.cif_canon.proofs.Names.{winner_of, ℕ, ⊎_elim, ◌%◌, ◌+◌, ◌-◌, ◌<◌, ◌↔◌, ◌∙◌, ◌≡◌, ◌≤◌}
use Rattle.cif_calendar.specs.Source.{body_at}

-- a day and the one of its weekday in the seven days from another
pub in-week : (first d : ℕ) → first ≤ d → (e : ℕ) × (first ≤ e) × (e < first + 7) × (e ≤ d) × (weekday_of e ≡ weekday_of d)
in-week first d from = (first + (d - first) % 7, omega arith, omega arith, omega arith, omega arith)

module _ {B : Type 0} (xs : List (Terms B)) (p : Piece) (ys : List (Terms B)) (q : Piece) where
  -- what two pieces have goes by the weekday
  alike-weekday : (d e : ℕ) → weekday_of d ≡ weekday_of e → AreAlikeBy xs p ys q d → AreAlikeBy xs p ys q e
  alike-weekday d e same h = subst (λ w. body_at xs (get_or p.winners w None) ≡ body_at ys (get_or q.winners w None)) same h

  -- seven days are all
  pub alike-week : (first last : ℕ) → ((d : ℕ) → first ≤ d → d < first + 7 → AreAlikeBy xs p ys q d) → (d : ℕ) → first ≤ d → d ≤ last →
      AreAlikeBy xs p ys q d
  alike-week first last week d from upto =
      let (e, after, within, before, same) = in-week first d from in alike-weekday e d same (week e after within)

pub not-below : (m n : ℕ) → (m < n → ⊥) → n ≤ m
not-below m n h = ⊎_elim (λ less. absurd (h less)) (λ from. from) (cases_lt m n)

-- of the days before one, and of that day
pub day-more : (holds : ℕ → Type 0) (first day : ℕ) → ((d : ℕ) → first ≤ d → d < day → holds d) → holds day →
    (d : ℕ) → first ≤ d → d < day + 1 → holds d
day-more holds first day before here d from below = ⊎_elim
    (λ earlier. before d from earlier)
    (λ since. subst holds (let same : day ≡ d = omega (arith, below, since) in same) here)
    (cases_lt d day)

module _ {B : Type 0} (xs : List (Terms B)) (c : CalendarParts) (p : Piece) (tiles : Tiles c.pieces c.first (c.last + 1))
    (listed : Contains c.pieces p) where
  -- the body of a day of a piece
  pub body-by_piece : (d : ℕ) → p.first ≤ d → d ≤ p.last → body_at xs (winner_of p d) ≡ body_on xs c d
  body-by_piece d from upto = ap (body_at xs) (sym (source_at-piece c.pieces c.first (c.last + 1) p d tiles listed from upto))

  -- a piece ends in the window
  pub piece-ends : p.last ≤ c.last
  piece-ends = let ends = (tiles-ends c.pieces c.first (c.last + 1) p tiles listed).1 in omega (arith, ends)

  -- the winners of a piece have bodies
  pub piece-bodies : AreSources xs c → (first last : ℕ) → p.first ≤ first → last ≤ p.last → c.first ≤ first → HasBodies xs p first last
  piece-bodies sources first last from upto after = record {
    bodied = λ d a b i is.
        let ends = piece-ends in
        sources.bodied d i (omega arith) (omega (arith, ends))
        (source_at-piece c.pieces c.first (c.last + 1) p d tiles listed (omega arith) (omega arith) ∙ is);
  }

module _ {B : Type 0} (xs : List (Terms B)) (c : CalendarParts) (p : Piece) (tiles_c : Tiles c.pieces c.first (c.last + 1))
    (listed_p : Contains c.pieces p) (ys : List (Terms B)) (e : CalendarParts) (q : Piece) (tiles_e : Tiles e.pieces e.first (e.last + 1))
    (listed_q : Contains e.pieces q) (first last : ℕ) (p_from : p.first ≤ first) (p_upto : last ≤ p.last) (q_from : q.first ≤ first)
    (q_upto : last ≤ q.last) where
  same-bodies_on : (d : ℕ) → first ≤ d → d ≤ last → AreAlikeBy xs p ys q d ↔ (body_on xs c d ≡ body_on ys e d)
  same-bodies_on d a b =
      let one = body-by_piece xs c p tiles_c listed_p d (omega arith) (omega arith) in
      let other = body-by_piece ys e q tiles_e listed_q d (omega arith) (omega arith) in (
        λ h. sym one ∙ h ∙ other,
        λ h. one ∙ h ∙ sym other,
      )

  -- pieces that are alike have the days on which the calendars are
  pub alike-by_pieces : HoldsFrom (AreAlikeBy xs p ys q) first last ↔ HoldsFrom (λ d. body_on xs c d ≡ body_on ys e d) first last
  alike-by_pieces = (λ h d a b. (same-bodies_on d a b).0 (h d a b), λ h d a b. (same-bodies_on d a b).1 (h d a b))

-- ---- bodies at sources

-- a source with a body is a position
pub bodied-within : {E B : Type 0} (terms : E → Terms B) (es : List E) (i : ℕ) → IsSome (body_at (map terms es) (Some i)) → i < length es
bodied-within {B = B} terms es i h = ⊎_elim
    (λ below. below)
    (λ past.
    let same = length-map es terms in
    let none = slice_get_past (map terms es) i (omega (arith, same, past)) in
    absurd (false≢true (subst (λ o. IsSome (option_and_then (λ (r : Terms B). r.body) o)) none h)))
    (cases_lt i (length es))

-- and its body is that of the entry there
pub body-there : {E B : Type 0} (terms : E → Terms B) (es : List E) (i : ℕ) (e : E) → i < length es → e ≡ get_or es i e →
    body_at (map terms es) (Some i) ≡ (terms e).body
body-there terms es i e below is = ap (option_and_then (λ r. r.body)) (terms_at terms es i e below is)

-- an answer on two entries' bodies is one on those at their positions
pub same-bodies : {B : Type 0} (answer : Bool) (xs ys : List (Terms B)) (i j : ℕ) (b c : Option B) {one other : Option ℕ} →
    one ≡ Some i → other ≡ Some j → body_at xs (Some i) ≡ b → body_at ys (Some j) ≡ c → IsTrue answer ↔ (b ≡ c) →
    IsTrue answer ↔ (body_at xs one ≡ body_at ys other)
same-bodies answer xs ys i j b c is_one is_other at_i at_j h = (
  λ yes. ap (body_at xs) is_one ∙ at_i ∙ h.0 yes ∙ sym (ap (body_at ys) is_other ∙ at_j),
  λ same. h.1 (sym (ap (body_at xs) is_one ∙ at_i) ∙ same ∙ (ap (body_at ys) is_other ∙ at_j)),
)
