-- Pieces one after another, and the source of a day.
use Rattle.cif_calendar.proofs.Names.{Bool, Contains, List, Piece, Tiles, [], ap, arith, cond, false, get_or, length, ltb, ltb-false}
use Rattle.cif_calendar.proofs.Names.{ltb-true, refl, source_at, suc, sym, true, winner_of, zero, ℕ, ⊎_elim, ◌++◌, ◌+◌, ◌<◌, ◌∙◌, ◌∷◌, ◌≡◌}
use Rattle.cif_calendar.proofs.{Elements.Contains-cases, Elements.Contains-first, Elements.Contains-rest, Names.◌≤◌}
use Rattle.std.{proofs.lemmas.Bool.Decides.leb_tells, specs.List.Sorted.IsNonDecreasingBy, specs.List.Sorted.IsPartitionPoint}

pub tiles-push : (ps : List Piece) (a b : ℕ) (p : Piece) → Tiles ps a b → p.first ≡ b → p.first ≤ p.last →
    Tiles (ps ++ p ∷ []) a (p.last + 1)
tiles-push [] a b p t at up = (at ∙ sym t, up, refl)
tiles-push (q ∷ qs) a b p t at up = (t.0, t.1, tiles-push qs (q.last + 1) b p t.2 at up)

tiles-to : (ps : List Piece) (a b : ℕ) → Tiles ps a b → a ≤ b
tiles-to [] a b t = let e : a ≡ b = t in omega arith
tiles-to (q ∷ qs) a b t =
    let far : q.last + 1 ≤ b = tiles-to qs (q.last + 1) b t.2 in
    let up : q.first ≤ q.last = t.1 in let at : q.first ≡ a = t.0 in omega arith

-- no piece begins before the first
pub tiles-from : (ps : List Piece) (a b : ℕ) (p : Piece) → Tiles ps a b → Contains ps p → a ≤ p.first
tiles-from [] a b p t (k, below, is) = absurd (omega arith)
tiles-from (q ∷ qs) a b p t h = ⊎_elim
    (λ (e : q ≡ p). let same : q.first ≡ p.first = ap (λ (x : Piece). x.first) e in omega arith)
    (λ rest. let later : q.last + 1 ≤ p.first = tiles-from qs (q.last + 1) b p t.2 rest in omega arith)
    (Contains-cases q qs p h)

-- each has a day, and none ends after the last
pub tiles-ends : (ps : List Piece) (a b : ℕ) (p : Piece) → Tiles ps a b → Contains ps p → (p.first ≤ p.last) × (p.last < b)
tiles-ends [] a b p t (k, below, is) = absurd (omega arith)
tiles-ends (q ∷ qs) a b p t h = ⊎_elim
    (λ (e : q ≡ p).
    let first : q.first ≡ p.first = ap (λ (x : Piece). x.first) e in
    let last : q.last ≡ p.last = ap (λ (x : Piece). x.last) e in
    let up : q.first ≤ q.last = t.1 in
    let far : q.last + 1 ≤ b = tiles-to qs (q.last + 1) b t.2 in (omega arith, omega arith))
    (λ rest. tiles-ends qs (q.last + 1) b p t.2 rest)
    (Contains-cases q qs p h)

source_at-first : (q : Piece) (qs : List Piece) (d : ℕ) → d ≤ q.last → source_at (q ∷ qs) d ≡ winner_of q d
source_at-first q qs d h = ⊎_elim
    (λ yes. ap (λ (b : Bool). cond b (winner_of q d) (source_at qs d)) yes.0)
    (λ no. absurd (omega arith))
    (leb_tells d q.last)

source_at-rest : (q : Piece) (qs : List Piece) (d : ℕ) → q.last < d → source_at (q ∷ qs) d ≡ source_at qs d
source_at-rest q qs d h = ⊎_elim
    (λ yes. absurd (omega arith))
    (λ no. ap (λ (b : Bool). cond b (winner_of q d) (source_at qs d)) no.0)
    (leb_tells d q.last)

-- the source of a day of a piece is that piece's winner
pub source_at-piece : (ps : List Piece) (a b : ℕ) (p : Piece) (d : ℕ) → Tiles ps a b → Contains ps p → p.first ≤ d → d ≤ p.last →
    source_at ps d ≡ winner_of p d
source_at-piece [] a b p d t (k, below, is) from upto = absurd (omega arith)
source_at-piece (q ∷ qs) a b p d t h from upto = ⊎_elim
    (λ (e : q ≡ p).
    let same : q.last ≡ p.last = ap (λ (x : Piece). x.last) e in
    source_at-first q qs d (omega arith) ∙ ap (λ (x : Piece). winner_of x d) e)
    (λ rest.
    let later : q.last + 1 ≤ p.first = tiles-from qs (q.last + 1) b p t.2 rest in
    source_at-rest q qs d (omega arith) ∙ source_at-piece qs (q.last + 1) b p d t.2 rest from upto)
    (Contains-cases q qs p h)

-- a piece that has day d
pub record IsInPiece (ps : List Piece) (d : ℕ) : Type 0 where
  pub piece : Piece
  pub listed : Contains ps piece
  pub from : piece.first ≤ d
  pub upto : d ≤ piece.last

-- each day between the ends is in a piece
pub tiles-find : (ps : List Piece) (a b d : ℕ) → Tiles ps a b → a ≤ d → d < b → IsInPiece ps d
tiles-find [] a b d t from before = absurd (let e : a ≡ b = t in omega arith)
tiles-find (q ∷ qs) a b d t from before = ⊎_elim
    (λ yes. record { piece = q; listed = Contains-first q qs; from = omega arith; upto = yes.1 })
    (λ no. let rest = tiles-find qs (q.last + 1) b d t.2 (omega arith) before in
    record { piece = rest.piece; listed = Contains-rest q qs rest.piece rest.listed; from = rest.from; upto = rest.upto })
    (leb_tells d q.last)

-- the last days of pieces rise
tiles-last : (ps : List Piece) (a b k : ℕ) (d : Piece) → Tiles ps a b → k < length ps → a ≤ (get_or ps k d).last
tiles-last [] a b k d t h = absurd (omega arith)
tiles-last (q ∷ qs) a b zero d t h = let up : q.first ≤ q.last = t.1 in let at : q.first ≡ a = t.0 in omega arith
tiles-last (q ∷ qs) a b (suc k) d t h =
    let later : q.last + 1 ≤ (get_or qs k d).last = tiles-last qs (q.last + 1) b k d t.2 (omega arith) in
    let up : q.first ≤ q.last = t.1 in let at : q.first ≡ a = t.0 in omega arith

pub tiles-rise : (ps : List Piece) (a b : ℕ) → Tiles ps a b → IsNonDecreasingBy (λ (p : Piece). p.last) ps
tiles-rise [] a b t i j d up below = absurd (omega arith)
tiles-rise (q ∷ qs) a b t zero zero d up below = let same : q.last ≤ q.last = omega arith in same
tiles-rise (q ∷ qs) a b t zero (suc j) d up below =
    let later : q.last + 1 ≤ (get_or qs j d).last = tiles-last qs (q.last + 1) b j d t.2 (omega arith) in omega arith
tiles-rise (q ∷ qs) a b t (suc i) zero d up below = absurd (omega arith)
tiles-rise (q ∷ qs) a b t (suc i) (suc j) d up below = tiles-rise qs (q.last + 1) b t.2 i j d (omega arith) (omega arith)

-- the pieces before position i end before day d, and the one there does not
pub record IsPlaceOf (ps : List Piece) (d i : ℕ) : Type 0 where
  pub before : (k : ℕ) (e : Piece) → k < i → k < length ps → (get_or ps k e).last < d
  pub at : (e : Piece) → i < length ps → d ≤ (get_or ps i e).last

place-rest : (q : Piece) (qs : List Piece) (d i : ℕ) → IsPlaceOf (q ∷ qs) d (suc i) → IsPlaceOf qs d i
place-rest q qs d i p = record {
  before = λ k x low high. p.before (suc k) x (omega arith) (omega arith);
  at = λ x high. p.at x (omega arith);
}

-- so a piece stands there
pub place-below : (ps : List Piece) (a b d i : ℕ) → Tiles ps a b → a ≤ d → d < b → IsPlaceOf ps d i → i < length ps
place-below [] a b d i t from before p = absurd (let same : a ≡ b = t in omega arith)
place-below (q ∷ qs) a b d zero t from before p = omega arith
place-below (q ∷ qs) a b d (suc i) t from before p =
    let over : q.last < d = p.before zero q (omega arith) (omega arith) in
    let rest = place-below qs (q.last + 1) b d i t.2 (omega arith) before (place-rest q qs d i p) in omega (arith, rest)

-- and it has the day
pub place-from : (ps : List Piece) (a b d i : ℕ) (e : Piece) → Tiles ps a b → a ≤ d → IsPlaceOf ps d i → i < length ps →
    (get_or ps i e).first ≤ d
place-from [] a b d i e t from p below = absurd (omega arith)
place-from (q ∷ qs) a b d zero e t from p below = let at : q.first ≡ a = t.0 in omega arith
place-from (q ∷ qs) a b d (suc i) e t from p below =
    let over : q.last < d = p.before zero q (omega arith) (omega arith) in
    place-from qs (q.last + 1) b d i e t.2 (omega arith) (place-rest q qs d i p) (omega arith)

-- a search by the last days finds that place
pub place-from_point : (ps : List Piece) (d i : ℕ) →
    IsPartitionPoint (λ (p : Piece). ltb p.last d ≡ true) (λ (p : Piece). ltb p.last d ≡ false) ps i → IsPlaceOf ps d i
place-from_point ps d i point = record {
  before = λ k e low high. ltb-true (get_or ps k e).last d (point.0 k e (omega arith) low);
  at = λ e high. ltb-false (get_or ps i e).last d (point.1 i e (omega arith) high);
}
