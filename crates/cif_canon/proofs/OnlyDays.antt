-- What is left of a calendar where another one has the same bodies on some days.
use Rattle.cif_canon.proofs.Names.{AreOnlyWinners, CalendarParts, Contains, Contains-append_left, Contains-append_right, Contains-first}
use Rattle.cif_canon.proofs.Names.{IsOnlySource, List, None, Option, Piece, Terms, Tiles, [], ap, arith, cases_lt, get_or, get_or-set_other}
use Rattle.cif_canon.proofs.Names.{get_or-set_same, length, set, source_at, source_at-piece, subst, sym, weekday_of, winner_of, ℕ, ⊎_elim}
use Rattle.cif_canon.proofs.Names.{◌++◌, ◌+◌, ◌<◌, ◌∙◌, ◌∷◌, ◌≡◌, ◌≢◌, ◌≤◌, ◌⊎◌}
use Rattle.cif_calendar.proofs.PieceLists.{tiles-find, tiles-push}
use Rattle.cif_canon.proofs.DifferentDays.{in-week}

weekday-below : (d : ℕ) → weekday_of d < 7
weekday-below d = omega arith

weekday-apart : (d e : ℕ) → d < e → e < d + 7 → weekday_of d ≢ weekday_of e
weekday-apart d e less near same = omega arith

at-or-before : (d e : ℕ) → d < e + 1 → (d ≡ e) ⊎ (d < e)
at-or-before d e h = grind arith

module _ {B : Type 0} (xs ys : List (Terms B)) (p q : Piece) where
  -- what is left of the days from `first` and before `next`
  abbrev pub OnlyUpTo : ℕ → ℕ → List (Option ℕ) → Type 0
  OnlyUpTo first next ws =
      (d : ℕ) → first ≤ d → d < next → IsOnlySource xs ys (winner_of p d) (winner_of q d) (get_or ws (weekday_of d) None)

  -- one more day sets the winner of its weekday, which is no other's among seven days
  pub only-step : (first day w next : ℕ) (ws : List (Option ℕ)) (o : Option ℕ) → w ≡ weekday_of day → next ≡ day + 1 → length ws ≡ 7 →
      first ≤ day → day < first + 7 → IsOnlySource xs ys (get_or p.winners w None) (get_or q.winners w None) o →
      OnlyUpTo first day ws → OnlyUpTo first next (set ws w o)
  only-step first day w next ws o at is seven from near here before d after below = ⊎_elim
      (λ (same : d ≡ day).
      let place : weekday_of d ≡ w = ap weekday_of same ∙ sym at in
      let inside : w < length ws = let k = weekday-below day in omega (arith, k, at, seven) in
      subst (λ v. IsOnlySource xs ys (get_or p.winners v None) (get_or q.winners v None) (get_or (set ws w o) v None)) (sym place)
      (subst (λ v. IsOnlySource xs ys (get_or p.winners w None) (get_or q.winners w None) v) (sym (get_or-set_same ws w o None inside))
      here))
      (λ (less : d < day).
      subst (λ v. IsOnlySource xs ys (winner_of p d) (winner_of q d) v)
      (sym (get_or-set_other ws w (weekday_of d) o None (λ e. weekday-apart d day less (omega arith) (e ∙ at))))
      (before d after less))
      (at-or-before d day (omega (arith, below, is)))

  -- up to the last day
  pub only-last : (first next last : ℕ) (ws : List (Option ℕ)) → last < next → OnlyUpTo first next ws →
      AreOnlyWinners xs ys p q first last ws
  only-last first next last ws far before = record { each = λ d from upto. before d from (omega arith) }

  -- seven days are all
  pub only-week : (first next last : ℕ) (ws : List (Option ℕ)) → first + 7 ≤ next → OnlyUpTo first next ws →
      AreOnlyWinners xs ys p q first last ws
  only-week first next last ws far before = record {
    each = λ d from upto.
        let (e, after, near, upto, same) = in-week first d from in
        subst (λ v. IsOnlySource xs ys (get_or p.winners v None) (get_or q.winners v None) (get_or ws v None)) same
        (before e after (omega (arith, near, far)));
  }

-- ---- one piece more

module _ (ps : List Piece) (from to : ℕ) (tiles : Tiles ps from to) (r : Piece) (at : r.first ≡ to) (up : r.first ≤ r.last) where
  more : Tiles (ps ++ r ∷ []) from (r.last + 1)
  more = tiles-push ps from to r tiles at up

  -- the days before it keep their sources
  source-before : (d : ℕ) → from ≤ d → d < to → source_at (ps ++ r ∷ []) d ≡ source_at ps d
  source-before d a b =
      let f = tiles-find ps from to d tiles a b in
      source_at-piece (ps ++ r ∷ []) from (r.last + 1) f.piece d more (Contains-append_left ps (r ∷ []) f.piece f.listed) f.from f.upto
      ∙ sym (source_at-piece ps from to f.piece d tiles f.listed f.from f.upto)

  -- and its own days have its winners
  source-there : (d : ℕ) → r.first ≤ d → d ≤ r.last → source_at (ps ++ r ∷ []) d ≡ winner_of r d
  source-there d a b =
      source_at-piece (ps ++ r ∷ []) from (r.last + 1) r d more (Contains-append_right ps (r ∷ []) r (Contains-first r [])) a b

module _ {B : Type 0} (xs : List (Terms B)) (c : CalendarParts) (ys : List (Terms B)) (e : CalendarParts) where
  -- the pieces cover the days of the window before `next`, and have what is left of them
  pub record AreOnlyPieces (next : ℕ) (ps : List Piece) : Type 0 where
    pub tiles : Tiles ps c.first next
    pub only : (d : ℕ) → c.first ≤ d → d < next → IsOnlySource xs ys (source_at c.pieces d) (source_at e.pieces d) (source_at ps d)

  -- with a piece more, whose winners are left of those of both calendars' pieces
  pub only-more : (p q : Piece) → Tiles c.pieces c.first (c.last + 1) → Contains c.pieces p → Tiles e.pieces e.first (e.last + 1) →
      Contains e.pieces q → (ps qs : List Piece) (first last next : ℕ) (winners : List (Option ℕ)) → first ≤ last →
      qs ≡ ps ++ (record { first = first; last = last; winners = winners }) ∷ [] → next ≡ last + 1 → p.first ≤ first → last ≤ p.last →
      q.first ≤ first → last ≤ q.last → AreOnlyWinners xs ys p q first last winners → AreOnlyPieces first ps → AreOnlyPieces next qs
  only-more p q tiles_c listed_p tiles_e listed_q ps qs first last next winners up are is p_from p_upto q_from q_upto only a =
      let r : Piece = record { first = first; last = last; winners = winners } in
      rw (are, is) (record {
        tiles = more ps c.first first a.tiles r refl_at up;
        only = λ d from below. ⊎_elim
            (λ early. subst (λ v. IsOnlySource xs ys (source_at c.pieces d) (source_at e.pieces d) v)
            (sym (source-before ps c.first first a.tiles r refl_at up d from early)) (a.only d from early))
            (λ late.
            let upto : d ≤ last = omega (arith, below) in
            subst (λ v. IsOnlySource xs ys (source_at c.pieces d) (source_at e.pieces d) v)
            (sym (source-there ps c.first first a.tiles r refl_at up d late upto))
            (subst (λ v. IsOnlySource xs ys v (source_at e.pieces d) (winner_of r d))
            (sym (source_at-piece c.pieces c.first (c.last + 1) p d tiles_c listed_p (omega arith) (omega arith)))
            (subst (λ v. IsOnlySource xs ys (winner_of p d) v (winner_of r d))
            (sym (source_at-piece e.pieces e.first (e.last + 1) q d tiles_e listed_q (omega arith) (omega arith)))
            (only.each d late upto))))
            (cases_lt d first);
      })
    where
      refl_at : first ≡ first
      refl_at = omega arith
