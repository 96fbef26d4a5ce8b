-- The pieces of a window so far.
use Rattle.cif_calendar.proofs.Names.{All, All-contains, All-nil, All-push, Ambiguous, AreStretches, BeginsPiece, CalendarFault}
use Rattle.cif_calendar.proofs.Names.{CalendarParts, ChangesOn, Err, IsAnswer, IsBoundary, IsChosen, IsClear, IsClearFrom, IsErrAnd}
use Rattle.cif_calendar.proofs.Names.{IsFault, IsFirstClash, IsPiece, IsSource, IsStretch, List, Memory, None, Ok, Option, Piece, Result}
use Rattle.cif_calendar.proofs.Names.{Some, SomeIff, Stretch, Terms, Tiles, [], ap, arith, cases_lt, drop, drop_more, get_or, inl, inr}
use Rattle.cif_calendar.proofs.Names.{length, length-append, refl, source_at, subst, sym, unwrap_or, ℕ, ⊎_elim, ◌*◌, ◌++◌, ◌+◌, ◌<◌, ◌∙◌}
use Rattle.cif_calendar.proofs.{FewPieces.left, FewPieces.left-le, FewPieces.left-next, Names.◌∷◌, Names.◌≡◌, Names.◌≤◌, Names.◌⊎◌}
use Rattle.cif_calendar.proofs.{FirstClash.IsFirstClash-unique, FirstClash.first_clash-clear, Meaning.Runs-from_source}
use Rattle.cif_calendar.proofs.PieceLists.{IsInPiece, source_at-piece, tiles-find, tiles-from, tiles-push}

-- the next day, where there is one
pub next-day : (o : Option ℕ) (P : Type 0) (day first : ℕ) → SomeIff o P day → P → unwrap_or o first ≡ day
next-day None P day first none p = absurd (none p)
next-day (Some n) P day first is p = is.1

-- The pieces ps stand from day `from` to the day before `to`. They begin on boundaries of the window and are few. Those of the stretches
-- that are left follow, from day `first` on.
pub record AreLaid {B : Type 0} (xs : List (Terms B)) (members : List ℕ) (from last first : ℕ) (ss : List Stretch)
    (ps : List Piece) : Type 0 where
  pub to : ℕ
  pub tiles : Tiles ps from to
  pub pieces : All (IsPiece xs members) ps
  pub begins : All (λ p. IsBoundary (IsChosen xs members) from last p.first) ps
  pub few : length ps ≤ 2 * length members + 1
  pub rest : to ≤ last → length ps + left xs members to ≤ 2 * length members
  pub boundary : to ≤ last → IsBoundary (IsChosen xs members) from last to
  pub next : to ≤ last → first ≡ to
  pub ahead : AreStretches xs members members (last + 1) to (last + 1) ss

module _ {B : Type 0} (xs : List (Terms B)) (members : List ℕ) (from last : ℕ) where
  pub laid-none : (ss : List Stretch) → AreStretches xs members members (last + 1) from (last + 1) ss →
      AreLaid xs members from last from ss []
  laid-none ss h = record {
    to = from;
    tiles = refl;
    pieces = All-nil (IsPiece xs members);
    begins = All-nil (λ p. IsBoundary (IsChosen xs members) from last p.first);
    few = omega arith;
    rest = λ _. omega (arith, left-le xs members from);
    boundary = λ upto. record { from = omega arith; upto = upto; change = inl refl };
    next = λ _. refl;
    ahead = h;
  }

  -- where memory ran out, nothing else is said
  pub laid-memory : (r : Result CalendarParts CalendarFault) → IsErrAnd r (λ e. e ≡ Memory) → IsAnswer xs members from last r
  laid-memory (Ok c) h = absurd h
  laid-memory (Err (Ambiguous d)) h = absurd (cc)
  laid-memory (Err Memory) h = record { calendar = tt; fault = tt; clash = λ n c. inr refl }

  module _ (first : ℕ) (ss : List Stretch) (ps : List Piece) (l : AreLaid xs members from last first ss ps) where
    -- each day before `to` is one of a piece, so it is clear and has its source
    module _ (d : ℕ) (low : from ≤ d) (high : d < l.to) where
      here : IsInPiece ps d
      here = tiles-find ps from l.to d l.tiles low high

      piece : IsPiece xs members here.piece
      piece = All-contains (IsPiece xs members) ps here.piece l.pieces here.listed

      clear-laid : IsClear (IsChosen xs members) d
      clear-laid = piece.clear.clear d here.from here.upto

      source-laid : IsSource xs members d (source_at ps d)
      source-laid = rw (source_at-piece ps from l.to here.piece d l.tiles here.listed here.from here.upto)
          (piece.sources d here.from here.upto)

      -- if something changes, the piece begins there
      begins-laid : (d ≡ from) ⊎ ChangesOn (IsChosen xs members) d → BeginsPiece ps d
      begins-laid change = (
        here.piece,
        here.listed,
        ⊎_elim
            (λ same. omega (arith, here.from, tiles-from ps from l.to here.piece l.tiles here.listed))
            (λ c. grind (arith, here.from, here.upto, piece.unbroken.begins c.0 c.1, piece.unbroken.ends c.0 c.1, c.2))
            change,
      )

    -- no stretch is left: the pieces are the calendar
    pub laid-tiles : ss ≡ [] → Tiles ps from (last + 1)
    laid-tiles none = subst (Tiles ps from) (rw none at l.ahead) l.tiles

    pub laid-all : ss ≡ [] → IsAnswer xs members from last (Ok (record { first = from; last = last; pieces = ps }))
    laid-all none = record {
      calendar = record {
        first_is = refl;
        last_is = refl;
        clear = clear;
        sources = sources;
        runs = λ d low high. Runs-from_source xs members d (source_at ps d) (sources d low high);
        tiles = subst (Tiles ps from) end l.tiles;
        pieces = l.pieces;
        boundaries = λ d. (
          λ b. subst (IsBoundary (IsChosen xs members) from last) b.2
              (All-contains (λ p. IsBoundary (IsChosen xs members) from last p.first) ps b.0 l.begins b.1),
          λ b. begins-laid d b.from (omega (arith, b.upto, end)) b.change,
        );
        few = l.few;
      };
      fault = tt;
      clash = λ d first. absurd (first_clash-clear _ from last d first clear);
    } where
      end : l.to ≡ last + 1
      end = rw none at l.ahead

      clear : IsClearFrom (IsChosen xs members) from last
      clear = record { clear = λ d low high. clear-laid d low (omega (arith, end)) }

      sources : (d : ℕ) → from ≤ d → d ≤ last → IsSource xs members d (source_at ps d)
      sources d low high = source-laid d low (omega (arith, end))

  -- s is the stretch at place k
  module _ (first k : ℕ) (ss : List Stretch) (s : Stretch) (ps : List Piece) (below : k < length ss) (at : s ≡ get_or ss k s)
      (l : AreLaid xs members from last first (drop k ss) ps) where
    both : IsStretch xs members members (last + 1) l.to s
        × AreStretches xs members members (last + 1) (s.last + 1) (last + 1) (drop (k + 1) ss)
    both = rw (drop_more ss k s below, sym at) at l.ahead

    inside : l.to ≤ last
    inside = omega (arith, both.0.in_order, both.0.upto)

    pub stretch-laid : (end : ℕ) × IsStretch xs members members end first s
    stretch-laid = (last + 1, rw (l.next inside) both.0)

    -- its piece is laid too
    pub laid-more : (next : ℕ) (qs : List Piece) (p : Piece) → (s.last < last → next ≡ s.last + 1) → qs ≡ ps ++ p ∷ [] →
        (p.first ≡ first) × (p.last ≡ s.last) × IsPiece xs members p → AreLaid xs members from last next (drop (k + 1) ss) qs
    laid-more next qs p is e (begins, ends, its) =
        let starts : p.first ≡ l.to = begins ∙ l.next inside in
        let more = length-append ps (p ∷ []) in rw e (record {
          to = s.last + 1;
          tiles = rw (sym ends) (tiles-push ps from l.to p l.tiles starts (omega (arith, both.0.in_order)));
          pieces = All-push (IsPiece xs members) ps p l.pieces its;
          begins = All-push (λ q. IsBoundary (IsChosen xs members) from last q.first) ps p l.begins (rw starts (l.boundary inside));
          few = omega (arith, l.rest inside, more);
          rest = λ upto. ⊎_elim
              (λ over. absurd (omega arith))
              (λ c. omega (arith, left-next xs members l.to s.last both.0.in_order c, l.rest inside, more))
              both.0.change;
          boundary = λ upto. record {
            from = omega (arith, (l.boundary inside).from, both.0.in_order);
            upto = upto;
            change = ⊎_elim (λ over. absurd (omega arith)) (λ c. inr c) both.0.change;
          };
          next = λ upto. is (omega arith);
          ahead = both.1;
        })

    -- a clash in it is the window's first
    pub laid-fault : (e : CalendarFault) → IsFault (IsChosen xs members) first s.last e → IsAnswer xs members from last (Err e)
    laid-fault (Ambiguous d) f = record {
      calendar = tt;
      fault = is;
      clash = λ n c. inl (ap (λ m. Err (Ambiguous m)) (IsFirstClash-unique (IsChosen xs members) from last d n is c));
    } where
      is : IsFirstClash (IsChosen xs members) from last d
      is = record {
        from = omega (arith, f.from, l.next inside, (l.boundary inside).from);
        upto = omega (arith, f.upto, both.0.upto);
        clash = f.clash;
        clear_before = λ e low before. ⊎_elim
            (λ old. clear-laid first (drop k ss) ps l e low old)
            (λ new. f.clear_before e (omega (arith, new, l.next inside)) before)
            (cases_lt e l.to);
      }
    laid-fault Memory f = laid-memory (Err Memory) refl
