-- The spans of a calendar's pieces: one span more, one piece more, and all of them by their sources.
use Rattle.cif_weeks.proofs.Names.{All, AreInOrder, AreNear, AreSources, AreSpansOn, Bool, CalendarParts, Contains, Contains-append_left}
use Rattle.cif_weeks.proofs.Names.{Contains-get_or, Contains-permutation, Contains-push, Contains-push_cases, HasBodyOn, HasDay}
use Rattle.cif_weeks.proofs.Names.{IsAmongDates, IsNonDecreasingBy-push, IsPermutation, IsPermutation-sym, IsPieceSpan, IsSourceAmong}
use Rattle.cif_weeks.proofs.Names.{IsWinnerOn, List, None, P, Piece, RunsOn, Some, Span, Terms, Tiles, [], ap, arith, body_at, body_in}
use Rattle.cif_weeks.proofs.Names.{cases_lt, drop, drop_more, get_or, get_or_from_slice_get, inl, inr, length, refl, slice_get}
use Rattle.cif_weeks.proofs.Names.{slice_get-get_or, slice_get_within, source_in, subst, sym, tiles-ends, week_of, weekday_of, winner_of, ℕ}
use Rattle.cif_weeks.proofs.Names.{⊎_elim, ◌++◌, ◌+◌, ◌-◌, ◌<◌, ◌↔◌, ◌∙◌, ◌∷◌, ◌≡◌, ◌≤◌, ◌⊎◌}
use Rattle.cif_weeks.proofs.{Growth.body-source, Growth.has-below, Growth.source-body, SourcesIn.source_in-piece}

-- a piece of the calendar
pub record IsPieceOf (c : CalendarParts) (p : Piece) : Type 0 where
  pub tiles : Tiles c.pieces c.first (c.last + 1)
  pub listed : Contains c.pieces p
  pub in_order : p.first ≤ p.last

-- the one with this number
pub piece-at : (c : CalendarParts) (items : List Piece) (number : ℕ) (p : Piece) → items ≡ c.pieces → Tiles items c.first (c.last + 1) →
    number < length c.pieces → p ≡ get_or items number p → IsPieceOf c p × (slice_get c.pieces number ≡ Some p)
piece-at c items number p same tiles below is =
    let all : Tiles c.pieces c.first (c.last + 1) = subst (λ ps. Tiles ps c.first (c.last + 1)) same tiles in
    let at : p ≡ get_or c.pieces number p = is ∙ ap (λ ps. get_or ps number p) same in
    let listed : Contains c.pieces p = (number, below, sym at) in (
      record { tiles = all; listed = listed; in_order = (tiles-ends c.pieces c.first (c.last + 1) p all listed).0 },
      slice_get-get_or c.pieces number p below ∙ ap Some (sym at),
    )

-- what is read where no piece stands
pub no-piece : Piece
no-piece = record { first = 0; last = 0; winners = [] }

-- the piece with this number begins where those before it end, and the next one after it
pub tiles-next : (ps : List Piece) (number from to : ℕ) (p : Piece) → slice_get ps number ≡ Some p → Tiles (drop number ps) from to →
    (p.first ≡ from) × Tiles (drop (number + 1) ps) (p.last + 1) to
tiles-next ps number from to p at tiles =
    let below = slice_get_within ps number p at in
    let cut : drop number ps ≡ p ∷ drop (number + 1) ps =
    drop_more ps number p below ∙ ap (λ q. q ∷ drop (number + 1) ps) (get_or_from_slice_get ps number p p at) in
    let t = subst (λ qs. Tiles qs from to) cut tiles in
    (t.0, t.2)

-- no span is added
pub order-later : {first last : ℕ} (later ended : ℕ) (spans : List Span) → first ≤ later → last ≤ ended → AreInOrder first last spans →
    AreInOrder later ended spans
order-later later ended spans begin end o = record {
  rising = o.rising;
  begun = λ s listed. omega (arith, o.begun s listed);
  ended = λ s listed. omega (arith, o.ended s listed);
}

-- a span is added that begins and ends in these weeks
order-more : (first last : ℕ) (spans : List Span) (u : Span) → u.first_week ≡ first → u.last_week ≡ last → AreInOrder first last spans →
    AreInOrder first last (spans ++ u ∷ [])
order-more first last spans u begins ends o = record {
  rising = IsNonDecreasingBy-push (λ (s : Span). s.last_week) spans u o.rising
      (λ d some. omega (arith, o.ended (get_or spans (length spans - 1) d) (Contains-get_or spans (length spans - 1) d (omega arith))));
  begun = λ s listed. ⊎_elim
      (λ old. o.begun s old)
      (λ same. omega (arith, ap (λ (v : Span). v.first_week) same))
      (Contains-push_cases spans u s listed);
  ended = λ s listed. ⊎_elim
      (λ old. o.ended s old)
      (λ same. omega (arith, ap (λ (v : Span). v.last_week) same))
      (Contains-push_cases spans u s listed);
}

-- a span that shows the body on the day is still there
still : (Is : Span → Type 0) (spans : List Span) (n : ℕ) (u : Span) → ((s : Span) × Contains spans s × HasDay s n × Is s) →
    (s : Span) × Contains (spans ++ u ∷ []) s × HasDay s n × Is s
still Is spans n u (s, listed, has, of) = (s, Contains-append_left spans (u ∷ []) s listed, has, of)

-- the days before the piece, and those of its days whose weekdays are taken
abbrev pub KnownIn : Piece → List Bool → ℕ → Type 0
KnownIn p taken n = (n < p.first) ⊎ ((p.first ≤ n) × (n ≤ p.last) × RunsOn taken (weekday_of n))

-- one weekday more, which is taken if it has a winner
done-more : (p : Piece) (taken both : List Bool) (weekday : ℕ) → ((w i : ℕ) → w < weekday → IsWinnerOn p w i → RunsOn taken w) →
    ((w : ℕ) → RunsOn taken w → RunsOn both w) → ((i : ℕ) → IsWinnerOn p weekday i → RunsOn both weekday) →
    (w i : ℕ) → w < weekday + 1 → IsWinnerOn p w i → RunsOn both w
done-more p taken both weekday old also it w i less wins = ⊎_elim
    (λ sooner. also w (old w i sooner wins))
    (λ from. let at : weekday ≡ w = omega arith in
    subst (RunsOn both) at (it i (subst (λ v. IsWinnerOn p v i) (sym at) wins)))
    (cases_lt w weekday)

module _ {B : Type 0} (xs : List (Terms B)) (c : CalendarParts) where
  -- The days before the piece are known, and those of its weekdays that are taken. Before `weekday` each that has a winner is.
  pub record AreTaken (p : Piece) (weekday : ℕ) (taken : List Bool) (spans : List Span) : Type 0 where
    pub of : IsPieceOf c p
    pub are : AreSpansOn xs c (KnownIn p taken) spans
    pub order : AreInOrder (week_of p.first) (week_of p.last) spans
    pub done : (w i : ℕ) → w < weekday → IsWinnerOn p w i → RunsOn taken w

  -- a weekday is passed that is taken or has no winner
  pub taken-same : {p : Piece} {weekday : ℕ} {taken : List Bool} {spans : List Span} → AreTaken p weekday taken spans →
      ((i : ℕ) → IsWinnerOn p weekday i → RunsOn taken weekday) → AreTaken p (weekday + 1) taken spans
  taken-same {p} {weekday} {taken} l it =
      record { of = l.of; are = l.are; order = l.order; done = done-more p taken taken weekday l.done (λ v on. on) it }

  -- of other days it is known what runs, if of all of them that have a body
  pub spans-known : {known other : ℕ → Type 0} (spans : List Span) → ((n : ℕ) (b : B) → other n → body_in xs c n ≡ Some b → known n) →
      AreSpansOn xs c known spans → AreSpansOn xs c other spans
  spans-known spans also a = record { each = a.each; all = λ n b is runs. a.all n b (also n b is runs) runs; one_source = a.one_source }

  module _ (sources : AreSources xs c) where
    module _ (p : Piece) (of : IsPieceOf c p) where
      -- what runs on a day of the piece
      piece-body : (n : ℕ) (b : B) → p.first ≤ n → n ≤ p.last → body_in xs c n ≡ Some b →
          (i : ℕ) × (winner_of p n ≡ Some i) × (body_at xs (Some i) ≡ Some b)
      piece-body n b from upto runs =
          let (i, is) = body-source xs c sources (source_in c n) b runs in (
            i,
            sym (source_in-piece c p of.tiles of.listed n from upto) ∙ is,
            ap (body_at xs) (sym is) ∙ runs,
          )

      -- a winner of a weekday is the position of a body
      winner-body : (w i : ℕ) → IsWinnerOn p w i → (b : B) × (body_at xs (Some i) ≡ Some b)
      winner-body w i ((n, from, upto, day), is) = source-body xs c sources n i
          (source_in-piece c p of.tiles of.listed n from upto ∙ ap (λ v. get_or p.winners v None) day ∙ is)

      -- one span more
      module _ (spans : List Span) (taken days both : List Bool) (u : Span) (winner weekday : ℕ)
          (l : AreTaken p weekday taken spans)
          (own : (n : ℕ) → HasDay u n ↔ IsAmongDates p.first p.last days n)
          (begins : u.first_week ≡ week_of p.first) (ends : u.last_week ≡ week_of p.last) (is_P : u.letter ≡ P)
          (same : body_at xs (Some u.source) ≡ body_at xs (Some winner))
          (among : IsSourceAmong xs spans (week_of p.first) winner u.source)
          (wins : IsWinnerOn p weekday winner)
          (of_body : (w : ℕ) → RunsOn days w ↔ HasBodyOn xs p u.source w)
          (united : (w : ℕ) → RunsOn both w ↔ (RunsOn taken w ⊎ RunsOn days w)) where
        has-body : (b : B) × (body_at xs (Some u.source) ≡ Some b)
        has-body = let (b, is) = winner-body weekday winner wins in (b, same ∙ is)

        its-runs : (n : ℕ) → HasDay u n → body_in xs c n ≡ body_at xs (Some u.source)
        its-runs n has =
            let d = (own n).0 has in
            let (i, (_, is), one) = (of_body (weekday_of n)).0 d.on_weekday in
            ap (body_at xs) (source_in-piece c p of.tiles of.listed n d.begun d.unfinished ∙ is) ∙ sym one

        -- an earlier span that is near the new one, with its body, is one of those that were looked at
        old-source : (s : Span) → Contains spans s → AreNear s u → body_at xs (Some s.source) ≡ body_at xs (Some u.source) →
            s.source ≡ u.source
        old-source s in_s close one = ⊎_elim
            (λ (t, in_t, late, is). l.are.one_source s t in_s in_t
            (record {
              reaches = omega (arith, l.order.begun s in_s, late);
              reached = omega (arith, l.order.begun t in_t, close.reached, begins);
            }) (one ∙ ap (λ v. body_at xs (Some v)) (sym is)) ∙ is)
            (λ new. absurd (new.1 s in_s (omega (arith, close.reached, begins)) (one ∙ same)))
            among

        spans-more : AreSpansOn xs c (KnownIn p both) (spans ++ u ∷ [])
        spans-more = let a = l.are in record {
          each = λ s in_s. ⊎_elim
              (λ old. a.each s old)
              (λ is. subst (λ v. IsPieceSpan xs c v) is (record {
                body = has-body.0;
                has = has-body.1;
                is_permanent = is_P;
                runs = λ n has. its-runs n has ∙ has-body.1;
              }))
              (Contains-push_cases spans u s in_s);
          all = λ n b known runs.
              let old = λ (k : KnownIn p taken n). still (λ s. body_at xs (Some s.source) ≡ Some b) spans n u (a.all n b k runs) in
              ⊎_elim
              (λ before. old (inl before))
              (λ k. ⊎_elim
              (λ t. old (inr (k.0, k.1, t)))
              (λ d.
              let has = (own n).1 (record { begun = k.0; unfinished = k.1; on_weekday = d }) in
              (u, Contains-push spans u, has, sym (its-runs n has) ∙ runs))
              ((united (weekday_of n)).0 k.2))
              known;
          one_source = λ s t in_s in_t close one. ⊎_elim
              (λ old. ⊎_elim
              (λ other. a.one_source s t old other close one)
              (λ is. subst (λ (v : Span). s.source ≡ v.source) is (old-source s old
              (subst (λ v. AreNear s v) (sym is) close) (one ∙ ap (λ (v : Span). body_at xs (Some v.source)) (sym is))))
              (Contains-push_cases spans u t in_t))
              (λ is. ⊎_elim
              (λ other. subst (λ (v : Span). v.source ≡ t.source) is (sym (old-source t other
              (let h : AreNear u t = subst (λ v. AreNear v t) (sym is) close in record { reaches = h.reached; reached = h.reaches })
              (sym one ∙ ap (λ (v : Span). body_at xs (Some v.source)) (sym is)))))
              (λ same_t. ap (λ (v : Span). v.source) (sym is ∙ same_t))
              (Contains-push_cases spans u t in_t))
              (Contains-push_cases spans u s in_s);
        }

        pub taken-more : AreTaken p (weekday + 1) both (spans ++ u ∷ [])
        taken-more = record {
          of = of;
          are = spans-more;
          order = order-more (week_of p.first) (week_of p.last) spans u begins ends l.order;
          done = done-more p taken both weekday l.done (λ v on. (united v).1 (inl on))
              (λ i also. (united weekday).1 (inr ((of_body weekday).1 (winner, wins, same))));
        }

      -- all weekdays that have a winner are taken
      pub spans-all : (spans : List Span) (taken : List Bool) →
          ((w i : ℕ) → w < 7 → IsWinnerOn p w i → RunsOn taken w) →
          AreSpansOn xs c (KnownIn p taken) spans → AreSpansOn xs c (λ n. n < p.last + 1) spans
      spans-all spans taken done a = spans-known spans
          (λ n b before runs. ⊎_elim
          (λ earlier. inl earlier)
          (λ from.
          let upto : n ≤ p.last = omega arith in
          let (i, is, has) = piece-body n b from upto runs in
          inr (from, upto, done (weekday_of n) i (omega arith) ((n, from, upto, refl), is)))
          (cases_lt n p.first)) a

      -- the source of a winner's body is the position of an entry
      pub source-below : (size w i source : ℕ) → length xs ≡ size → IsWinnerOn p w i → body_at xs (Some source) ≡ body_at xs (Some i) →
          source < size
      source-below size w i source long wins same =
          let (b, has) = winner-body w i wins in subst (λ v. source < v) long (has-below xs c sources source b (same ∙ has))

    pub spans-below : {known : ℕ → Type 0} (size : ℕ) (spans : List Span) → length xs ≡ size → AreSpansOn xs c known spans →
        All (λ (s : Span). s.source < size) spans
    spans-below size spans long a = λ k d below.
        let e = a.each (get_or spans k d) (Contains-get_or spans k d below) in
        subst (λ v. (get_or spans k d).source < v) long (has-below xs c sources (get_or spans k d).source e.body e.has)

  -- the spans in another order
  pub spans-sorted : {known : ℕ → Type 0} (spans sorted : List Span) → IsPermutation spans sorted → AreSpansOn xs c known spans →
      AreSpansOn xs c known sorted
  spans-sorted spans sorted p a =
      let back = λ (s : Span). Contains-permutation sorted spans s (IsPermutation-sym spans sorted p) in
      record {
        each = λ s listed. a.each s (back s listed);
        all = λ n b k runs.
            let (s, listed, has, of) = a.all n b k runs in (s, Contains-permutation spans sorted s p listed, has, of);
        one_source = λ s t in_s in_t. a.one_source s t (back s in_s) (back t in_t);
      }

  -- those of all pieces, in another order
  pub spans-done : (spans sorted : List Span) (limit : ℕ) {rest : List Piece} → rest ≡ [] → Tiles rest limit (c.last + 1) →
      IsPermutation spans sorted → AreSpansOn xs c (λ n. n < limit) spans → AreSpansOn xs c (λ n. n < c.last + 1) sorted
  spans-done spans sorted limit none tiles p a = spans-sorted spans sorted p
      (subst (λ v. AreSpansOn xs c (λ n. n < v) spans) (subst (λ (ps : List Piece). Tiles ps limit (c.last + 1)) none tiles) a)
