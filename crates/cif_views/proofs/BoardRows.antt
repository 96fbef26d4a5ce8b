-- The rows of a board are those by its definition.
use Rattle.std.proofs.lemmas.List.{flat_map_more}
use Rattle.cif_canon.proofs.Names.{get_or_from_slice_get}
use Rattle.std.proofs.lemmas.List.Elements.{Contains-append_cases, Contains-append_left, Contains-append_right}
use Rattle.std.proofs.lemmas.List.Sorted.{IsPermutation-sym}
use Rattle.std.specs.{List.list_any, Prelude.option_to_list}
use Rattle.cif_canon.proofs.RunningRecords.{applies-decided}
use Rattle.cif_canon.specs.Canon.{AreCanonSchedules}
use Rattle.cif_canon.specs.Steps.Views.{applies_on}
use Rattle.cif_weeks.specs.{Applies.Applies, declared.form.Form.TheVariants.Three}
use Rattle.cif_weeks.proofs.PermanentEntries.{runs-applies}
use Rattle.cif_views.proofs.Named.{from-flat, to-flat}
use Rattle.cif_views.specs.Boards.{AreBoardRows, IsBoardRow, IsCallingAt, IsFirstGoal, IsGoal, board_train, clock_time, is_shown, nowhere, public_stops}
use Rattle.cif_views.specs.Places.{IsNamed}
use Rattle.cif_views.specs.Steps.Boards.{AreGoals, AreLocations, AreRowsOf, calling_from, calling_of, goal_in, is_at, is_goal, row_if, row_on}
use Rattle.cif_views.specs.Steps.Boards.{rows_from, rows_of, wanted_of}
use Rattle.cif_views.specs.declared.{board.Board.Board, board.BoardKey.BoardKey, board.BoardRow.BoardRow, board.BoardTrain.BoardTrain}
use Rattle.cif_views.specs.declared.{board.CallingAt.CallingAt, boards.Wanted.Wanted, places.Place.Place, public_stop.PublicStop.PublicStop}
use Rattle.cif_views.proofs.Names.{All, All-cons, All-weaker, All-head, All-nil, All-tail, Bool, BodyLines, Contains, Contains-cases, Contains-first, Contains-none}
use Rattle.cif_views.proofs.Names.{Contains-permutation, Contains-rest, ExtractParts, IsTrue, IsWithin, None, Option, Permanent, and_parts, arith, bytes_decides}
use Rattle.cif_views.proofs.Names.{false, false≢true, find, header_window, if◌then◌else◌, inl, inr, is_some, leb-true, nat_eq, nat_le, of_key, option_map}
use Rattle.std.specs.List.{AllByRecursion, IsDistinct}
use Rattle.std.specs.Cmp.{nat_cmp_is}
use Rattle.std.proofs.lemmas.Map.Keys.{IsDistinct-IsPermutation, Less-from_sorted, sorted_from_all_adjacent}
use Rattle.cif_weeks.specs.Canonical.{Precedes}
use Rattle.cif_views.proofs.{Stops.Rise, Stops.calls-rise}
use Rattle.cif_views.proofs.Names.{All-contains, AllPairs, at_first, cases_lt, drop, is_lt, length, not_less, suc, zero, ◌<◌}
use Rattle.std.proofs.lemmas.Cmp.{nat_cmp_total}
use Rattle.cif_views.specs.Boards.{key_cmp}
use Rattle.cif_views.proofs.Names.{Equal, Greater, IsTotalOrder, Less, Ordering, is_eq, nat_cmp, nat_list_cmp_total, on_total, ordering_reverse}
use Rattle.cif_views.proofs.Names.{ordering_then, slice_cmp, texts_ties, then_total}
use Rattle.cif_views.proofs.Names.{pointwise, refl, same_Some, subst, true, ⊎_elim, ◌&&◌, ◌-◌, ◌||◌, ◌↔◌, ◌≤◌}
use Rattle.std.proofs.Common.{le-leb}
use Rattle.std.proofs.Math.Bool.{or-true}
use Rattle.cif_views.proofs.Names.{List, Some, [], ap, flat_map, get_or, slice_get, slice_get_within, sym, take, take_more, ℕ, ◌++◌, ◌+◌, ◌∙◌, ◌∷◌, ◌≡◌}

module _ {X A : Type 0} (f : X → List A) where
  pub flat-more : (xs : List X) (i : ℕ) (x : X) (old new : List A) → slice_get xs i ≡ Some x → old ≡ flat_map f (take i xs) →
      new ≡ old ++ f x → new ≡ flat_map f (take (i + 1) xs)
  flat-more xs i x old new at old_is new_is =
      let within = slice_get_within xs i x at in
      let here : get_or xs i x ≡ x = get_or_from_slice_get xs i x x at in
      new_is
      ∙ ap (λ (l : List A). l ++ f x) old_is
      ∙ flat_map_more f [] (take i xs) x
      ∙ ap (λ y. flat_map f (take i xs ++ (y ∷ []))) (sym here)
      ∙ ap (flat_map f) (sym (take_more xs i x within))

-- ---- which calls have rows

nothing-is : {A : Type 0} (a : A) → None ≡ Some a → ⊥
nothing-is a is = false≢true (ap is_some is)

in-option : {A : Type 0} (o : Option A) (a : A) → Contains (option_to_list o) a → o ≡ Some a
in-option None a h = absurd (Contains-none a h)
in-option (Some b) a h = ap Some (⊎_elim (λ same. same) (λ later. absurd (Contains-none a later)) (Contains-cases b [] a h))

to-option : {A : Type 0} (o : Option A) (a : A) → o ≡ Some a → Contains (option_to_list o) a
to-option o a is = subst (λ p. Contains (option_to_list p) a) (sym is) (Contains-first a [])

module _ (wanted : Wanted) (e : List ℕ × Permanent BodyLines) (train : BoardTrain) where
  record HasRow (stops : List PublicStop) (row : BoardRow) : Type 0 where
    pub earlier : List PublicStop
    pub stop : PublicStop
    pub later : List PublicStop
    pub split : stops ≡ earlier ++ (stop ∷ later)
    pub is : row_if wanted e train stop later ≡ Some row

  from-rows : (stops : List PublicStop) (row : BoardRow) → Contains (rows_from wanted e train stops) row → HasRow stops row
  from-rows [] row h = absurd (Contains-none row h)
  from-rows (stop ∷ later) row h =
      elim (Contains-append_cases (option_to_list (row_if wanted e train stop later)) (rows_from wanted e train later) row h) [
        | inl here ↦ record { earlier = []; stop = stop; later = later; split = refl; is = in-option (row_if wanted e train stop later) row here }
        | inr more ↦ (let has = from-rows later row more in record {
          earlier = stop ∷ has.earlier;
          stop = has.stop;
          later = has.later;
          split = ap (λ (l : List PublicStop). stop ∷ l) has.split;
          is = has.is;
        })
      ]

  to-rows : (earlier : List PublicStop) (stop : PublicStop) (later : List PublicStop) (row : BoardRow) → row_if wanted e train stop later ≡ Some row →
      Contains (rows_from wanted e train (earlier ++ (stop ∷ later))) row
  to-rows [] stop later row is =
      Contains-append_left (option_to_list (row_if wanted e train stop later)) (rows_from wanted e train later) row
      (to-option (row_if wanted e train stop later) row is)
  to-rows (s ∷ earlier) stop later row is =
      Contains-append_right (option_to_list (row_if wanted e train s (earlier ++ (stop ∷ later)))) (rows_from wanted e train (earlier ++ (stop ∷ later)))
      row (to-rows earlier stop later row is)

  -- what a row says of the call
  record IsRowOf (stop : PublicStop) (later : List PublicStop) (row : BoardRow) : Type 0 where
    pub shown : is_shown wanted.kind stop ≡ true
    pub at : is_at wanted.place stop.location ≡ true
    pub upto : (clock_time wanted.kind stop).midnights ≤ wanted.day
    pub applies : applies_on e.1 (wanted.day - (clock_time wanted.kind stop).midnights) ≡ true
    pub calling : CallingAt
    pub called : calling_from wanted.goal (wanted.day - (clock_time wanted.kind stop).midnights) later ≡ Some calling
    pub is : row_on wanted e.0 train stop (wanted.day - (clock_time wanted.kind stop).midnights) calling ≡ row

  from-tests : (stop : PublicStop) (later : List PublicStop) (row : BoardRow) (shows upto applies : Bool) (called : Option CallingAt) →
      (is_shown wanted.kind stop && is_at wanted.place stop.location) ≡ shows → nat_le (clock_time wanted.kind stop).midnights wanted.day ≡ upto →
      applies_on e.1 (wanted.day - (clock_time wanted.kind stop).midnights) ≡ applies →
      calling_from wanted.goal (wanted.day - (clock_time wanted.kind stop).midnights) later ≡ called →
      (if shows then (if upto then (if applies then option_map (row_on wanted e.0 train stop (wanted.day - (clock_time wanted.kind stop).midnights)) called
      else None) else None) else None) ≡ Some row → IsRowOf stop later row
  from-tests stop later row true true true (Some calling) shown upto applies called is =
      let (one, other) = and_parts (is_shown wanted.kind stop) (is_at wanted.place stop.location) shown in
      record {
        shown = one;
        at = other;
        upto = leb-true (clock_time wanted.kind stop).midnights wanted.day upto;
        applies = applies;
        calling = calling;
        called = called;
        is = same_Some _ _ is;
      }
  from-tests stop later row false upto applies called a b c d is = absurd (nothing-is _ is)
  from-tests stop later row true false applies called a b c d is = absurd (nothing-is _ is)
  from-tests stop later row true true false called a b c d is = absurd (nothing-is _ is)
  from-tests stop later row true true true None a b c d is = absurd (nothing-is _ is)

  from-if : (stop : PublicStop) (later : List PublicStop) (row : BoardRow) → row_if wanted e train stop later ≡ Some row → IsRowOf stop later row
  from-if stop later row is = from-tests stop later row _ _ _ _ refl refl refl refl is

  to-if : (stop : PublicStop) (later : List PublicStop) (row : BoardRow) → IsRowOf stop later row → row_if wanted e train stop later ≡ Some row
  to-if stop later row o =
      let upto : nat_le (clock_time wanted.kind stop).midnights wanted.day ≡ true = le-leb (clock_time wanted.kind stop).midnights wanted.day o.upto in
      rw (o.shown, o.at, upto, o.applies, o.called) (ap Some o.is)

-- ---- where a train has to call

first-or : (b : Bool) (n : List ℕ) (named : List (List ℕ)) (l : List ℕ) → pointwise nat_eq l n ≡ b → (b || is_at named l) ≡ true →
    (is_at named l ≡ true → Contains named l) → Contains (n ∷ named) l
first-or true n named l same is later = subst (Contains (n ∷ named)) (sym ((bytes_decides l n).0 same)) (Contains-first n named)
first-or false n named l same is later = Contains-rest n named l (later is)

any-contains : (named : List (List ℕ)) (l : List ℕ) → is_at named l ≡ true → Contains named l
any-contains [] l is = absurd (false≢true is)
any-contains (n ∷ named) l is = first-or (pointwise nat_eq l n) n named l refl is (any-contains named l)

contains-any : (named : List (List ℕ)) (l : List ℕ) → Contains named l → is_at named l ≡ true
contains-any [] l h = absurd (Contains-none l h)
contains-any (n ∷ named) l h = elim (Contains-cases n named l h) [
  | inl same ↦ ap (λ b. b || is_at named l) ((bytes_decides l n).1 (sym same))
  | inr later ↦ ap (λ b. pointwise nat_eq l n || b) (contains-any named l later) ∙ or-true (pointwise nat_eq l n)
]

record IsFound {X : Type 0} (test : X → Bool) (xs : List X) (x : X) : Type 0 where
  pub passed : List X
  pub after : List X
  pub split : xs ≡ passed ++ (x ∷ after)
  pub none : All (λ y. test y ≡ false) passed
  pub passes : test x ≡ true

found-or : {X : Type 0} (test : X → Bool) (y : X) (xs : List X) (x : X) (b : Bool) → test y ≡ b →
    (if b then Some y else find test xs) ≡ Some x → (find test xs ≡ Some x → IsFound test xs x) → IsFound test (y ∷ xs) x
found-or test y xs x true same is later = record {
  passed = [];
  after = xs;
  split = ap (λ z. z ∷ xs) (same_Some y x is);
  none = All-nil (λ z. test z ≡ false);
  passes = ap test (sym (same_Some y x is)) ∙ same;
}
found-or test y xs x false same is later =
    let f = later is in
    record {
      passed = y ∷ f.passed;
      after = f.after;
      split = ap (λ l. y ∷ l) f.split;
      none = All-cons (λ z. test z ≡ false) y f.passed same f.none;
      passes = f.passes;
    }

found : {X : Type 0} (test : X → Bool) (xs : List X) (x : X) → find test xs ≡ Some x → IsFound test xs x
found test [] x is = absurd (nothing-is _ is)
found test (y ∷ xs) x is = found-or test y xs x (test y) refl is (found test xs x)

finds : {X : Type 0} (test : X → Bool) (passed : List X) (x : X) (after : List X) → All (λ y. test y ≡ false) passed → test x ≡ true →
    find test (passed ++ (x ∷ after)) ≡ Some x
finds test [] x after none passes = ap (λ b. if b then Some x else find test after) passes
finds test (y ∷ passed) x after none passes =
    ap (λ b. if b then Some y else find test (passed ++ (x ∷ after))) (All-head (λ y. test y ≡ false) y passed none)
    ∙ finds test passed x after (All-tail (λ y. test y ≡ false) y passed none) passes

abbrev made-calling : Option (List ℕ) → Option (List ℕ) → ℕ → CallingAt
made-calling l d t = record { location = l; date = d; time = t }

same-calling : (c : CallingAt) (l d : Option (List ℕ)) (t : ℕ) → l ≡ c.location → d ≡ c.date → t ≡ c.time →
    made-calling l d t ≡ c
same-calling c l d t one two three = rw (one, two, three) refl

IsTrue-is : {b : Bool} → b ≡ true → IsTrue b
IsTrue-is {b} is = is

is-IsTrue : {b : Bool} → IsTrue b → b ≡ true
is-IsTrue {b} is = is

-- a value that a function gave of one that was there
mapped : {A B : Type 0} (o : Option A) (f : A → B) (b : B) → option_map f o ≡ Some b → (a : A) × (o ≡ Some a) × (f a ≡ b)
mapped None f b is = absurd (nothing-is b is)
mapped (Some a) f b is = (a, refl, same_Some (f a) b is)

none-false : (b : Bool) → (b ≡ true → ⊥) → b ≡ false
none-false true none = absurd (none refl)
none-false false none = refl

module _ (x : ExtractParts) where
  module _ (goal : Place) (named : List (List ℕ)) (are : AreLocations x.tiplocs goal named) where
    is-goal : (s : PublicStop) → is_goal named s ≡ true → IsGoal x goal s
    is-goal s is =
        let (gets_off, at) = and_parts s.gets_off (is_at named s.location) is in
        record { at = (are s.location).0 (any-contains named s.location at); riders = IsTrue-is gets_off }

    goal-is : (s : PublicStop) → IsGoal x goal s → is_goal named s ≡ true
    goal-is s g =
        ap (λ b. b && is_at named s.location) (is-IsTrue g.riders) ∙ contains-any named s.location ((are s.location).1 g.at)

  called-is : (goal : Option Place) (named : Option (List (List ℕ))) → AreGoals x.tiplocs goal named → (date : ℕ) (later : List PublicStop)
      (calling : CallingAt) → calling_from named date later ≡ Some calling → IsCallingAt x goal date later calling
  called-is None None are date later calling is = sym (same_Some nowhere calling is)
  called-is None (Some named) are date later calling is = absurd are
  called-is (Some goal) None are date later calling is = absurd are
  called-is (Some goal) (Some named) are date later calling is =
      let (stop, found_is, made) = mapped (goal_in named later) (calling_of date) calling is in
      let f = found (is_goal named) later stop found_is in
      record {
        passed = f.passed;
        stop = stop;
        after = f.after;
        split = f.split;
        none_before = All-weaker (λ s. is_goal named s ≡ false) (λ s. ¬ IsGoal x goal s)
            (λ s none g. false≢true (sym none ∙ goal-is goal named are s g)) f.passed f.none;
        is_goal = is-goal goal named are stop f.passes;
        location = ap (λ (c : CallingAt). c.location) (sym made);
        date = ap (λ (c : CallingAt). c.date) (sym made);
        time = ap (λ (c : CallingAt). c.time) (sym made);
      }

  is-called : (goal : Option Place) (named : Option (List (List ℕ))) → AreGoals x.tiplocs goal named → (date : ℕ) (later : List PublicStop)
      (calling : CallingAt) → IsCallingAt x goal date later calling → calling_from named date later ≡ Some calling
  is-called None None are date later calling is = ap Some (sym is)
  is-called None (Some named) are date later calling is = absurd are
  is-called (Some goal) None are date later calling is = absurd are
  is-called (Some goal) (Some named) are date later calling is =
      ap (λ l. option_map (calling_of date) (goal_in named l)) is.split
      ∙ ap (option_map (calling_of date)) (finds (is_goal named) is.passed is.stop is.after
      (All-weaker (λ s. ¬ IsGoal x goal s) (λ s. is_goal named s ≡ false)
      (λ s none. none-false (is_goal named s) (λ t. none (is-goal goal named are s t))) is.passed is.none_before)
      (goal-is goal named are is.stop is.is_goal))
      ∙ ap Some (same-calling calling (Some is.stop.location) _ is.stop.arrival.time (sym is.location) (sym is.date) (sym is.time))

-- ---- the rows of all schedules

abbrev made-row : ℕ → ℕ → ℕ → List ℕ → List ℕ → List ℕ → BoardTrain → CallingAt → BoardRow
made-row time date call uid location platform train calling = record {
  key = record { time = time; uid = uid; train_date = date; call = call };
  location = location;
  platform = platform;
  train = train;
  calling_at = calling;
}

same-row : (r : BoardRow) (time date call : ℕ) (uid location platform : List ℕ) (train : BoardTrain) → time ≡ r.key.time → uid ≡ r.key.uid →
    date ≡ r.key.train_date → call ≡ r.key.call → location ≡ r.location → platform ≡ r.platform → train ≡ r.train →
    made-row time date call uid location platform train r.calling_at ≡ r
same-row r time date call uid location platform train a b c d e f g = rw (a, b, c, d, e, f, g) refl

module _ (x : ExtractParts) (board : Board) (place : List (List ℕ)) (are_place : AreLocations x.tiplocs board.place place)
    (goal : Option (List (List ℕ))) (are_goal : AreGoals x.tiplocs board.calling_at goal)
    (schedules : List (List ℕ × Permanent BodyLines)) (s : AreCanonSchedules Three x schedules) where
  abbrev wanted : Wanted
  wanted = wanted_of board place goal

  pub row-is : (row : BoardRow) → Contains (flat_map (rows_of wanted) schedules) row → IsBoardRow x board row
  row-is row h =
      let (e, listed, in') = from-flat (rows_of wanted) schedules row h in
      let body = e.1.body in
      let train = board_train body (public_stops body) in
      let has = from-rows wanted e train (public_stops body) row in' in
      let o = from-if wanted e train has.stop has.later row has.is in
      let date = board.day - (clock_time board.kind has.stop).midnights in
      let applies : Applies e.1 date = (applies-decided e.1 date).0 o.applies in
      let aligned = (s.canonical.have_form e.0).aligned e.1 listed in
      let begun = applies.begun in
      let unfinished = applies.unfinished in
      let first = aligned.first_within.from in
      let last = aligned.last_within.upto in
      let within : IsWithin (header_window x.header) date = record { from = omega (arith, begun, first); upto = omega (arith, unfinished, last) } in
      let upto = o.upto in
      subst (IsBoardRow x board) o.is (record {
        within = within;
        body = body;
        runs = (s.same_meaning.same e.0 date (Some body) within.from within.upto).1
            ((runs-applies schedules e.0 date body).1 (record { it = e.1; listed = listed; applies = applies; body = refl }));
        earlier = has.earlier;
        stop = has.stop;
        later = has.later;
        calls = has.split;
        at = (are_place has.stop.location).0 (any-contains place has.stop.location o.at);
        riders = IsTrue-is o.shown;
        on_date = omega (arith, upto);
        time = refl;
        call = refl;
        location = refl;
        platform = refl;
        train = refl;
        calling_at = called-is x board.calling_at goal are_goal date has.later o.calling o.called;
      })

  pub is-row : (row : BoardRow) → IsBoardRow x board row → Contains (flat_map (rows_of wanted) schedules) row
  is-row row b =
      let uid = row.key.uid in
      let date = row.key.train_date in
      let has = (runs-applies schedules uid date b.body).0
      ((s.same_meaning.same uid date (Some b.body) b.within.from b.within.upto).0 b.runs) in
      let e : List ℕ × Permanent BodyLines = (uid, has.it) in
      let train = board_train b.body (public_stops b.body) in
      let stop = b.stop in
      let on_date = b.on_date in
      let day : date ≡ board.day - (clock_time board.kind stop).midnights = omega (arith, on_date) in
      let o : IsRowOf wanted e train stop b.later row = record {
        shown = is-IsTrue b.riders;
        at = contains-any place stop.location ((are_place stop.location).1 b.at);
        upto = omega (arith, on_date);
        applies = (applies-decided has.it (board.day - (clock_time board.kind stop).midnights)).1 (subst (Applies has.it) day has.applies);
        calling = row.calling_at;
        called = ap (λ d. calling_from goal d b.later) (sym day) ∙ is-called x board.calling_at goal are_goal date b.later row.calling_at b.calling_at;
        is = same-row row _ _ _ uid _ _ train (sym b.time) refl (sym day) (sym b.call) (sym b.location) (sym b.platform) (sym b.train);
      } in
      let own = subst (λ ss. Contains (rows_from wanted e train ss) row) (sym b.calls)
      (to-rows wanted e train b.earlier stop b.later row (to-if wanted e train stop b.later row o)) in
      to-flat (rows_of wanted) schedules e row has.listed
      (subst (λ c. Contains (rows_from wanted e (board_train c (public_stops c)) (public_stops c)) row) (sym has.body) own)

-- ---- the order of rows

pub key-total : IsTotalOrder key_cmp
key-total =
    then_total (on_total (λ (k : BoardKey). k.time) nat_cmp_total)
    (then_total (on_total (λ (k : BoardKey). k.uid) nat_list_cmp_total)
    (then_total (on_total (λ (k : BoardKey). k.train_date) nat_cmp_total) (on_total (λ (k : BoardKey). k.call) nat_cmp_total)))

abbrev row_cmp : BoardRow → BoardRow → Ordering
row_cmp r s = key_cmp r.key s.key

row-total : IsTotalOrder row_cmp
row-total = on_total (λ (r : BoardRow). r.key) key-total

-- whether two rows have one key
abbrev same_key : BoardRow → BoardRow → Bool
same_key r s = is_eq (row_cmp r s)

flipped : (o : Ordering) → is_eq (ordering_reverse o) ≡ is_eq o
flipped Less = refl
flipped Equal = refl
flipped Greater = refl

flips : (r s : BoardRow) → same_key r s ≡ same_key s r
flips r s = ap is_eq (row-total.antisymm r s) ∙ flipped (row_cmp s r)

-- numbers and texts that don't differ in a key
same-numbers : (a b : ℕ) → is_eq (nat_cmp a b) ≡ true → a ≡ b
same-numbers a b is =
    elim (cases_lt a b) [
      | inl less ↦ absurd (false≢true (ap is_eq (nat_cmp_is a b Less less) ∙ is))
      | inr from ↦ elim (cases_lt b a) [
        | inl more ↦ absurd (false≢true (ap is_eq (nat_cmp_is a b Greater more) ∙ is))
        | inr upto ↦ omega (arith, from, upto)
      ]
    ]

same-parts : (o p : Ordering) → is_eq (ordering_then o p) ≡ true → (is_eq o ≡ true) × (is_eq p ≡ true)
same-parts Less p is = absurd (false≢true is)
same-parts Equal p is = (refl, is)
same-parts Greater p is = absurd (false≢true is)

record HaveOneKey (r s : BoardRow) : Type 0 where
  pub uid : r.key.uid ≡ s.key.uid
  pub date : r.key.train_date ≡ s.key.train_date
  pub call : r.key.call ≡ s.key.call

one-key : (r s : BoardRow) → same_key r s ≡ true → HaveOneKey r s
one-key r s is =
    let (_, after_time) = same-parts (nat_cmp r.key.time s.key.time) _ is in
    let (uid, after_uid) = same-parts (slice_cmp nat_cmp r.key.uid s.key.uid) _ after_time in
    let (date, call) = same-parts (nat_cmp r.key.train_date s.key.train_date) (nat_cmp r.key.call s.key.call) after_uid in
    record {
      uid = (bytes_decides r.key.uid s.key.uid).0 (texts_ties r.key.uid s.key.uid ∙ uid);
      date = same-numbers r.key.train_date s.key.train_date date;
      call = same-numbers r.key.call s.key.call call;
    }

not-true : (b : Bool) → (b ≡ true → ⊥) → b ≡ false
not-true true none = absurd (none refl)
not-true false none = refl

-- distinct lists that are joined, where no element of one is like one of the other
module _ {A : Type 0} (like : A → A → Bool) where
  all-unlike : (a : A) (xs ys : List A) → AllByRecursion (λ y. like a y ≡ false) xs → AllByRecursion (λ y. like a y ≡ false) ys →
      AllByRecursion (λ y. like a y ≡ false) (xs ++ ys)
  all-unlike a [] ys one other = other
  all-unlike a (x ∷ xs) ys one other = (one.0, all-unlike a xs ys one.1 other)

  by-members : (a : A) (ys : List A) → ((b : A) → Contains ys b → like a b ≡ false) → AllByRecursion (λ y. like a y ≡ false) ys
  by-members a [] unlike = tt
  by-members a (y ∷ ys) unlike = (unlike y (Contains-first y ys), by-members a ys (λ b listed. unlike b (Contains-rest y ys b listed)))

  pub joined-distinct : (xs ys : List A) → IsDistinct like xs → IsDistinct like ys →
      ((a b : A) → Contains xs a → Contains ys b → like a b ≡ false) → IsDistinct like (xs ++ ys)
  unfolding IsDistinct
  joined-distinct [] ys one other unlike = other
  joined-distinct (x ∷ xs) ys one other unlike = (
    all-unlike x xs ys one.0 (by-members x ys (λ b listed. unlike x b (Contains-first x xs) listed)),
    joined-distinct xs ys one.1 other (λ a b in' listed. unlike a b (Contains-rest x xs a in') listed),
  )

-- ---- rows have keys of their own

module _ (wanted : Wanted) (e : List ℕ × Permanent BodyLines) (train : BoardTrain) where
  option-distinct : (o : Option BoardRow) → IsDistinct same_key (option_to_list o)
  unfolding IsDistinct
  option-distinct None = tt
  option-distinct (Some row) = (tt, tt)

  -- a row has the number of its call, the UID and a date on which the record applies
  record IsOf (row : BoardRow) (call : ℕ) : Type 0 where
    pub call_is : row.key.call ≡ call
    pub uid : row.key.uid ≡ e.0
    pub applies : Applies e.1 row.key.train_date

  row-of : (stop : PublicStop) (later : List PublicStop) (row : BoardRow) → row_if wanted e train stop later ≡ Some row → IsOf row stop.call
  row-of stop later row is =
      let o = from-if wanted e train stop later row is in
      record {
        call_is = ap (λ (r : BoardRow). r.key.call) (sym o.is);
        uid = ap (λ (r : BoardRow). r.key.uid) (sym o.is);
        applies = subst (Applies e.1) (ap (λ (r : BoardRow). r.key.train_date) o.is)
            ((applies-decided e.1 (wanted.day - (clock_time wanted.kind stop).midnights)).0 o.applies);
      }

  member-rises : (n : ℕ) (stops earlier : List PublicStop) (stop : PublicStop) (later : List PublicStop) → stops ≡ earlier ++ (stop ∷ later) →
      All (λ t. n < t.call) stops → n < stop.call
  member-rises n stops earlier stop later split all =
      All-contains (λ t. n < t.call) stops stop all
      (subst (λ l. Contains l stop) (sym split) (Contains-append_right earlier (stop ∷ later) stop (Contains-first stop later)))

  rows-distinct : (stops : List PublicStop) → Rise stops → IsDistinct same_key (rows_from wanted e train stops)
  unfolding IsDistinct
  rows-distinct [] rise = tt
  rows-distinct (stop ∷ later) rise =
      joined-distinct same_key (option_to_list (row_if wanted e train stop later)) (rows_from wanted e train later)
      (option-distinct (row_if wanted e train stop later)) (rows-distinct later rise.1) (λ a b in' listed.
      not-true (same_key a b) (λ same.
      let one = row-of stop later a (in-option (row_if wanted e train stop later) a in') in
      let has = from-rows wanted e train later b listed in
      let other = row-of has.stop has.later b has.is in
      let less = member-rises stop.call later has.earlier has.stop has.later has.split rise.0 in
      let call = (one-key a b same).call in
      let x = one.call_is in
      let y = other.call_is in
      absurd (omega (arith, less, call, x, y))))

module _ (x : ExtractParts) (wanted : Wanted) (schedules : List (List ℕ × Permanent BodyLines)) (s : AreCanonSchedules Three x schedules) where
  own-row : (e : List ℕ × Permanent BodyLines) (row : BoardRow) → Contains (rows_of wanted e) row →
      (n : ℕ) × IsOf wanted e (board_train e.1.body (public_stops e.1.body)) row n
  own-row e row h =
      let train = board_train e.1.body (public_stops e.1.body) in
      let has = from-rows wanted e train (public_stops e.1.body) row h in
      (has.stop.call, row-of wanted e train has.stop has.later row has.is)

  not-before : (e f : List ℕ × Permanent BodyLines) → Precedes (slice_cmp nat_cmp) e f → e.0 ≡ f.0 → e.1 ≡ f.1 → ⊥
  not-before e f before key same = elim before [
    | inl less ↦ not_less (slice_cmp nat_cmp) nat_list_cmp_total e.0 f.0 key less
    | inr one ↦ (let first = ap (λ (r : Permanent BodyLines). r.first) same in let less = one.1 in absurd (omega (arith, first, less)))
  ]

  all-distinct : (es : List (List ℕ × Permanent BodyLines)) → AllPairs (Precedes (slice_cmp nat_cmp)) es →
      ((e : List ℕ × Permanent BodyLines) → Contains es e → Contains schedules e) → IsDistinct same_key (flat_map (rows_of wanted) es)
  unfolding IsDistinct
  all-distinct [] rising within = tt
  all-distinct (e ∷ es) rising within =
      joined-distinct same_key (rows_of wanted e) (flat_map (rows_of wanted) es)
      (rows-distinct wanted e (board_train e.1.body (public_stops e.1.body)) (public_stops e.1.body) (calls-rise at_first 1 (drop 1 e.1.body)))
      (all-distinct es (λ i j d less below. rising (suc i) (suc j) d (omega (arith, less)) (omega (arith, below)))
      (λ f listed. within f (Contains-rest e es f listed))) (λ a b in' listed.
      not-true (same_key a b) (λ same.
      let (f, in_f, of_f) = from-flat (rows_of wanted) es b listed in
      let (_, one) = own-row e a in' in
      let (_, other) = own-row f b of_f in
      let keys = one-key a b same in
      let key : e.0 ≡ f.0 = sym one.uid ∙ keys.uid ∙ other.uid in
      let before : Precedes (slice_cmp nat_cmp) e f = All-contains (Precedes (slice_cmp nat_cmp) e) es f
      (λ j d below. rising 0 (suc j) d (omega arith) (omega (arith, below))) in_f in
      not-before e f before key
      ((s.canonical.have_form e.0).single a.key.train_date e.1 f.1 (within e (Contains-first e es))
      (subst (λ k. Contains schedules (k, f.1)) (sym key) (within f (Contains-rest e es f in_f))) one.applies
      (subst (Applies f.1) (sym keys.date) other.applies))))

distinct-next : {A : Type 0} (like : A → A → Bool) (xs : List A) (k : ℕ) (d : A) → IsDistinct like xs → suc k < length xs →
    like (get_or xs k d) (get_or xs (suc k) d) ≡ false
unfolding IsDistinct
distinct-next like [] k d distinct within = absurd (omega (arith, within))
distinct-next like (y ∷ []) k d distinct within = absurd (omega (arith, within))
distinct-next like (y ∷ z ∷ xs) zero d distinct within = distinct.0.0
distinct-next like (y ∷ z ∷ xs) (suc k) d distinct within = distinct-next like (z ∷ xs) k d distinct.1 (omega (arith, within))

one-more : (k : ℕ) → suc k ≡ k + 1
one-more k = omega arith

less-by : (o : Ordering) (a b : BoardRow) → o ≡ row_cmp a b → is_lt (row_cmp b a) ≡ false → is_eq (row_cmp a b) ≡ false → row_cmp a b ≡ Less
less-by Less a b is order apart = sym is
less-by Equal a b is order apart = absurd (false≢true (sym apart ∙ ap is_eq (sym is)))
less-by Greater a b is order apart =
    absurd (false≢true (sym order ∙ ap is_lt (row-total.antisymm b a ∙ ap ordering_reverse (sym is))))

pub rows-are : (x : ExtractParts) (board : Board) (schedules : List (List ℕ × Permanent BodyLines)) (rows : List BoardRow) →
    AreCanonSchedules Three x schedules → AreRowsOf x.tiplocs board schedules rows → AreBoardRows x board rows
rows-are x board schedules rows s a =
    let wanted = wanted_of board a.place a.goal in
    let all = flat_map (rows_of wanted) schedules in
    let distinct = IsDistinct-IsPermutation same_key flips all rows a.permuted (all-distinct x wanted schedules s schedules s.canonical.rising (λ e listed. listed)) in
    record {
      rising = λ i j d less below.
          Less-from_sorted row_cmp rows i j d
          (sorted_from_all_adjacent row-total rows d (λ k within.
          less-by (row_cmp (get_or rows k d) (get_or rows (k + 1) d)) (get_or rows k d) (get_or rows (k + 1) d) refl
          (a.sorted k d (omega arith) within) (subst (λ m. same_key (get_or rows k d) (get_or rows m d) ≡ false) (one-more k) (distinct-next same_key rows k d distinct (omega (arith, within))))))
          less below;
      are = λ row. (
        λ h. row-is x board a.place a.are_place a.goal a.are_goal schedules s row
            (Contains-permutation rows all row (IsPermutation-sym all rows a.permuted) h),
        λ b. Contains-permutation all rows row a.permuted (is-row x board a.place a.are_place a.goal a.are_goal schedules s row b),
      );
    }
