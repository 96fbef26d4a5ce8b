-- The public calls of a train as a board shows them, line by line; and the places that boards are of.
use Rattle.cif_views.proofs.Names.{IsJourneyBy, Journey, JourneyKind, List, Numbered, Option, Shown, [], ap, append-nil, append_assoc, arith, cond}
use Rattle.cif_views.proofs.Names.{is_call, kind_of_line, length, map, map-append, numbered_from, public_call, public_from, refl, step_at, sym, ℕ}
use Rattle.cif_views.proofs.Names.{◌++◌, ◌+◌, ◌∙◌, ◌∷◌, ◌≡◌}
use Rattle.cif_views.proofs.Names.{All, All-append, All-cons, All-head, All-nil, All-tail, BodyLines, Bool, None, Permanent, Some, and-false, at_first}
use Rattle.std.proofs.Common.{take_all}
use Rattle.cif_views.proofs.Names.{All-weaker, Change, Other, Stop, false≢true, is_some, times_in, true}
use Rattle.cif_views.specs.{PublicCalls.riders_in, declared.columns.JourneyKind.TheVariants.Origin}
use Rattle.cif_views.specs.declared.columns.JourneyKind.TheVariants.{Terminus}
use Rattle.cif_views.specs.Steps.PublicCalls.{step}
use Rattle.cif_views.proofs.Names.{get_or, take, ◌<◌, ◌≤◌}
use Rattle.cif_views.proofs.Names.{drop, false, if◌then◌else◌, nat_le, subst, ◌&&◌, ◌-◌, ◌||◌}
use Rattle.std.proofs.lemmas.Bool.{or_parts}
use Rattle.std.specs.{List.list_any, Prelude.option_to_list}
use Rattle.cif_columns.specs.Field.{columns_from}
use Rattle.cif_views.specs.{Boards.board_train, Boards.clock_time, Boards.is_shown, Boards.stop_of}
use Rattle.cif_views.specs.Steps.Boards.{calling_from, is_at, row_if, row_of_date, row_on, rows_from, rows_of, stops_in}
use Rattle.cif_canon.specs.Steps.Views.{applies_on}
use Rattle.cif_columns.specs.Day.{weekday_of}
use Rattle.std.proofs.lemmas.Bool.{lt-leb}
use Rattle.std.specs.Prelude.{option_map, slice_index_or}
use Rattle.cif_views.specs.declared.{board.BoardRow.BoardRow, board.BoardTrain.BoardTrain, boards.Wanted.Wanted, public_stop.PublicStop.PublicStop}

abbrev pub stops_left : Journey → ℕ → List (List ℕ) → List PublicStop
stops_left j call lines = map stop_of (public_from j (numbered_from 1 call lines))

abbrev pub stop_at : ℕ → List ℕ → Option Shown → List PublicStop
stop_at call line shown = map stop_of (public_call (record { schedule = 1; call = call; line = line }) shown)

-- the calls so far, and those of the lines that are left, are all
pub one-stop : (whole done more : List PublicStop) (j next : Journey) (call number : ℕ) (lines : List (List ℕ)) (line : List ℕ)
    (rest : List (List ℕ)) → lines ≡ line ∷ rest → more ≡ done ++ stop_at call line (step_at j line).1 → next ≡ (step_at j line).0 →
    number ≡ cond (is_call (kind_of_line line)) (call + 1) call → done ++ stops_left j call lines ≡ whole →
    more ++ stops_left next number rest ≡ whole
one-stop whole done more j next call number lines line rest is more_is next_is number_is left =
    let shown = step_at j line in
    let after_call = cond (is_call (kind_of_line line)) (call + 1) call in
    let one : Numbered = record { schedule = 1; call = call; line = line } in
    ap (λ (l : List PublicStop). l ++ stops_left next number rest) more_is
    ∙ ap (λ k. (done ++ stop_at call line shown.1) ++ stops_left k number rest) next_is
    ∙ ap (λ k. (done ++ stop_at call line shown.1) ++ stops_left shown.0 k rest) number_is
    ∙ append_assoc done (stop_at call line shown.1) (stops_left shown.0 after_call rest)
    ∙ ap (λ (l : List PublicStop). done ++ l)
    (sym (map-append stop_of (public_call one shown.1) (public_from shown.0 (numbered_from 1 after_call rest))))
    ∙ ap (λ (ls : List (List ℕ)). done ++ stops_left j call ls) (sym is)
    ∙ left

pub no-stop : (whole done : List PublicStop) (j : Journey) (call : ℕ) (lines : List (List ℕ)) → length lines ≡ 0 →
    done ++ stops_left j call lines ≡ whole → done ≡ whole
no-stop whole done j call [] none left = sym (append-nil done) ∙ left
no-stop whole done j call (line ∷ lines) none left = absurd (omega (arith, none))

-- ---- where no line is at the place

module _ (wanted : Wanted) where
  abbrev at_place : List ℕ → Bool
  at_place line = is_at wanted.place (columns_from 3 7 line)

  abbrev IsElsewhere : PublicStop → Type 0
  IsElsewhere s = is_at wanted.place s.location ≡ false

  stop-elsewhere : (call : ℕ) (line : List ℕ) (shown : Option Shown) → at_place line ≡ false → All IsElsewhere (stop_at call line shown)
  stop-elsewhere call line None none = All-nil IsElsewhere
  stop-elsewhere call line (Some shown) none =
      All-cons IsElsewhere (stop_of (record { call = record { schedule = 1; call = call; line = line }; arrival = shown.arrival; departure = shown.departure })) []
      none (All-nil IsElsewhere)

  stops-elsewhere : (j : Journey) (call : ℕ) (lines : List (List ℕ)) → list_any at_place lines ≡ false →
      All IsElsewhere (stops_left j call lines)
  stops-elsewhere j call [] none = All-nil IsElsewhere
  stops-elsewhere j call (line ∷ lines) none =
      let (here, later) = or_parts (at_place line) (list_any at_place lines) none in
      let shown = step_at j line in
      let after_call = cond (is_call (kind_of_line line)) (call + 1) call in
      let one : Numbered = record { schedule = 1; call = call; line = line } in
      subst (All IsElsewhere) (sym (map-append stop_of (public_call one shown.1) (public_from shown.0 (numbered_from 1 after_call lines))))
      (All-append IsElsewhere (stop_at call line shown.1) (stops_left shown.0 after_call lines) (stop-elsewhere call line shown.1 here)
      (stops-elsewhere shown.0 after_call lines later))

  row-none : (e : List ℕ × Permanent BodyLines) (train : BoardTrain) (stop : PublicStop) (later : List PublicStop) → IsElsewhere stop →
      row_if wanted e train stop later ≡ None
  row-none e train stop later none =
      ap (λ b. if is_shown wanted.kind stop && b
      then (if nat_le (clock_time wanted.kind stop).midnights wanted.day
      then row_of_date wanted e train stop later (wanted.day - (clock_time wanted.kind stop).midnights) else None) else None) none
      ∙ ap (λ b. if b
      then (if nat_le (clock_time wanted.kind stop).midnights wanted.day
      then row_of_date wanted e train stop later (wanted.day - (clock_time wanted.kind stop).midnights) else None) else None)
      (and-false (is_shown wanted.kind stop))

  rows-none : (e : List ℕ × Permanent BodyLines) (train : BoardTrain) (stops : List PublicStop) → All IsElsewhere stops →
      rows_from wanted e train stops ≡ []
  rows-none e train [] none = refl
  rows-none e train (stop ∷ stops) none =
      ap (λ o. option_to_list o ++ rows_from wanted e train stops) (row-none e train stop stops (All-head IsElsewhere stop stops none))
      ∙ rows-none e train stops (All-tail IsElsewhere stop stops none)

  pub no-rows : (e : List ℕ × Permanent BodyLines) → list_any at_place (drop 1 e.1.body) ≡ false → rows_of wanted e ≡ []
  no-rows e none =
      let stops = stops_in (drop 1 e.1.body) in
      rows-none e (board_train e.1.body stops) stops (stops-elsewhere at_first 1 (drop 1 e.1.body) none)

-- ---- where a train runs from a later date on

module _ (wanted : Wanted) (e : List ℕ × Permanent BodyLines) (late : wanted.day < e.1.first) where
  not-yet : (midnights : ℕ) → applies_on e.1 (wanted.day - midnights) ≡ false
  not-yet midnights =
      let day = wanted.day - midnights in
      ap (λ b. b && (nat_le day e.1.last && slice_index_or e.1.days (weekday_of day) false)) (lt-leb e.1.first day (omega (arith, late)))

  abbrev no-row : Option BoardRow
  no-row = None

  none-chosen : (b : Bool) → (if b then no-row else None) ≡ no-row
  none-chosen true = refl
  none-chosen false = refl

  row-later : (train : BoardTrain) (stop : PublicStop) (later : List PublicStop) → row_if wanted e train stop later ≡ None
  row-later train stop later =
      let midnights = (clock_time wanted.kind stop).midnights in
      let shown = is_shown wanted.kind stop && is_at wanted.place stop.location in
      let none : row_of_date wanted e train stop later (wanted.day - midnights) ≡ None =
      ap (λ b. if b then option_map (row_on wanted e.0 train stop (wanted.day - midnights)) (calling_from wanted.goal (wanted.day - midnights) later)
      else None) (not-yet midnights) in
      ap (λ o. if shown then (if nat_le midnights wanted.day then o else None) else None) none
      ∙ ap (λ o. if shown then o else None) (none-chosen (nat_le midnights wanted.day))
      ∙ none-chosen shown

  rows-later : (train : BoardTrain) (stops : List PublicStop) → rows_from wanted e train stops ≡ []
  rows-later train [] = refl
  rows-later train (stop ∷ stops) =
      ap (λ o. option_to_list o ++ rows_from wanted e train stops) (row-later train stop stops) ∙ rows-later train stops

  pub no-rows-yet : rows_of wanted e ≡ []
  no-rows-yet = let stops = stops_in (drop 1 e.1.body) in rows-later (board_train e.1.body stops) stops

-- ---- one row more

module _ (wanted : Wanted) (e : List ℕ × Permanent BodyLines) (train : BoardTrain) where
  pub next-rows : (rest : List PublicStop) (stop : PublicStop) (row : Option BoardRow) (done more whole : List BoardRow) → 1 ≤ length rest →
      stop ≡ get_or rest 0 stop → row ≡ row_if wanted e train stop (take (length rest - 1) (drop 1 rest)) →
      more ≡ done ++ option_to_list row → done ++ rows_from wanted e train rest ≡ whole →
      more ++ rows_from wanted e train (take (length rest - 1) (drop 1 rest)) ≡ whole
  next-rows [] stop row done more whole some is row_is more_is all = absurd (omega (arith, some))
  next-rows (s ∷ later) stop row done more whole some is row_is more_is all =
      let others : take (length (s ∷ later) - 1) later ≡ later = take_all (length (s ∷ later) - 1) later (omega arith) in
      let own = row_is ∙ ap (row_if wanted e train stop) others ∙ ap (λ u. row_if wanted e train u later) is in
      ap (λ (l : List PublicStop). more ++ rows_from wanted e train l) others
      ∙ ap (λ (l : List BoardRow). l ++ rows_from wanted e train later) (more_is ∙ ap (λ o. done ++ option_to_list o) own)
      ∙ append_assoc done (option_to_list (row_if wanted e train s later)) (rows_from wanted e train later)
      ∙ all

  pub last-rows : (rest : List PublicStop) (done whole : List BoardRow) → length rest < 1 → done ++ rows_from wanted e train rest ≡ whole →
      done ≡ whole
  last-rows [] done whole none all = sym (append-nil done) ∙ all
  last-rows (stop ∷ later) done whole none all = absurd (omega (arith, none))

-- ---- the numbers of calls rise

abbrev pub Rise : List PublicStop → Type 0
Rise [] = Unit {0}
Rise (s ∷ stops) = All (λ t. s.call < t.call) stops × Rise stops

number-after : (call : ℕ) (b : Bool) → call ≤ cond b (call + 1) call
number-after call true = omega arith
number-after call false = omega arith

own-number : (call : ℕ) (line : List ℕ) (shown : Option Shown) → All (λ s. call ≤ s.call) (stop_at call line shown)
own-number call line None = All-nil (λ s. call ≤ s.call)
own-number call line (Some shown) =
    All-cons (λ s. call ≤ s.call) (stop_of (record { call = record { schedule = 1; call = call; line = line }; arrival = shown.arrival; departure = shown.departure })) []
    (omega arith) (All-nil (λ s. call ≤ s.call))

-- the calls of lines have numbers from the first on
from-number : (j : Journey) (call : ℕ) (lines : List (List ℕ)) → All (λ s. call ≤ s.call) (stops_left j call lines)
from-number j call [] = All-nil (λ s. call ≤ s.call)
from-number j call (line ∷ lines) =
    let shown = step_at j line in
    let after_call = cond (is_call (kind_of_line line)) (call + 1) call in
    let one : Numbered = record { schedule = 1; call = call; line = line } in
    let upto = number-after call (is_call (kind_of_line line)) in
    subst (All (λ s. call ≤ s.call)) (sym (map-append stop_of (public_call one shown.1) (public_from shown.0 (numbered_from 1 after_call lines))))
    (All-append (λ s. call ≤ s.call) (stop_at call line shown.1) (stops_left shown.0 after_call lines) (own-number call line shown.1)
    (All-weaker (λ s. after_call ≤ s.call) (λ s. call ≤ s.call) (λ s from. omega (arith, from, upto)) (stops_left shown.0 after_call lines)
    (from-number shown.0 after_call lines)))

-- what is public is a call
public-call : (k : JourneyKind) (j : Journey) (line : List ℕ) (shown : Shown) → (step j (times_in k line) (riders_in k line)).1 ≡ Some shown →
    is_call k ≡ true
public-call Origin j line shown is = refl
public-call Stop j line shown is = refl
public-call Terminus j line shown is = refl
public-call Change j line shown is = absurd (false≢true (ap is_some is))
public-call Other j line shown is = absurd (false≢true (ap is_some is))

rise-after : (j : Journey) (call : ℕ) (line : List ℕ) (lines : List (List ℕ)) (shown : Option Shown) → (step_at j line).1 ≡ shown →
    Rise (stops_left (step_at j line).0 (cond (is_call (kind_of_line line)) (call + 1) call) lines) →
    Rise (stop_at call line shown ++ stops_left (step_at j line).0 (cond (is_call (kind_of_line line)) (call + 1) call) lines)
rise-after j call line lines None is rise = rise
rise-after j call line lines (Some shown) is rise =
    let next = (step_at j line).0 in
    let after_call = cond (is_call (kind_of_line line)) (call + 1) call in
    let after : after_call ≡ call + 1 = ap (λ b. cond b (call + 1) call) (public-call (kind_of_line line) j line shown is) in (
      All-weaker (λ s. after_call ≤ s.call) (λ s. call < s.call) (λ s from. omega (arith, from, after)) (stops_left next after_call lines)
          (from-number next after_call lines),
      rise,
    )

pub calls-rise : (j : Journey) (call : ℕ) (lines : List (List ℕ)) → Rise (stops_left j call lines)
calls-rise j call [] = tt
calls-rise j call (line ∷ lines) =
    let shown = step_at j line in
    let after_call = cond (is_call (kind_of_line line)) (call + 1) call in
    let one : Numbered = record { schedule = 1; call = call; line = line } in
    subst Rise (sym (map-append stop_of (public_call one shown.1) (public_from shown.0 (numbered_from 1 after_call lines))))
    (rise-after j call line lines shown.1 refl (calls-rise shown.0 after_call lines))
