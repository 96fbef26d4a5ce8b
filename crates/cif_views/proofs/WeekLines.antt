-- The lines of weeks, and what the letters in them say.
use Rattle.cif_views.proofs.Names.{AreDayStates, AreLawful, AreLawful-of_key, Bool, C, DayState, ExtractParts, IsClear, IsDayState, IsNone}
use Rattle.cif_views.proofs.Names.{IsRunningLetter, IsShown, IsWeekCalendar, List, None, Option, P, Records, Runs, SaysWhatRuns, Schedule}
use Rattle.cif_views.proofs.Names.{Some, Terms, [], ap, append_assoc, arith, calendar_text, cell, character, codes, cond, drop, drop-cons}
use Rattle.cif_views.proofs.Names.{false, false≢true, flat_map, get_or, if◌then◌else◌, inl, inr, le-ltb, length, letter, lt-ltb, ltb-false}
use Rattle.cif_views.proofs.Names.{ltb-true, map, map-append, map-id, monday_columns, nat_lt, of_key, range_with_len, refl}
use Rattle.cif_views.proofs.Names.{schedule_entries, schedule_terms, slice_get, slice_get-get_or, space, state_in, subst, suc, sym, take}
use Rattle.cif_views.proofs.Names.{take-append-drop, true, week_line, week_of, weekday_of, weeks_between, yymmdd_of, ℕ, ◌%◌, ◌*◌, ◌++◌, ◌+◌}
use Rattle.cif_views.proofs.Names.{◌-◌, ◌/◌, ◌<◌, ◌↔◌, ◌∙◌, ◌∷◌, ◌≡◌, ◌≢◌, ◌≤◌}
use Rattle.std.proofs.lemmas.List.FromFn.{get_or-map-range_with_len, get_or-range_with_len, length-range_with_len, map-range_with_len_more}
use Rattle.cif_columns.specs.declared.stp.Stp.TheVariants.{N, O}
use Rattle.cif_calendar.specs.Laws.Bodied.{cancelled-from_bodied}
use Rattle.cif_calendar.specs.declared.day_state.DayState.TheVariants as state
use Rattle.cif_views.specs.WeekCalendar.{text_of}

-- ---- Mondays

pub monday-none : (w : ℕ) → w * 7 < 36529 → ((n : ℕ) → (n + 4) / 7 ≡ w → (n + 4) % 7 ≡ 0 → n < 36525 → ⊥) →
    codes "      " ≡ monday_columns w
monday-none w within none =
    let early : w * 7 < 4 = elim (nat_lt (w * 7) 4) as (λ b. nat_lt (w * 7) 4 ≡ b → w * 7 < 4) [
      | true ↦ λ e. ltb-true (w * 7) 4 e
      | false ↦ λ e.
          let late : 4 ≤ w * 7 = ltb-false (w * 7) 4 e in
          absurd (none (w * 7 - 4) (omega arith) (omega arith) (omega arith))
    ] refl in
    sym (ap (λ b. cond b (codes "      ") (yymmdd_of (w * 7 - 4))) (lt-ltb (w * 7) 4 early))

-- ---- cells

module _ (first last : ℕ) (state_on : ℕ → DayState) (w i : ℕ) where
  abbrev days : ℕ
  days = w * 7 + i

  abbrev rest : Bool → Bool → ℕ
  rest early late = cond early space (cond late space (character (state_on (days - 4))))

-- ---- weeks

pub range-push : (a n b : ℕ) → a + n ≡ b → range_with_len a (n + 1) ≡ range_with_len a n ++ b ∷ []
range-push a n b is =
    sym (map-id (range_with_len a (n + 1))) ∙ map-range_with_len_more (λ (i : ℕ). i) a n b is
    ∙ ap (λ l. l ++ b ∷ []) (map-id (range_with_len a n))

-- ---- letters

-- a letter other than C
abbrev Running : DayState → Type 0
Running (state.Letter stp) = stp ≢ C
Running _ = ⊥

running-late : (c : ℕ) → IsRunningLetter c → 78 ≤ c
running-late c (inl is) = omega (arith, is)
running-late c (inr (inl is)) = omega (arith, is)
running-late c (inr (inr is)) = omega (arith, is)

-- in the text it is one of the letters
running : (s : DayState) → IsRunningLetter (character s) ↔ Running s
running state.NoneApplies = (λ h. let late = running-late 46 h in omega (arith, late), λ h. absurd h)
running state.Clash = (λ h. let late = running-late 33 h in omega (arith, late), λ h. absurd h)
running (state.Letter P) = (λ h is. let same : 80 ≡ 67 = ap letter is in omega (arith, same), λ other. inl refl)
running (state.Letter N) = (λ h is. let same : 78 ≡ 67 = ap letter is in omega (arith, same), λ other. inr (inl refl))
running (state.Letter O) = (λ h is. let same : 79 ≡ 67 = ap letter is in omega (arith, same), λ other. inr (inr refl))
running (state.Letter C) = (λ h. let late = running-late 67 h in absurd (omega (arith, late)), λ other. absurd (other refl))

module _ {B : Type 0} (records : Records B) (lawful : AreLawful records) (d : ℕ) where
  body-none : (r : Terms B) → records r → r.letter ≡ C → (b : B) → r.body ≡ Some b → ⊥
  body-none r has is b some = let none = (lawful.cancelled r has).1 is in subst (λ o. IsNone o → ⊥) (sym some)
      (λ h. false≢true (sym h)) none

  some-body : (r : Terms B) → records r → (r.letter ≡ C → ⊥) → (o : Option B) → r.body ≡ o → (b : B) × (r.body ≡ Some b)
  some-body r has other None is = absurd (other ((lawful.cancelled r has).0 (subst (λ o. IsNone o) (sym is) refl)))
  some-body r has other (Some b) is = (b, is)

  letter-runs : (s : DayState) → IsDayState records d s → Running s ↔ (IsClear records d × ((b : B) × Runs records d (Some b)))
  letter-runs state.NoneApplies none = (λ h. absurd h, λ runs. none runs.1.1.winner runs.1.1.wins.listed runs.1.1.wins.applies)
  letter-runs state.Clash clash = (
    λ h. absurd h,
    λ runs. clash.bodies_differ (runs.0.agree clash.one clash.other clash.one_wins clash.other_wins),
  )
  letter-runs (state.Letter stp) (won, clear) = (
    λ other. let (b, body) = some-body won.winner won.wins.listed (λ is. other (sym won.letter_is ∙ is)) won.winner.body refl in
        (clear, (b, record { winner = won.winner; wins = won.wins; body = body })),
    λ runs is. body-none won.winner won.wins.listed (won.letter_is ∙ is) runs.1.0
        (clear.agree won.winner runs.1.1.winner won.wins runs.1.1.wins ∙ runs.1.1.body),
  )

-- ---- the whole text

module _ (x : ExtractParts) (u : List ℕ) (first last : ℕ) (states : List DayState) (from : first ≡ x.header.first) (upto : last ≡ x.header.last)
    (a : AreDayStates (of_key (schedule_entries x.schedules) u) first (last + 1) states) where
  pub stands-on : (d : ℕ) → x.header.first ≤ d → d ≤ x.header.last → IsDayState (of_key (schedule_entries x.schedules) u) d (state_in first states d)
  stands-on d low high =
      let start : first ≡ x.header.first = from in
      let end : last ≡ x.header.last = upto in
      let many : first + length states ≡ last + 1 = a.many in
      let below : d - first < length states = omega arith in
      let day : first + (d - first) ≡ d = omega arith in
      subst (λ n. IsDayState (of_key (schedule_entries x.schedules) u) n (state_in first states d)) day (a.each (d - first) below)

  pub is-calendar : IsWeekCalendar x u (calendar_text first last (state_in first states))
  is-calendar = record {
    state_on = state_in first states;
    states = stands-on;
    text_is = ap (λ n. calendar_text n last (state_in first states)) from
        ∙ ap (λ n. calendar_text x.header.first n (state_in first states)) upto;
  }

-- ---- a date in the text

-- its weekday is one of the seven, and its week one of the window's
abbrev heading : List ℕ
heading = codes "       MTWTFSS"

split-at : (xs : List ℕ) (i : ℕ) → i < length xs → xs ≡ take i xs ++ (get_or xs i 0 ∷ drop (suc i) xs)
split-at xs i below = sym (take-append-drop i xs) ∙ ap (λ (l : List ℕ). take i xs ++ l) (drop-cons xs i 0 below)

module _ (first last : ℕ) (state_on : ℕ → DayState) (d : ℕ) (from : first ≤ d) (upto : d ≤ last) where
  abbrev week : ℕ
  week = week_of d

  abbrev weekday : ℕ
  weekday = weekday_of d

  abbrev cells : ℕ → List ℕ
  cells w = map (cell first last state_on w) (range_with_len 0 7)

  cell-is : cell first last state_on week weekday ≡ character (state_on d)
  cell-is =
      let number : week * 7 + weekday ≡ d + 4 = omega arith in
      let day : week * 7 + weekday - 4 ≡ d = omega (arith, number) in
      ap (λ b. rest first last state_on week weekday b (nat_lt (last + 4) (week * 7 + weekday)))
      (le-ltb (week * 7 + weekday) (first + 4) (omega (arith, number, from)))
      ∙ ap (rest first last state_on week weekday false) (le-ltb (last + 4) (week * 7 + weekday) (omega (arith, number, upto)))
      ∙ ap (λ n. character (state_on n)) day

  cell-at : slice_get (cells week) weekday ≡ Some (character (state_on d))
  cell-at =
      slice_get-get_or (cells week) weekday 0 (omega arith)
      ∙ ap Some (get_or-map-range_with_len (cell first last state_on week) 0 7 weekday weekday 0 (omega arith) (omega arith) ∙ cell-is)

  monday-by : (early : Bool) → nat_lt d weekday ≡ early → monday_columns week ≡ (if early then codes "      " else yymmdd_of (d - weekday))
  monday-by true is =
      let before = ltb-true d weekday is in
      ap (λ b. cond b (codes "      ") (yymmdd_of (week * 7 - 4))) (lt-ltb (week * 7) 4 (omega (arith, before)))
  monday-by false is =
      let not = ltb-false d weekday is in
      let monday : week * 7 - 4 ≡ d - weekday = omega (arith, not) in
      ap (λ b. cond b (codes "      ") (yymmdd_of (week * 7 - 4))) (le-ltb (week * 7) 4 (omega (arith, not))) ∙ ap yymmdd_of monday

  -- the text, line by line
  abbrev line : ℕ → List ℕ
  line w = monday_columns w ++ (space ∷ cells w)

  lines-are : (ws : List ℕ) → flat_map (week_line first last state_on) ws ≡ text_of (map line ws)
  lines-are [] = refl
  lines-are (w ∷ ws) =
      ap (λ (l : List ℕ). l ++ flat_map (week_line first last state_on) ws)
      (sym (append_assoc (monday_columns w) (space ∷ cells w) (codes "\n")))
      ∙ ap (λ (l : List ℕ). (line w ++ codes "\n") ++ l) (lines-are ws)

  pub date-shown : IsShown (calendar_text first last state_on) d (character (state_on d))
  date-shown =
      let ws = weeks_between first last in
      let i = week - week_of first in
      let long = length-range_with_len (week_of first) (week_of last + 1 - week_of first) in
      let below : i < length ws = omega (arith, long, from, upto) in
      let within : i < week_of last + 1 - week_of first = omega (arith, from, upto) in
      let here : get_or ws i 0 ≡ week =
      get_or-range_with_len (week_of first) (week_of last + 1 - week_of first) i 0 within ∙ omega (arith, from) in
      let before = take i ws in
      let after = drop (suc i) ws in
      let parts = split-at ws i below ∙ ap (λ w. before ++ (w ∷ after)) here in
      record {
        before = heading ∷ map line before;
        after = map line after;
        days = cells week;
        text_is = ap (λ (l : List ℕ). codes "       MTWTFSS\n" ++ l)
            (lines-are ws ∙ ap text_of (ap (map line) parts ∙ map-append line before (week ∷ after)))
            ∙ ap (λ (m : List ℕ). text_of (heading ∷ (map line before ++ ((m ++ (space ∷ cells week)) ∷ map line after))))
            (monday-by (nat_lt d weekday) refl);
        heading = refl;
        seven = refl;
        at = cell-at;
      }

pub says-what-runs : (x : ExtractParts) (u text : List ℕ) (d : ℕ) → IsWeekCalendar x u text → x.header.first ≤ d → d ≤ x.header.last →
    SaysWhatRuns x u text d
says-what-runs x u text d is from upto =
    let s = is.state_on d in
    let cancelled = λ (e : Schedule). cancelled-from_bodied e.letter e.body e.bodied in
    let lawful = AreLawful-of_key (λ (e : Schedule). e.uid) schedule_terms cancelled x.schedules u in
    let (forth, back) = letter-runs (of_key (schedule_entries x.schedules) u) lawful d s (is.states d from upto) in
    record {
      character = character s;
      shown = subst (λ (l : List ℕ). IsShown l d (character s)) (sym is.text_is)
          (date-shown x.header.first x.header.last is.state_on d from upto);
      letter = (λ h. forth ((running s).0 h), λ runs. (running s).1 (back runs));
    }
