-- Schedules with the same rows in the tables of schedules, calls and changes are the same.
use Rattle.cif_views.proofs.Names.{All, All-append, All-cons, All-filter, All-head, All-nil, All-tail, BodyLines, Bool, Each}
use Rattle.cif_views.proofs.Names.{Extra, IsLine, JourneyKind, List, None, Numbered, NumberedSchedule, Option, Other, Permanent, RecordFits}
use Rattle.cif_views.proofs.Names.{ScheduleLines, Some, [], ap, arith, basic_columns, columns, cond, decimal_injective, drop}
use Rattle.cif_views.proofs.Names.{enumerate_from, extra_columns, extra_fields, extra_in, extra_records, false, filter, filter_passes}
use Rattle.cif_views.proofs.Names.{flat_map, get_or, has_row, is_call, journey_kind, journey_records, kind_of_line, length, map}
use Rattle.cif_views.proofs.Names.{numbered_from, numbered_schedule, parts_in, plain_line, record_table, refl, row_values, schedule_fields}
use Rattle.cif_views.proofs.Names.{schedule_plain, subst, sym, take, true, values_in, ℕ, ◌++◌, ◌+◌, ◌<◌, ◌^◌, ◌∙◌, ◌∷◌, ◌≡◌}
use Rattle.cif_views.proofs.Names.{ArePrintable, IsPrintable, replicate, ◌≤◌}
use Rattle.cif_records.proofs.Records as records
use Rattle.cif_records.specs.declared.record.Record.{Record}
use Rattle.cif_records.specs.declared.record.Record.TheVariants as of
use Rattle.cif_extract.proofs.PlainTexts.{lines_of}
use Rattle.cif_views.proofs.PairedBodies.{ArePlaces, FitsLines, are-further_of, are-places, basic_line, behind_extra, extra-fits}
use Rattle.cif_views.proofs.PairedBodies.{extra_line, further-of as further-of_body, journey-fits, same-extra}
use Rattle.cif_rows.specs.Row.{IsSaid}
use Rattle.cif_views.proofs.RowLines.{AreValues, IsPlain, are-values, cells_in, cells_of, is-line, number-said, one-line}
use Rattle.cif_views.proofs.RowNames.{cell_of, number, trimmed}
use Rattle.cif_views.proofs.SameJourneys.{IsNumbered, IsOfJourney, IsRow, are-numbered, listed_from, most, same-journey}
use Rattle.std.proofs.lemmas.List.Elements.{All-replicate}

-- so many spaces can be shown
spaces : (n : ℕ) → ArePrintable (replicate n 32)
spaces n = All-replicate IsPrintable n 32 (omega arith, omega arith)

-- the lines of a schedule of a canonical extract; the numbers of its calls can be written
pub record IsSchedule (s : ScheduleLines) : Type 0 where
  pub it : List ℕ × Permanent BodyLines
  pub fits : FitsLines it
  pub is : s ≡ schedule_plain it
  pub few : length s.further < most

-- its journey
abbrev journey_of : List ℕ × Permanent BodyLines → List (List ℕ)
journey_of e = let b = parts_in e.1.body in lines_of (journey_records b.origin b.calls b.terminus)

are-of_journey : (rs : List Record) → ArePlaces rs → Each RecordFits rs → All IsOfJourney (lines_of rs)
are-of_journey [] are fits = All-nil IsOfJourney
are-of_journey (r ∷ rs) are fits =
    All-cons IsOfJourney (plain_line (record_table r)) (lines_of rs)
    (record { it = r; place = are.0; fits = fits.0; is = refl }) (are-of_journey rs are.1 fits.1)

of-journey : (e : List ℕ × Permanent BodyLines) → FitsLines e → All IsOfJourney (journey_of e)
of-journey e fits =
    let b = parts_in e.1.body in
    are-of_journey (journey_records b.origin b.calls b.terminus) (are-places b.origin b.calls b.terminus) (journey-fits e fits)

-- its BX
abbrev extra_of : List ℕ × Permanent BodyLines → Option Extra
extra_of e = (parts_in e.1.body).extra

further-of : (s : ScheduleLines) (p : IsSchedule s) → s.further ≡ behind_extra (extra_of p.it) (journey_of p.it)
further-of s p = (λ i. (p.is i).further) ∙ further-of_body p.it p.fits

no-longer : (x : Option Extra) (lines : List (List ℕ)) → length lines ≤ length (behind_extra x lines)
no-longer None lines = omega arith
no-longer (Some e) lines = omega arith

-- ---- the rows of calls, or those of changes

no-other : (calls : Bool) → has_row calls Other ≡ false
no-other true = refl
no-other false = refl

module _ (calls : Bool) where
  abbrev pub listed : ℕ → List (List ℕ) → List Numbered
  listed n lines = listed_from n calls 1 lines

  -- there is none of a BX
  listed-behind : (n : ℕ) (x : Option Extra) (lines : List (List ℕ)) → Each RecordFits (extra_records x) →
      listed n (behind_extra x lines) ≡ listed n lines
  listed-behind n None lines fits = refl
  listed-behind n (Some e) lines fits =
      let line = plain_line (record_table (of.Extra e)) in
      let kind = ap journey_kind (records.kind_there line (of.Extra e) (records.spells (of.Extra e) fits.0)) in
      let first : Numbered = record { schedule = n; call = 1; line = line } in
      let rest : JourneyKind → List Numbered =
      λ k. filter (λ p. has_row calls (kind_of_line p.line)) (numbered_from n (cond (is_call k) 2 1) lines) in
      (λ i. cond (has_row calls (kind i)) (first ∷ rest (kind i)) (rest (kind i)))
      ∙ ap (λ b. cond b (first ∷ rest Other) (rest Other)) (no-other calls)

  pub listed-of : (n : ℕ) (s : ScheduleLines) (p : IsSchedule s) → listed n s.further ≡ listed n (journey_of p.it)
  listed-of n s p = ap (listed n) (further-of s p) ∙ listed-behind n (extra_of p.it) (journey_of p.it) (extra-fits p.it p.fits)

  of-schedule : (first last n : ℕ) (s : ScheduleLines) → first ≤ n → n ≤ last → IsSchedule s →
      All (IsRow calls first last) (listed n s.further)
  of-schedule first last n s from upto p =
      let lines = journey_of p.it in
      let numbered = numbered_from n 1 lines in
      let few = p.few in
      let high : 1 + length lines ≤ most = omega (arith, few, ap length (further-of s p), no-longer (extra_of p.it) lines) in
      let are = All-filter (λ p. has_row calls (kind_of_line p.line)) (IsNumbered first last 1 most) numbered
      (are-numbered n first last 1 most 1 lines from upto (omega arith) high (of-journey p.it p.fits)) in
      let pass = filter_passes (λ (p : Numbered). has_row calls (kind_of_line p.line)) numbered in
      subst (All (IsRow calls first last)) (sym (listed-of n s p))
      (λ k d below. record { numbered = are k d below; passes = pass k d below })

  abbrev pub rows_from : ℕ → List ScheduleLines → List Numbered
  rows_from n xs = flat_map (λ (s : ℕ × ScheduleLines). listed s.0 s.1.further) (enumerate_from n xs)

  pub all-rows : (first n : ℕ) (xs : List ScheduleLines) → first ≤ n → n + length xs ≤ 2 ^ 64 → All IsSchedule xs →
      All (IsRow calls first most) (rows_from n xs)
  all-rows first n [] from few are = All-nil (IsRow calls first most)
  all-rows first n (s ∷ xs) from few are =
      All-append (IsRow calls first most) (listed n s.further) (rows_from (n + 1) xs)
      (of-schedule first most n s from (omega (arith, few)) (All-head IsSchedule s xs are))
      (all-rows first (n + 1) xs (omega (arith, from)) (omega (arith, few)) (All-tail IsSchedule s xs are))

  -- the rows of a schedule, and those of the others
  no-later : (n : ℕ) (p : Numbered) (ps s : List Numbered) → IsRow calls n n p → All (IsRow calls (n + 1) most) s → s ≡ p ∷ ps → ⊥
  no-later n p ps s own later is =
      let later_first = All-head (IsRow calls (n + 1) most) p ps (subst (All (IsRow calls (n + 1) most)) is later) in
      omega (arith, later_first.numbered.from, own.numbered.upto)

  apart : (n : ℕ) (a b s t : List Numbered) → All (IsRow calls n n) a → All (IsRow calls n n) b → All (IsRow calls (n + 1) most) s →
      All (IsRow calls (n + 1) most) t → a ++ s ≡ b ++ t → (a ≡ b) × (s ≡ t)
  apart n [] [] s t one other p q is = (refl, is)
  apart n [] (y ∷ b) s t one other p q is = absurd (no-later n y (b ++ t) s (All-head (IsRow calls n n) y b other) p is)
  apart n (x ∷ a) [] s t one other p q is = absurd (no-later n x (a ++ s) t (All-head (IsRow calls n n) x a one) q (sym is))
  apart n (x ∷ a) (y ∷ b) s t one other p q is =
      let first : x ≡ y = ap (λ (all : List Numbered). get_or all 0 x) is in
      let (rest, behind) = apart n a b s t (All-tail (IsRow calls n n) x a one) (All-tail (IsRow calls n n) y b other) p q
      (ap (drop 1) is) in
      ((λ i. first i ∷ rest i), behind)

  first-apart : (n : ℕ) (s t : ScheduleLines) (xs ys : List ScheduleLines) → All IsSchedule (s ∷ xs) → All IsSchedule (t ∷ ys) →
      n + length (s ∷ xs) ≤ 2 ^ 64 → n + length (t ∷ ys) ≤ 2 ^ 64 → rows_from n (s ∷ xs) ≡ rows_from n (t ∷ ys) →
      (listed n s.further ≡ listed n t.further) × (rows_from (n + 1) xs ≡ rows_from (n + 1) ys)
  first-apart n s t xs ys one other few as-few is =
      apart n (listed n s.further) (listed n t.further) (rows_from (n + 1) xs) (rows_from (n + 1) ys)
      (of-schedule n n n s (omega arith) (omega arith) (All-head IsSchedule s xs one))
      (of-schedule n n n t (omega arith) (omega arith) (All-head IsSchedule t ys other))
      (all-rows (n + 1) (n + 1) xs (omega arith) (omega (arith, few)) (All-tail IsSchedule s xs one))
      (all-rows (n + 1) (n + 1) ys (omega arith) (omega (arith, as-few)) (All-tail IsSchedule t ys other)) is

-- ---- the rows of schedules

-- a line has a BX, or spaces in its place
pub record IsExtra (line : List ℕ) : Type 0 where
  pub it : Option Extra
  pub fits : Each RecordFits (extra_records it)
  pub is : line ≡ extra_line it

-- a row of schedules
pub record IsNumberedPlain (s : NumberedSchedule) : Type 0 where
  pub few : s.schedule < 2 ^ 64
  pub basic : IsPlain basic_line s.basic
  pub extra : IsExtra s.extra

line-of_extra : (line : List ℕ) → IsExtra line → IsLine line
line-of_extra line x = subst IsLine (sym x.is) (is x.it x.fits)
  where
    is : (o : Option Extra) → Each RecordFits (extra_records o) → IsLine (extra_line o)
    is None fits = record { width = refl; printable = spaces 80 }
    is (Some e) fits = records.line (of.Extra e) fits.0

pub schedule-said : (s : NumberedSchedule) → IsNumberedPlain s → AreValues (row_values schedule_fields s)
schedule-said s p =
    let basic = are-values s.basic (is-line basic_line basic_columns (λ e. refl) (λ e g. refl) s.basic p.basic) Other basic_columns refl in
    let extra = are-values s.extra (line-of_extra s.extra p.extra) Other extra_columns refl in
    All-cons IsSaid (number s.schedule) (values_in Other basic_columns s.basic ++ values_in Other extra_columns s.extra)
    (number-said s.schedule p.few)
    (All-append IsSaid (values_in Other basic_columns s.basic) (values_in Other extra_columns s.extra) basic extra)

same-numbered : (s t : NumberedSchedule) → s.schedule ≡ t.schedule → s.basic ≡ t.basic → s.extra ≡ t.extra → s ≡ t
same-numbered s t a b c = λ i. record { schedule = a i; basic = b i; extra = c i }

pub same-row_of : (s t : NumberedSchedule) → IsNumberedPlain s → IsNumberedPlain t →
    cells_of schedule_fields s ≡ cells_of schedule_fields t → s ≡ t
same-row_of s t p q same =
    let number = decimal_injective s.schedule t.schedule p.few q.few (ap (λ (cells : List (List ℕ)). get_or cells 0 []) same) in
    let basic = one-line basic_line basic_columns (λ e. refl) (λ e g. refl) s.basic t.basic p.basic q.basic
    (ap (λ (cells : List (List ℕ)). take 21 (drop 1 cells)) same) in
    let behind : cells_in extra_columns s.extra ≡ cells_in extra_columns t.extra = ap (drop 22) same in
    let a = p.extra in
    let b = q.extra in
    let both = ap (cells_in extra_columns) (sym a.is) ∙ behind ∙ ap (cells_in extra_columns) b.is in
    let extra = same-extra a.it b.it a.fits b.fits (ap (λ (cells : List (List ℕ)). get_or cells 0 []) both) (ap (drop 1) both) in
    same-numbered s t number basic (a.is ∙ ap extra_line extra ∙ sym b.is)

abbrev pub schedules_from : ℕ → List ScheduleLines → List NumberedSchedule
schedules_from n xs = map numbered_schedule (enumerate_from n xs)

extra-there : (s : ScheduleLines) (p : IsSchedule s) → extra_in s.further ≡ extra_line (extra_of p.it)
extra-there s p = (λ i. extra_in (p.is i).further) ∙ (are-further_of p.it p.fits).extra_is

pub all-numbered : (n : ℕ) (xs : List ScheduleLines) → n + length xs ≤ 2 ^ 64 → All IsSchedule xs →
    All IsNumberedPlain (schedules_from n xs)
all-numbered n [] few are = All-nil IsNumberedPlain
all-numbered n (s ∷ xs) few are =
    let p = All-head IsSchedule s xs are in
    All-cons IsNumberedPlain (numbered_schedule (n, s)) (schedules_from (n + 1) xs)
    (record {
      few = omega (arith, few);
      basic = record { it = p.it; fits = p.fits.basic; is = λ i. (p.is i).basic };
      extra = record { it = extra_of p.it; fits = extra-fits p.it p.fits; is = extra-there s p };
    }) (all-numbered (n + 1) xs (omega (arith, few)) (All-tail IsSchedule s xs are))

same-lines : (s t : ScheduleLines) → s.basic ≡ t.basic → s.further ≡ t.further → s ≡ t
same-lines s t basic further = λ i. record { basic = basic i; further = further i }

one-schedule : (n : ℕ) (s t : ScheduleLines) → IsSchedule s → IsSchedule t → s.basic ≡ t.basic → extra_in s.further ≡ extra_in t.further →
    ((calls : Bool) → listed calls n s.further ≡ listed calls n t.further) → s ≡ t
one-schedule n s t p q basic extra rows =
    let line = sym (extra-there s p) ∙ extra ∙ extra-there t q in
    let same = same-extra (extra_of p.it) (extra_of q.it) (extra-fits p.it p.fits) (extra-fits q.it q.fits)
    (ap (λ (l : List ℕ). trimmed (columns 1 2 l)) line) (ap (λ (l : List ℕ). map cell_of (row_values extra_fields l)) line) in
    let journey = same-journey n 1 (journey_of p.it) (journey_of q.it) (of-journey p.it p.fits) (of-journey q.it q.fits)
    (λ calls. sym (listed-of calls n s p) ∙ rows calls ∙ listed-of calls n t q) in
    same-lines s t basic (further-of s p ∙ (λ i. behind_extra (same i) (journey i)) ∙ sym (further-of t q))

pub same-schedules : (n : ℕ) (xs ys : List ScheduleLines) → All IsSchedule xs → All IsSchedule ys → n + length xs ≤ 2 ^ 64 →
    n + length ys ≤ 2 ^ 64 → schedules_from n xs ≡ schedules_from n ys → ((calls : Bool) → rows_from calls n xs ≡ rows_from calls n ys) →
    xs ≡ ys
same-schedules n [] [] one other few as-few same rows = refl
same-schedules n [] (t ∷ ys) one other few as-few same rows = absurd (let long = ap length same in omega (arith, long))
same-schedules n (s ∷ xs) [] one other few as-few same rows = absurd (let long = ap length same in omega (arith, long))
same-schedules n (s ∷ xs) (t ∷ ys) one other few as-few same rows =
    let first = ap (λ (all : List NumberedSchedule). get_or all 0 (numbered_schedule (n, s))) same in
    let both = λ (calls : Bool). first-apart calls n s t xs ys one other few as-few (rows calls) in
    let here = one-schedule n s t (All-head IsSchedule s xs one) (All-head IsSchedule t ys other) (λ i. (first i).basic)
    (λ i. (first i).extra) (λ calls. (both calls).0) in
    let rest = same-schedules (n + 1) xs ys (All-tail IsSchedule s xs one) (All-tail IsSchedule t ys other) (omega (arith, few))
    (omega (arith, as-few)) (ap (drop 1) same) (λ calls. (both calls).1) in
    (λ i. here i ∷ rest i)
