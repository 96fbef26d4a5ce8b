-- The rows of calls and of changes tell the lines of each journey, and where a change stands among the calls.
use Rattle.cif_views.proofs.Names.{All, All-cons, All-filter, All-head, All-nil, All-tail, AllFit, Bool, IsLine}
use Rattle.cif_views.proofs.Names.{IsTrue, JourneyKind, List, Numbered, Other, Some, SpellsRecord, TableFields, [], ap, are_within}
use Rattle.cif_views.proofs.Names.{arith, call_columns, call_fields, change_fields, codes, columns, cond, decimal, decimal_injective, drop}
use Rattle.cif_views.proofs.Names.{false, false≢true, filter, find, get_or, has_row, is_call, is_change, is_identity}
use Rattle.cif_views.proofs.Names.{journey_columns, journey_kind, kind_of_line, kinds, length, map, not, numbered_from, plain_line}
use Rattle.cif_views.proofs.Names.{record_table, refl, row_values, subst, sym, take, true, values_in, ℕ, ◌++◌, ◌+◌, ◌-◌, ◌^◌, ◌∙◌, ◌∷◌, ◌≡◌, ◌≤◌}
use Rattle.cif_records.proofs.Records as records
use Rattle.cif_records.specs.declared.record.Record.{Record}
use Rattle.cif_records.specs.declared.record.Record.TheVariants as of
use Rattle.cif_views.proofs.DifferingCells.{all-covered, all-moved, are_covered, covered}
use Rattle.cif_views.proofs.{PairedBodies.IsPlace, TableRows.call-fields}
use Rattle.cif_rows.specs.Row.{IsSaid}
use Rattle.cif_views.proofs.RowLines.{AreValues, are-values, cells_of, number-said}
use Rattle.cif_views.proofs.RowNames.{Value, cell_of, number}

-- ---- lines of journeys

-- a line is that of a call or of a change
pub record IsOfJourney (line : List ℕ) : Type 0 where
  pub it : Record
  pub place : IsPlace it
  pub fits : AllFit (record_table it)
  pub is : line ≡ plain_line (record_table it)

-- the kind of a record of a journey
abbrev sort_of : Record → JourneyKind
sort_of r = journey_kind (Some (records.kind_of r))

module _ (line : List ℕ) (j : IsOfJourney line) where
  line-of : IsLine line
  line-of = subst IsLine (sym j.is) (records.line j.it j.fits)

  spelled : SpellsRecord line j.it
  spelled = subst (λ l. SpellsRecord l j.it) (sym j.is) (records.spells j.it j.fits)

  kind-is : kind_of_line line ≡ sort_of j.it
  kind-is = ap journey_kind (records.kind_there line j.it spelled)

-- it is a call, or else a change
one-sort : (r : Record) → IsPlace r → (calls : Bool) →
    has_row calls (sort_of r) ≡ cond calls (is_call (sort_of r)) (not (is_call (sort_of r)))
one-sort r place true = refl
one-sort (of.Origin r) place false = refl
one-sort (of.Stop r) place false = refl
one-sort (of.Terminus r) place false = refl
one-sort (of.Change r) place false = refl
one-sort _ place false = absurd place

-- ---- their rows

-- the highest number that can be written
abbrev pub most : ℕ
most = 2 ^ 64 - 1

-- a line of a schedule, and with the number of a call, in these ranges
pub record IsNumbered (first last low high : ℕ) (p : Numbered) : Type 0 where
  pub from : first ≤ p.schedule
  pub upto : p.schedule ≤ last
  pub call_from : low ≤ p.call
  pub call_upto : p.call ≤ high
  pub line : IsOfJourney p.line

-- a row of the calls, or else of the changes
pub record IsRow (calls : Bool) (first last : ℕ) (p : Numbered) : Type 0 where
  pub numbered : IsNumbered first last 1 most p
  pub passes : has_row calls (kind_of_line p.line) ≡ true

-- ---- the tables of calls and of changes

abbrev pub fields_of : Bool → TableFields Numbered
fields_of true = call_fields
fields_of false = change_fields

abbrev cells_at : Bool → JourneyKind → List ℕ → List (List ℕ)
cells_at calls kind line = map cell_of (values_in kind (journey_columns calls) line)

values-are : (calls : Bool) (p : Numbered) →
    row_values (fields_of calls) p
    ≡ number p.schedule ∷ number p.call ∷ values_in (kind_of_line p.line) (journey_columns calls) p.line
values-are true p =
    let kind = kind_of_line p.line in
    ap (λ (own : List Value). number p.schedule ∷ number p.call ∷ (values_in kind (take 3 call_columns) p.line ++ own))
    (call-fields p.line kind refl)
values-are false p = refl

row-is : (calls : Bool) (p : Numbered) →
    cells_of (fields_of calls) p ≡ decimal p.schedule ∷ decimal p.call ∷ cells_at calls (kind_of_line p.line) p.line
row-is calls p = ap (map cell_of) (values-are calls p)

are-within : (calls : Bool) → IsTrue (are_within (journey_columns calls))
are-within true = refl
are-within false = refl

pub row-said : (calls : Bool) (p : Numbered) → IsRow calls 1 most p → AreValues (row_values (fields_of calls) p)
row-said calls p row =
    let n = row.numbered in
    let own = values_in (kind_of_line p.line) (journey_columns calls) p.line in
    subst AreValues (sym (values-are calls p))
    (All-cons IsSaid (number p.schedule) (number p.call ∷ own) (number-said p.schedule (omega (arith, n.upto)))
    (All-cons IsSaid (number p.call) own (number-said p.call (omega (arith, n.call_upto)))
    (are-values p.line (line-of p.line n.line) (kind_of_line p.line) (journey_columns calls) (are-within calls))))

-- the cells of a row cover what its record says behind its identity
covers : (calls : Bool) (r : Record) → IsPlace r → has_row calls (sort_of r) ≡ true →
    IsTrue (are_covered 2 (sort_of r) (journey_columns calls) (record_table r))
covers true (of.Origin r) place is = refl
covers true (of.Stop r) place is = refl
covers true (of.Terminus r) place is = refl
covers false (of.Change r) place is = refl
covers true (of.Change r) place is = absurd (false≢true is)
covers false (of.Origin r) place is = absurd (false≢true is)
covers false (of.Stop r) place is = absurd (false≢true is)
covers false (of.Terminus r) place is = absurd (false≢true is)
covers _ _ place is = absurd place

change-identity : (line : List ℕ) (r : Record) → IsPlace r → SpellsRecord line r → is_change (sort_of r) ≡ true →
    columns 1 2 line ≡ codes "CR"
change-identity line (of.Change r) place h is = h.0
change-identity line (of.Origin r) place h is = absurd (false≢true is)
change-identity line (of.Stop r) place h is = absurd (false≢true is)
change-identity line (of.Terminus r) place h is = absurd (false≢true is)
change-identity line _ place h is = absurd place

module _ (l m : List ℕ) (j : IsOfJourney l) (i : IsOfJourney m) where
  same-identity : (calls : Bool) → has_row calls (sort_of j.it) ≡ true → has_row calls (sort_of i.it) ≡ true →
      cells_at calls (kind_of_line l) l ≡ cells_at calls (kind_of_line m) m → columns 1 2 l ≡ columns 1 2 m
  same-identity true one other same = covered l m 0 Other refl (line-of l j) (line-of m i) 1 2 (take 1 call_columns) refl (ap (take 1) same)
  same-identity false one other same =
      change-identity l j.it j.place (spelled l j) one ∙ sym (change-identity m i.it i.place (spelled m i) other)

  one-line : (calls : Bool) → has_row calls (sort_of j.it) ≡ true → has_row calls (sort_of i.it) ≡ true →
      cells_at calls (kind_of_line l) l ≡ cells_at calls (kind_of_line m) m → l ≡ m
  one-line calls one other same =
      let identity = same-identity calls one other same in
      let sort = kind-is m i in
      let kind = ap (λ (two : List ℕ). journey_kind (find (is_identity two) kinds)) identity ∙ sort in
      let cells = (λ n. cells_at calls (sym kind n) l) ∙ same ∙ (λ n. cells_at calls (sort n) m) in
      let all = all-covered l m 2 (sort_of i.it) identity (line-of l j) (line-of m i) (journey_columns calls) (record_table i.it)
      (covers calls i.it i.place other) cells in
      j.is
      ∙ ap (λ (r : Record). plain_line (record_table r))
      (records.one_record l j.it i.it (spelled l j) (all-moved l m (record_table i.it) all (spelled m i)))
      ∙ sym i.is

pub one-row : (calls : Bool) (p q : Numbered) → IsRow calls 1 most p → IsRow calls 1 most q →
    cells_of (fields_of calls) p ≡ cells_of (fields_of calls) q → p ≡ q
one-row calls p q one other is =
    let a = one.numbered in
    let b = other.numbered in
    let same = sym (row-is calls p) ∙ is ∙ row-is calls q in
    let schedule = decimal_injective p.schedule q.schedule (omega (arith, a.upto)) (omega (arith, b.upto))
    (ap (λ (cells : List (List ℕ)). get_or cells 0 []) same) in
    let call = decimal_injective p.call q.call (omega (arith, a.call_upto)) (omega (arith, b.call_upto))
    (ap (λ (cells : List (List ℕ)). get_or cells 1 []) same) in
    let line = one-line p.line q.line a.line b.line calls (ap (has_row calls) (sym (kind-is p.line a.line)) ∙ one.passes)
    (ap (has_row calls) (sym (kind-is q.line b.line)) ∙ other.passes) (ap (drop 2) same) in
    λ n. record { schedule = schedule n; call = call n; line = line n }

-- ---- the numbers of a journey's lines

no-less : (low call : ℕ) (is : Bool) → low ≤ call → low ≤ cond is (call + 1) call
no-less low call true h = omega (arith, h)
no-less low call false h = h

no-more : (call n high : ℕ) (is : Bool) → call + (n + 1) ≤ high → cond is (call + 1) call + n ≤ high
no-more call n high true h = omega (arith, h)
no-more call n high false h = omega (arith, h)

module _ (n : ℕ) where
  pub are-numbered : (first last low high call : ℕ) (lines : List (List ℕ)) → first ≤ n → n ≤ last → low ≤ call →
      call + length lines ≤ high → All IsOfJourney lines → All (IsNumbered first last low high) (numbered_from n call lines)
  are-numbered first last low high call [] after before from upto are = All-nil (IsNumbered first last low high)
  are-numbered first last low high call (line ∷ lines) after before from upto are =
      let is = is_call (kind_of_line line) in
      All-cons (IsNumbered first last low high) (record { schedule = n; call = call; line = line })
      (numbered_from n (cond is (call + 1) call) lines)
      (record {
        from = after;
        upto = before;
        call_from = from;
        call_upto = omega (arith, upto);
        line = All-head IsOfJourney line lines are;
      })
      (are-numbered first last low high (cond is (call + 1) call) lines after before (no-less low call is from)
      (no-more call (length lines) high is (omega (arith, upto))) (All-tail IsOfJourney line lines are))

  -- the calls among these lines, or else the changes
  abbrev pub listed_from : Bool → ℕ → List (List ℕ) → List Numbered
  listed_from calls call lines = filter (λ p. has_row calls (kind_of_line p.line)) (numbered_from n call lines)

  abbrev here : ℕ → List ℕ → Numbered
  here call line = record { schedule = n; call = call; line = line }

  -- a line, if it is one of them, and those behind it
  abbrev first_listed : Bool → Bool → ℕ → List ℕ → List (List ℕ) → List Numbered
  first_listed is calls call line lines =
      let others = listed_from calls (cond is (call + 1) call) lines in cond (cond calls is (not is)) (here call line ∷ others) others

  first-is : (calls : Bool) (call : ℕ) (line : List ℕ) (lines : List (List ℕ)) (j : IsOfJourney line) →
      listed_from calls call (line ∷ lines) ≡ first_listed (is_call (sort_of j.it)) calls call line lines
  first-is calls call line lines j =
      let kind = kind-is line j in
      let passes = ap (has_row calls) kind ∙ one-sort j.it j.place calls in
      λ i. let others = listed_from calls (cond (is_call (kind i)) (call + 1) call) lines in
      cond (passes i) (here call line ∷ others) others

  none-first : (call : ℕ) (line : List ℕ) (lines : List (List ℕ)) (is : Bool) → [] ≡ first_listed is is call line lines → ⊥
  none-first call line lines true none = let long = ap length none in omega (arith, long)
  none-first call line lines false none = let long = ap length none in omega (arith, long)

  -- no change behind a call has its number or a lower one
  behind-call : (call : ℕ) (l m : List ℕ) (ls ms : List (List ℕ)) → All IsOfJourney ls →
      first_listed true false call l ls ≡ first_listed false false call m ms → ⊥
  behind-call call l m ls ms are is =
      let low = call + 1 in
      let high = low + length ls in
      let all = subst (All (IsNumbered n n low high)) is
      (All-filter (λ p. is_change (kind_of_line p.line)) (IsNumbered n n low high) (numbered_from n low ls)
      (are-numbered n n low high low ls (omega arith) (omega arith) (omega arith) (omega arith) are)) in
      omega (arith, (All-head (IsNumbered n n low high) (here call m) (listed_from false call ms) all).call_from)

  -- where two lists begin with lines of one sort, both lines are the same, and what is listed behind them
  same-first : (is : Bool) (call : ℕ) (l m : List ℕ) (ls ms : List (List ℕ)) →
      first_listed is is call l ls ≡ first_listed is is call m ms → l ≡ m
  same-first true call l m ls ms is = ap (λ (all : List Numbered). (get_or all 0 (here call l)).line) is
  same-first false call l m ls ms is = ap (λ (all : List Numbered). (get_or all 0 (here call l)).line) is

  same-behind : (is calls : Bool) (call : ℕ) (l m : List ℕ) (ls ms : List (List ℕ)) →
      first_listed is calls call l ls ≡ first_listed is calls call m ms →
      listed_from calls (cond is (call + 1) call) ls ≡ listed_from calls (cond is (call + 1) call) ms
  same-behind true true call l m ls ms is = ap (drop 1) is
  same-behind true false call l m ls ms is = is
  same-behind false true call l m ls ms is = is
  same-behind false false call l m ls ms is = ap (drop 1) is

  -- by whether the first lines are calls
  by-first : (a b : Bool) (call : ℕ) (l m : List ℕ) (ls ms : List (List ℕ)) → All IsOfJourney ls → All IsOfJourney ms →
      ((next : ℕ) → ((calls : Bool) → listed_from calls next ls ≡ listed_from calls next ms) → ls ≡ ms) →
      ((calls : Bool) → first_listed a calls call l ls ≡ first_listed b calls call m ms) → l ∷ ls ≡ m ∷ ms
  by-first true true call l m ls ms one other again same =
      let behind = again (call + 1) (λ calls. same-behind true calls call l m ls ms (same calls)) in
      (λ i. same-first true call l m ls ms (same true) i ∷ behind i)
  by-first false false call l m ls ms one other again same =
      let behind = again call (λ calls. same-behind false calls call l m ls ms (same calls)) in
      (λ i. same-first false call l m ls ms (same false) i ∷ behind i)
  by-first true false call l m ls ms one other again same = absurd (behind-call call l m ls ms one (same false))
  by-first false true call l m ls ms one other again same = absurd (behind-call call m l ms ls other (sym (same false)))

  pub same-journey : (call : ℕ) (ls ms : List (List ℕ)) → All IsOfJourney ls → All IsOfJourney ms →
      ((calls : Bool) → listed_from calls call ls ≡ listed_from calls call ms) → ls ≡ ms
  same-journey call [] [] one other same = refl
  same-journey call [] (m ∷ ms) one other same =
      let i = All-head IsOfJourney m ms other in
      let b = is_call (sort_of i.it) in
      absurd (none-first call m ms b (same b ∙ first-is b call m ms i))
  same-journey call (l ∷ ls) [] one other same =
      let j = All-head IsOfJourney l ls one in
      let a = is_call (sort_of j.it) in
      absurd (none-first call l ls a (sym (same a) ∙ first-is a call l ls j))
  same-journey call (l ∷ ls) (m ∷ ms) one other same =
      let j = All-head IsOfJourney l ls one in
      let i = All-head IsOfJourney m ms other in
      let p = All-tail IsOfJourney l ls one in
      let q = All-tail IsOfJourney m ms other in
      by-first (is_call (sort_of j.it)) (is_call (sort_of i.it)) call l m ls ms p q (λ next more. same-journey next ls ms p q more)
      (λ calls. sym (first-is calls call l ls j) ∙ same calls ∙ first-is calls call m ms i)
