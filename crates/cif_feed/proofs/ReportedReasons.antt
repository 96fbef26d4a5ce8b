-- The reasons of lines, each by itself, and what is reported of them.
use Rattle.cif_feed.proofs.Names.{All-append, All-cons, All-nil, BadByte, BadLength, Bool, Contains, Contains-append_left, Contains-push}
use Rattle.cif_feed.proofs.Names.{Err, IsLine, IsRefusedLine, Kind, List, None, NoneHasReason, NoneRefused, Ok, Option, OutOfOrder, Reasons}
use Rattle.cif_feed.proofs.Names.{Refusal, ReportReasons, Some, SomeHasReason, TooManyLines, [], ap, arith, cond, eq-eqb, eqb-true, false}
use Rattle.cif_feed.proofs.Names.{false≢true, filter, filter-append, first_for, first_in, first_of, flat_map, get_or, get_or-set_other}
use Rattle.cif_feed.proofs.Names.{get_or-set_same, is_for, is_printable, kind_in, length, length-append, line_of, lines_for, lines_in}
use Rattle.cif_feed.proofs.Names.{list_all, map-append, may_stand, nat_eq, nat_lt, nat_tests, ne_eqb, none_refused-more, not, or_none}
use Rattle.cif_feed.proofs.Names.{order_refusal, own_layouts, own_reason, own_reasons, place_behind, place_of, position_or_len}
use Rattle.cif_feed.proofs.Names.{position_or_len_push, printable_fact, printable_true, reason_line, reasons_of, reasons_text}
use Rattle.cif_feed.proofs.Names.{record_refusal, refl, refusal_behind, refusal_of, reported_text, set, subst, sym, true, unless, ℕ, ◌++◌}
use Rattle.cif_feed.proofs.Names.{◌+◌, ◌-◌, ◌<◌, ◌∙◌, ◌∷◌, ◌≡◌, ◌≢◌, ◌≤◌}
use Rattle.std.proofs.lemmas.List.Filters.{length-filter_both}
use Rattle.cif_columns.specs.Refusal.{number_of}
use Rattle.cif_columns.specs.declared.refusal.Refusal.TheVariants as refusal
use Rattle.cif_extract.{proofs.FirstRefusals.line_refusal, specs.declared.place.Place.Place}

-- ---- by itself

pub own_of_line : (c : List ℕ) → IsLine c → own_reason c ≡ record_refusal c
unfolding own_reason
own_of_line c h =
    let wide : nat_eq (length c) 80 ≡ true = (let w = h.width in grind (arith, nat_tests)) in
    rw (wide, printable_true c h.printable) (or_none (record_refusal c))

-- a content without a reason is a line
pub own_none : (c : List ℕ) → own_reason c ≡ None → IsLine c
unfolding own_reason
own_none c none = at (nat_eq (length c) 80) (list_all is_printable c) refl refl none
  where
    at : (w p : Bool) → w ≡ nat_eq (length c) 80 → p ≡ list_all is_printable c
        → first_of (unless w BadLength ∷ unless p BadByte ∷ record_refusal c ∷ []) ≡ None → IsLine c
    at true true ew ep none = record { width = eqb-true _ 80 (sym ew); printable = printable_fact c (sym ep) }
    at true false ew ep none = absurd (cc)
    at false p ew ep none = absurd (cc)

-- why a content is no line is its reason
pub own_of_judged : (c : List ℕ) (why : Refusal) → Err why ≡ line_of c → own_reason c ≡ Some why
unfolding own_reason
own_of_judged c why is = at (nat_eq (length c) 80) (list_all is_printable c) is
  where
    at : (w p : Bool) → Err why ≡ cond w (cond p (Ok c) (Err BadByte)) (Err BadLength)
        → first_of (unless w BadLength ∷ unless p BadByte ∷ record_refusal c ∷ []) ≡ Some why
    at true true is = absurd (cc)
    at true false is = let same : BadByte ≡ why = cc in ap Some same
    at false p is = let same : BadLength ≡ why = cc in ap Some same

pub judged_line : (c line : List ℕ) → Ok line ≡ line_of c → (c ≡ line) × IsLine c
judged_line c line is = at (nat_eq (length c) 80) (list_all is_printable c) refl refl is
  where
    at : (w p : Bool) → w ≡ nat_eq (length c) 80 → p ≡ list_all is_printable c
        → Ok line ≡ cond w (cond p (Ok c) (Err BadByte)) (Err BadLength) → (c ≡ line) × IsLine c
    at true true ew ep is =
        let same : c ≡ line = cc in
        (same, record { width = eqb-true _ 80 (sym ew); printable = printable_fact c (sym ep) })
    at true false ew ep is = absurd (cc)
    at false p ew ep is = absurd (cc)

-- and so is that it is overlong
pub own_of_long : (c : List ℕ) → length c ≢ 80 → own_reason c ≡ Some BadLength
unfolding own_reason
own_of_long c ne = rw (ne_eqb (length c) 80 ne) refl

-- ---- behind others

-- a kind is refused for its place alone
order_alone : (place : Place) (kind : Option Kind) (why : Refusal) → order_refusal place kind ≡ Some why → why ≡ OutOfOrder
order_alone place None why is = absurd (cc)
order_alone place (Some kind) why is = at (may_stand place kind) is
  where
    at : (b : Bool) → unless b OutOfOrder ≡ Some why → why ≡ OutOfOrder
    at true is = absurd (cc)
    at false is = cc

-- a line that is refused behind others, and has no reason by itself, is out of order
pub out_of_order : (cs : List (List ℕ)) (c : List ℕ) (why : Refusal) → refusal_behind own_layouts cs c ≡ Some why → record_refusal c ≡ None
    → refusal_behind own_layouts cs c ≡ Some OutOfOrder
out_of_order cs c why is none = is ∙ ap Some (at (order_refusal (place_behind cs) (kind_in c)) (order_alone _ _) (rw none at is))
  where
    at : (o : Option Refusal) → ((w : Refusal) → o ≡ Some w → w ≡ OutOfOrder) → first_of (o ∷ None ∷ []) ≡ Some why → why ≡ OutOfOrder
    at None so is = absurd (cc)
    at (Some w) so is = so why is

-- what is refused behind others, but for the number of lines and the order, is refused by itself
pub own_of_refusal : (max : ℕ) (before : List (List ℕ)) (c : List ℕ) (why : Refusal) → refusal_of max before c ≡ Some why
    → why ≢ TooManyLines → why ≢ OutOfOrder → own_reason c ≡ Some why
unfolding refusal_of own_reason
own_of_refusal max before c why is few ordered =
    at (nat_lt (length before) max) (nat_eq (length c) 80) (list_all is_printable c) (order_refusal (place_behind before) (kind_in c))
    (order_alone _ _) is
  where
    at : (f w p : Bool) (o : Option Refusal) → ((x : Refusal) → o ≡ Some x → x ≡ OutOfOrder)
        → first_of (unless f TooManyLines ∷ unless w BadLength ∷ unless p BadByte ∷ o ∷ record_refusal c ∷ []) ≡ Some why
        → first_of (unless w BadLength ∷ unless p BadByte ∷ record_refusal c ∷ []) ≡ Some why
    at true true true (Some x) so is =
        let same : x ≡ why = cc in
        absurd (ordered (sym same ∙ so x refl))
    at false w p o so is = let same : TooManyLines ≡ why = cc in absurd (few (sym same))
    at _ _ _ _ so is = is

-- ---- contents, one more

pub none_has_more : (cs : List (List ℕ)) (c : List ℕ) → NoneHasReason cs → own_reason c ≡ None → NoneHasReason (cs ++ c ∷ [])
none_has_more cs c none one =
    All-append (λ (c : List ℕ). own_reason c ≡ None) cs (c ∷ []) none
    (All-cons (λ (c : List ℕ). own_reason c ≡ None) c [] one (All-nil (λ (c : List ℕ). own_reason c ≡ None)))

reasons_more : (cs : List (List ℕ)) (c : List ℕ) → reasons_of (cs ++ c ∷ []) ≡ reasons_of cs ++ own_reason c ∷ []
reasons_more cs c = map-append own_reason cs (c ∷ [])

pub reasons_of_more : (cs : List (List ℕ)) (c : List ℕ) (reason : Option Refusal) → own_reason c ≡ reason
    → reasons_of (cs ++ c ∷ []) ≡ reasons_of cs ++ reason ∷ []
reasons_of_more cs c reason is = reasons_more cs c ∙ ap (λ r. reasons_of cs ++ r ∷ []) is

pub some_has_more : (cs : List (List ℕ)) (c : List ℕ) → SomeHasReason cs → SomeHasReason (cs ++ c ∷ [])
some_has_more cs c (why, there) = (
  why,
  subst (λ l. Contains l (Some why)) (sym (reasons_more cs c)) (Contains-append_left (reasons_of cs) (own_reason c ∷ []) (Some why) there),
)

pub some_has_here : (cs : List (List ℕ)) (c : List ℕ) (why : Refusal) → own_reason c ≡ Some why → SomeHasReason (cs ++ c ∷ [])
some_has_here cs c why is = (
  why,
  subst (λ l. Contains l (Some why)) (sym (reasons_of_more cs c (Some why) is)) (Contains-push (reasons_of cs) (Some why)),
)

-- ---- the order of lines without a reason

module _ (max : ℕ) (cs : List (List ℕ)) (c : List ℕ) (own : own_reason c ≡ None) (room : length cs < max) where
  no_record_refusal : record_refusal c ≡ None
  no_record_refusal = sym (own_of_line c (own_none c own)) ∙ own

  pub none_refused_more : NoneRefused max cs → refusal_behind own_layouts cs c ≡ None → NoneRefused max (cs ++ c ∷ [])
  none_refused_more fine none = none_refused-more max cs c fine (line_refusal max cs c (own_none c own) room ∙ none)

  -- the first that is refused
  pub refused_here : NoneRefused max cs → (why : Refusal) → refusal_behind own_layouts cs c ≡ Some why → (number : ℕ)
      → number ≡ length cs + 1 → IsRefusedLine max (cs ++ c ∷ []) number OutOfOrder
  refused_here fine why is number numbered = record {
    before = cs;
    content = c;
    after = [];
    parts = refl;
    fine = fine;
    numbered = numbered;
    reason = line_refusal max cs c (own_none c own) room ∙ out_of_order cs c why is no_record_refusal;
  }

-- its number is one of theirs
pub refused_number : (max : ℕ) (cs : List (List ℕ)) (number : ℕ) (why : Refusal) → IsRefusedLine max cs number why
    → (1 ≤ number) × (number ≤ length cs)
refused_number max cs number why r =
    let long = ap length r.parts ∙ length-append r.before (r.content ∷ r.after) in
    (omega (arith, r.numbered), omega (arith, r.numbered, long))

-- ---- numbers of refusals

pub number_within : (why : Refusal) → (1 ≤ number_of why) × (number_of why ≤ 14)
number_within refusal.BadLength = (omega arith, omega arith)
number_within _ = (omega arith, omega arith)

-- ---- a test of elements

module _ {A : Type 0} (p : A → Bool) where
  -- some pass exactly where one does first
  some_pass : (xs : List A) → 0 < length (filter p xs) → position_or_len p xs < length xs
  some_pass [] h = absurd (omega arith)
  some_pass (x ∷ xs) h = at (p x) (some_pass xs) h
    where
      at : (b : Bool) → (0 < length (filter p xs) → position_or_len p xs < length xs)
          → 0 < length (cond b (x ∷ filter p xs) (filter p xs)) → cond (not b) (1 + position_or_len p xs) 0 < length (x ∷ xs)
      at true more h = omega arith
      at false more h = omega (arith, more h)

  none_pass : (xs : List A) → length (filter p xs) ≡ 0 → position_or_len p xs ≡ length xs
  none_pass [] h = refl
  none_pass (x ∷ xs) h = at (p x) (none_pass xs) h
    where
      at : (b : Bool) → (length (filter p xs) ≡ 0 → position_or_len p xs ≡ length xs)
          → length (cond b (x ∷ filter p xs) (filter p xs)) ≡ 0 → cond (not b) (1 + position_or_len p xs) 0 ≡ length (x ∷ xs)
      at true more h = absurd (omega (arith, h))
      at false more h = omega (arith, more h)

  count_push : (xs : List A) (y : A) → length (filter p (xs ++ y ∷ [])) ≡ length (filter p xs) + cond (p y) 1 0
  count_push xs y = ap length (filter-append p xs (y ∷ [])) ∙ length-append (filter p xs) (filter p (y ∷ []))
      ∙ ap (λ n. length (filter p xs) + n) (at (p y))
    where
      at : (b : Bool) → length (cond b (y ∷ []) []) ≡ cond b 1 0
      at true = refl
      at false = refl

  first_kept : (xs : List A) (y : A) → 0 < length (filter p xs) → position_or_len p (xs ++ y ∷ []) ≡ position_or_len p xs
  first_kept xs y some =
      let below = some_pass xs some in
      let ne : position_or_len p xs ≢ length xs = omega (arith, below) in
      position_or_len_push p xs y
      ∙ ap (λ b. cond b (length xs + cond (p y) 0 1) (position_or_len p xs)) (ne_eqb (position_or_len p xs) (length xs) ne)

  first_here : (xs : List A) (y : A) → length (filter p xs) ≡ 0 → p y ≡ true → position_or_len p (xs ++ y ∷ []) ≡ length xs
  first_here xs y none passes =
      position_or_len_push p xs y
      ∙ ap (λ b. cond b (length xs + cond (p y) 0 1) (position_or_len p xs)) (eq-eqb (position_or_len p xs) (length xs) (none_pass xs none))
      ∙ ap (λ b. length xs + cond b 0 1) passes ∙ omega arith

  pub at_most_all : (xs : List A) → length (filter p xs) ≤ length xs
  at_most_all xs = omega (arith, length-filter_both p (λ x. not (p x)) (λ x. refl) xs)

-- ---- a line more

-- without a reason
pub report_nothing : (reasons : List (Option Refusal)) (r : Reasons) → ReportReasons reasons r → ReportReasons (reasons ++ None ∷ []) r
report_nothing reasons r reported = record {
  lines = λ why. reported.lines why ∙ sym (same why);
  first = λ why some.
      let before : 0 < lines_for why reasons = omega (arith, some, same why) in
      reported.first why before ∙ ap (λ n. n + 1) (sym (first_kept (is_for why) reasons None before));
}
  where
    same : (why : Refusal) → lines_for why (reasons ++ None ∷ []) ≡ lines_for why reasons
    same why = omega (arith, count_push (is_for why) reasons None)

-- with this one
module _ (reasons : List (Option Refusal)) (why : Refusal) (line : ℕ) (old new : Reasons) (reported : ReportReasons reasons old)
    (numbered : line ≡ length reasons + 1) (lines_are : new.lines ≡ set old.lines (place_of why) (lines_in old why + 1))
    (first_are : new.first ≡ set old.first (place_of why) (cond (nat_eq (lines_in old why) 0) line (first_in old why)))
    (long_lines : length old.lines ≡ 14) (long_first : length old.first ≡ 14) where
  within : place_of why < 14
  within = omega (arith, number_within why)

  -- of the same number
  same_lines : (other : Refusal) → number_of why ≡ number_of other → lines_in new other ≡ lines_for other (reasons ++ Some why ∷ [])
  same_lines other same =
      let here : place_of other ≡ place_of why = ap (λ n. n - 1) (sym same) in
      let below : place_of why < length old.lines = omega (arith, within, long_lines) in
      ap (λ l. get_or l (place_of other) 0) lines_are ∙ ap (λ n. get_or (set old.lines (place_of why) (lines_in old why + 1)) n 0) here
      ∙ get_or-set_same old.lines (place_of why) (lines_in old why + 1) 0 below
      ∙ ap (λ n. get_or old.lines n 0 + 1) (sym here) ∙ ap (λ n. n + 1) (reported.lines other)
      ∙ sym (count_push (is_for other) reasons (Some why)
      ∙ ap (λ b. lines_for other reasons + cond b 1 0) (eq-eqb (number_of why) (number_of other) same))

  same_first : (other : Refusal) → number_of why ≡ number_of other → first_in new other ≡ first_for other (reasons ++ Some why ∷ [])
  same_first other same =
      let here : place_of other ≡ place_of why = ap (λ n. n - 1) (sym same) in
      let below : place_of why < length old.first = omega (arith, within, long_first) in
      ap (λ l. get_or l (place_of other) 0) first_are
      ∙ ap (λ n. get_or (set old.first (place_of why) (cond (nat_eq (lines_in old why) 0) line (first_in old why))) n 0) here
      ∙ get_or-set_same old.first (place_of why) (cond (nat_eq (lines_in old why) 0) line (first_in old why)) 0 below
      ∙ ap (λ n. cond (nat_eq (get_or old.lines n 0) 0) line (get_or old.first n 0)) (sym here)
      ∙ ap (λ n. cond (nat_eq n 0) line (first_in old other)) (reported.lines other) ∙ at (nat_eq (lines_for other reasons) 0) refl
    where
      passes : is_for other (Some why) ≡ true
      passes = eq-eqb (number_of why) (number_of other) same

      at : (b : Bool) → b ≡ nat_eq (lines_for other reasons) 0
          → cond b line (first_in old other) ≡ first_for other (reasons ++ Some why ∷ [])
      at true e =
          let none : lines_for other reasons ≡ 0 = eqb-true (lines_for other reasons) 0 (sym e) in
          numbered ∙ ap (λ n. n + 1) (sym (first_here (is_for other) reasons (Some why) none passes))
      at false e =
          let some : 0 < lines_for other reasons = grind (arith, nat_tests) in
          reported.first other some ∙ ap (λ n. n + 1) (sym (first_kept (is_for other) reasons (Some why) some))

  -- and of others
  other_place : (other : Refusal) → number_of why ≢ number_of other → place_of other ≢ place_of why
  other_place other ne = λ e. ne (omega (arith, e, number_within why, number_within other))

  other_lines : (other : Refusal) → number_of why ≢ number_of other → lines_in new other ≡ lines_for other (reasons ++ Some why ∷ [])
  other_lines other ne =
      ap (λ l. get_or l (place_of other) 0) lines_are
      ∙ get_or-set_other old.lines (place_of why) (place_of other) (lines_in old why + 1) 0 (other_place other ne) ∙ reported.lines other
      ∙ sym (count_push (is_for other) reasons (Some why)
      ∙ ap (λ b. lines_for other reasons + cond b 1 0) (ne_eqb (number_of why) (number_of other) ne) ∙ omega arith)

  other_first : (other : Refusal) → number_of why ≢ number_of other → 0 < lines_for other (reasons ++ Some why ∷ [])
      → first_in new other ≡ first_for other (reasons ++ Some why ∷ [])
  other_first other ne some =
      let same = count_push (is_for other) reasons (Some why)
      ∙ ap (λ b. lines_for other reasons + cond b 1 0) (ne_eqb (number_of why) (number_of other) ne) in
      let before : 0 < lines_for other reasons = omega (arith, some, same) in
      ap (λ l. get_or l (place_of other) 0) first_are
      ∙ get_or-set_other old.first (place_of why) (place_of other) (cond (nat_eq (lines_in old why) 0) line (first_in old why)) 0
      (other_place other ne) ∙ reported.first other before ∙ ap (λ n. n + 1) (sym (first_kept (is_for other) reasons (Some why) before))

  pub report_more : ReportReasons (reasons ++ Some why ∷ []) new
  report_more = record {
    lines = λ other. lines_by other (nat_eq (number_of why) (number_of other)) refl;
    first = λ other some. first_by other some (nat_eq (number_of why) (number_of other)) refl;
  }
    where
      lines_by : (other : Refusal) (b : Bool) → b ≡ nat_eq (number_of why) (number_of other)
          → lines_in new other ≡ lines_for other (reasons ++ Some why ∷ [])
      lines_by other true e = same_lines other (eqb-true _ _ (sym e))
      lines_by other false e = other_lines other (λ same. false≢true (e ∙ eq-eqb _ _ same))

      first_by : (other : Refusal) → 0 < lines_for other (reasons ++ Some why ∷ []) → (b : Bool)
          → b ≡ nat_eq (number_of why) (number_of other) → first_in new other ≡ first_for other (reasons ++ Some why ∷ [])
      first_by other some true e = same_first other (eqb-true _ _ (sym e))
      first_by other some false e = other_first other (λ same. false≢true (e ∙ eq-eqb _ _ same)) some

-- ---- the text

flat_map_same : (f g : Refusal → List ℕ) → ((why : Refusal) → f why ≡ g why) → (ws : List Refusal) → flat_map f ws ≡ flat_map g ws
flat_map_same f g same [] = refl
flat_map_same f g same (w ∷ ws) = ap (λ l. l ++ flat_map f ws) (same w) ∙ ap (λ l. g w ++ l) (flat_map_same f g same ws)

no_line : (why : Refusal) (first other : ℕ) → reason_line why 0 first ≡ reason_line why 0 other
unfolding reason_line
no_line why first other = refl

same_line : (why : Refusal) (lines first other : ℕ) → (0 < lines → first ≡ other) → reason_line why lines first
    ≡ reason_line why lines other
same_line why lines first other same = at (nat_eq lines 0) refl
  where
    at : (b : Bool) → b ≡ nat_eq lines 0 → reason_line why lines first ≡ reason_line why lines other
    at true e =
        let none : lines ≡ 0 = eqb-true lines 0 (sym e) in
        rw none (no_line why first other)
    at false e =
        let some : 0 < lines = grind (arith, nat_tests) in
        ap (reason_line why lines) (same some)

-- they are written as these reasons are
pub reported_as : (reasons : List (Option Refusal)) (r : Reasons) → ReportReasons reasons r → reported_text r ≡ reasons_text reasons
unfolding reported_text reasons_text
reported_as reasons r reported =
    flat_map_same (λ (why : Refusal). reason_line why (lines_in r why) (first_in r why))
    (λ (why : Refusal). reason_line why (lines_for why reasons) (first_for why reasons)) (λ why.
    ap (λ n. reason_line why n (first_in r why)) (reported.lines why)
    ∙ same_line why (lines_for why reasons) (first_in r why) (first_for why reasons) (reported.first why)) own_reasons
