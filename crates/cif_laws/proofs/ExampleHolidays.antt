-- The holidays of the example's text: Tuesday 5 January 1960 alone, of code X.
use Rattle.std.proofs.Common.{Contains, List, Option, Some, [], ap, arith, codes, drop, false, inl, inr, refl, slice_get, subst, suc, sym}
use Rattle.std.proofs.Common.{true, zero, ℕ, ⊎_elim, ◌<◌, ◌↔◌, ◌∙◌, ◌∷◌, ◌≡◌, ◌≤◌}
use Rattle.std.specs.{Global.Global, Global.Vec, List.Sorted.IsNonDecreasing}
use Rattle.std.proofs.lemmas.List.Elements.{All-cons, All-nil}
use Rattle.cif_calendar.proofs.{Elements.Contains-cases, Elements.Contains-first, RisingLists.Contains-none}
use Rattle.cif_columns.proofs.{DayColumns.yymmdd_in-stands, DayDigits.stands-yymmdd_of}
use Rattle.cif_columns.proofs.DateWords.{one-date-word}
use Rattle.cif_columns.specs.{Contents.contents_of, DateWord.IsDateWord, Day.StandsInYymmdd, DayDigits.date_of, DayDigits.yymmdd_of}
use Rattle.cif_feed.specs.{HolidayCode.letter, HolidayText.words_of, Holidays.IsHoliday, Holidays.Names, Words.words_in}
use Rattle.cif_feed.specs.{declared.holidays.HolidayCode.HolidayCode, declared.holidays.Holidays.Holidays}
use Rattle.cif_feed.specs.HolidayText.{AreCodeAndDates, IsDate, IsHolidayLine, LineNames, LineSays, NamesDay, SomeLine, SpellHolidays}
use Rattle.cif_feed.specs.declared.holidays.HolidayCode.TheVariants.{E, G, X}
use denote.RawPtr.{null_ptr}
use Rattle.cif_laws.specs.Examples.{example_holidays}

-- the vectors that they stand in: of nothing, and of one day
abbrev heap : Global
heap = record { memory = record { seal = tt } }

abbrev pub no-items : {X : Type 0} → Vec X
no-items = record { ptr = null_ptr; len = 0; cap = 0; alloc = heap; items = []; ok = (refl, omega arith); small = omega arith }

abbrev one-day : Vec ℕ
one-day = record { ptr = null_ptr; len = 1; cap = 1; alloc = heap; items = 4 ∷ []; ok = (refl, omega arith); small = omega arith }

pub one-rises : IsNonDecreasing (4 ∷ [])
one-rises zero zero d before below = let same : 4 ≤ 4 = omega arith in same
one-rises (suc i) zero d before below = absurd (omega (arith, before))
one-rises i (suc j) d before below = let none : suc j < 1 = below in absurd (omega (arith, none))

abbrev pub example-days : Holidays
example-days = record {
  bank = record { is_named = true; days = one-day; rising = one-rises };
  edinburgh = record { is_named = false; days = no-items; rising = λ i j d before below. absurd (omega (arith, below)) };
  glasgow = record { is_named = false; days = no-items; rising = λ i j d before below. absurd (omega (arith, below)) };
}

-- the line, and its words
abbrev line : List ℕ
line = codes "X 600105"

abbrev date : List ℕ
date = codes "600105"

lines : contents_of example_holidays ≡ line ∷ []
lines = refl

words : words_of line ≡ codes "X" ∷ date ∷ []
unfolding words_in
words = refl

fourth : yymmdd_of 4 ≡ date
unfolding yymmdd_of date_of
fourth = refl

stands : StandsInYymmdd date 4
stands = subst (λ word. StandsInYymmdd word 4) fourth (stands-yymmdd_of 4 (omega arith))

are-words : AreCodeAndDates (words_of line) X
are-words = record { dates = date ∷ []; are = words; are_dates = All-cons IsDate date [] (4, inl stands) (All-nil IsDate) }

-- a word alone is the first
pub only : {A : Type 0} (x y : A) → Contains (x ∷ []) y → x ≡ y
only x y has = ⊎_elim (λ is. is) (λ none. absurd (Contains-none y none)) (Contains-cases x [] y has)

named : (code : HolidayCode) → LineNames code line → code ≡ X
named code names = at code (ap first (subst (λ ws. slice_get ws 0 ≡ Some (letter code ∷ [])) words names))
  where
    first : Option (List ℕ) → ℕ
    first (Some (byte ∷ bytes)) = byte
    first other = 0

    at : (code : HolidayCode) → 88 ≡ letter code → code ≡ X
    at X is = refl
    at E is = absurd (omega (arith, is))
    at G is = absurd (omega (arith, is))

says : LineSays X 4 line
says = record {
  names = ap (λ ws. slice_get ws 0) words;
  day = subst (λ ws. NamesDay (drop 1 ws) 4) (sym words) (record { word = date; listed = Contains-first date []; stands = inl stands });
}

the-day : (code : HolidayCode) (d : ℕ) → LineSays code d line → 4 ≡ d
the-day code d s =
    let day = subst (λ ws. NamesDay (drop 1 ws) d) words s.day in
    one-date-word date 4 d (inl stands) (subst (λ word. IsDateWord word d) (sym (only date day.word day.listed)) day.stands)

-- what a line of the text says, this one does
of-line : (P : List ℕ → Type 0) → SomeLine P (contents_of example_holidays) → P line
of-line P (other, listed, holds) = subst P (sym (only line other listed)) holds

in-text : (P : List ℕ → Type 0) → P line → SomeLine P (contents_of example_holidays)
in-text P holds = (line, Contains-first line [], holds)

names-code : (code : HolidayCode) → Names example-days code ↔ SomeLine (LineNames code) (contents_of example_holidays)
names-code X = (λ named. in-text (LineNames X) (ap (λ ws. slice_get ws 0) words), λ some. refl)
names-code E = (λ named. cc, λ some. let never = named E (of-line (LineNames E) some) in cc)
names-code G = (λ named. cc, λ some. let never = named G (of-line (LineNames G) some) in cc)

has-day : (code : HolidayCode) (d : ℕ) → IsHoliday example-days code d ↔ SomeLine (LineSays code d) (contents_of example_holidays)
has-day X d = (
  λ has. subst (λ n. SomeLine (LineSays X n) (contents_of example_holidays)) (only 4 d has) (in-text (LineSays X 4) says),
  λ some. subst (Contains (4 ∷ [])) (the-day X d (of-line (LineSays X d) some)) (Contains-first 4 []),
)
has-day E d = (
  λ has. absurd (Contains-none d has),
  λ some. let never = named E (of-line (LineSays E d) some).names in cc,
)
has-day G d = (
  λ has. absurd (Contains-none d has),
  λ some. let never = named G (of-line (LineSays G d) some).names in cc,
)

pub example-spelled : SpellHolidays example_holidays example-days
example-spelled = record {
  lines = record {
    are = All-cons IsHolidayLine line [] (record { within = omega arith; words = inr (X, are-words) }) (All-nil IsHolidayLine);
    within = omega arith;
  };
  are = record { names = names-code; days = has-day };
}
