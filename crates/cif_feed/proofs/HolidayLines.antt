-- The lines of holidays, word by word, and how they are read.
use Rattle.cif_feed.proofs.Names.{All, All-contains, AreCodeAndDates, AreHolidaysOf, AreRead, AreWholeContentsAndRest, Bool, Contains}
use Rattle.cif_feed.proofs.Names.{Contains-append_left, Contains-append_right, Contains-first, Contains-push, Contains-push_cases}
use Rattle.cif_feed.proofs.Names.{ContentReader, DecideNoContent, E, Err, G, GivenDecideContent, HasGiven, HasLineMore, HasMore, HasReadOn}
use Rattle.cif_feed.proofs.Names.{HolidayCode, Holidays, IfErr, IfOk, IfSome, IsBadLine, IsDate, IsDateFault, IsFirstBadLine, IsHoliday}
use Rattle.cif_feed.proofs.Names.{IsHolidayFault, IsHolidayLine, IsLineFault, IsNextOf, IsResultOf, LineFault, LineNames, LineSays, List}
use Rattle.cif_feed.proofs.Names.{Names, NamesDay, None, Of, Ok, Option, Result, Some, SomeLine, Source, SpellHolidays}
use Rattle.cif_columns.{proofs.DateWords.one-date-word, specs.DateWord.IsDateWord}
use Rattle.cif_feed.proofs.Names.{Unread, X, [], after_first, answers, ap, append-nil, arith, at_drop_more, at_limits, before_first}
use Rattle.cif_feed.proofs.Names.{cases_lt, cond, content, content_first, contents_given, contents_of, drop, drop_of_length-le, eqb-true}
use Rattle.cif_feed.proofs.Names.{failed_after, fails_before_first, false, false_from_ne_true, filter, get_or, get_or-drop, given_all}
use Rattle.cif_feed.proofs.Names.{given_more, given_within, held, inl, inr, is_space, known_both, known_cut, known_decided, known_next}
use Rattle.cif_feed.proofs.Names.{known_so, length, length-append, length-drop, length-prefix_len, nat_lt, nat_tests, nil_from_length, not}
use Rattle.cif_feed.proofs.Names.{of_any, one_more, overlong_content, passes_at_first, position_or_len, position_or_len_is, read_on_both}
use Rattle.cif_feed.proofs.Names.{reader_of, reading_holidays, refl, refuses, same_Some, slice_get, some_content, source_ended, subst, sym}
use Rattle.cif_feed.proofs.Names.{take, take_all, true, words_in, words_of, ℕ, ⊎_elim, ◌++◌, ◌+◌, ◌<◌, ◌==◌, ◌↔◌, ◌∙◌}
use Rattle.cif_feed.proofs.Names.{◌∷◌, ◌≡◌, ◌≤◌, ◌⊎◌}
use Rattle.std.proofs.lemmas.List.Splits.{slice_split_first, slice_split_none}
use Rattle.memchr.specs.Find.{IsFirstByte, is_byte}
use Rattle.cif_columns.specs.ContentReader.{given, left}
use Rattle.cif_columns.specs.declared.ahead.NextContent.TheVariants.{Content, End, Overlong}
use Rattle.cif_columns.specs.declared.refusal.LineFault.TheVariants as line_fault
use Rattle.cif_feed.{proofs.ListSteps.iff-by, specs.HolidayCode.letter, specs.HolidayText.of_line_fault}
use Rattle.cif_feed.{specs.declared.holiday_text.HolidayFault.HolidayFault}
use Rattle.cif_feed.specs.declared.holiday_text.HolidayFault.TheVariants.{BadHoliday, Memory, Read}

-- ---- words

pub words-none : words_in [] ≡ []
unfolding words_in
words-none = refl

-- a space in front
words-space : (xs : List ℕ) → words_in (32 ∷ xs) ≡ words_in xs
unfolding words_in
words-space xs = refl

pub words-space_at : (xs : List ℕ) (i : ℕ) → i < length xs → get_or xs i 0 ≡ 32 → words_in (drop i xs) ≡ words_in (drop (i + 1) xs)
words-space_at xs i below is =
    at_drop_more words_in xs i 0 below ∙ ap (λ (x : ℕ). words_in (x ∷ drop (i + 1) xs)) is ∙ words-space (drop (i + 1) xs)

module _ (byte : ℕ) (xs : List ℕ) where
  -- what stands before the place of the first such byte, or all where there is none
  pub before-found : (at : ℕ) → IsFirstByte (is_byte byte) xs (Some at) → take at xs ≡ before_first (λ b. b == byte) xs
  before-found at it = ap (λ (n : ℕ). take n xs) (sym (position_or_len_is (λ (b : ℕ). b == byte) xs at 0 (omega (arith, it.0.high))
      (λ k early. false_from_ne_true _ (it.0.before k (omega arith) early)) (λ here. it.1)))

  pub before-none : IsFirstByte (is_byte byte) xs None → xs ≡ before_first (λ b. b == byte) xs
  before-none none =
      let at = position_or_len_is (λ (b : ℕ). b == byte) xs (length xs) 0 (omega arith)
      (λ k early. false_from_ne_true _ (none k (omega arith) early)) (λ here. absurd (omega arith)) in
      sym (ap (λ (n : ℕ). take n xs) at ∙ take_all (length xs) xs (omega arith))

-- a word in front
module _ (xs : List ℕ) where
  abbrev place : ℕ
  place = position_or_len is_space xs

  abbrev front : List ℕ
  front = before_first is_space xs

  front_long : length front ≡ place
  front_long = length-prefix_len (λ b. not (is_space b)) xs

  space_there : place < length xs → get_or xs place 0 ≡ 32
  space_there below = eqb-true (get_or xs place 0) 32 (passes_at_first is_space xs 0 below)

  words-first : 0 < length front → words_in xs ≡ front ∷ words_in (drop (length front) xs)
  unfolding words_in
  words-first some =
      let kept : nat_lt 0 (length front) ≡ true = grind (arith, nat_tests) in
      ⊎_elim
      (λ (below : place < length xs).
      ap (filter (λ (word : List ℕ). nat_lt 0 (length word))) (slice_split_first is_space xs 0 below)
      ∙ ap (λ (b : Bool). cond b (front ∷ words_in (after_first is_space xs)) (words_in (after_first is_space xs))) kept
      ∙ ap (λ l. front ∷ l)
      (sym (ap (λ (n : ℕ). words_in (drop n xs)) front_long ∙ words-space_at xs place below (space_there below))))
      (λ (all : length xs ≤ place).
      let whole : front ≡ xs = take_all place xs all in
      ap (filter (λ (word : List ℕ). nat_lt 0 (length word)))
      (slice_split_none is_space xs (λ k d below. fails_before_first is_space xs k d (omega arith)))
      ∙ ap (λ (b : Bool). cond b (xs ∷ []) []) (ap (λ (l : List ℕ). nat_lt 0 (length l)) (sym whole) ∙ kept) ∙ ap (λ l. l ∷ []) (sym whole)
      ∙ ap (λ l. front ∷ l)
      (sym (ap words_in (drop_of_length-le xs (omega (arith, front_long))) ∙ words-none)))
      (cases_lt place (length xs))

-- the words of bytes whose first ones, up to a place, are spaces
module _ (bytes : List ℕ) (start : ℕ) (passed : words_in (drop start bytes) ≡ words_in bytes) (word : List ℕ)
    (is : word ≡ before_first (λ b. b == 32) (drop start bytes)) where
  pub first-some : 0 < length word → words_in bytes ≡ word ∷ words_in (drop (length word) (drop start bytes))
  first-some some =
      sym passed ∙ subst (λ (w : List ℕ). words_in (drop start bytes) ≡ w ∷ words_in (drop (length w) (drop start bytes))) (sym is)
      (words-first (drop start bytes) (subst (λ (w : List ℕ). 0 < length w) is some))

  pub first-none : (start < length bytes → get_or bytes start 0 ≡ 32 → ⊥) → length word ≡ 0 → words_in bytes ≡ []
  first-none no_space empty =
      let at : place (drop start bytes) ≡ 0 = sym (front_long (drop start bytes)) ∙ ap length (sym is) ∙ empty in
      sym passed
      ∙ ⊎_elim
      (λ (below : place (drop start bytes) < length (drop start bytes)).
      let here : get_or bytes start 0 ≡ 32 =
      (sym (get_or-drop start bytes 0 0 ∙ ap (λ (n : ℕ). get_or bytes n 0) (omega arith))
      ∙ ap (λ (n : ℕ). get_or (drop start bytes) n 0) (sym at) ∙ space_there (drop start bytes) below) in
      absurd (no_space (let long = length-drop start bytes in omega arith) here))
      (λ (all : length (drop start bytes) ≤ place (drop start bytes)).
      ap words_in (nil_from_length (drop start bytes) (omega (arith, at))) ∙ words-none)
      (cases_lt (place (drop start bytes)) (length (drop start bytes)))

-- ---- lines

-- holidays that grow twice
more-both : (a b e : Holidays) (code : HolidayCode) (P Q R : ℕ → Type 0) → HasMore a code P b → HasMore b code Q e
    → ((d : ℕ) → R d ↔ (P d ⊎ Q d)) → HasMore a code R e
more-both a b e code P Q R one two both = record {
  names = λ other. (
    λ h. ⊎_elim (λ was. (one.names other).0 was) (λ is. inr is) ((two.names other).0 h),
    λ h. (two.names other).1 (⊎_elim (λ was. inl ((one.names other).1 (inl was))) (λ is. inr is) h),
  );
  days = λ other d. (
    λ h. ⊎_elim
        (λ was. ⊎_elim (λ old. inl old) (λ p. inr (p.0, (both d).1 (inl p.1))) ((one.days other d).0 was))
        (λ q. inr (q.0, (both d).1 (inr q.1)))
        ((two.days other d).0 h),
    λ h. (two.days other d).1 (⊎_elim
        (λ old. inl ((one.days other d).1 (inl old)))
        (λ r. ⊎_elim (λ p. inl ((one.days other d).1 (inr (r.0, p)))) (λ q. inr (r.0, q)) ((both d).0 r.1)) h),
  );
}

-- ---- the dates

no-words : (d : ℕ) → NamesDay [] d → ⊥
no-words d named = let (k, below, is) = named.listed in let b : k < 0 = below in omega arith

pub more-nothing : (old new : Holidays) (code : HolidayCode) → HasMore old code (λ d. ⊥) new → HasMore old code (NamesDay []) new
more-nothing old new code more = record {
  names = more.names;
  days = λ other d. (
    λ h. ⊎_elim (λ was. inl was) (λ none. absurd none.1) ((more.days other d).0 h),
    λ h. (more.days other d).1 (⊎_elim (λ was. inl was) (λ none. absurd (no-words d none.1)) h),
  );
}

names-push : (done : List (List ℕ)) (word : List ℕ) (day : ℕ) → IsDateWord word day
    → (d : ℕ) → NamesDay (done ++ word ∷ []) d ↔ (NamesDay done d ⊎ (d ≡ day))
names-push done word day stands d = (
  λ named. ⊎_elim
      (λ early. inl (record { word = named.word; listed = early; stands = named.stands }))
      (λ last. inr (one-date-word word d day (subst (λ (w : List ℕ). IsDateWord w d) (sym last) named.stands) stands))
      (Contains-push_cases done word named.word named.listed),
  λ h. ⊎_elim
      (λ named. record { word = named.word; listed = Contains-append_left done (word ∷ []) named.word named.listed; stands = named.stands })
      (λ is. record { word = word; listed = Contains-push done word; stands = subst (λ (n : ℕ). IsDateWord word n) (sym is) stands }) h,
)

pub more-day : (a b e : Holidays) (code : HolidayCode) (done : List (List ℕ)) (word : List ℕ) (day : ℕ) → HasMore a code (NamesDay done) b
    → HasMore b code (λ d. d ≡ day) e → IsDateWord word day → HasMore a code (NamesDay (done ++ word ∷ [])) e
more-day a b e code done word day one two stands =
    more-both a b e code (NamesDay done) (λ d. d ≡ day) (NamesDay (done ++ word ∷ [])) one two (names-push done word day stands)

pub dates-all : (old new : Holidays) (code : HolidayCode) (words done rest : List (List ℕ)) → words ≡ done ++ rest → rest ≡ []
    → All IsDate done → HasMore old code (NamesDay done) new → All IsDate words × HasMore old code (NamesDay words) new
dates-all old new code words done rest parts none dates more =
    let same : done ≡ words = sym (parts ∙ ap (λ l. done ++ l) none ∙ append-nil done) in
    subst (λ (l : List (List ℕ)). All IsDate l × HasMore old code (NamesDay l) new) same (dates, more)

pub no-date : (words done rest : List (List ℕ)) (word : List ℕ) → words ≡ done ++ word ∷ rest → ((d : ℕ) → IsDateWord word d → ⊥)
    → ¬ All IsDate words
no-date words done rest word parts none dates =
    let (d, stands) = All-contains IsDate words word dates
    (subst (λ (l : List (List ℕ)). Contains l word) (sym parts)
    (Contains-append_right done (word ∷ rest) word (Contains-first word rest))) in
    none d stands

-- ---- the line

same-letter : (a b : HolidayCode) → letter a ≡ letter b → a ≡ b
same-letter X X e = refl
same-letter E E e = refl
same-letter G G e = refl
same-letter _ _ e = absurd (omega arith)

module _ (line : List ℕ) (l : ℕ) (dates : List (List ℕ)) (words : words_of line ≡ (l ∷ []) ∷ dates) where
  first-is : (code : HolidayCode) → LineNames code line → l ≡ letter code
  first-is code named =
      let at : Some (l ∷ []) ≡ Some (letter code ∷ []) = subst (λ ws. slice_get ws 0 ≡ Some (letter code ∷ [])) words named in
      ap (λ (w : List ℕ). get_or w 0 0) (same_Some (l ∷ []) (letter code ∷ []) at)

  is-first : (code : HolidayCode) → l ≡ letter code → LineNames code line
  is-first code is = ap (λ ws. slice_get ws 0) words ∙ ap (λ (n : ℕ). Some (n ∷ [])) is

  later : drop 1 (words_of line) ≡ dates
  later = ap (drop 1) words

  -- a line of this code and these dates
  pub says-dates : (code : HolidayCode) (old new : Holidays) → length line ≤ 1000 → l ≡ letter code → All IsDate dates
      → HasMore old code (NamesDay dates) new → IsHolidayLine line × HasLineMore old line new
  says-dates code old new within is are more = (
    record {
      within = within;
      words = inr (code, record { dates = dates; are = words ∙ ap (λ (n : ℕ). (n ∷ []) ∷ dates) is; are_dates = are });
    },
    record {
      names = λ other. (
        λ h. ⊎_elim (λ was. inl was) (λ same. inr (is-first other (is ∙ ap letter (sym same)))) ((more.names other).0 h),
        λ h. (more.names other).1 (⊎_elim (λ was. inl was) (λ named. inr (same-letter other code (sym (first-is other named) ∙ is))) h),
      );
      days = λ other d. (
        λ h. ⊎_elim
            (λ was. inl was)
            (λ said. inr (record {
              names = is-first other (is ∙ ap letter (sym said.0));
              day = subst (λ ws. NamesDay ws d) (sym later) said.1;
            }))
            ((more.days other d).0 h),
        λ h. (more.days other d).1 (⊎_elim
            (λ was. inl was)
            (λ said. inr (same-letter other code (sym (first-is other said.names) ∙ is), subst (λ ws. NamesDay ws d) later said.day)) h),
      );
    },
  )

  -- a line whose words are bad
  bad-words : ((code : HolidayCode) → l ≡ letter code → All IsDate dates → ⊥) → ¬ IsHolidayLine line
  bad-words bad good = ⊎_elim
      (λ none. let at : (l ∷ []) ∷ dates ≡ [] = sym words ∙ none in cc)
      (λ some. at some.0 some.1)
      good.words
    where
      at : (code : HolidayCode) → AreCodeAndDates (words_of line) code → ⊥
      at code are =
          let same : (l ∷ []) ∷ dates ≡ (letter code ∷ []) ∷ are.dates = sym words ∙ are.are in
          bad code (ap (λ ws. get_or (get_or ws 0 []) 0 0) same) (subst (λ ws. All IsDate ws) (sym (ap (drop 1) same)) are.are_dates)

  dates-fault : (number : ℕ) (fault : HolidayFault) → IsDateFault number dates fault → IsLineFault number line fault
  dates-fault number (BadHoliday at) (is, bad) = (is, bad-words (λ code letter_is are. bad are))
  dates-fault number Read h = absurd h
  dates-fault number Memory h = tt

  -- what adding the dates comes to
  pub line-ok : (code : HolidayCode) (old new : Holidays) (r : Result (Unit {0}) HolidayFault) → length line ≤ 1000 → l ≡ letter code
      → IfOk r (λ done. All IsDate dates × HasMore old code (NamesDay dates) new)
      → IfOk r (λ done. IsHolidayLine line × HasLineMore old line new)
  line-ok code old new (Ok done) within is (are, more) = says-dates code old new within is are more
  line-ok code old new (Err fault) within is h = tt

  pub line-err : (number : ℕ) (r : Result (Unit {0}) HolidayFault) → IfErr r (IsDateFault number dates) → IfErr r (IsLineFault number line)
  line-err number (Ok done) h = tt
  line-err number (Err fault) h = dates-fault number fault h

-- a word of one byte
pub one-byte : (word : List ℕ) → length word ≡ 1 → word ≡ get_or word 0 0 ∷ []
one-byte (b ∷ []) long = refl
one-byte _ long = absurd (omega arith)

-- ---- readings

-- ---- holidays of lines

some-push : (P : List ℕ → Type 0) (ls : List (List ℕ)) (line : List ℕ) → SomeLine P (ls ++ line ∷ []) ↔ (SomeLine P ls ⊎ P line)
some-push P ls line = (
  λ some. ⊎_elim
      (λ early. inl (some.0, early, some.2))
      (λ last. inr (subst P (sym last) some.2))
      (Contains-push_cases ls line some.0 some.1),
  λ h. ⊎_elim (λ some. (some.0, Contains-append_left ls (line ∷ []) some.0 some.1, some.2)) (λ here. (line, Contains-push ls line, here)) h,
)

through : {A B C D : Type 0} → A ↔ (B ⊎ C) → B ↔ D → A ↔ (D ⊎ C)
through one two = (λ a. ⊎_elim (λ b. inl (two.0 b)) (λ c. inr c) (one.0 a), λ h. one.1 (⊎_elim (λ d. inl (two.1 d)) (λ c. inr c) h))

pub are-push : (ls : List (List ℕ)) (line : List ℕ) (old new : Holidays) → AreHolidaysOf ls old → HasLineMore old line new
    → AreHolidaysOf (ls ++ line ∷ []) new
are-push ls line old new are more = record {
  names = λ code. iff-by (through (more.names code) (are.names code)) (some-push (LineNames code) ls line);
  days = λ code d. iff-by (through (more.days code d) (are.days code d)) (some-push (LineSays code d) ls line);
}

pub are-none : (h : Holidays) → ((code : HolidayCode) → ¬ Names h code) → ((code : HolidayCode) (d : ℕ) → ¬ IsHoliday h code d)
    → AreHolidaysOf [] h
are-none h names days = record {
  names = λ code. (λ named. absurd (names code named), λ some. absurd (nothing some.1));
  days = λ code d. (λ day. absurd (days code d day), λ some. absurd (nothing some.1));
}
  where
    nothing : {line : List ℕ} → Contains [] line → ⊥
    nothing (k, below, is) = let b : k < 0 = below in omega arith

-- a text of holidays has no bad line
spelled-fine : (bytes : List ℕ) (h : Holidays) (number : ℕ) → SpellHolidays bytes h → ¬ IsFirstBadLine (contents_of bytes) number
spelled-fine bytes h number spells first = ⊎_elim
    (λ many.
    let within = spells.lines.within in
    omega (arith, first.numbered, ap length first.parts, length-append first.before (first.line ∷ first.after)))
    (λ other. other (All-contains IsHolidayLine (contents_of bytes) first.line spells.lines.are
    (subst (λ (l : List (List ℕ)). Contains l first.line) (sym first.parts)
    (Contains-append_right first.before (first.line ∷ first.after) first.line (Contains-first first.line first.after)))))
    first.bad

-- so that they are read
pub holidays_as : (bytes : List ℕ) (after : Unread) (h : Holidays) (r : Result Holidays HolidayFault) → SpellHolidays bytes h
    → IfErr r (IsHolidayFault bytes after) → AreRead r
holidays_as bytes after h (Err (BadHoliday line)) spells fault = absurd (spelled-fine bytes h line spells fault.0)
holidays_as bytes after h _ spells fault = tt

-- ---- what a reading comes to

-- the bytes are lines of holidays, and then a rest
abbrev pub AreLinesAndRest : List ℕ → List (List ℕ) → List ℕ → Type 0
AreLinesAndRest bytes lines rest = AreWholeContentsAndRest IsHolidayLine bytes lines rest

module _ {R : Type 0} (remaining : R → Option (List ℕ)) (errors : R → Option ℕ) (old : Source R) (reader : ContentReader)
    (between : Source R) (ls : List (List ℕ))
    (so_far : HasGiven AreLinesAndRest remaining (remaining (reader_of old)) 1002 100000000 reader between ls)
    (read_on : HasReadOn errors old between) (reader' : ContentReader) (new : Source R) where
  abbrev start : Option (List ℕ)
  start = remaining (reader_of old)

  abbrev rest : Option (List ℕ)
  rest = left remaining reader between

  abbrev Comes : Result Holidays HolidayFault → Type 0
  Comes = IsResultOf remaining errors reading_holidays old new

  within : length ls ≤ 100000000
  within = given_within AreLinesAndRest remaining errors start 1002 100000000 reader between ls so_far

  -- the next line is bad
  refused : (number : ℕ) → number ≡ given reader + 1
      → IfSome rest (λ bytes. (line : List ℕ) × (others : List (List ℕ)) × (contents_of bytes ≡ line ∷ others) × IsBadLine number line)
      → (source_ended new ≡ false → GivenDecideContent (Of 1002) 100000000 (length ls) rest (remaining (reader_of new)))
      → HasReadOn errors between new → Comes (Err (BadHoliday number))
  refused number next bad decided on =
      let is : number ≡ length ls + 1 = next ∙ ap (λ n. n + 1) so_far.counted in
      refuses remaining errors old new reading_holidays (BadHoliday number)
      (known_both start _ _ (known_so start _ _ (λ bytes found. record {
        before = ls;
        line = found.0;
        after = found.1;
        parts = found.2;
        none_before = record { are = found.3; within = within };
        numbered = is;
        bad = found.4;
      }) (known_next IsHolidayLine start rest ls so_far.known (IsBadLine number) bad))
      (known_decided IsHolidayLine start rest ls so_far.known (Of 1002) 100000000 number is (remaining (reader_of new)) (source_ended new)
      decided))
      (omega (arith, is), omega (arith, is, within)) (read_on_both errors old between new read_on on)

  -- of the reader's limits and count
  decides : GivenDecideContent (Of reader.most) reader.limit reader.given rest (remaining (reader_of new))
      → GivenDecideContent (Of 1002) 100000000 (length ls) rest (remaining (reader_of new))
  decides = at_limits AreLinesAndRest remaining errors start 1002 100000000 reader between ls so_far
      (λ k m n. GivenDecideContent (Of k) m n rest (remaining (reader_of new)))

  module _ (next : IsNextOf remaining errors reader between (Ok Content) reader' new) where
    -- a line more
    pub line-more : IsHolidayLine (content reader')
        → HasGiven AreLinesAndRest remaining start 1002 100000000 reader' new (ls ++ content reader' ∷ [])
    line-more fine = given_more AreLinesAndRest remaining errors start 1002 100000000 reader between ls so_far reader' new next
        (λ bytes others after known first.
        one_more bytes ls others (content reader') after known fine (content_first 1002 others (content reader') after first))

    -- a line that isn't added
    pub comes-bad : (number : ℕ) → number ≡ given reader' → (fault : HolidayFault) → IsLineFault number (content reader') fault
        → Comes (Err fault)
    comes-bad number numbered (BadHoliday at) (same, bad) =
        refused at (same ∙ numbered ∙ next.holds.1) (known_so rest _ _ (λ bytes answer.
        let first = content_first reader.most bytes (content reader') answer.0 answer.2 in
        (content reader', contents_of answer.0, first.contents, inr bad)) next.answer)
        (λ not. decides (next.decided (λ e. absurd (cc)) not)) next.device
    comes-bad number numbered Read fault = absurd fault
    comes-bad number numbered Memory fault =
        refuses remaining errors old new reading_holidays Memory (of_any _ _ (λ bytes. tt)) tt
        (read_on_both errors old between new read_on next.device)

  -- a line that is too long
  pub comes-overlong : IsNextOf remaining errors reader between (Ok Overlong) reader' new → (number : ℕ) → number ≡ given reader' + 1
      → Comes (Err (BadHoliday number))
  comes-overlong next number is =
      refused number (is ∙ ap (λ n. n + 1) next.holds.1) (known_so rest _ _ (λ bytes answer.
      let (line, others, contents, long, front) = overlong_content reader.most bytes reader.some answer.1 in
      (line, others, contents, inr (λ fine. let short = fine.within in omega (arith, long, short, so_far.same_most)))) next.answer)
      (λ not. decides (next.decided (λ e. absurd (cc)) not)) next.device

  -- a line that is one too many, or a failure of the source
  pub comes-line_fault : (fault : LineFault) → IsNextOf remaining errors reader between (Err fault) reader' new
      → Comes (Err (of_line_fault fault))
  comes-line_fault (line_fault.Refused number why) next =
      refused number next.holds.2 (known_so rest _ _ (λ bytes some.
      let (line, others, contents) = some_content bytes some in
      (line, others, contents, inl (omega (arith, next.holds.0, next.holds.2, so_far.same_limit)))) next.answer)
      (λ not. decides (next.decided (λ e. absurd (cc)) not)) next.device
  comes-line_fault line_fault.Read next =
      refuses remaining errors old new reading_holidays Read
      (known_so start _ _ (λ bytes cut. (ls, cut))
      (known_cut IsHolidayLine start rest ls so_far.known 100000000 within (Of 1002) (held reader') (remaining (reader_of new)) next.answer
      (at_limits AreLinesAndRest remaining errors start 1002 100000000 reader between ls so_far
      (λ k m n. DecideNoContent k m n (held reader')) next.holds.1))) tt (failed_after errors old between new read_on next.device)

  -- the end
  pub comes-end : IsNextOf remaining errors reader between (Ok End) reader' new → (h : Holidays) → AreHolidaysOf ls h → Comes (Ok h)
  comes-end next h are =
      let ended = next.ended refl in
      let all = given_all AreLinesAndRest remaining errors start 1002 100000000 reader between ls so_far reader' new next in
      answers remaining errors old new reading_holidays h (known_so start _ _ (λ bytes known.
      let is : contents_of bytes ≡ ls = contents_given bytes ls [] known ∙ append-nil ls in
      record {
        lines = rw is (record { are = known.are_lines; within = within });
        are = rw is are;
      }) all.0) (sym read_on.going ∙ ended.0) (read_on_both errors old between new read_on next.device) (ended.1, all.1)
