-- The contents of bytes that are judged, one after another.
use Rattle.cif_columns.proofs.Names.{All-nil, AnswersContent, AreWholeContentsAndRest, BeginOverlong, ComesFirst, ContentReader}
use Rattle.cif_columns.proofs.Names.{DecideNoContent, EndsLine, Err, HaveNoFeed, IfSome, IsNextOf, IsSomeAnd, List, None, Of, Ok, Option}
use Rattle.cif_columns.proofs.Names.{Overlong, Read, Refusal, Refused, Some, Source, TooManyLines, [], ap, append-nil, append_assoc, arith}
use Rattle.cif_columns.proofs.Names.{cases_lt, cond, content, contents_of, false, inl, inr, is_line_feed, length, length-append}
use Rattle.cif_columns.proofs.Names.{lines_of_parts, list_any, list_any-append, map, most_of, nat_tests, ne_eqb, or_parts, prepend_known}
use Rattle.cif_columns.proofs.Names.{reader_of, refl, source_ended, strip_carriage_return, subst, sym, true, ℕ, ⊎_elim, ◌++◌, ◌+◌, ◌<◌}
use Rattle.cif_columns.proofs.Names.{◌||◌, ◌∙◌, ◌∷◌, ◌≡◌, ◌≢◌, ◌≤◌, ◌⊎◌}
use Rattle.cif_columns.proofs.ContentRuns.{HasGiven, at_limits, given_all, given_so, given_within}
use Rattle.cif_columns.proofs.FirstContents.{content_at_end, content_before, feed_or_none, kept_left, one_part, overlong_part, part_before}
use Rattle.cif_columns.{proofs.FirstContents.some_content, specs.declared.ahead.NextContent.TheVariants.End}
use Rattle.cif_columns.proofs.GivenLinesLaws.{contents_given, given_front, held_front, known_so, none_given, whole_more}
use Rattle.cif_columns.proofs.WholeLines.{ends_before, lines_of_parts-append, lines_to_feed, parts_some, split_at_feed}
use Rattle.cif_columns.specs.ContentReader.{given, held, left, limit}
use Rattle.cif_columns.specs.JudgedContents.{IsGiven, MayGoOn, has_overlong, is_overlong, judged_contents, parts_of, up_to_overlong}

-- ---- whole contents, none of which is overlong

overlong_no : (part : List ℕ) → length part < 10000 → is_overlong part ≡ false
overlong_no part short = grind (arith, nat_tests)

overlong_yes : (part : List ℕ) → 10000 ≤ length part → is_overlong part ≡ true
overlong_yes part long = grind (arith, nat_tests)

one_short : (part : List ℕ) → HaveNoFeed part → is_overlong part ≡ false → list_any is_overlong (parts_of part) ≡ false
one_short part none short = ap (list_any is_overlong) (one_part part none) ∙ ap (λ b. b || false) short

one_overlong : (part : List ℕ) → HaveNoFeed part → length part < 10000 → has_overlong part ≡ false
unfolding has_overlong
one_overlong part none short = one_short part none (overlong_no part short)

up_to_append : (parts others : List (List ℕ)) → list_any is_overlong parts ≡ false
    → up_to_overlong (parts ++ others) ≡ parts ++ up_to_overlong others
up_to_append [] others none = refl
up_to_append (part ∷ parts) others none =
    let both = or_parts (is_overlong part) (list_any is_overlong parts) none in
    ap (λ b. part ∷ cond b [] (up_to_overlong (parts ++ others))) both.0 ∙ ap (λ l. part ∷ l) (up_to_append parts others both.1)

pub none_overlong : has_overlong [] ≡ false
unfolding has_overlong
none_overlong = refl

pub none_judged : judged_contents [] ≡ []
unfolding judged_contents
none_judged = refl

-- where none is overlong, all contents are judged
pub judged_all : (bytes : List ℕ) → has_overlong bytes ≡ false → judged_contents bytes ≡ contents_of bytes
unfolding judged_contents has_overlong
judged_all bytes none = ap lines_of_parts (ap up_to_overlong (sym (append-nil (parts_of bytes))) ∙ up_to_append (parts_of bytes) [] none
    ∙ append-nil (parts_of bytes))

module _ (front more : List ℕ) where
  feed_overlong : has_overlong (front ++ 10 ∷ more) ≡ (list_any is_overlong (parts_of front) || has_overlong more)
  unfolding has_overlong
  feed_overlong = ap (list_any is_overlong) (split_at_feed front more) ∙ list_any-append is_overlong (parts_of front) (parts_of more)

  feed_judged : list_any is_overlong (parts_of front) ≡ false
      → judged_contents (front ++ 10 ∷ more) ≡ map strip_carriage_return (parts_of front) ++ judged_contents more
  unfolding judged_contents
  feed_judged none =
      let (first, others, is) = parts_some is_line_feed more in
      ap (λ l. lines_of_parts (up_to_overlong l)) (split_at_feed front more)
      ∙ ap lines_of_parts (up_to_append (parts_of front) (parts_of more) none)
      ∙ ap (λ l. lines_of_parts (parts_of front ++ up_to_overlong l)) is
      ∙ lines_of_parts-append (parts_of front) first (cond (is_overlong first) [] (up_to_overlong others))
      ∙ ap (λ l. map strip_carriage_return (parts_of front) ++ lines_of_parts (up_to_overlong l)) (sym is)

fed_overlong : (part : List ℕ) → HaveNoFeed part → length part < 10000 → has_overlong (part ++ 10 ∷ []) ≡ false
fed_overlong part none short =
    feed_overlong part [] ∙ ap (λ b. b || has_overlong []) (one_short part none (overlong_no part short)) ∙ none_overlong

-- their contents come first, and whether one is overlong depends on what follows
whole_judged : (whole more : List ℕ) → (whole ≡ []) ⊎ EndsLine whole more → has_overlong whole ≡ false
    → (judged_contents (whole ++ more) ≡ contents_of whole ++ judged_contents more) × (has_overlong (whole ++ more) ≡ has_overlong more)
whole_judged whole more ended none = ⊎_elim
    (λ empty. rw empty (refl, refl))
    (⊎_elim
    (λ fed.
    let front = fed.0 in
    let short = (or_parts (list_any is_overlong (parts_of front)) (has_overlong [])
    (sym (feed_overlong front []) ∙ ap has_overlong (sym fed.1)
    ∙ none)).0 in
    let all : whole ++ more ≡ front ++ 10 ∷ more = ap (λ l. l ++ more) fed.1 ∙ append_assoc front (10 ∷ []) more in (
      ap judged_contents all ∙ feed_judged front more short
          ∙ ap (λ l. l ++ judged_contents more) (sym (ap contents_of fed.1 ∙ lines_to_feed front [] ∙ append-nil _)),
      ap has_overlong all ∙ feed_overlong front more ∙ ap (λ b. b || has_overlong more) short,
    ))
    (λ empty. rw empty (
      ap judged_contents (append-nil whole) ∙ judged_all whole none ∙ sym (append-nil (contents_of whole))
          ∙ ap (λ l. contents_of whole ++ l) (sym none_judged),
      ap has_overlong (append-nil whole) ∙ none ∙ sym none_overlong,
    ))) ended

-- ---- the contents so far

-- any content
abbrev IsAny : List ℕ → Type 0
IsAny content = Unit {0}

-- the bytes are these whole contents, none of them overlong, and then a rest
pub record AreJudgedAndRest (bytes : List ℕ) (contents : List (List ℕ)) (rest : List ℕ) : Type 0 where
  pub so_far : AreWholeContentsAndRest IsAny bytes contents rest
  pub short : has_overlong so_far.whole ≡ false

pub no_contents : (bytes : List ℕ) → AreJudgedAndRest bytes [] bytes
unfolding none_given
no_contents bytes = record { so_far = none_given bytes; short = none_overlong }

-- one content more
pub content_more : (bytes : List ℕ) (contents : List (List ℕ)) (rest one after : List ℕ) → AreJudgedAndRest bytes contents rest
    → ComesFirst 10000 rest one after → AreJudgedAndRest bytes (contents ++ one ∷ []) after
unfolding whole_more
content_more bytes contents rest one after judged = ⊎_elim
    (λ fed. more (fed.part ++ 10 ∷ []) (fed.parts ∙ sym (append_assoc fed.part (10 ∷ []) after)) (inl (fed.part, refl))
    (content_before fed.part [] fed.no_feed ∙ ap (λ l. l ∷ []) (sym fed.is)) (fed_overlong fed.part fed.no_feed fed.short))
    (λ ended. more rest (sym (append-nil rest) ∙ ap (λ l. rest ++ l) (sym ended.none)) (inr ended.none)
    (content_at_end rest ended.no_feed ended.some ∙ ap (λ l. l ∷ []) (sym ended.is)) (one_overlong rest ended.no_feed ended.short))
  where
    more : (piece : List ℕ) → rest ≡ piece ++ after → EndsLine piece after → contents_of piece ≡ one ∷ [] → has_overlong piece ≡ false
        → AreJudgedAndRest bytes (contents ++ one ∷ []) after
    more piece parts ended is short =
        let so_far = judged.so_far in
        record {
          so_far = whole_more bytes contents rest piece one after so_far parts ended is tt;
          short = (whole_judged so_far.whole piece (ends_before so_far.whole piece after
              (subst (λ l. (so_far.whole ≡ []) ⊎ EndsLine so_far.whole l) parts so_far.ended)) judged.short).1 ∙ short;
        }

module _ (bytes : List ℕ) (contents : List (List ℕ)) (rest : List ℕ) (judged : AreJudgedAndRest bytes contents rest) where
  -- all contents are these and those of the rest
  pub contents_are : contents_of bytes ≡ contents ++ contents_of rest
  contents_are = contents_given bytes contents rest judged.so_far

  pub judged_are : judged_contents bytes ≡ contents ++ judged_contents rest
  judged_are = ap judged_contents judged.so_far.parts ∙ (whole_judged judged.so_far.whole rest judged.so_far.ended judged.short).0
      ∙ ap (λ l. l ++ judged_contents rest) judged.so_far.contents

  pub overlong_is : has_overlong bytes ≡ has_overlong rest
  overlong_is = ap has_overlong judged.so_far.parts ∙ (whole_judged judged.so_far.whole rest judged.so_far.ended judged.short).1

  -- what the source gave of them are these and a front of the rest
  pub judged_front : (front unread : List ℕ) → rest ≡ front ++ unread
      → (bytes ≡ (judged.so_far.whole ++ front) ++ unread) × AreJudgedAndRest (judged.so_far.whole ++ front) contents front
  unfolding given_front
  judged_front front unread parts =
      let gave = given_front bytes contents rest front unread parts judged.so_far in
      (gave.0, record { so_far = gave.1; short = judged.short })

-- ---- what comes behind them

-- a part that is overlong is the last
long_judged : (bytes part : List ℕ) (others : List (List ℕ)) → parts_of bytes ≡ part ∷ others → 10000 ≤ length part
    → judged_contents bytes ≡ part ∷ []
unfolding judged_contents
long_judged bytes part others is long =
    let ne : length part ≢ 0 = omega (arith, long) in
    ap (λ l. lines_of_parts (up_to_overlong l)) is
    ∙ ap (λ b. lines_of_parts (part ∷ cond b [] (up_to_overlong others))) (overlong_yes part long)
    ∙ ap (λ b. cond b [] (part ∷ [])) (ne_eqb (length part) 0 ne)

module _ (bytes : List ℕ) (begins : BeginOverlong 10000 bytes) where
  pub overlong_last : (long : List ℕ) × (10000 ≤ length long) × (judged_contents bytes ≡ long ∷ [])
  overlong_last = let (part, others, is, long) = overlong_part 10000 bytes begins in (part, long, long_judged bytes part others is long)

  pub overlong_there : has_overlong bytes ≡ true
  unfolding has_overlong
  overlong_there =
      let (part, others, is, long) = overlong_part 10000 bytes begins in
      ap (list_any is_overlong) is ∙ ap (λ b. b || list_any is_overlong others) (overlong_yes part long)

-- bytes that decide no content are one at most
pub undecided_contents : (held : List ℕ) → HaveNoFeed held → length held < 10000
    → (length (contents_of held) ≤ 1) × (has_overlong held ≡ false)
undecided_contents [] none short = (omega arith, none_overlong)
undecided_contents (x ∷ held) none short =
    (omega (arith, ap length (content_at_end (x ∷ held) none (omega arith))), one_overlong (x ∷ held) none short)

-- bytes that aren't none have one
pub some_judged : (bytes : List ℕ) → 0 < length bytes → 0 < length (judged_contents bytes)
some_judged bytes some = ⊎_elim
    (λ none. by_length bytes [] (one_part bytes none) (λ short.
    omega (arith, ap length (judged_all bytes (one_overlong bytes none short) ∙ content_at_end bytes none some))))
    (λ fed. by_length fed.0 (parts_of fed.1) (ap parts_of fed.2 ∙ part_before fed.0 fed.1 fed.3) (λ short.
    omega (
      arith,
      ap length (ap judged_contents fed.2
          ∙ feed_judged fed.0 fed.1 (one_short fed.0 fed.3 (overlong_no fed.0 short))
          ∙ ap (λ l. map strip_carriage_return l ++ judged_contents fed.1) (one_part fed.0 fed.3)),
    )))
    (feed_or_none bytes)
  where
    by_length : (part : List ℕ) (others : List (List ℕ)) → parts_of bytes ≡ part ∷ others
        → (length part < 10000 → 0 < length (judged_contents bytes)) → 0 < length (judged_contents bytes)
    by_length part others parts fine = ⊎_elim
        (λ short. fine short)
        (λ long. omega (arith, ap length (long_judged bytes part others parts long)))
        (cases_lt (length part) 10000)

-- ---- a reader of them

-- these are all contents of the bytes, and none is overlong
pub record AreAll (bytes : List ℕ) (contents : List (List ℕ)) : Type 0 where
  pub contents_are : contents_of bytes ≡ contents
  pub judged_are : judged_contents bytes ≡ contents

-- a byte decides that it is one too many
decides_some : (most max count : ℕ) (given : List ℕ) → 0 < most → ¬ DecideNoContent most max count given → 0 < length given
decides_some most max count [] some decides =
    absurd (decides (record { no_feed = All-nil (λ (b : ℕ). b ≢ 10); short = some; none_too_many = λ full. refl }))
decides_some most max count (b ∷ given) some decides = omega arith

if_known : (start : Option (List ℕ)) (A : Type 0) (P : List ℕ → Type 0) → (A → IfSome start P) → IfSome start (λ bytes. A → P bytes)
if_known None A P f = tt
if_known (Some bytes) A P f = f

module _ {R : Type 0} (remaining : R → Option (List ℕ)) (errors : R → Option ℕ) (start : Option (List ℕ)) (max : ℕ) (reader : ContentReader)
    (source : Source R) (cs : List (List ℕ)) (so_far : HasGiven AreJudgedAndRest remaining start 10000 max reader source cs) where
  abbrev rest : Option (List ℕ)
  rest = left remaining reader source

  -- what is so of the bytes that the source gave
  given_front_so : (P : List ℕ → Type 0) (given : List ℕ) (unread : Option (List ℕ))
      → IfSome rest (λ bytes. prepend_known given unread ≡ Some bytes)
      → ((before : List ℕ) → AreJudgedAndRest before cs given → P before) → IfSome start (λ bytes. IsSomeAnd unread (IsGiven P bytes))
  given_front_so P given unread kept so = given_so AreJudgedAndRest remaining errors start 10000 max reader source cs so_far _ _ kept
      (λ bytes others known kept.
      let (more, is, parts) = held_front given others unread kept in
      let gave = judged_front bytes cs others known given more parts in
      subst (λ r. IsSomeAnd r (IsGiven P bytes)) (sym is)
      (record { before = known.so_far.whole ++ given; parts = gave.0; fact = so _ gave.1 }))

  module _ (reader' : ContentReader) (source' : Source R) where
    -- the end of the input
    pub judged_all_given : IsNextOf remaining errors reader source (Ok End) reader' source'
        → IfSome start (λ bytes. AreAll bytes cs) × IfSome start (λ bytes. remaining (reader_of source') ≡ Some [])
    judged_all_given next =
        let all = given_all AreJudgedAndRest remaining errors start 10000 max reader source cs so_far reader' source' next in (
          known_so start _ _ (λ bytes known. record {
            contents_are = contents_are bytes cs [] known ∙ append-nil cs;
            judged_are = judged_are bytes cs [] known ∙ ap (λ l. cs ++ l) none_judged ∙ append-nil cs;
          }) all.0,
          all.1,
        )

    -- a content that is overlong
    pub given_overlong : IsNextOf remaining errors reader source (Ok Overlong) reader' source'
        → ((long : List ℕ) × (length long ≢ 80) × IfSome start (λ bytes. judged_contents bytes ≡ cs ++ long ∷ []))
        × IfSome start (λ bytes. IsSomeAnd (remaining (reader_of source')) (IsGiven (λ before. has_overlong before ≡ true) bytes))
    given_overlong next = (
      at start rest so_far.known next.answer,
      given_front_so (λ before. has_overlong before ≡ true) (held reader') (remaining (reader_of source'))
          (known_so rest _ _ (λ bytes answer. answer.0) next.answer)
          (λ before known. overlong_is before cs (held reader') known
          ∙ overlong_there (held reader') (subst (λ n. BeginOverlong n (held reader')) so_far.same_most next.holds.2)),
    )
      where
        at : (s r : Option (List ℕ)) → IfSome s (λ bytes. IsSomeAnd r (AreJudgedAndRest bytes cs))
            → IfSome r (λ bytes.
            AnswersContent (Of (most_of reader)) bytes (Ok Overlong) (content reader') (left remaining reader' source'))
            → (long : List ℕ) × (length long ≢ 80) × IfSome s (λ bytes. judged_contents bytes ≡ cs ++ long ∷ [])
        at None r known answer = ([], omega arith, tt)
        at (Some bytes) None known answer = absurd known
        at (Some bytes) (Some others) known answer =
            let (long, wide, last) = overlong_last others (subst (λ n. BeginOverlong n others) so_far.same_most answer.1) in
            (long, omega (arith, wide), judged_are bytes cs others known ∙ ap (λ l. cs ++ l) last)

    -- a content that is one too many
    pub given_too_many : (number : ℕ) (why : Refusal) → IsNextOf remaining errors reader source (Err (Refused number why)) reader' source'
        → (number ≡ max + 1) × (why ≡ TooManyLines) × IfSome start (λ bytes. max < length (judged_contents bytes))
        × IfSome start (λ bytes. source_ended source' ≡ false
        → IsSomeAnd (remaining (reader_of source')) (IsGiven (λ before. max < length (contents_of before)) bytes))
    given_too_many number why next = (
      next.holds.2 ∙ ap (λ n. n + 1) (next.holds.0 ∙ so_far.same_limit),
      next.holds.3,
      given_so AreJudgedAndRest remaining errors start 10000 max reader source cs so_far _ _ next.answer (λ bytes others known some.
          let all = ap length (judged_are bytes cs others known) in
          omega (arith, all, length-append cs (judged_contents others), some_judged others some, full)),
      if_known start _ _ (λ not.
          let gave = next.decided (λ e. absurd (cc)) not in
          let some = decides_some (most_of reader) (limit reader) (given reader) gave.given reader.some gave.decided in
          let (one, others, is) = some_content gave.given some in
          given_front_so (λ before. max < length (contents_of before)) gave.given (remaining (reader_of source'))
          (kept_left rest (prepend_known gave.given (remaining (reader_of source'))) gave.parts)
          (λ before known.
          let all = ap length (contents_are before cs gave.given known ∙ ap (λ l. cs ++ l) is) in
          omega (arith, all, length-append cs (one ∷ others), full))),
    )
      where
        full : length cs ≡ max
        full = sym so_far.counted ∙ next.holds.0 ∙ so_far.same_limit

    -- a failure of the source
    pub given_failed : IsNextOf remaining errors reader source (Err Read) reader' source'
        → IfSome start (λ bytes. IsSomeAnd (remaining (reader_of source')) (IsGiven (MayGoOn max) bytes))
    given_failed next = given_front_so (MayGoOn max) (held reader') (remaining (reader_of source')) next.answer (λ before known. record {
      none_overlong = overlong_is before cs (held reader') known ∙ few.1;
      within = ⊎_elim
          (λ room.
          let all = ap length (contents_are before cs (held reader') known) in
          omega (arith, all, length-append cs (contents_of (held reader')), few.0))
          (λ from.
          let none : held reader' ≡ [] = undecided.none_too_many (omega (arith, from, within)) in
          let all = ap length (contents_are before cs (held reader') known ∙ ap (λ l. cs ++ contents_of l) none ∙ append-nil cs) in
          omega (arith, within, all))
          (cases_lt (length cs) max);
    })
      where
        within : length cs ≤ max
        within = given_within AreJudgedAndRest remaining errors start 10000 max reader source cs so_far

        undecided : DecideNoContent 10000 max (length cs) (held reader')
        undecided = at_limits AreJudgedAndRest remaining errors start 10000 max reader source cs so_far
            (λ k m n. DecideNoContent k m n (held reader')) next.holds.1

        few : (length (contents_of (held reader')) ≤ 1) × (has_overlong (held reader') ≡ false)
        few = undecided_contents (held reader') undecided.no_feed undecided.short
