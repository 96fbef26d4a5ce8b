-- The content that stands first in bytes, and bytes that decide none.
use Rattle.cif_columns.proofs.Names.{All, All-append, All-cons, All-contains, All-nil, AnswersNext, AreUndecided, BeginOverlong, Bool}
use Rattle.cif_columns.proofs.Names.{ComesFirst, Contains-append_right, Content, EndsAtFeed, HaveNoFeed, IfSome, InFeed, IsAtEnd}
use Rattle.cif_columns.proofs.Names.{IsFirstContent, IsFirstFeed, IsLast, Keeps, List, Most, NextContent, None, Of, Option, Overlong}
use Rattle.cif_columns.proofs.Names.{PassesFirst, Some, [], ap, append-nil, append_assoc, arith, cond, cond_both, contents_of, drop}
use Rattle.cif_columns.proofs.Names.{drop-cons, drop_of_length-le, eqb-true, false, get_or, inl, inr, is_line_feed, length, length-append}
use Rattle.cif_columns.proofs.Names.{length-take, lines, lines_of_parts, map, most_by, nat_eq, nat_tests, prepend_known, refl, slice_index}
use Rattle.cif_columns.proofs.Names.{slice_split, strip_carriage_return, subst, suc, sym, take, take-append-drop, take-append-le, take-take}
use Rattle.cif_columns.proofs.Names.{take_all, true, zero, ℕ, ⊎_elim, ◌++◌, ◌+◌, ◌-◌, ◌<◌, ◌==◌, ◌∙◌, ◌∷◌, ◌≡◌, ◌≢◌, ◌≤◌, ◌⊎◌}
use Rattle.std.proofs.lemmas.List.Splits.{slice_split_at, slice_split_none}
use Rattle.cif_columns.{proofs.Comments.begins_kept, proofs.WholeLines.lines_to_feed, specs.declared.ahead.NextContent.TheVariants.End}

-- ---- parts

none_split : (bytes : List ℕ) → HaveNoFeed bytes → All (λ b. is_line_feed b ≡ false) bytes
none_split bytes none = λ k d below. other (get_or bytes k d) (none k d below)
  where
    other : (b : ℕ) → b ≢ 10 → is_line_feed b ≡ false
    other b different = grind (arith, nat_tests)

pub one_part : (bytes : List ℕ) → HaveNoFeed bytes → slice_split is_line_feed bytes ≡ bytes ∷ []
one_part bytes none = slice_split_none is_line_feed bytes (none_split bytes none)

pub part_before : (part rest : List ℕ) → HaveNoFeed part
    → slice_split is_line_feed (part ++ 10 ∷ rest) ≡ part ∷ slice_split is_line_feed rest
part_before part rest none = slice_split_at is_line_feed part 10 rest (none_split part none) refl

-- the content before a line feed
pub content_before : (part rest : List ℕ) → HaveNoFeed part
    → contents_of (part ++ 10 ∷ rest) ≡ strip_carriage_return part ∷ contents_of rest
content_before part rest none = lines_to_feed part rest ∙ ap (λ l. map strip_carriage_return l ++ lines rest) (one_part part none)

-- and the last one
pub content_at_end : (bytes : List ℕ) → HaveNoFeed bytes → 0 < length bytes → contents_of bytes ≡ bytes ∷ []
content_at_end bytes none some =
    let long : (length bytes == 0) ≡ false = grind (arith, nat_tests) in
    ap lines_of_parts (one_part bytes none) ∙ ap (λ (b : Bool). cond b [] (bytes ∷ [])) long

-- bytes have no line feed, or a first one
pub feed_or_none : (bytes : List ℕ) → HaveNoFeed bytes ⊎ ((part rest : List ℕ) × (bytes ≡ part ++ 10 ∷ rest) × HaveNoFeed part)
feed_or_none [] = inl (All-nil (λ (b : ℕ). b ≢ 10))
feed_or_none (x ∷ xs) = at (x == 10) refl (feed_or_none xs)
  where
    at : (b : Bool) → (x == 10) ≡ b → HaveNoFeed xs ⊎ ((part rest : List ℕ) × (xs ≡ part ++ 10 ∷ rest) × HaveNoFeed part)
        → HaveNoFeed (x ∷ xs) ⊎ ((part rest : List ℕ) × (x ∷ xs ≡ part ++ 10 ∷ rest) × HaveNoFeed part)
    at true is rest = inr ([], xs, ap (λ (b : ℕ). b ∷ xs) (eqb-true x 10 is), All-nil (λ (b : ℕ). b ≢ 10))
    at false is rest =
        let other : x ≢ 10 = grind (arith, nat_tests) in
        ⊎_elim
        (λ none. inl (All-cons (λ (b : ℕ). b ≢ 10) x xs other none))
        (λ fed. inr (x ∷ fed.0, fed.1, ap (λ (l : List ℕ). x ∷ l) fed.2, All-cons (λ (b : ℕ). b ≢ 10) x fed.0 other fed.3))
        rest

-- ---- a carriage return before a line feed

-- it is one byte
pub stripped_long : (part : List ℕ) → length part ≤ length (strip_carriage_return part) + 1
stripped_long part =
    cond_both (get_or part (length part - 1) 0 == 13) (take (length part - 1) part) part (λ l. length part ≤ length l + 1)
    (λ is. omega (arith, length-take (length part - 1) part)) (λ is. omega arith)

ends_some : (l : List ℕ) → slice_index l (length l - 1) ≡ 13 → 0 < length l
ends_some [] e = absurd (omega arith)
ends_some (x ∷ l) e = omega arith

-- a list whose last element is a carriage return
last_return : (l : List ℕ) → slice_index l (length l - 1) ≡ 13 → l ≡ take (length l - 1) l ++ 13 ∷ []
last_return l e =
    let some = ends_some l e in
    let last = length l - 1 in
    let below : last < length l = omega arith in
    let none : drop (suc last) l ≡ [] = drop_of_length-le l {i = suc last} (omega arith) in
    let here : drop last l ≡ 13 ∷ [] = drop-cons l last 0 below ∙ ap (λ x. x ∷ drop (suc last) l) e ∙ ap (λ t. 13 ∷ t) none in
    sym (take-append-drop last l) ∙ ap (λ t. take last l ++ t) here

-- what loses a carriage return at its end had it there
stripped : (part line : List ℕ) → strip_carriage_return part ≡ line → (part ≡ line) ⊎ (part ≡ line ++ 13 ∷ [])
stripped part line is = at (nat_eq (slice_index part (length part - 1)) 13) refl is
  where
    at : (r : Bool) → r ≡ nat_eq (slice_index part (length part - 1)) 13 → cond r (take (length part - 1) part) part ≡ line
        → (part ≡ line) ⊎ (part ≡ line ++ 13 ∷ [])
    at true w is = inr (last_return part (eqb-true _ 13 (sym w)) ∙ ap (λ l. l ++ 13 ∷ []) is)
    at false w is = inl is

-- it is the front of the part
stripped_front : (part : List ℕ) → take (length (strip_carriage_return part)) part ≡ strip_carriage_return part
stripped_front part =
    cond_both (get_or part (length part - 1) 0 == 13) (take (length part - 1) part) part (λ l. take (length l) part ≡ l)
    (λ is. ap (λ n. take n part) (omega (arith, length-take (length part - 1) part))) (λ is. take_all (length part) part (omega arith))

-- ---- the first content

pub content_first : (most : ℕ) (bytes content rest : List ℕ) → ComesFirst most bytes content rest → IsFirstContent bytes content rest
content_first most bytes content rest = ⊎_elim
    (λ fed. record {
      stands = ⊎_elim
          (λ alone. inl (fed.parts ∙ ap (λ l. l ++ 10 ∷ rest) alone))
          (λ returned. inr (inl (fed.parts ∙ ap (λ l. l ++ 10 ∷ rest) returned ∙ append_assoc content (13 ∷ []) (10 ∷ rest))))
          (stripped fed.part content (sym fed.is));
      contents = ap contents_of fed.parts ∙ content_before fed.part rest fed.no_feed ∙ ap (λ l. l ∷ contents_of rest) (sym fed.is);
    })
    (λ ended. record {
      stands = inr (inr (sym ended.is, ended.none));
      contents = content_at_end bytes ended.no_feed ended.some ∙ ap (λ l. l ∷ []) (sym ended.is)
          ∙ ap (λ l. content ∷ contents_of l) (sym ended.none);
    })

-- bytes that aren't none have one
pub comes_first : (bytes : List ℕ) → 0 < length bytes → (content rest : List ℕ) × ComesFirst (length bytes + 1) bytes content rest
comes_first bytes some = ⊎_elim
    (λ none. (bytes, [], inr (record { some = some; no_feed = none; short = omega arith; is = refl; none = refl })))
    (λ fed. (
      strip_carriage_return fed.0,
      fed.1,
      inl (record {
        part = fed.0;
        no_feed = fed.3;
        short = omega (arith, ap length fed.2, length-append fed.0 (10 ∷ fed.1));
        parts = fed.2;
        is = refl;
      }),
    ))
    (feed_or_none bytes)

pub some_content : (bytes : List ℕ) → 0 < length bytes
    → (content : List ℕ) × (others : List (List ℕ)) × (contents_of bytes ≡ content ∷ others)
some_content bytes some =
    let (content, rest, first) = comes_first bytes some in
    (content, contents_of rest, (content_first (length bytes + 1) bytes content rest first).contents)

-- with more bytes behind a line feed
fed_more : (most : ℕ) (held content rest more : List ℕ) → EndsAtFeed most held content rest
    → EndsAtFeed most (held ++ more) content (rest ++ more)
fed_more most held content rest more fed = record {
  part = fed.part;
  no_feed = fed.no_feed;
  short = fed.short;
  parts = ap (λ l. l ++ more) fed.parts ∙ append_assoc fed.part (10 ∷ rest) more;
  is = fed.is;
}

pub fed_some : (most : ℕ) (bytes content rest : List ℕ) → EndsAtFeed most bytes content rest → 0 < length bytes
fed_some most bytes content rest fed = omega (arith, ap length fed.parts, length-append fed.part (10 ∷ rest))

pub first_some : (most : ℕ) (bytes content rest : List ℕ) → ComesFirst most bytes content rest → 0 < length bytes
first_some most bytes content rest = ⊎_elim (λ fed. fed_some most bytes content rest fed) (λ ended. ended.some)

-- a content has no more bytes than the part that it is made of
stripped_short : (part : List ℕ) → length (strip_carriage_return part) ≤ length part
stripped_short part =
    cond_both (get_or part (length part - 1) 0 == 13) (take (length part - 1) part) part (λ l. length l ≤ length part)
    (λ is. omega (arith, length-take (length part - 1) part)) (λ is. omega arith)

-- of a first line feed
pub fed_first : (most : ℕ) (held : List ℕ) (at : ℕ) (content rest line : List ℕ) → IsFirstFeed most held at
    → line ≡ strip_carriage_return (take at held) → content ≡ take (length line) held → rest ≡ drop (at + 1) held
    → EndsAtFeed most held content rest
fed_first most held at content rest line feed is content_is rest_is =
    let part = take at held in
    let few : length (strip_carriage_return part) ≤ at = omega (arith, stripped_short part, length-take at held) in
    let below : at < length held = feed.within in
    let next : suc at ≡ at + 1 = omega arith in
    let front : take (length (strip_carriage_return part)) held ≡ strip_carriage_return part =
    sym (take-take (length (strip_carriage_return part)) at held few) ∙ stripped_front part in
    record {
      part = part;
      no_feed = feed.no_feed;
      short = omega (arith, length-take at held, feed.short);
      parts = sym (take-append-drop at held)
          ∙ ap (λ l. part ++ l) (drop-cons held at 0 below ∙ ap (λ b. b ∷ drop (suc at) held) feed.feed
          ∙ ap (λ l. 10 ∷ l) (ap (λ n. drop n held) next ∙ sym rest_is));
      is = content_is ∙ ap (λ l. take (length l) held) is ∙ front;
    }

-- ---- a content that is overlong

-- the bytes are one part, or begin with one, which has so many bytes at least
overlong_or_fed : (most : ℕ) (bytes : List ℕ) → BeginOverlong most bytes
    → HaveNoFeed bytes ⊎ ((part rest : List ℕ) × (bytes ≡ part ++ 10 ∷ rest) × HaveNoFeed part × (most ≤ length part))
overlong_or_fed most bytes begins =
    let front = take most bytes in
    let more = drop most bytes in
    let whole : front ++ more ≡ bytes = take-append-drop most bytes in
    let long = begins.long in
    ⊎_elim
    (λ none. inl (subst HaveNoFeed whole (All-append (λ (b : ℕ). b ≢ 10) front more begins.no_feed none)))
    (λ fed. inr (
      front ++ fed.0,
      fed.1,
      sym whole ∙ ap (λ l. front ++ l) fed.2 ∙ sym (append_assoc front fed.0 (10 ∷ fed.1)),
      All-append (λ (b : ℕ). b ≢ 10) front fed.0 begins.no_feed fed.3,
      omega (arith, long, length-append front fed.0, length-take most bytes),
    ))
    (feed_or_none more)

pub overlong_part : (most : ℕ) (bytes : List ℕ) → BeginOverlong most bytes
    → (part : List ℕ) × (others : List (List ℕ)) × (slice_split is_line_feed bytes ≡ part ∷ others) × (most ≤ length part)
overlong_part most bytes begins = ⊎_elim
    (λ none. (bytes, [], one_part bytes none, begins.long))
    (λ fed. (fed.0, slice_split is_line_feed fed.1, ap (slice_split is_line_feed) fed.2 ∙ part_before fed.0 fed.1 fed.3, fed.4))
    (overlong_or_fed most bytes begins)

pub overlong_content : (most : ℕ) (bytes : List ℕ) → 0 < most → BeginOverlong most bytes
    → (content : List ℕ) × (others : List (List ℕ)) × (contents_of bytes ≡ content ∷ others) × (most ≤ length content + 1)
    × (take (length content) bytes ≡ content)
overlong_content most bytes some begins =
    let long = begins.long in
    ⊎_elim
    (λ none. (
      bytes,
      [],
      content_at_end bytes none (omega (arith, long, some)),
      omega (arith, long),
      take_all (length bytes) bytes (omega arith),
    ))
    (λ fed. (
      strip_carriage_return fed.0,
      contents_of fed.1,
      ap contents_of fed.2 ∙ content_before fed.0 fed.1 fed.3,
      omega (arith, fed.4, stripped_long fed.0),
      ap (take (length (strip_carriage_return fed.0))) fed.2
          ∙ take-append-le (length (strip_carriage_return fed.0)) fed.0 (10 ∷ fed.1) (stripped_short fed.0) ∙ stripped_front fed.0,
    ))
    (overlong_or_fed most bytes begins)

pub overlong_more : (most : ℕ) (held more : List ℕ) → BeginOverlong most held → BeginOverlong most (held ++ more)
overlong_more most held more begins =
    let long = begins.long in
    record {
      long = omega (arith, long, length-append held more);
      no_feed = subst HaveNoFeed (sym (take-append-le most held more long)) begins.no_feed;
    }

-- ---- what decides

pub fed_decides : (most limit : ℕ) (held content rest : List ℕ) → EndsAtFeed most held content rest → ¬ AreUndecided limit held
fed_decides most limit held content rest fed none = none_there (subst HaveNoFeed fed.parts none.no_feed)
  where
    none_there : HaveNoFeed (fed.part ++ 10 ∷ rest) → ⊥
    none_there all = All-contains (λ (b : ℕ). b ≢ 10) (fed.part ++ 10 ∷ rest) 10 all
        (Contains-append_right fed.part (10 ∷ rest) 10 (zero, omega arith, refl)) refl

pub overlong_decides : (most : ℕ) (held : List ℕ) → BeginOverlong most held → ¬ AreUndecided most held
overlong_decides most held begins none =
    let long = begins.long in let short = none.short in omega (arith, long, short)

-- what has no line feed among its first, and no more bytes
pub short_undecided : (most : ℕ) (held : List ℕ) → length held < most → HaveNoFeed (take most held) → AreUndecided most held
short_undecided most held short none = record { no_feed = subst HaveNoFeed (take_all most held (omega (arith, short))) none; short = short }

-- ---- all that is left

pub kept_left : (bytes left : Option (List ℕ)) → Keeps bytes left → IfSome bytes (λ all. left ≡ Some all)
kept_left None left keeps = tt
kept_left (Some all) None keeps = absurd keeps
kept_left (Some all) (Some same) keeps = ap Some keeps

-- with so many bytes a content is overlong, whatever follows those that decide it
most_kept : (most : Most) (held more : List ℕ) → ¬ AreUndecided (most_by most held) held → most_by most (held ++ more) ≡ most_by most held
most_kept (Of most) held more decided = refl
most_kept InFeed held more decided = ap (λ b. cond b 1002 82) (begins_kept held more decided)

-- what the held bytes decide is so of all that is left
pub passed_left : (most : Most) (bytes remaining : Option (List ℕ)) (held content rest : List ℕ) (next : NextContent)
    → Keeps bytes (prepend_known held remaining) → PassesFirst (most_by most held) held next content rest
    → IfSome bytes (λ all. AnswersNext most all next content (prepend_known rest remaining))
passed_left most None remaining held content rest next keeps passes = tt
passed_left most (Some all) None held content rest next keeps passes = absurd keeps
passed_left most (Some all) (Some more) held content rest Content keeps passes =
    let kept = most_kept most held more (fed_decides (most_by most held) (most_by most held) held content rest passes) in
    rw (← keeps) (
      rest ++ more,
      refl,
      inl (subst (λ n. EndsAtFeed n (held ++ more) content (rest ++ more)) (sym kept)
          (fed_more (most_by most held) held content rest more passes)),
    )
passed_left most (Some all) (Some more) held content rest Overlong keeps passes =
    let kept = most_kept most held more (overlong_decides (most_by most held) held passes.0) in (
      ap Some (ap (λ l. l ++ more) passes.1 ∙ keeps),
      subst (λ l. BeginOverlong (most_by most l) l) keeps
          (subst (λ n. BeginOverlong n (held ++ more)) (sym kept) (overlong_more (most_by most held) held more passes.0)),
    )
passed_left most (Some all) (Some more) held content rest End keeps passes = absurd passes

-- where the source has no more bytes, and those that are held decide none
pub last_left : (most : Most) (bytes remaining : Option (List ℕ)) (held content rest : List ℕ) (next : NextContent)
    → Keeps bytes (prepend_known held remaining) → IsAtEnd remaining → AreUndecided (most_by most held) held → IsLast held next content rest
    → IfSome bytes (λ all. AnswersNext most all next content (prepend_known rest remaining))
last_left most None remaining held content rest next keeps end undecided last = tt
last_left most (Some all) None held content rest next keeps end undecided last = absurd keeps
last_left most (Some all) (Some more) held content rest next keeps end undecided last = at next last
  where
    same : held ≡ all
    same = sym (append-nil held) ∙ ap (λ l. held ++ l) (sym end) ∙ keeps

    at : (n : NextContent) → IsLast held n content rest → AnswersNext most all n content (Some (rest ++ more))
    at Content (some, is, none) = (
      rest ++ more,
      refl,
      inr (record {
        some = subst (λ l. 0 < length l) same some;
        no_feed = subst HaveNoFeed same undecided.no_feed;
        short = subst (λ l. length l < most_by most l) same undecided.short;
        is = is ∙ same;
        none = ap (λ l. l ++ more) none ∙ end;
      }),
    )
    at Overlong last = absurd last
    at End (is, none) = (sym same ∙ is, ap Some (ap (λ l. l ++ more) none ∙ end))
