-- Which bytes begin as a comment does.
use Rattle.cif_columns.proofs.Names.{All-cons, All-nil, All-take, AreUndecided, HaveNoFeed, InFeed, List, [], and_parts, ap, arith}
use Rattle.cif_columns.proofs.Names.{begins_comment, bytes_eq-Decides, cases_lt, codes, cond, cond_both, false, false_from_ne_true}
use Rattle.cif_columns.proofs.Names.{is_comment, length, length-take, most_by, nat_eq, nat_le, nat_tests, pointwise, subst, sym, take}
use Rattle.cif_columns.proofs.Names.{take-append-le, take-take, take_all, true, ℕ, ⊎_elim, ◌++◌, ◌+◌, ◌<◌, ◌∙◌, ◌≡◌, ◌≢◌, ◌≤◌}

-- a content begins as the bytes do of which it is the first
begins_front : (content bytes : List ℕ) → take (length content) bytes ≡ content → 3 ≤ length content
    → begins_comment content ≡ begins_comment bytes
unfolding begins_comment
begins_front content bytes front wide =
    ap (pointwise nat_eq (codes "/!!")) (ap (take 3) (sym front) ∙ take-take 3 (length content) bytes wide)

-- what is overlong in a feed has two bytes more than a line at least
at_least : (bytes : List ℕ) → 82 ≤ most_by InFeed bytes
at_least bytes = cond_both (begins_comment bytes) 1002 82 (λ n. 82 ≤ n) (λ is. omega arith) (λ is. omega arith)

begins_short : (held : List ℕ) → length held < 3 → begins_comment held ≡ false
unfolding begins_comment
begins_short held short = false_from_ne_true _ (λ begins.
    let same = (bytes_eq-Decides (codes "/!!") (take 3 held)).0 begins in omega (arith, ap length same, length-take 3 held, short))

-- bytes that are fewer, but decide a content, end it: so those that follow don't make them a comment
ends_short : (held more : List ℕ) → ¬ AreUndecided (most_by InFeed held) held → length held < 3 → begins_comment (held ++ more) ≡ false
unfolding begins_comment
ends_short held more decided short = false_from_ne_true _ (λ begins.
    let same = (bytes_eq-Decides (codes "/!!") (take 3 (held ++ more))).0 begins in
    let is : take (length held) (codes "/!!") ≡ held =
    ap (take (length held)) same ∙ take-take (length held) 3 (held ++ more) (omega (arith, short))
    ∙ take-append-le (length held) held more (omega arith) ∙ take_all (length held) held (omega arith) in
    decided (record {
      no_feed = subst HaveNoFeed is (All-take (λ (b : ℕ). b ≢ 10) (length held) (codes "/!!") no_feed);
      short = omega (arith, short, at_least held);
    }))
  where
    no_feed : HaveNoFeed (codes "/!!")
    no_feed = All-cons (λ (b : ℕ). b ≢ 10) 47 (codes "!!") (λ e. absurd (omega (arith, e)))
        (All-cons (λ (b : ℕ). b ≢ 10) 33 (codes "!") (λ e. absurd (omega (arith, e)))
        (All-cons (λ (b : ℕ). b ≢ 10) 33 [] (λ e. absurd (omega (arith, e))) (All-nil (λ (b : ℕ). b ≢ 10))))

-- bytes that decide a content begin as they do with any that follow
pub begins_kept : (held more : List ℕ) → ¬ AreUndecided (most_by InFeed held) held → begins_comment (held ++ more) ≡ begins_comment held
begins_kept held more decided = ⊎_elim
    (λ short. ends_short held more decided short ∙ sym (begins_short held short))
    (λ wide. sym (begins_front held (held ++ more)
    (take-append-le (length held) held more (omega arith) ∙ take_all (length held) held (omega arith)) wide))
    (cases_lt (length held) 3)

-- no content that is overlong in a feed is a comment
pub overlong_no_comment : (content bytes : List ℕ) → most_by InFeed bytes ≤ length content + 1 → take (length content) bytes ≡ content
    → is_comment content ≡ false
unfolding is_comment
overlong_no_comment content bytes long front = false_from_ne_true _ (λ is.
    let both = and_parts (begins_comment content) (nat_le (length content) 1000) is in
    let begins : begins_comment bytes ≡ true =
    sym (begins_front content bytes front (omega (arith, long, at_least bytes))) ∙ both.0 in
    let most : most_by InFeed bytes ≡ 1002 = ap (λ b. cond b 1002 82) begins in
    too_long both.1 (omega (arith, long, most)))
  where
    too_long : nat_le (length content) 1000 ≡ true → 1001 ≤ length content → ⊥
    too_long short long = grind (arith, nat_tests)
