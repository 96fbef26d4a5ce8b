-- Printable bytes by the test and by the fact.
use Rattle.cif_columns.proofs.Names.{ArePrintable, BadByte, BadLength, Bool, Err, IsPrintable, List, None, Ok, Option, Some, SomeIff, ap}
use Rattle.cif_columns.proofs.Names.{arith, cond, eq-eqb, false, is_printable, length, line_of, list_all, nat_tests, ok_or, refl, sym, true}
use Rattle.cif_columns.proofs.Names.{ℕ, ◌∙◌, ◌≡◌}
use Rattle.std.proofs.lemmas.List.Sums.{AllPass-from_list_all, list_all-from_AllPass}

test_true : (b : ℕ) → IsPrintable b → is_printable b ≡ true
test_true b h = grind (arith, nat_tests)

test_fact : (b : ℕ) → is_printable b ≡ true → IsPrintable b
test_fact b h = (grind (arith, nat_tests), grind (arith, nat_tests))

pub printable_true : (xs : List ℕ) → ArePrintable xs → list_all is_printable xs ≡ true
printable_true xs h = list_all-from_AllPass is_printable xs (λ k d lt. test_true _ (h k d lt))

pub printable_fact : (xs : List ℕ) → list_all is_printable xs ≡ true → ArePrintable xs
printable_fact xs h = λ k d lt. test_fact _ (AllPass-from_list_all is_printable xs h k d lt)

-- eighty bytes as a line
pub line_of-eighty : (line : Option (List ℕ)) (xs : List ℕ) → length xs ≡ 80 → SomeIff line (ArePrintable xs) xs
    → ok_or line BadByte ≡ line_of xs
line_of-eighty (Some line) xs width h =
    ap Ok h.1
    ∙ sym (ap (λ b. cond b (cond (list_all is_printable xs) (Ok xs) (Err BadByte)) (Err BadLength)) (eq-eqb (length xs) 80 width)
    ∙ ap (λ b. cond b (Ok xs) (Err BadByte)) (printable_true xs h.0))
line_of-eighty None xs width h = at (list_all is_printable xs) refl
  where
    at : (b : Bool) → b ≡ list_all is_printable xs → Err BadByte ≡ line_of xs
    at true e = absurd (h (printable_fact xs (sym e)))
    at false e =
        sym (ap (λ b. cond b (cond (list_all is_printable xs) (Ok xs) (Err BadByte)) (Err BadLength)) (eq-eqb (length xs) 80 width)
        ∙ ap (λ b. cond b (Ok xs) (Err BadByte)) (sym e))
