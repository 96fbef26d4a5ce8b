-- What stands for a key has the key's order.
use Rattle.std.proofs.Common.{◌≡◌, ◌∙◌, ℕ, ◌+◌, ◌*◌, ◌<◌, List, [], ◌∷◌, length, ap, refl, subst, sym, arith}
use Rattle.std.specs.{Cmp.Lexicographic.slice_cmp, Cmp.nat_cmp_is, Cmp.ranks, declared.cmp.Ordering.Ordering}
use Rattle.std.specs.Ordering.{MatchOrdering, nat_cmp, ordering_then}
use Rattle.std.specs.declared.cmp.Ordering.TheVariants.{Less, Equal, Greater}
use Rattle.std.proofs.lemmas.List.Elements.{All-head, All-tail}
use Rattle.cif_columns.specs.Line.{ArePrintable, IsPrintable}
use Rattle.cif_calendar.specs.Ranks.{IsNumberOf, number_after}

-- a key that stands for itself
pub order_of_keys : {K : Type 0} (cmp : K → K → Ordering) (r s a b : K) → r ≡ a → s ≡ b → cmp r s ≡ cmp a b
order_of_keys cmp r s a b p q = ap (λ k. cmp k s) p ∙ ap (λ k. cmp a k) q

-- as many digits after a lesser number spell a lesser one
lesser : (m n : ℕ) (xs ys : List ℕ) → length xs ≡ length ys → ArePrintable xs → m < n → number_after m xs < number_after n ys
lesser m n [] [] same p l = l
lesser m n [] (y ∷ ys) same p l = absurd (omega arith)
lesser m n (x ∷ xs) [] same p l = absurd (omega arith)
lesser m n (x ∷ xs) (y ∷ ys) same p l =
    let digit = All-head IsPrintable x xs p in
    lesser (m * 256 + x) (n * 256 + y) xs ys (omega arith) (All-tail IsPrintable x xs p) (omega arith)

order_after : (n : ℕ) (xs ys : List ℕ) → length xs ≡ length ys → ArePrintable xs → ArePrintable ys
    → nat_cmp (number_after n xs) (number_after n ys) ≡ slice_cmp nat_cmp xs ys
order_after n [] [] same p q = sym (nat_cmp_is n n Equal refl)
order_after n [] (y ∷ ys) same p q = absurd (omega arith)
order_after n (x ∷ xs) [] same p q = absurd (omega arith)
order_after n (x ∷ xs) (y ∷ ys) same p q =
    by (omega arith) (All-tail IsPrintable x xs p) (All-tail IsPrintable y ys q) (All-head IsPrintable x xs p) (All-head IsPrintable y ys q)
    (λ m. order_after m xs ys (omega arith) (All-tail IsPrintable x xs p) (All-tail IsPrintable y ys q)) (nat_cmp x y) (ranks x y)
  where
    by : length xs ≡ length ys → ArePrintable xs → ArePrintable ys → IsPrintable x → IsPrintable y
        → ((m : ℕ) → nat_cmp (number_after m xs) (number_after m ys) ≡ slice_cmp nat_cmp xs ys)
        → (o : Ordering) → MatchOrdering o (x < y) (x ≡ y) (y < x)
        → nat_cmp (number_after (n * 256 + x) xs) (number_after (n * 256 + y) ys) ≡ ordering_then o (slice_cmp nat_cmp xs ys)
    by l a b d e more Less h = sym (nat_cmp_is _ _ Less (lesser (n * 256 + x) (n * 256 + y) xs ys l a (omega arith)))
    by l a b d e more Equal h =
        let m = n * 256 + x in
        subst (λ z. nat_cmp (number_after m xs) (number_after (n * 256 + z) ys) ≡ slice_cmp nat_cmp xs ys) h (more m)
    by l a b d e more Greater h = sym (nat_cmp_is _ _ Greater (lesser (n * 256 + y) (n * 256 + x) ys xs (sym l) b (omega arith)))

pub order_of_numbers : (m n : ℕ) (a b : List ℕ) → IsNumberOf m a → IsNumberOf n b → nat_cmp m n ≡ slice_cmp nat_cmp a b
order_of_numbers m n a b p q =
    subst (λ k. nat_cmp k n ≡ slice_cmp nat_cmp a b) (sym p.digits)
    (subst (λ k. nat_cmp (number_after 0 a) k ≡ slice_cmp nat_cmp a b) (sym q.digits)
    (order_after 0 a b (omega (arith, p.is_uid.width, q.is_uid.width)) p.is_uid.printable q.is_uid.printable))
