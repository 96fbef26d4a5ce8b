-- A test of a line that takes one column of each fifth in a step.
use Rattle.cif_columns.proofs.Names.{Bool, IsFollowed, IsFollowedOver, IsInRange, IsTimed, List, Passes, PlainTest, arith, below_more}
use Rattle.cif_columns.proofs.Names.{cases_lt, false, inl, inr, or_from, or_parts, subst, ℕ, ◌+◌, ◌<◌, ◌||◌, ◌↔◌, ◌≡◌, ◌≤◌, ◌⊎◌}
use Rattle.cif_columns.proofs.EachOfFifths.{each_of_fifths, from_column}

-- what the test asks of one of the first 64 columns
abbrev pub MeetsFollowed : PlainTest → List ℕ → ℕ → Type 0
MeetsFollowed t line k = IsInRange t line k × IsFollowed t line k × IsFollowedOver t line k

-- what it asks of the columns that one step looks at
pub record AreMet (t : PlainTest) (line : List ℕ) (k : ℕ) : Type 0 where
  pub first : MeetsFollowed t line k
  pub first_timed : IsTimed t line k
  pub second : MeetsFollowed t line (16 + k)
  pub second_timed : IsTimed t line (16 + k)
  pub third : MeetsFollowed t line (32 + k)
  pub fourth : MeetsFollowed t line (48 + k)
  pub before_fifth : IsFollowed t line (63 + k)
  pub fifth : IsInRange t line (64 + k)

-- eight tests that all have to answer false
pub none_of_eight : (a b c d e f g h : Bool) (t : PlainTest) (line : List ℕ) (k : ℕ)
    → ((a ≡ false) ↔ MeetsFollowed t line k) → ((b ≡ false) ↔ IsTimed t line k)
    → ((c ≡ false) ↔ MeetsFollowed t line (16 + k)) → ((d ≡ false) ↔ IsTimed t line (16 + k))
    → ((e ≡ false) ↔ MeetsFollowed t line (32 + k)) → ((f ≡ false) ↔ MeetsFollowed t line (48 + k))
    → ((g ≡ false) ↔ IsFollowed t line (63 + k)) → ((h ≡ false) ↔ IsInRange t line (64 + k))
    → (a || b || c || d || e || f || g || h ≡ false) ↔ AreMet t line k
none_of_eight a b c d e f g h t line k p q r s u v w x = (
  (λ none.
      let n7 = or_parts (a || b || c || d || e || f || g) h none in
      let n6 = or_parts (a || b || c || d || e || f) g n7.0 in
      let n5 = or_parts (a || b || c || d || e) f n6.0 in
      let n4 = or_parts (a || b || c || d) e n5.0 in
      let n3 = or_parts (a || b || c) d n4.0 in
      let n2 = or_parts (a || b) c n3.0 in
      let n1 = or_parts a b n2.0 in
      record {
        first = p.0 n1.0;
        first_timed = q.0 n1.1;
        second = r.0 n2.1;
        second_timed = s.0 n3.1;
        third = u.0 n4.1;
        fourth = v.0 n5.1;
        before_fifth = w.0 n6.1;
        fifth = x.0 n7.1;
      }),
  (λ met.
      or_from (a || b || c || d || e || f || g) h
      (or_from (a || b || c || d || e || f) g
      (or_from (a || b || c || d || e) f
      (or_from (a || b || c || d) e
      (or_from (a || b || c) d
      (or_from (a || b) c
      (or_from a b (p.1 met.first) (q.1 met.first_timed))
      (r.1 met.second)) (s.1 met.second_timed)) (u.1 met.third)) (v.1 met.fourth)) (w.1 met.before_fifth)) (x.1 met.fifth)),
)

-- the next step of a loop that has found no fault so far
pub none_more : (found this : Bool) (P : ℕ → Type 0) (i : ℕ) → ((found ≡ false) ↔ ((k : ℕ) → k < i → P k)) → ((this ≡ false) ↔ P i)
    → (found || this ≡ false) ↔ ((k : ℕ) → k < i + 1 → P k)
none_more found this P i before here = (
  (λ none.
      let n = or_parts found this none in
      below_more P i (before.0 n.0) (here.0 n.1)),
  (λ all. or_from found this (before.1 (λ k lt. all k (omega (arith, lt)))) (here.1 (all i (omega arith)))),
)

module _ (t : PlainTest) (line : List ℕ) (met : (k : ℕ) → k < 16 → AreMet t line k) where
  in_range : (k : ℕ) → k < 80 → IsInRange t line k
  in_range = each_of_fifths (λ n. IsInRange t line n) (λ n l.
      let m = met n l in
      record { first = m.first.0; second = m.second.0; third = m.third.0; fourth = m.fourth.0; fifth = m.fifth })

  followed : (k : ℕ) → k < 79 → IsFollowed t line k
  followed k lt = each_of_fifths (λ n. n < 79 → IsFollowed t line n) (λ n l.
      let m = met n l in
      let last : 64 + n < 79 → IsFollowed t line (64 + n) = λ b.
      let next : 63 + (n + 1) ≡ 64 + n = omega arith in subst (IsFollowed t line) next (met (n + 1) (omega (arith, b))).before_fifth in
      record { first = λ b. m.first.1; second = λ b. m.second.1; third = λ b. m.third.1; fourth = λ b. m.fourth.1; fifth = last })
      k (omega (arith, lt)) lt

  followed_over : (k : ℕ) → k < 64 → IsFollowedOver t line k
  followed_over k lt = each_of_fifths (λ n. n < 64 → IsFollowedOver t line n) (λ n l.
      let m = met n l in
      let last : 64 + n < 64 → IsFollowedOver t line (64 + n) = λ b. absurd (omega (arith, b)) in
      record { first = λ b. m.first.2; second = λ b. m.second.2; third = λ b. m.third.2; fourth = λ b. m.fourth.2; fifth = last })
      k (omega (arith, lt)) lt

  timed : (k : ℕ) → k < 32 → IsTimed t line k
  timed k lt = at (cases_lt k 16)
    where
      at : (k < 16) ⊎ (16 ≤ k) → IsTimed t line k
      at (inl a) = (met k a).first_timed
      at (inr z) = from_column (λ n. IsTimed t line n) 16 (λ n l. (met n l).second_timed) k z (omega (arith, lt))

-- the line is as the test wants it exactly if the sixteen steps find nothing else
pub passes_by_fifths : (t : PlainTest) (line : List ℕ) → ((k : ℕ) → k < 16 → AreMet t line k) ↔ Passes t line
passes_by_fifths t line = (
  (λ met. record {
    in_range = in_range t line met;
    followed = followed t line met;
    followed_over = followed_over t line met;
    timed = timed t line met;
  }),
  (λ h k lt.
      let meets : (n : ℕ) → n < 64 → MeetsFollowed t line n = λ n l.
      (h.in_range n (omega (arith, l)), h.followed n (omega (arith, l)), h.followed_over n l) in
      record {
        first = meets k (omega (arith, lt));
        first_timed = h.timed k (omega (arith, lt));
        second = meets (16 + k) (omega (arith, lt));
        second_timed = h.timed (16 + k) (omega (arith, lt));
        third = meets (32 + k) (omega (arith, lt));
        fourth = meets (48 + k) (omega (arith, lt));
        before_fifth = h.followed (63 + k) (omega (arith, lt));
        fifth = h.in_range (64 + k) (omega (arith, lt));
      }),
)
