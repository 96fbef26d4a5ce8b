-- Records by pairs: the first one is listed by itself, or with the next one if they are a pair.
use Rattle.cif_canon.proofs.Names.{ArePair, Bool, Decides, Decides-and, Decides-eqb, IsTrue, Left, List, Listed, None, Option, Ordering}
use Rattle.cif_canon.proofs.Names.{Permanent, Right, Run, Sided, Some, Terms, [], ap, are_pair, arith, at_side, by_pairs, drop, false}
use Rattle.cif_canon.proofs.Names.{get_or, if◌then◌else◌, is_eq, length, length-drop, pointwise_decides, record_at, refl, same_from_decides}
use Rattle.cif_canon.proofs.Names.{sided_records, sym, take, take_all, true, with_record, ◌-◌, ◌<◌, ◌↔◌, ◌∙◌, ◌∷◌, ◌≡◌}
use Rattle.std.specs.Cmp.{booleans_Decides}
use Rattle.cif_canon.{proofs.MergedSides.side-decided, specs.Steps.ByPairs.IsFirstListed, specs.Steps.ByPairs.IsListedFirst}

-- ---- the test of a pair

-- keys are equal exactly where they compare equal, by the laws of an entry's key
pub keys-decided : {K : Type 0} (eq : K → K → Bool) (cmp : K → K → Ordering) → ((j k : K) → eq j k ≡ is_eq (cmp j k)) →
    ((j k : K) → IsTrue (eq j k) ↔ (j ≡ k)) → (j k : K) → Decides (is_eq (cmp j k)) (j ≡ k)
keys-decided eq cmp matches same j k = (λ e. (same j k).0 (matches j k ∙ e), λ e. sym (matches j k) ∙ (same j k).1 e)

pub pair-decided : {K B : Type 0} (cmp : K → K → Ordering) → ((j k : K) → Decides (is_eq (cmp j k)) (j ≡ k)) →
    (s t : Sided (K × Permanent B)) → Decides (are_pair cmp s t) (ArePair s t)
pair-decided cmp decides s t =
    let all = Decides-and _ _ (side-decided Left s.side) (Decides-and _ _ (side-decided Right t.side)
    (Decides-and _ _ (decides s.it.0 t.it.0) (Decides-and _ _ (Decides-eqb s.it.1.first t.it.1.first)
    (Decides-and _ _ (Decides-eqb s.it.1.last t.it.1.last) (pointwise_decides booleans_Decides s.it.1.days t.it.1.days))))) in (
      λ yes.
          let (left, (right, (key, (first, (last, days))))) = all.0 yes in record {
            left = left;
            right = right;
            key = key;
            first = first;
            last = last;
            days = days;
          },
      λ h. all.1 (h.left, (h.right, (h.key, (h.first, (h.last, h.days))))),
    )

-- ---- the runs behind the first

module _ {A : Type 0} where
  pub tail-is : (xs : List A) → take (length xs - 1) (drop 1 xs) ≡ drop 1 xs
  tail-is [] = refl
  tail-is (x ∷ xs) = take_all (length (x ∷ xs) - 1) xs (omega arith)

  two-on : (xs : List A) → drop 1 (drop 1 xs) ≡ drop 2 xs
  two-on [] = refl
  two-on (x ∷ []) = refl
  two-on (x ∷ y ∷ xs) = refl

  fewer : (xs : List A) → 0 < length xs → length (take (length xs - 1) (drop 1 xs)) < length xs
  fewer xs some =
      let tail = ap (λ (l : List A). length l) (tail-is xs) in
      let shorter = length-drop 1 xs in
      omega (arith, tail, shorter, some)

module _ {K B : Type 0} (xs ys : List (K × Terms B)) (runs : List (Sided Run)) (run : Sided Run) (it : K × Permanent B)
    (some : 0 < length runs) (is : run ≡ get_or runs 0 run) (there : record_at (at_side xs ys run.side) run.it ≡ Some it) where
  abbrev own : Sided (K × Permanent B)
  own = record { side = run.side; it = it }

  first-of : (rs : List (Sided Run)) → 0 < length rs → run ≡ get_or rs 0 run →
      sided_records xs ys rs ≡ own ∷ sided_records xs ys (drop 1 rs)
  first-of [] there_is at = absurd (omega (arith, there_is))
  first-of (r ∷ rs) there_is at =
      ap (λ (r : Sided Run). with_record r.side (record_at (at_side xs ys r.side) r.it) (sided_records xs ys rs)) (sym at)
      ∙ ap (λ (o : Option (K × Permanent B)). with_record run.side o (sided_records xs ys rs)) there

  first-record : sided_records xs ys runs ≡ own ∷ sided_records xs ys (drop 1 runs)
  first-record = first-of runs some is

  -- a record before these, by whether it makes a pair with the first of them
  module _ (cmp : K → K → Ordering) (decides : (j k : K) → Decides (is_eq (cmp j k)) (j ≡ k)) (s : Sided (K × Permanent B))
      (answer : Bool) (known : Decides answer (ArePair s own)) where
    abbrev others : List (Sided (K × Permanent B))
    others = sided_records xs ys (drop 1 runs)

    abbrev alone : List (Sided (K × Permanent B)) → List (Listed (K × Permanent B))
    alone l = (s, None) ∷ by_pairs cmp l

    abbrev by : Bool → List (Listed (K × Permanent B))
    by b = if b then (s, Some it) ∷ by_pairs cmp others else alone (own ∷ others)

    by-answer : by_pairs cmp (s ∷ sided_records xs ys runs) ≡ by answer
    by-answer =
        ap (λ (l : List (Sided (K × Permanent B))). by_pairs cmp (s ∷ l)) first-record
        ∙ ap by (same_from_decides {P = ArePair s own} (are_pair cmp s own) answer (pair-decided cmp decides s own) known)

    pub listed-pair : answer ≡ true → IsListedFirst cmp xs ys s (Some it) runs
    listed-pair is_so = by-answer ∙ ap by is_so

    pub listed-one : answer ≡ false → IsListedFirst cmp xs ys s None runs
    listed-one is_so = by-answer ∙ ap by is_so ∙ ap alone (sym first-record)

  -- the first of these is listed with a partner or without one
  module _ (cmp : K → K → Ordering) where
    abbrev later : List (Sided Run)
    later = take (length runs - 1) (drop 1 runs)

    own-first : by_pairs cmp (sided_records xs ys runs) ≡ by_pairs cmp (own ∷ sided_records xs ys later)
    own-first =
        ap (by_pairs cmp) first-record
        ∙ ap (λ (l : List (Sided Run)). by_pairs cmp (own ∷ sided_records xs ys l)) (sym (tail-is runs))

    pub one-first : IsListedFirst cmp xs ys own None later → IsFirstListed cmp xs ys runs later (own, None)
    one-first listed = record { first = own-first ∙ listed; count = 1; behind = tail-is runs; fewer = fewer runs some }

    abbrev with : K × Permanent B → List (Sided Run) → List (Listed (K × Permanent B))
    with other l = (own, Some other) ∷ by_pairs cmp (sided_records xs ys l)

    pub pair-first : (other : K × Permanent B) → 0 < length later → IsListedFirst cmp xs ys own (Some other) later →
        IsFirstListed cmp xs ys runs (take (length later - 1) (drop 1 later)) (own, Some other)
    pair-first other more listed =
        let one = fewer runs some in
        let two = fewer later more in record {
          first = own-first ∙ listed ∙ ap (with other) (sym (tail-is later));
          count = 2;
          behind = tail-is later ∙ ap (λ (l : List (Sided Run)). drop 1 l) (tail-is runs) ∙ two-on runs;
          fewer = omega (arith, one, two);
        }
