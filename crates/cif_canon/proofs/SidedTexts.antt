-- The records of runs with their sides, and their text.
use Rattle.cif_canon.proofs.Names.{All, All-cons, All-head, All-nil, All-tail, AllZip, AreNone, AssocBody, AssocKey, BodyLines, Bool}
use Rattle.cif_canon.proofs.Names.{HasSidedRecord, IsSidedRunOf, IsTrue, List, None, Option, Permanent, Run, Side, Sided, Some, Terms}
use Rattle.cif_canon.proofs.Names.{Tiploc, [], ap, at_side, flat_map, length, nil_from_length, record_at, refl, sided_records}
use Rattle.cif_canon.proofs.Names.{sided_run_text, sym, text_if, with_record, ℕ, ◌++◌, ◌↔◌, ◌∙◌, ◌∷◌, ◌≡◌, ◌≤◌}
use Rattle.cif_canon.proofs.RunTexts.{record-of_run}

module _ {K B : Type 0} (xs ys : List (K × Terms B)) where
  -- the text of a list of runs is that of their records
  module _ (text : Sided (K × Permanent B) → List ℕ) where
    one-text : (side : Side) (o : Option (K × Permanent B)) (rest : List (Sided (K × Permanent B))) →
        flat_map text (with_record side o rest) ≡ text_if (λ e. text (record { side = side; it = e })) o ++ flat_map text rest
    one-text side None rest = refl
    one-text side (Some e) rest = refl

    pub sided-text : (runs : List (Sided Run)) → flat_map (sided_run_text text xs ys) runs ≡ flat_map text (sided_records xs ys runs)
    sided-text [] = refl
    sided-text (s ∷ runs) =
        ap (λ (l : List ℕ). sided_run_text text xs ys s ++ l) (sided-text runs)
        ∙ sym (one-text s.side (record_at (at_side xs ys s.side) s.it) (sided_records xs ys runs))

  -- the records of runs are those that they are the runs of
  pub records-of_runs : (runs : List (Sided Run)) (found : List (Sided (K × Permanent B))) → AllZip (IsSidedRunOf xs ys) runs found →
      sided_records xs ys runs ≡ found
  records-of_runs [] [] z = refl
  records-of_runs (s ∷ runs) (e ∷ found) z =
      ap (λ side. with_record side (record_at (at_side xs ys side) s.it) (sided_records xs ys runs)) z.0.side
      ∙ ap (λ o. with_record e.side o (sided_records xs ys runs)) (record-of_run (at_side xs ys e.side) s.it e.it z.0.run_of)
      ∙ ap (λ (l : List (Sided (K × Permanent B))). e ∷ l) (records-of_runs runs found z.1)
  records-of_runs _ _ z = absurd z

  pub have-sided_records : (runs : List (Sided Run)) (found : List (Sided (K × Permanent B))) → AllZip (IsSidedRunOf xs ys) runs found →
      All (λ e. e.it.1.first ≤ e.it.1.last) found → All (HasSidedRecord xs ys) runs
  have-sided_records [] [] z dated = All-nil (HasSidedRecord xs ys)
  have-sided_records (s ∷ runs) (e ∷ found) z dated =
      All-cons (HasSidedRecord xs ys) s runs
      (record {
        it = e.it;
        is = ap (λ side. record_at (at_side xs ys side) s.it) z.0.side ∙ record-of_run (at_side xs ys e.side) s.it e.it z.0.run_of;
        in_order = All-head (λ (e : Sided (K × Permanent B)). e.it.1.first ≤ e.it.1.last) e found dated;
      })
      (have-sided_records runs found z.1 (All-tail (λ (e : Sided (K × Permanent B)). e.it.1.first ≤ e.it.1.last) e found dated))
  have-sided_records _ _ z _ = absurd z

  -- where each run has a record, there is none of the one exactly where there is none of the other
  pub records-none : (runs : List (Sided Run)) → All (HasSidedRecord xs ys) runs → sided_records xs ys runs ≡ [] → runs ≡ []
  records-none [] all h = refl
  records-none (s ∷ runs) all h =
      let there = All-head (HasSidedRecord xs ys) s runs all in
      absurd (let no : (record { side = s.side; it = there.it }) ∷ sided_records xs ys runs ≡ [] =
      sym (ap (λ o. with_record s.side o (sided_records xs ys runs)) there.is) ∙ h in cc)

-- no location and no run are no difference
pub none-listed : (tiplocs : List (Sided Tiploc)) (xa ya : List (AssocKey × Terms AssocBody)) (ra : List (Sided Run)) →
    All (HasSidedRecord xa ya) ra → (xs ys : List (List ℕ × Terms BodyLines)) (rs : List (Sided Run)) → All (HasSidedRecord xs ys) rs →
    (answer : Bool) → IsTrue answer ↔ ((length tiplocs ≡ 0) × (length ra ≡ 0) × (length rs ≡ 0)) →
    IsTrue answer ↔ AreNone (record { tiplocs = tiplocs; associations = sided_records xa ya ra; schedules = sided_records xs ys rs })
none-listed tiplocs xa ya ra all_a xs ys rs all_s answer h = (
  λ yes.
      let n = h.0 yes in record {
        tiplocs = nil_from_length tiplocs n.0;
        associations = ap (sided_records xa ya) (nil_from_length ra n.1);
        schedules = ap (sided_records xs ys) (nil_from_length rs n.2);
      },
  λ none. h.1 (
    ap (λ (l : List (Sided Tiploc)). length l) none.tiplocs,
    ap (λ (l : List (Sided Run)). length l) (records-none xa ya ra all_a none.associations),
    ap (λ (l : List (Sided Run)). length l) (records-none xs ys rs all_s none.schedules),
  ),
)
