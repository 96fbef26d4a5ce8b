-- Extracts that say the same compare and differ alike.
use Rattle.std.proofs.Common.{Contains, List, Ordering, Some, arith, inl, inr, nat_cmp, subst, sym, ℕ, ⊎_elim, ◌↔◌, ◌∙◌, ◌≡◌, ◌≤◌}
use Rattle.std.specs.Cmp.Lexicographic.{slice_cmp}
use Rattle.cif_calendar.proofs.SayTheSame.{EntriesSayTheSame-sym, EntriesSayTheSame-trans}
use Rattle.cif_calendar.specs.{Entries.association_entries, Entries.schedule_entries, Meaning.EntriesSayTheSame, Terms.Terms}
use Rattle.cif_canon.proofs.SameExtracts.{agree-sym, agree-trans, one-window}
use Rattle.cif_canon.specs.{Accepted.IsClearExtract, Asked.header_window, Differences.IsOnlyIn, Differences.of_side, Meaning.Agree}
use Rattle.cif_canon.specs.{Meaning.SameMeaning, declared.comparison.Comparison.Comparison, declared.listed_differences.Side.Side}
use Rattle.cif_canon.specs.{declared.listed_differences.Side.TheVariants.Left, declared.listed_differences.Side.TheVariants.Right}
use Rattle.cif_canon.specs.{declared.listed_differences.Sided.Sided}
use Rattle.cif_canon.specs.Comparison.{AreCompared, IsComparison, IsFirstDifference, IsFirstTiploc, RunsAlike}
use Rattle.cif_canon.specs.Differences.{AreDifferences, AreDifferentRecords, AreDifferentTiplocs, AreOnlyRecords, DifferencesParts}
use Rattle.cif_canon.specs.declared.comparison.Comparison.TheVariants.{Same, Tiploc as DifferentTiploc, Association, Train}
use Rattle.cif_extract.specs.ExtractParts.{ExtractParts}
use Rattle.cif_records.specs.{AssocKey.key_cmp, declared.tiploc.Tiploc.Tiploc}
use Rattle.cif_weeks.specs.{Permanent.Permanent, Window.Window}

-- ---- of one kind

module _ {K B : Type 0} (cmp : K → K → Ordering) (window : Window) (xs ys zs ws : List (K × Terms B))
    (same : EntriesSayTheSame xs ys window.first window.last) (others_same : EntriesSayTheSame zs ws window.first window.last) where
  alike-same : (k : K) (d : ℕ) → window.first ≤ d → d ≤ window.last → RunsAlike xs zs k d → RunsAlike ys ws k d
  alike-same k d from upto alike o = (
    λ runs. (others_same.same k d o from upto).0 ((alike o).0 ((same.same k d o from upto).1 runs)),
    λ runs. (same.same k d o from upto).0 ((alike o).1 ((others_same.same k d o from upto).1 runs)),
  )

  first-same : (k : K) (d : ℕ) → IsFirstDifference cmp xs zs window.first window.last k d
      → IsFirstDifference cmp ys ws window.first window.last k d
  first-same k d is = record {
    from = is.from;
    upto = is.upto;
    differ = record {
      one = is.differ.one;
      other = is.differ.other;
      one_runs = (same.same k d is.differ.one is.from is.upto).0 is.differ.one_runs;
      other_runs = (others_same.same k d is.differ.other is.from is.upto).0 is.differ.other_runs;
      differ = is.differ.differ;
    };
    alike_before = λ e from before. let upto = is.upto in
        alike-same k e from (omega (arith, before, upto)) (is.alike_before e from before);
    keys_before = λ j e less from upto. alike-same j e from upto (is.keys_before j e less from upto);
  }

  only-same : (found : List (K × Permanent B)) → AreOnlyRecords cmp window xs zs found → AreOnlyRecords cmp window ys ws found
  only-same found are = record {
    canonical = are.canonical;
    exact = λ k d b within. (
      λ has. let only = (are.exact k d b within).0 has in record {
        runs = (same.same k d (Some b) within.from within.upto).0 only.runs;
        differs = λ runs. only.differs ((others_same.same k d (Some b) within.from within.upto).1 runs);
      },
      λ only. (are.exact k d b within).1 (record {
        runs = (same.same k d (Some b) within.from within.upto).1 only.runs;
        differs = λ runs. only.differs ((others_same.same k d (Some b) within.from within.upto).0 runs);
      }),
    );
  }

module _ {K B : Type 0} (cmp : K → K → Ordering) (window : Window) (xs ys zs ws : List (K × Terms B))
    (same : EntriesSayTheSame xs ys window.first window.last) (others_same : EntriesSayTheSame zs ws window.first window.last)
    (found : List (Sided (K × Permanent B))) where
  records-same : AreDifferentRecords cmp window xs zs found → AreDifferentRecords cmp window ys ws found
  records-same are = record {
    only = elim [
      | Left ↦ only-same cmp window xs ys zs ws same others_same (of_side Left found) (are.only Left)
      | Right ↦ only-same cmp window zs ws xs ys others_same same (of_side Right found) (are.only Right)
    ];
    in_order = are.in_order;
  }

-- ---- of locations

module _ (xs ys zs ws : List Tiploc) (same : (t : Tiploc) → Contains xs t ↔ Contains ys t)
    (others_same : (t : Tiploc) → Contains zs t ↔ Contains ws t) where
  first_tiploc-same : (t : Tiploc) → IsFirstTiploc xs zs t → IsFirstTiploc ys ws t
  first_tiploc-same t is = record {
    in_one = ⊎_elim
        (λ left. inl ((same t).0 left.0, λ has. left.1 ((others_same t).1 has)))
        (λ right. inr ((others_same t).0 right.0, λ has. right.1 ((same t).1 has))) is.in_one;
    before = λ s less. (
      λ has. (others_same s).0 ((is.before s less).0 ((same s).1 has)),
      λ has. (same s).0 ((is.before s less).1 ((others_same s).1 has)),
    );
  }

  only_in-same : (side : Side) (t : Tiploc) → IsOnlyIn xs zs (record { side = side; it = t })
      → IsOnlyIn ys ws (record { side = side; it = t })
  only_in-same Left t only = ((same t).0 only.0, λ has. only.1 ((others_same t).1 has))
  only_in-same Right t only = ((others_same t).0 only.0, λ has. only.1 ((same t).1 has))

module _ (xs ys zs ws : List Tiploc) (same : (t : Tiploc) → Contains xs t ↔ Contains ys t)
    (others_same : (t : Tiploc) → Contains zs t ↔ Contains ws t) where
  tiplocs-same : (found : List (Sided Tiploc)) → AreDifferentTiplocs xs zs found → AreDifferentTiplocs ys ws found
  tiplocs-same found are = record {
    only = λ s. (
      λ has. only_in-same xs ys zs ws same others_same s.side s.it ((are.only s).0 has),
      λ only. (are.only s).1 (only_in-same ys xs ws zs (λ t. ((same t).1, (same t).0)) (λ t. ((others_same t).1, (others_same t).0))
          s.side s.it only),
    );
    rising = are.rising;
  }

-- ---- of extracts

module _ (x y z w : ExtractParts) (same : SameMeaning x y) (others_same : SameMeaning z w)
    (windows : header_window x.header ≡ header_window z.header) where
  abbrev window : Window
  window = header_window x.header

  others : Agree window z w
  others = subst (λ v. Agree v z w) (sym windows) others_same.agree

  other-windows : header_window y.header ≡ header_window w.header
  other-windows = sym (one-window x y same) ∙ windows ∙ one-window z w others_same

  comparison-same : (comparison : Comparison) → IsComparison x z comparison → IsComparison y w comparison
  comparison-same Same is =
      subst (λ v. Agree v y w) (one-window x y same)
      (agree-trans window y x w (agree-sym window x y same.agree) (agree-trans window x z w is others))
  comparison-same (DifferentTiploc t) is =
      first_tiploc-same x.tiplocs y.tiplocs z.tiplocs w.tiplocs same.agree.tiplocs others.tiplocs t is
  comparison-same (Association key day) is = (
    λ t. (
      λ has. (others.tiplocs t).0 ((is.0 t).0 ((same.agree.tiplocs t).1 has)),
      λ has. (same.agree.tiplocs t).0 ((is.0 t).1 ((others.tiplocs t).1 has)),
    ),
    subst (λ (v : Window). IsFirstDifference key_cmp (association_entries y.associations) (association_entries w.associations) v.first
        v.last key day) (one-window x y same)
        (first-same key_cmp window (association_entries x.associations) (association_entries y.associations)
        (association_entries z.associations) (association_entries w.associations) same.agree.associations others.associations key day is.1),
  )
  comparison-same (Train uid day) is = (
    λ t. (
      λ has. (others.tiplocs t).0 ((is.0 t).0 ((same.agree.tiplocs t).1 has)),
      λ has. (same.agree.tiplocs t).0 ((is.0 t).1 ((others.tiplocs t).1 has)),
    ),
    subst (λ (v : Window). EntriesSayTheSame (association_entries y.associations) (association_entries w.associations) v.first v.last)
        (one-window x y same)
        (EntriesSayTheSame-trans (association_entries y.associations) (association_entries x.associations)
        (association_entries w.associations) window.first window.last
        (EntriesSayTheSame-sym (association_entries x.associations) (association_entries y.associations) window.first window.last
        same.agree.associations)
        (EntriesSayTheSame-trans (association_entries x.associations) (association_entries z.associations)
        (association_entries w.associations) window.first window.last is.1 others.associations)),
    subst (λ (v : Window). IsFirstDifference (slice_cmp nat_cmp) (schedule_entries y.schedules) (schedule_entries w.schedules) v.first
        v.last uid day) (one-window x y same)
        (first-same (slice_cmp nat_cmp) window (schedule_entries x.schedules) (schedule_entries y.schedules) (schedule_entries z.schedules)
        (schedule_entries w.schedules) same.agree.schedules others.schedules uid day is.2),
  )

pub compared-same : (x y z w : ExtractParts) → SameMeaning x y → SameMeaning z w → IsClearExtract y → IsClearExtract w
    → (comparison : Comparison) → AreCompared x z comparison → AreCompared y w comparison
compared-same x y z w same others_same left right comparison are = record {
  window = other-windows x y z w same others_same are.window;
  left = left;
  right = right;
  compared = comparison-same x y z w same others_same are.window comparison are.compared;
}

pub differences-same : (x y z w : ExtractParts) → SameMeaning x y → SameMeaning z w → IsClearExtract y → IsClearExtract w
    → (d : DifferencesParts) → AreDifferences x z d → AreDifferences y w d
differences-same x y z w same others_same left right d are =
    let rest = others x y z w same others_same are.window in record {
      window = other-windows x y z w same others_same are.window;
      left = left;
      right = right;
      tiplocs = tiplocs-same x.tiplocs y.tiplocs z.tiplocs w.tiplocs same.agree.tiplocs rest.tiplocs d.tiplocs are.tiplocs;
      associations = subst (λ v. AreDifferentRecords key_cmp v (association_entries y.associations) (association_entries w.associations)
          d.associations) (one-window x y same)
          (records-same key_cmp (header_window x.header) (association_entries x.associations) (association_entries y.associations)
          (association_entries z.associations) (association_entries w.associations) same.agree.associations rest.associations
          d.associations are.associations);
      schedules = subst (λ v. AreDifferentRecords (slice_cmp nat_cmp) v (schedule_entries y.schedules) (schedule_entries w.schedules)
          d.schedules) (one-window x y same)
          (records-same (slice_cmp nat_cmp) (header_window x.header) (schedule_entries x.schedules) (schedule_entries y.schedules)
          (schedule_entries z.schedules) (schedule_entries w.schedules) same.agree.schedules rest.schedules d.schedules are.schedules);
    }
