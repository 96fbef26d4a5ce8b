-- The differences of two extracts, from those of their locations, their associations and their schedules.
use Rattle.cif_canon.proofs.Names.{Agree, All, AllKeys, AllZip, AreClear, AreDifferences, AreDifferentRecords, AreDifferentRuns}
use Rattle.cif_canon.proofs.Names.{AreDifferentTiplocs, AreNone, AreSame, Contains, Contains-get_or, DifferencesParts, EntriesSayTheSame}
use Rattle.cif_canon.proofs.Names.{ExtractParts, HasKey, HasSidedRecord, IsClearExtract, IsFirstDifference, IsFirstFound, IsOnlyIn}
use Rattle.cif_canon.proofs.Names.{IsSidedRunOf, Left, List, None, Option, Ordering, Permanent, Right, Run, Side, Sided, Some, Terms}
use Rattle.cif_canon.proofs.Names.{Tiploc, TurnInto, TurnLeftIntoRight, Two, Window, [], ap, association_entries, at_side, header_window}
use Rattle.cif_canon.proofs.Names.{inl, inr, key_cmp, keyed, length, nat_cmp, of_side, one-key, refl, same_Some, schedule_entries}
use Rattle.cif_canon.proofs.Names.{sided_records, slice_cmp, slice_get, slice_get_within, subst, sym, tight, within-entries, ⊎_elim, ◌<◌}
use Rattle.cif_canon.proofs.Names.{◌↔◌, ◌∙◌, ◌∷◌, ◌≡◌, ◌≤◌, ◌⊎◌}
use Rattle.cif_canon.proofs.DifferentTiplocs.{has-or-not, no-tiploc, with_side}
use Rattle.cif_canon.proofs.{FoundRecords.no-member, SidedTexts.have-sided_records, SidedTexts.records-of_runs}
use Rattle.cif_canon.proofs.MergedSides.{at_side-made, from-side, side-member}

-- ---- one kind of record

module _ {K B : Type 0} (cmp : K → K → Ordering) (window : Window) (xs ys : List (K × Terms B)) (runs : List (Sided Run))
    (a : AreDifferentRuns cmp window xs ys AllKeys runs) where
  are : sided_records xs ys runs ≡ a.found
  are = records-of_runs xs ys runs a.found a.runs_of

  pub kind-different : AreDifferentRecords cmp window xs ys (sided_records xs ys runs)
  kind-different = subst (AreDifferentRecords cmp window xs ys) (sym are) (a.different refl)

  pub kind-turn : TurnInto window xs ys (sided_records xs ys runs)
  kind-turn = subst (TurnInto window xs ys) (sym are) (a.turn refl)

  pub kind-none : (sided_records xs ys runs ≡ []) ↔ EntriesSayTheSame xs ys window.first window.last
  kind-none = (λ h. (subst (IsFirstFound cmp window xs ys) (sym are ∙ h) a.first).same, λ h. are ∙ a.none h)

  dated : (s : Sided (K × Permanent B)) → Contains a.found s → s.it.1.first ≤ s.it.1.last
  dated s in' =
      (tight s.it.1 window Two
      ((((a.different refl).only s.side).canonical.have_form s.it.0).aligned s.it.1 (side-member a.found s in'))).on_first.unfinished

  pub kind-records : All (HasSidedRecord xs ys) runs
  kind-records = have-sided_records xs ys runs a.found a.runs_of (λ i d below. dated _ (Contains-get_or a.found i d below))

-- the first run is at the first difference, and there is none where the lists are the same
module _ {K B : Type 0} (cmp : K → K → Ordering) (window : Window) (xs ys : List (K × Terms B)) where
  abbrev IsFirstRun : Option (Sided Run) → Type 0
  IsFirstRun None = AreSame window xs ys
  IsFirstRun (Some s) = (k : K) → HasKey (at_side xs ys s.side) s.it.source k →
      IsFirstDifference cmp xs ys window.first window.last k s.it.first

  pub first-run : (runs : List (Sided Run)) (found : List (Sided (K × Permanent B))) → AllZip (IsSidedRunOf xs ys) runs found →
      IsFirstFound cmp window xs ys found → (o : Option (Sided Run)) → slice_get runs 0 ≡ o → IsFirstRun o
  first-run [] [] z first None is = first
  first-run [] [] z first (Some s) is = absurd (cc)
  first-run (s ∷ runs) (e ∷ found) z first o is = subst IsFirstRun is (λ k has.
      let at : HasKey (at_side xs ys e.side) s.it.source k = subst (λ side. HasKey (at_side xs ys side) s.it.source k) z.0.side has in
      let key : k ≡ e.it.0 = one-key (at_side xs ys e.side) s.it.source k e.it.0 at
      (record { terms = z.0.run_of.terms; at = z.0.run_of.at }) in
      let day : s.it.first ≡ e.it.1.first = sym (ap (λ (p : Permanent B). p.first) z.0.run_of.dates) in
      rw (key, day) first)
  first-run _ _ z _ _ _ = absurd z

-- and its source is the position of an entry of its side
pub first-within : {E K B : Type 0} (key : E → K) (terms : E → Terms B) (es fs : List E) (runs : List (Sided Run))
    (found : List (Sided (K × Permanent B))) → AllZip (IsSidedRunOf (keyed key terms es) (keyed key terms fs)) runs found →
    (s : Sided Run) → slice_get runs 0 ≡ Some s → s.it.source < length (at_side es fs s.side)
first-within key terms es fs [] found z s is = absurd (cc)
first-within key terms es fs (t ∷ runs) [] z s is = absurd z
first-within {E = E} {K = K} {B = B} key terms es fs (t ∷ runs) (e ∷ found) z s is =
    let at = subst (λ (zs : List (K × Terms B)). slice_get zs t.it.source ≡ Some (e.it.0, z.0.run_of.terms))
    (at_side-made (λ (gs : List E). keyed key terms gs) es fs e.side) z.0.run_of.at in
    subst (λ (s : Sided Run). s.it.source < length (at_side es fs s.side)) (same_Some t s is)
    (subst (λ side. t.it.source < length (at_side es fs side)) (sym z.0.side)
    (within-entries key terms (at_side es fs e.side) t.it.source
    (slice_get_within (keyed key terms (at_side es fs e.side)) t.it.source _ at)))

-- ---- locations

module _ (xs ys : List Tiploc) (found : List (Sided Tiploc)) (a : AreDifferentTiplocs xs ys found) where
  of-only : (side : Side) (t : Tiploc) → Contains (of_side side found) t ↔ IsOnlyIn xs ys (with_side side t)
  of-only side t = (
    λ h. (a.only (with_side side t)).0 (from-side side found t h),
    λ h. side-member found (with_side side t) ((a.only (with_side side t)).1 h),
  )

  pub tiplocs-turn : (t : Tiploc) → Contains ys t ↔ (Contains (of_side Right found) t ⊎ (Contains xs t × ¬ Contains (of_side Left found) t))
  tiplocs-turn t = let left = of-only Left t in let right = of-only Right t in (
    λ h. ⊎_elim (λ has. inr (has, λ only. (left.0 only).1 h)) (λ none. inl (right.1 (h, none))) (has-or-not xs t),
    λ h. ⊎_elim
        (λ new. (right.0 new).0)
        (λ kept. ⊎_elim (λ has. has) (λ none. absurd (kept.1 (left.1 (kept.0, none)))) (has-or-not ys t))
        h,
  )

  one-side : ((t : Tiploc) → Contains xs t ↔ Contains ys t) → (side : Side) (t : Tiploc) → IsOnlyIn xs ys (with_side side t) → ⊥
  one-side same Left t only = only.1 ((same t).0 only.0)
  one-side same Right t only = only.1 ((same t).1 only.0)

  pub tiplocs-none : (found ≡ []) ↔ ((t : Tiploc) → Contains xs t ↔ Contains ys t)
  tiplocs-none = (
    λ is. no-tiploc xs ys found a (ap (λ z. slice_get z 0) is),
    λ same. no-member found (λ s in'. one-side same s.side s.it ((a.only s).0 in')),
  )

-- ---- all kinds

-- the right extract is clear in the left one's window
pub clear-right : (x y : ExtractParts) → header_window x.header ≡ header_window y.header →
    AreClear (association_entries y.associations) x.header.first x.header.last →
    AreClear (schedule_entries y.schedules) x.header.first x.header.last → IsClearExtract y
clear-right x y window associations schedules = record {
  associations = subst (λ (w : Window). AreClear (association_entries y.associations) w.first w.last) window associations;
  schedules = subst (λ (w : Window). AreClear (schedule_entries y.schedules) w.first w.last) window schedules;
}

module _ (x y : ExtractParts) (window : header_window x.header ≡ header_window y.header) (tiplocs : List (Sided Tiploc))
    (at : AreDifferentTiplocs x.tiplocs y.tiplocs tiplocs)
    (associations : List (Sided Run))
    (aa : AreDifferentRuns key_cmp (header_window x.header) (association_entries x.associations) (association_entries y.associations)
    AllKeys associations) (schedules : List (Sided Run))
    (bs : AreDifferentRuns (slice_cmp nat_cmp) (header_window x.header) (schedule_entries x.schedules) (schedule_entries y.schedules)
    AllKeys schedules) (d : DifferencesParts) (is : d ≡ record {
      tiplocs = tiplocs;
      associations = sided_records (association_entries x.associations) (association_entries y.associations) associations;
      schedules = sided_records (schedule_entries x.schedules) (schedule_entries y.schedules) schedules;
    }) where
  pub are-differences : AreDifferences x y d
  are-differences = subst (AreDifferences x y) (sym is) (record {
    window = window;
    left = record { associations = aa.clear refl Left; schedules = bs.clear refl Left };
    right = clear-right x y window (aa.clear refl Right) (bs.clear refl Right);
    tiplocs = at;
    associations = kind-different key_cmp (header_window x.header) (association_entries x.associations)
        (association_entries y.associations) associations aa;
    schedules = kind-different (slice_cmp nat_cmp) (header_window x.header) (schedule_entries x.schedules) (schedule_entries y.schedules)
        schedules bs;
  })

  pub none-agree : AreNone d ↔ Agree (header_window x.header) x y
  none-agree =
      let t = tiplocs-none x.tiplocs y.tiplocs tiplocs at in
      let a = kind-none key_cmp (header_window x.header) (association_entries x.associations) (association_entries y.associations)
      associations aa in
      let s = kind-none (slice_cmp nat_cmp) (header_window x.header) (schedule_entries x.schedules) (schedule_entries y.schedules)
      schedules bs in
      subst (λ (v : DifferencesParts). AreNone v ↔ Agree (header_window x.header) x y) (sym is) (
        λ n. record { tiplocs = t.0 n.tiplocs; associations = a.0 n.associations; schedules = s.0 n.schedules },
        λ g. record { tiplocs = t.1 g.tiplocs; associations = a.1 g.associations; schedules = s.1 g.schedules },
      )

  pub turn-left : TurnLeftIntoRight x y d
  turn-left = subst (TurnLeftIntoRight x y) (sym is) (record {
    tiplocs = tiplocs-turn x.tiplocs y.tiplocs tiplocs at;
    associations = kind-turn key_cmp (header_window x.header) (association_entries x.associations) (association_entries y.associations)
        associations aa;
    schedules = kind-turn (slice_cmp nat_cmp) (header_window x.header) (schedule_entries x.schedules) (schedule_entries y.schedules)
        schedules bs;
  })
