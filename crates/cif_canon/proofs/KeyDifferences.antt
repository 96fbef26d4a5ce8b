-- What only one of a key's two calendars says is what only one list says of the key.
use Rattle.cif_canon.proofs.Names.{AreKeyDifferences, AreOnlyRuns, ArePositionsOf, Bool, C, CalendarParts, IsCalendar, IsClearFrom, IsNone}
use Rattle.cif_canon.proofs.Names.{IsRunOf, IsTrue, IsWithin, Left, List, None, OnlySays, Option, Right, Run, Runs, Side, Sided, Some}
use Rattle.cif_canon.proofs.Names.{Terms, Two, ap, at_side, body_on, false, false≢true, inl, inr, key-clear, key-runs, keyed, map, of_key}
use Rattle.cif_canon.proofs.Names.{refl, same_Some, subst, sym, true, window_from, window_of, ℕ, ◌↔◌, ◌∙◌, ◌≡◌, ◌≢◌, ◌⊎◌}
use Rattle.cif_weeks.specs.Runs.{IsRunOf as IsCalendarRun}
use Rattle.cif_canon.proofs.{FoundRecords.AreOfKey, FoundRecords.AreOnlyOfKey, MergedSides.by-side, MergedSides.other}
use Rattle.cif_canon.proofs.KeyRecords.{key-run, runs-as, window-is}

-- two bodies, or none, are the same or they aren't
module _ {B : Type 0} (eq : B → B → Bool) (law : (a b : B) → IsTrue (eq a b) ↔ (a ≡ b)) where
  decide-body : (a b : B) (t : Bool) → eq a b ≡ t → (Some a ≡ Some b) ⊎ (Some a ≢ Some b)
  decide-body a b true is = inl (ap Some ((law a b).0 is))
  decide-body a b false is = inr (λ e. false≢true (sym is ∙ (law a b).1 (same_Some a b e)))

  pub decide-bodies : (one other : Option B) → (one ≡ other) ⊎ (one ≢ other)
  decide-bodies None None = inl refl
  decide-bodies None (Some b) = inr (λ e. cc)
  decide-bodies (Some a) None = inr (λ e. cc)
  decide-bodies (Some a) (Some b) = decide-body a b (eq a b) refl

module _ {E K B : Type 0} (key : E → K) (terms : E → Terms B) (cancelled : (e : E) → IsNone (terms e).body ↔ ((terms e).letter ≡ C))
    (es fs : List E) (k : K) (l r : List ℕ) (p : ArePositionsOf (keyed key terms es) k l) (q : ArePositionsOf (keyed key terms fs) k r)
    (first last : ℕ) (one other : CalendarParts) (cal : IsCalendar (map terms es) l first last one)
    (dar : IsCalendar (map terms fs) r first last other) where
  key-only : (runs : List Run) → AreOnlyRuns (map terms es) one (map terms fs) other runs →
      AreOnlyOfKey (window_from first last) (keyed key terms es) (keyed key terms fs) k runs
  key-only runs a =
      runs-as Two (window_of one) (window_from first last) (window-is key terms es k l p first last one cal)
      (IsCalendarRun (map terms es) one) (λ run r. IsRunOf (keyed key terms es) run (k, r)) (key-run key terms es k l p first last one cal)
      (λ n b. (body_on (map terms es) one n ≡ Some b) × (body_on (map terms fs) other n ≢ Some b))
      (OnlySays (keyed key terms es) (keyed key terms fs) k)
      (λ n b within.
      let here = subst (λ w. IsWithin w n) (window-is key terms es k l p first last one cal) within in
      let own = key-runs key terms es k l p first last one cal cancelled n (Some b) here.from here.upto in
      let theirs = key-runs key terms fs k r q first last other dar cancelled n (Some b) here.from here.upto in (
        λ h. record { runs = own.0 h.0; differs = λ o. h.1 (theirs.1 o) },
        λ h. (own.1 h.runs, λ e. h.differs (theirs.0 e)),
      )) runs a

module _ {E K B : Type 0} (key : E → K) (terms : E → Terms B) (cancelled : (e : E) → IsNone (terms e).body ↔ ((terms e).letter ≡ C))
    (es fs : List E) (k : K) (l r : List ℕ) (p : ArePositionsOf (keyed key terms es) k l) (q : ArePositionsOf (keyed key terms fs) k r)
    (first last : ℕ) (one two : CalendarParts) (cal : IsCalendar (map terms es) l first last one)
    (dar : IsCalendar (map terms fs) r first last two) (eq : B → B → Bool) (law : (a b : B) → IsTrue (eq a b) ↔ (a ≡ b))
    (old new : List (Sided Run)) (d : AreKeyDifferences (map terms es) one (map terms fs) two old new) where
  pub key-of : AreOfKey (window_from first last) (keyed key terms es) (keyed key terms fs) k d.appended.merged
  key-of = record {
    only = λ side. subst
        (AreOnlyOfKey (window_from first last) (at_side (keyed key terms es) (keyed key terms fs) side)
        (at_side (keyed key terms es) (keyed key terms fs) (other side)) k) (sym (d.appended.are.sides side)) (only side);
    in_order = d.appended.are.in_order;
    clear = by-side (λ side. IsClearFrom (of_key (at_side (keyed key terms es) (keyed key terms fs) side) k) first last)
        (key-clear key terms es k l p first last one cal) (key-clear key terms fs k r q first last two dar);
    runs = λ n within. record {
      body = at_side (body_on (map terms es) one n) (body_on (map terms fs) two n);
      runs = by-side (λ side. (o : Option B) → (at_side (body_on (map terms es) one n) (body_on (map terms fs) two n) side ≡ o) ↔
          Runs (of_key (at_side (keyed key terms es) (keyed key terms fs) side) k) n o)
          (λ o. key-runs key terms es k l p first last one cal cancelled n o within.from within.upto)
          (λ o. key-runs key terms fs k r q first last two dar cancelled n o within.from within.upto);
      decided = decide-bodies eq law (body_on (map terms es) one n) (body_on (map terms fs) two n);
    };
  } where
    only : (side : Side) → AreOnlyOfKey (window_from first last) (at_side (keyed key terms es) (keyed key terms fs) side)
        (at_side (keyed key terms es) (keyed key terms fs) (other side)) k (at_side d.lefts d.rights side)
    only Left = key-only key terms cancelled es fs k l r p q first last one two cal dar d.lefts d.left
    only Right = key-only key terms cancelled fs es k r l q p first last two one dar cal d.rights d.right
