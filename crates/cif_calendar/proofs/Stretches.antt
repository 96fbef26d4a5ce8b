-- Stretches one after another, and those of two sets of members together.
use Rattle.cif_calendar.proofs.Names.{Applies, AreBehind, AreBelow, AreStretches, Bool, ChangesOn, IsChosen, IsJoint, IsPart, IsStretch}
use Rattle.cif_calendar.proofs.Names.{IsUnbroken, Leader, List, LooksAt, Nobody, Records, Some, Standing, Stands, Stretch, Terms, [], ap}
use Rattle.cif_calendar.proofs.Names.{arith, false, get_or, inl, inr, is_le, length, nat_cmp, ord_min, refl, replicate, rules, slice_get}
use Rattle.cif_calendar.proofs.Names.{slice_get-get_or, subst, sym, true, weekday_of, ℕ, ⊎_elim, ◌++◌, ◌+◌, ◌-◌, ◌<◌, ◌∙◌, ◌∷◌, ◌≡◌, ◌≤◌}
use Rattle.cif_calendar.proofs.{Names.◌⊎◌, Standings.below-same, Standings.stands-more, Standings.stands-none, Standings.stands-skip}
use Rattle.cif_calendar.proofs.Winning.{IsUnion, chosen-one, chosen-union, one-chosen, union-swap}

-- what a test of two days tells
pub day_upto : (a b : ℕ) (test : Bool) → test ≡ is_le (nat_cmp a b) → (test ≡ true → a ≤ b) × (test ≡ false → b < a)
day_upto a b test is = (λ yes. search rules, λ no. search rules)

pub some-before : (a b : ℕ) → a < b → 0 < b
some-before a b less = omega arith

-- the sooner of two days
pub sooner : (a b day : ℕ) → day ≡ ord_min nat_cmp a b → (day ≤ a) × (day ≤ b) × ((day ≡ a) ⊎ (day ≡ b))
sooner a b day is = (search rules, search rules, search rules)

-- from day `first` to day `end` the record doesn't begin or end, and `end` is `last` or the day before it does, if that is sooner
record IsEndFor {B : Type 0} (r : Terms B) (first last end : ℕ) : Type 0 where
  from : first ≤ end
  upto : end ≤ last
  begins : first < r.first → end < r.first
  ends : first ≤ r.last → end ≤ r.last
  breaks : (end ≡ last) ⊎ ((end + 1 ≡ r.first) ⊎ (end + 1 ≡ r.last + 1))

-- how far the days are alike, by fewer days and by more records
unbroken-within : {B : Type 0} (records : Records B) (first last from upto : ℕ) → first ≤ from → upto ≤ last →
    IsUnbroken records first last → IsUnbroken records from upto
unbroken-within records first last from upto low high u = record {
  begins = λ s h after. let k : last < s.first = u.begins s h (omega arith) in omega arith;
  ends = λ s h after. let k : last ≤ s.last = u.ends s h (omega arith) in omega arith;
}

module _ {B : Type 0} (ys ns zs : Records B) (a : IsUnion ys ns zs) where
  unbroken-both : (first last : ℕ) → IsUnbroken ys first last → IsUnbroken ns first last → IsUnbroken zs first last
  unbroken-both first last u v = record {
    begins = λ s h after. ⊎_elim (λ old. u.begins s old after) (λ new. v.begins s new after) (a.only s h);
    ends = λ s h after. ⊎_elim (λ old. u.ends s old after) (λ new. v.ends s new after) (a.only s h);
  }

  changes-kept : (P : Type 0) (d : ℕ) → P ⊎ ChangesOn ys d → P ⊎ ChangesOn zs d
  changes-kept P d h = ⊎_elim (λ p. inl p) (λ c. inr (c.0, a.left c.0 c.1, c.2)) h

module _ {B : Type 0} (xs : List (Terms B)) (i : ℕ) (r : Terms B) (at : slice_get xs i ≡ Some r) where
  unbroken-one : (first last : ℕ) → (first < r.first → last < r.first) → (first ≤ r.last → last ≤ r.last) →
      IsUnbroken (IsChosen xs (i ∷ [])) first last
  unbroken-one first last begins ends = record {
    begins = λ s c. subst (λ (q : Terms B). first < q.first → last < q.first) (one-chosen xs i r at s c) begins;
    ends = λ s c. subst (λ (q : Terms B). first ≤ q.last → last ≤ q.last) (one-chosen xs i r at s c) ends;
  }

module _ (members : List ℕ) (k : ℕ) (part : List ℕ) (p : IsPart members k part) where
  -- what stands in it is a member
  pub part-at : (j d : ℕ) → j < length part → slice_get members (k + j) ≡ Some (get_or part j d)
  part-at j d below = slice_get-get_or members (k + j) d (omega (arith, p.within)) ∙ ap Some (p.same j d below)

-- the same members
module _ {B : Type 0} (xs : List (Terms B)) (members looked : List ℕ) (end : ℕ) where
  -- before a member is looked at, all days are one stretch
  pub stretch-none : (first last : ℕ) → first ≤ last → end ≡ last + 1 →
      IsStretch xs members [] end first (record { last = last; standings = replicate 7 Nobody })
  stretch-none first last up over = record {
    in_order = up;
    upto = omega arith;
    unbroken = record { begins = λ r c. absurd (none r c); ends = λ r c. absurd (none r c) };
    change = inl (sym over);
    below = below-same (length members) Nobody tt;
    stands = λ d from upto. stands-none xs members d (weekday_of d);
  } where
    none : (r : Terms B) → IsChosen xs [] r → ⊥
    none r c = let (k, below, is) = c.member in omega arith

  -- then the record r is, which the member with number k has
  module _ (first k i : ℕ) (r : Terms B) (member : slice_get members k ≡ Some i) (at : slice_get xs i ≡ Some r) (s : Stretch)
      (h : IsStretch xs members looked end first s) (to : ℕ) where
    stretch-more : IsEndFor r first s.last to → (standings : List Standing) → AreBelow (length members) standings →
        ((d : ℕ) → first ≤ d → d ≤ to →
        Stands xs members (IsChosen xs (looked ++ i ∷ [])) d (get_or standings (weekday_of d) Nobody)) →
        IsStretch xs members (looked ++ i ∷ []) end first (record { last = to; standings = standings })
    stretch-more e standings below stands = let both = chosen-union xs looked (i ∷ []) in record {
      in_order = e.from;
      upto = omega (arith, e.upto, h.upto);
      unbroken = unbroken-both _ _ _ both first to
          (unbroken-within (IsChosen xs looked) first s.last first to (omega arith) e.upto h.unbroken)
          (unbroken-one xs i r at first to e.begins e.ends);
      change = ⊎_elim
          (λ same. rw same (changes-kept _ _ _ both (s.last + 1 ≡ end) (s.last + 1) h.change))
          (λ c. inr (r, both.right r (chosen-one xs i r at), c))
          e.breaks;
      below = below;
      stands = stands;
    }

    -- where it doesn't apply
    stretch-passed : IsEndFor r first s.last to → ((d : ℕ) → first ≤ d → d ≤ to → Applies r d → ⊥) →
        IsStretch xs members (looked ++ i ∷ []) end first (record { last = to; standings = s.standings })
    stretch-passed e off = stretch-more e s.standings h.below (λ d from upto.
        stands-skip xs members looked k i r member at d _ (h.stands d from (omega (arith, e.upto))) (off d from upto))

    -- it begins later
    pub stretch-begins : (begin before : ℕ) → begin ≡ r.first → first < begin → before ≡ begin - 1 → to ≡ ord_min nat_cmp s.last before →
        r.first ≤ r.last → IsStretch xs members (looked ++ i ∷ []) end first (record { last = to; standings = s.standings })
    stretch-begins begin before is later sooner_is least up = let m = sooner s.last before to least in stretch-passed
        (record {
          from = omega (arith, m.2, h.in_order);
          upto = m.0;
          begins = λ _. omega (arith, m.1);
          ends = λ _. omega (arith, m.1);
          breaks = ⊎_elim (λ a. inl a) (λ b. inr (inl (omega arith))) m.2;
        })
        (λ d low high on. omega (arith, m.1, on.begun))

    -- it has ended
    pub stretch-ended : to ≡ s.last → r.first ≤ first → r.last < first →
        IsStretch xs members (looked ++ i ∷ []) end first (record { last = to; standings = s.standings })
    stretch-ended same begun ended = stretch-passed
        (record {
          from = omega (arith, h.in_order);
          upto = omega arith;
          begins = λ late. absurd (omega arith);
          ends = λ late. absurd (omega arith);
          breaks = inl same;
        })
        (λ d low high on. omega (arith, ended, on.unfinished))

    -- it lies over the first day
    pub stretch-looked : (standings : List Standing) → AreBelow (length members) standings → to ≡ ord_min nat_cmp s.last r.last →
        r.first ≤ first → first ≤ r.last →
        ((w : ℕ) → w < 7 → LooksAt xs members r.days (replicate 7 (Leader k)) w (get_or s.standings w Nobody) (get_or standings w Nobody)) →
        IsStretch xs members (looked ++ i ∷ []) end first (record { last = to; standings = standings })
    stretch-looked standings below least begun unfinished each = let m = sooner s.last r.last to least in stretch-more
        (record {
          from = omega (arith, m.2, unfinished, h.in_order);
          upto = m.0;
          begins = λ late. absurd (omega arith);
          ends = λ _. m.1;
          breaks = ⊎_elim (λ a. inl a) (λ b. inr (inr (ap (λ n. n + 1) b))) m.2;
        })
        standings below (λ d from upto. stands-more xs members looked k i r member at d _ (h.stands d from (omega (arith, m.0))) _
        (omega arith) (omega (arith, m.1)) (each (weekday_of d) (omega arith)))

  pub stretches-push : (from to next : ℕ) (ss : List Stretch) (s : Stretch) → next ≡ s.last + 1 → IsStretch xs members looked end to s →
      AreStretches xs members looked end from to ss → AreStretches xs members looked end from next (ss ++ s ∷ [])
  stretches-push from to next [] s is more e = (subst (λ n. IsStretch xs members looked end n s) (sym e) more, sym is)
  stretches-push from to next (t ∷ ts) s is more h = (h.0, stretches-push (t.last + 1) to next ts s is more h.1)

  -- the first of some stretches
  pub first-below : (from to : ℕ) (ss : List Stretch) (s : Stretch) → 0 < length ss → s ≡ get_or ss 0 s →
      AreStretches xs members looked end from to ss → AreBelow (length members) s.standings
  first-below from to [] s some is h = absurd (omega arith)
  first-below from to (t ∷ ss) s some is h = rw is h.0.below

  -- a stretch from a later day on
  stretch-later : (first day : ℕ) (s : Stretch) → first ≤ day → day ≤ s.last → IsStretch xs members looked end first s →
      IsStretch xs members looked end day s
  stretch-later first day s later upto h = record {
    in_order = upto;
    upto = h.upto;
    unbroken = unbroken-within (IsChosen xs looked) first s.last day s.last later (omega arith) h.unbroken;
    change = h.change;
    below = h.below;
    stands = λ d low high. h.stands d (omega arith) high;
  }

  -- what is left behind a day of the first
  stretches-behind : (first to day : ℕ) (s : Stretch) (ss rest : List Stretch) → first ≤ day → day ≤ s.last →
      AreStretches xs members looked end first to (s ∷ ss) → AreBehind (s ∷ ss) day rest →
      AreStretches xs members looked end (day + 1) to rest
  stretches-behind first to day s ss rest from upto h b = ⊎_elim
      (λ over. subst (λ r. AreStretches xs members looked end (day + 1) to r) (sym over.1)
      (subst (λ n. AreStretches xs members looked end n to ss) (let e : s.last + 1 ≡ day + 1 = omega (arith, over.0) in e) h.1))
      (λ more. subst (λ r. AreStretches xs members looked end (day + 1) to r) (sym more.1)
      (stretch-later first (day + 1) s (omega arith) (omega (arith, more.0)) h.0, h.1))
      b

-- two sets of members
module _ {B : Type 0} (xs : List (Terms B)) (members ms ns : List ℕ) (end : ℕ) where
  joint-stretch : (first : ℕ) (s t u : Stretch) → IsStretch xs members ms end first s → IsStretch xs members ns end first t →
      IsJoint xs members s t u → IsStretch xs members (ms ++ ns) end first u
  joint-stretch first s t u h k j = record {
    in_order = ⊎_elim (λ e. omega (arith, h.in_order, e)) (λ e. omega (arith, k.in_order, e)) j.ends;
    upto = omega (arith, h.upto, j.upto_one);
    unbroken = unbroken-both _ _ _ (chosen-union xs ms ns) first u.last
        (unbroken-within (IsChosen xs ms) first s.last first u.last (omega arith) j.upto_one h.unbroken)
        (unbroken-within (IsChosen xs ns) first t.last first u.last (omega arith) j.upto_other k.unbroken);
    change = ⊎_elim
        (λ e. rw e (changes-kept _ _ _ (chosen-union xs ms ns) (s.last + 1 ≡ end) (s.last + 1) h.change))
        (λ e. rw e (changes-kept _ _ _ (union-swap _ _ _ (chosen-union xs ms ns)) (t.last + 1 ≡ end) (t.last + 1) k.change))
        j.ends;
    below = j.below;
    stands = λ d from upto. (j.each (weekday_of d) (omega arith)).stands ms ns d (h.stands d from (omega (arith, j.upto_one)))
        (k.stands d from (omega (arith, j.upto_other)));
  }

  -- the stretches of both so far, and what is left of those of either
  pub record AreMerged (from to : ℕ) (left right both : List Stretch) : Type 0 where
    pub day : ℕ
    pub of_left : AreStretches xs members ms end day to left
    pub of_right : AreStretches xs members ns end day to right
    pub of_both : AreStretches xs members (ms ++ ns) end from day both

  -- one stretch more, by the first of what is left of either
  pub merged-more : (from to : ℕ) (lefts rights left right both more : List Stretch) (s t u : Stretch) → 0 < length lefts →
      0 < length rights → s ≡ get_or lefts 0 s → t ≡ get_or rights 0 t → IsJoint xs members s t u → AreBehind lefts u.last left →
      AreBehind rights u.last right → more ≡ both ++ u ∷ [] → AreMerged from to lefts rights both → AreMerged from to left right more
  merged-more from to [] rights left right both more s t u some other is_s is_t j behind_left behind_right is m = absurd (omega arith)
  merged-more from to (a ∷ ss) [] left right both more s t u some other is_s is_t j behind_left behind_right is m = absurd (omega arith)
  merged-more from to (a ∷ ss) (b ∷ ts) left right both more s t u some other is_s is_t j behind_left behind_right is m =
      let joint : IsJoint xs members a b u = subst (λ v. IsJoint xs members v b u) is_s (subst (λ v. IsJoint xs members s v u) is_t j) in
      let it = joint-stretch m.day a b u m.of_left.0 m.of_right.0 joint in record {
        day = u.last + 1;
        of_left = stretches-behind xs members ms end m.day to u.last a ss left it.in_order joint.upto_one m.of_left behind_left;
        of_right = stretches-behind xs members ns end m.day to u.last b ts right it.in_order joint.upto_other m.of_right behind_right;
        of_both = subst (AreStretches xs members (ms ++ ns) end from (u.last + 1)) (sym is)
            (stretches-push xs members (ms ++ ns) end from m.day _ both u refl it m.of_both);
      }

  -- all of them, where none of one set are left
  pub merged-all : (from to : ℕ) (left right both : List Stretch) → (0 < length left → 0 < length right → ⊥) →
      AreMerged from to left right both → AreStretches xs members (ms ++ ns) end from to both
  merged-all from to [] right both none m = subst (λ d. AreStretches xs members (ms ++ ns) end from d both) m.of_left m.of_both
  merged-all from to (s ∷ ss) [] both none m = subst (λ d. AreStretches xs members (ms ++ ns) end from d both) m.of_right m.of_both
  merged-all from to (s ∷ ss) (t ∷ ts) both none m = absurd (none (omega arith) (omega arith))

-- the stretches that are left of one list: fewer, if the first of them has ended
left-fewer : (ss rest : List Stretch) (day : ℕ) → AreBehind ss day rest → (length rest ≤ length ss) × ((s : Stretch) →
    0 < length ss → s ≡ get_or ss 0 s → s.last ≤ day → length rest < length ss)
left-fewer [] rest day is = (omega (arith, ap length is), λ s some at ended. absurd (omega arith))
left-fewer (u ∷ ss) rest day is = ⊎_elim
    (λ h. (omega (arith, ap length h.1), λ s some at ended. omega (arith, ap length h.1)))
    (λ h. (omega (arith, ap length h.1), λ s some at ended. absurd (omega (arith, h.0, ap (λ (v : Stretch). v.last) at, ended))))
    is

-- the stretch of both ends with the sooner of two, so there are fewer left
pub fewer-left : {B : Type 0} (left right left_then right_then : List Stretch) (one other both : Stretch) (xs : List (Terms B))
    (members : List ℕ) → 0 < length left → 0 < length right → one ≡ get_or left 0 one → other ≡ get_or right 0 other →
    IsJoint xs members one other both → AreBehind left both.last left_then → AreBehind right both.last right_then →
    length left_then + length right_then < length left + length right
fewer-left left right left_then right_then one other both xs members some also is there joint behind also_behind =
    let l = left-fewer left left_then both.last behind in
    let r = left-fewer right right_then both.last also_behind in
    ⊎_elim (λ e. omega (arith, l.1 one some is (omega arith), r.0)) (λ e. omega (arith, l.0, r.1 other also there (omega arith))) joint.ends
