-- The parts of a record, one cut after another, among days that don't fall.
use Rattle.cif_feed.proofs.Names.{All-contains, All-push, All-weaker, AreAdded, AreParts, ArePartsBefore, Bool, Contains}
use Rattle.cif_feed.proofs.Names.{Contains-append_left, Contains-first, Contains-none, Contains-push, IsAdded, IsBefore, IsCut}
use Rattle.cif_feed.proofs.Names.{IsDateOnDaysRun, IsFirstFrom, IsFromNext, IsLeftFrom, IsNonDecreasing, IsPart, IsPushed, IsStopOn, List}
use Rattle.cif_feed.proofs.Names.{MayBegin, None, Option, Part, PreparedRecord, RunsOn, Some, Terms, [], added_before, all_pairs_push, ap}
use Rattle.cif_feed.proofs.Names.{append-nil, append_assoc, arith, before_cut, cases_lt, cond, drop, false, first_upto, get_or, get_or-drop}
use Rattle.cif_feed.proofs.Names.{get_or_default, inl, inr, is_gt, length, length-drop, ltb-false, ltb-true, map, map-append, nat_cmp}
use Rattle.cif_feed.proofs.Names.{nat_lt, part_entry, records_on, refl, rules, sooner_of, subst, sym, true, weekday_of, ℕ, ⊎_elim, ◌++◌}
use Rattle.cif_feed.proofs.Names.{◌+◌, ◌-◌, ◌<◌, ◌↔◌, ◌∙◌, ◌∷◌, ◌≡◌, ◌≤◌, ◌⊎◌}
use Rattle.std.{specs.Ordering.is_le, specs.Prelude.min, proofs.lemmas.List.Sorted.IsNonDecreasingBy-drop}
use Rattle.cif_feed.specs.PreparedRecord.{terms_on}

-- ---- what a comparison says

pub gt-after : (a b : ℕ) (gt : Bool) → gt ≡ is_gt (nat_cmp a b) → gt ≡ true → b < a
gt-after a b gt is after = search rules

le-upto : (a b : ℕ) → is_le (nat_cmp a b) ≡ true → a ≤ b
le-upto a b is = search rules

le-after : (a b : ℕ) → is_le (nat_cmp a b) ≡ false → b < a
le-after a b is = search rules

-- ---- the first of the dates from a day on

-- The dates before the place come before `from`, and P doesn't hold of those from it up to the index.
module _ (dates later : List ℕ) (P : ℕ → Type 0) (from place index : ℕ) (rise : IsNonDecreasing dates)
    (before : (k : ℕ) → k < place → get_or dates k 0 < from) (is : later ≡ drop place dates)
    (others : (k : ℕ) → k < index → ¬ P (get_or later k 0)) where
  long : length later ≡ length dates - place
  long = ap length is ∙ length-drop place dates

  at_later : (j : ℕ) → get_or later j 0 ≡ get_or dates (place + j) 0
  at_later j = ap (λ (l : List ℕ). get_or l j 0) is ∙ get_or-drop place dates j 0

  -- nor of any from `from` on that comes before the date at the index
  pub passed : (d : ℕ) → from ≤ d → (index < length later → d < get_or later index 0) → Contains dates d → ¬ P d
  passed d early ahead (k, below, at_k) holds =
      let here : get_or dates k 0 ≡ d = get_or_default dates k 0 d below ∙ at_k in
      ⊎_elim
      (λ (low : k < place). let gone : get_or dates k 0 < from = before k low in absurd (omega arith))
      (λ (high : place ≤ k). ⊎_elim
      (λ (seen : k - place < index).
      let there : get_or later (k - place) 0 ≡ d =
      at_later (k - place) ∙ ap (λ (n : ℕ). get_or dates n 0) (omega arith) ∙ here in
      others (k - place) seen (subst P (sym there) holds))
      (λ (unseen : index ≤ k - place).
      let in_later : index < length later = omega (arith, long) in
      let sooner = ahead in_later in
      let up : get_or dates (place + index) 0 ≤ get_or dates k 0 = rise (place + index) k 0 (omega arith) below in
      let one = at_later index in absurd (omega arith))
      (cases_lt (k - place) index))
      (cases_lt k place)

-- ---- the dates that are left

drop-contains : (n : ℕ) (xs : List ℕ) (d : ℕ) → Contains (drop n xs) d → Contains xs d
drop-contains n xs d (k, below, is) =
    let long : length (drop n xs) ≡ length xs - n = length-drop n xs in
    (n + k, (let there : n + k < length xs = omega arith in there), sym (get_or-drop n xs k d) ∙ is)

contains-drop : (n : ℕ) (xs : List ℕ) (d k : ℕ) → n ≤ k → k < length xs → get_or xs k d ≡ d → Contains (drop n xs) d
contains-drop n xs d k from below is =
    let long : length (drop n xs) ≡ length xs - n = length-drop n xs in (
      k - n,
      (let there : k - n < length (drop n xs) = omega arith in there),
      get_or-drop n xs (k - n) d ∙ ap (λ (j : ℕ). get_or xs j d) (omega arith) ∙ is,
    )

-- The dates that are left are among them, and each of them from `from` on whose weekday is in the mask is left. The first is such a one, or
-- after the last.
pub record IsRestOf (dates : List ℕ) (days : List Bool) (from last : ℕ) (rest : List ℕ) : Type 0 where
  pub rising : IsNonDecreasing rest
  pub among : (d : ℕ) → Contains rest d → Contains dates d
  pub kept : (d : ℕ) → Contains dates d → from ≤ d → RunsOn days (weekday_of d) → Contains rest d
  pub next : 0 < length rest → (last < get_or rest 0 0) ⊎ ((from ≤ get_or rest 0 0) × RunsOn days (weekday_of (get_or rest 0 0)))

-- those from the next one on
rest-next : (dates : List ℕ) (days : List Bool) (from last : ℕ) (rest later : List ℕ) → IsNonDecreasing rest
    → ((d : ℕ) → Contains rest d → Contains dates d)
    → ((d : ℕ) → Contains dates d → from ≤ d → RunsOn days (weekday_of d) → Contains rest d)
    → IsFromNext days from last rest later → IsRestOf dates days from last later
rest-next dates days from last rest later rise among kept n = record {
  rising = subst IsNonDecreasing (sym n.is) (IsNonDecreasingBy-drop (λ (d : ℕ). d) n.place rest rise);
  among = λ d has. among d (drop-contains n.place rest d (subst (λ l. Contains l d) n.is has));
  kept = λ d has early runs. subst (λ l. Contains l d) (sym n.is) (at d early runs (kept d has early runs));
  next = n.next;
}
  where
    at : (d : ℕ) → from ≤ d → RunsOn days (weekday_of d) → Contains rest d → Contains (drop n.place rest) d
    at d early runs (k, below, is) =
        let here : get_or rest k 0 ≡ d = get_or_default rest k 0 d below ∙ is in
        ⊎_elim
        (λ (low : k < n.place). ⊎_elim
        (λ (gone : get_or rest k 0 < from). absurd (omega arith))
        (λ off. absurd (off (subst (λ (m : ℕ). RunsOn days (weekday_of m)) (sym here) runs)))
        (n.passed k low))
        (λ (high : n.place ≤ k). contains-drop n.place rest d k high below is)
        (cases_lt k n.place)

pub rest-later : (dates : List ℕ) (days : List Bool) (start from last : ℕ) (rest later : List ℕ) → IsRestOf dates days start last rest
    → start ≤ from → IsFromNext days from last rest later → IsRestOf dates days from last later
rest-later dates days start from last rest later r after =
    rest-next dates days from last rest later r.rising r.among (λ d has early runs. r.kept d has (omega arith) runs)

pub rest-first : (dates : List ℕ) (days : List Bool) (from last : ℕ) (left later : List ℕ) → IsNonDecreasing dates
    → IsLeftFrom dates from left → IsFromNext days from last left later → IsRestOf dates days from last later
rest-first dates days from last left later rise l = rest-next dates days from last left later
    (subst IsNonDecreasing (sym l.is) (IsNonDecreasingBy-drop (λ (d : ℕ). d) l.place dates rise))
    (λ d has. drop-contains l.place dates d (subst (λ xs. Contains xs d) l.is has))
    (λ d has early runs. subst (λ xs. Contains xs d) (sym l.is) (at d early has))
  where
    at : (d : ℕ) → from ≤ d → Contains dates d → Contains (drop l.place dates) d
    at d early (k, below, is) =
        let here : get_or dates k 0 ≡ d = get_or_default dates k 0 d below ∙ is in
        ⊎_elim
        (λ (low : k < l.place). let gone : get_or dates k 0 < from = l.before k low in absurd (omega arith))
        (λ (high : l.place ≤ k). contains-drop l.place dates d k high below is)
        (cases_lt k l.place)

-- the first date that is left is none before
first-least : (d : ℕ) (rest : List ℕ) (e : ℕ) → IsNonDecreasing (d ∷ rest) → Contains (d ∷ rest) e → d ≤ e
first-least d rest e rise (k, below, is) = (let up : d ≤ get_or (d ∷ rest) k e = rise 0 k e (omega arith) below in omega arith)

-- the first one from `from` to the last whose weekday is in the mask
pub rest-found : (dates : List ℕ) (days : List Bool) (from last : ℕ) (rest : List ℕ) → IsRestOf dates days from last rest
    → IsFirstFrom (IsDateOnDaysRun dates days) from last (first_upto last rest)
rest-found dates days from last [] r = λ d early late on. Contains-none d (r.kept d on.listed early on.on_weekday)
rest-found dates days from last (d ∷ rest) r = at (is_le (nat_cmp d last)) refl
  where
    at : (b : Bool) → is_le (nat_cmp d last) ≡ b → IsFirstFrom (IsDateOnDaysRun dates days) from last (cond b (Some d) None)
    at true is = ⊎_elim
        (λ (behind : last < d). absurd (let upto : d ≤ last = le-upto d last is in omega arith))
        (λ on. (
          on.0,
          le-upto d last is,
          record { listed = r.among d (Contains-first d rest); on_weekday = on.1 },
          λ e early sooner other. let least : d ≤ e = first-least d rest e r.rising (r.kept e other.listed early other.on_weekday) in
              omega arith,
        ))
        (r.next (omega arith))
    at false is = λ e early late other.
        let least : d ≤ e = first-least d rest e r.rising (r.kept e other.listed early other.on_weekday) in
        let after : last < d = le-after d last is in omega arith

-- ---- lists of parts

module _ {B : Type 0} (Stops : ℕ → Type 0) (r : Terms B) where
  pub parts-none : ArePartsBefore Stops r r.first []
  parts-none = record {
    rising = λ i j d up below. absurd (omega arith);
    are = λ k d below. absurd (omega arith);
    before = λ k d below. absurd (omega arith);
    covered = λ d from below. absurd (omega arith);
  }

  -- a part that begins where the others end
  pub parts-push : (parts : List Part) (p : Part) → ArePartsBefore Stops r p.first parts → IsPart Stops r p
      → ArePartsBefore Stops r (p.last + 1) (parts ++ p ∷ [])
  parts-push parts p so_far is = record {
    rising = all_pairs_push IsBefore parts p so_far.rising (λ k d below. so_far.before k d below);
    are = All-push (IsPart Stops r) parts p so_far.are is;
    before = All-push (λ (q : Part). q.last < p.last + 1) parts p
        (λ k d below. let ends = so_far.before k d below in let up = is.in_order in omega arith) (omega arith);
    covered = λ d from below. ⊎_elim
        (λ (early : d < p.first). ⊎_elim
        (λ have. inl (have.0, Contains-append_left parts (p ∷ []) have.0 have.1, have.2, have.3))
        (λ cut. inr cut) (so_far.covered d from early))
        (λ late. inl (p, Contains-push parts p, late, omega arith))
        (cases_lt d p.first);
  }

  -- a cut
  pub parts-cut : (parts : List Part) (cut : ℕ) → ArePartsBefore Stops r cut parts → IsCut Stops r cut
      → ArePartsBefore Stops r (cut + 1) parts
  parts-cut parts cut so_far is = record {
    rising = so_far.rising;
    are = so_far.are;
    before = λ k d below. let ends = so_far.before k d below in omega arith;
    covered = λ d from below. ⊎_elim
        (λ (early : d < cut). so_far.covered d from early)
        (λ late. inr (let here : cut ≡ d = omega arith in subst (λ (n : ℕ). IsCut Stops r n) here is))
        (cases_lt d cut);
  }

  pub parts-all : (parts : List Part) (day : ℕ) → ArePartsBefore Stops r day parts → day ≡ r.last + 1 → AreParts Stops r parts
  parts-all parts day so_far end =
      record { rising = so_far.rising; are = so_far.are; covered = λ d from upto. so_far.covered d from (omega arith) }

module _ {B : Type 0} (Stops : ℕ → Type 0) (r : Terms B) where
  -- what stops it, on one of the record's days whose weekday is set, is a cut
  cut-here : (d : ℕ) → r.first ≤ d → d ≤ r.last → IsStopOn Stops r.days d → IsCut Stops r d
  cut-here d from upto on = record { applies = record { begun = from; unfinished = upto; on_weekday = on.on_weekday }; stops = on.stops }

  here-cut : (d : ℕ) → IsCut Stops r d → IsStopOn Stops r.days d
  here-cut d cut = record { stops = cut.stops; on_weekday = cut.applies.on_weekday }

  module _ (first : ℕ) (own : List Part) (so_far : ArePartsBefore Stops r first own) (begins : MayBegin Stops r first) where
    -- the first cut from the day on
    module _ (cut : ℕ) (found : IsFirstFrom (IsStopOn Stops r.days) first r.last (Some cut)) where
      is_cut : IsCut Stops r cut
      is_cut = cut-here cut (let from = begins.from in let later = found.0 in omega arith) found.1 found.2

      to_cut : (b : Bool) → nat_lt first cut ≡ b
          → ArePartsBefore Stops r cut (own ++ cond b (record { first = first; last = cut - 1 } ∷ []) [])
      to_cut true is =
          let early : first < cut = ltb-true first cut is in
          let p : Part = record { first = first; last = cut - 1 } in
          let end : p.last + 1 ≡ cut = omega arith in
          subst (λ (n : ℕ). ArePartsBefore Stops r n (own ++ p ∷ [])) end
          (parts-push Stops r own p so_far (record {
            in_order = omega arith;
            from = begins.from;
            upto = (let upto = found.1 in omega arith);
            whole = λ d from upto cuts. found.3 d from (omega arith) (here-cut d cuts);
            begins = begins.begins;
            ends = inr (subst (λ (n : ℕ). IsCut Stops r n) (sym end) is_cut);
          }))
      to_cut false is =
          let late : cut ≤ first = ltb-false first cut is in
          let same : first ≡ cut = (let later = found.0 in omega arith) in
          subst (λ (l : List Part). ArePartsBefore Stops r cut l) (sym (append-nil own))
          (subst (λ (n : ℕ). ArePartsBefore Stops r n own) same so_far)

      after_cut : ArePartsBefore Stops r (cut + 1) (own ++ before_cut first cut)
      after_cut = parts-cut Stops r (own ++ before_cut first cut) cut (to_cut (nat_lt first cut) refl) is_cut

      -- the parts go on after the cut
      pub parts-next : cut < r.last → ArePartsBefore Stops r (cut + 1) (own ++ before_cut first cut) × MayBegin Stops r (cut + 1)
      parts-next before = (
        after_cut,
        record {
          from = (let from = begins.from in let later = found.0 in omega arith);
          upto = omega arith;
          begins = inr (cut, refl, is_cut);
        },
      )

      -- the cut is the record's last day
      pub parts-cut_last : r.last ≤ cut → AreParts Stops r (own ++ before_cut first cut)
      parts-cut_last end =
          parts-all Stops r (own ++ before_cut first cut) (cut + 1) after_cut (let upto = found.1 in omega arith)

    -- there is none
    pub parts-last : IsFirstFrom (IsStopOn Stops r.days) first r.last None
        → AreParts Stops r (own ++ record { first = first; last = r.last } ∷ [])
    parts-last none =
        let p : Part = record { first = first; last = r.last } in
        parts-all Stops r (own ++ p ∷ []) (r.last + 1) (parts-push Stops r own p so_far (record {
          in_order = begins.upto;
          from = begins.from;
          upto = omega arith;
          whole = λ d from upto cuts. none d from upto (here-cut d cuts);
          begins = begins.begins;
          ends = inl refl;
        }))
        refl

-- a record without a cut is its one part
pub parts-whole : {B : Type 0} (Stops : ℕ → Type 0) (r : Terms B) → r.first ≤ r.last → ((d : ℕ) → ¬ IsCut Stops r d)
    → AreParts Stops r (record { first = r.first; last = r.last } ∷ [])
parts-whole Stops r up none =
    let p : Part = record { first = r.first; last = r.last } in
    parts-all Stops r (p ∷ []) (r.last + 1) (parts-push Stops r [] p (parts-none Stops r) (record {
      in_order = up;
      from = omega arith;
      upto = omega arith;
      whole = λ d from upto cuts. none d cuts;
      begins = inl refl;
      ends = inl refl;
    }))
    refl

-- days that stop a record where others do give it the same parts
module _ {B : Type 0} (S T : ℕ → Type 0) (r : Terms B) (same : (d : ℕ) → S d ↔ T d) where
  cut-same : (d : ℕ) → IsCut S r d → IsCut T r d
  cut-same d cut = record { applies = cut.applies; stops = (same d).0 cut.stops }

  cut-back : (d : ℕ) → IsCut T r d → IsCut S r d
  cut-back d cut = record { applies = cut.applies; stops = (same d).1 cut.stops }

  part-same : (p : Part) → IsPart S r p → IsPart T r p
  part-same p is = record {
    in_order = is.in_order;
    from = is.from;
    upto = is.upto;
    whole = λ d from upto cut. is.whole d from upto (cut-back d cut);
    begins = ⊎_elim (λ first. inl first) (λ after. inr (after.0, after.1, cut-same after.0 after.2)) is.begins;
    ends = ⊎_elim (λ last. inl last) (λ cut. inr (cut-same (p.last + 1) cut)) is.ends;
  }

  pub parts-same : (parts : List Part) → AreParts S r parts → AreParts T r parts
  parts-same parts are = record {
    rising = are.rising;
    are = All-weaker (IsPart S r) (IsPart T r) part-same parts are.are;
    covered = λ d from upto. ⊎_elim (λ have. inl have) (λ cut. inr (cut-same d cut)) (are.covered d from upto);
  }

pub may-begin : {B : Type 0} (Stops : ℕ → Type 0) (r : Terms B) → r.first ≤ r.last → MayBegin Stops r r.first
may-begin Stops r up = record { from = omega arith; upto = up; begins = inl refl }

-- ---- exactly the parts are listed

abbrev as_part : ℕ → ℕ → Part
as_part first last = record { first = first; last = last }

module _ {B : Type 0} (Stops : ℕ → Type 0) (r : Terms B) where
  module _ (p q : Part) (is_p : IsPart Stops r p) (is_q : IsPart Stops r q) where
    -- no part begins in another after its first day
    begins-within : q.first ≤ p.first → p.first ≤ q.last → q.first ≡ p.first
    begins-within later within = ⊎_elim
        (λ (same : p.first ≡ r.first). let from = is_q.from in omega arith)
        (λ after. ⊎_elim
        (λ (lt : q.first < p.first). let next = after.1 in absurd (is_q.whole after.0 (omega arith) (omega arith) after.2))
        (λ ge. omega arith)
        (cases_lt q.first p.first))
        is_p.begins

    -- no part ends in another before its last day
    ends-within : q.first ≤ p.first → p.last < q.last → ⊥
    ends-within later lt = let up = is_p.in_order in ⊎_elim
        (λ (same : p.last ≡ r.last). let upto = is_q.upto in omega arith)
        (λ cut. is_q.whole (p.last + 1) (omega arith) (omega arith) cut)
        is_p.ends

  module _ (p q : Part) (is_p : IsPart Stops r p) (is_q : IsPart Stops r q) where
    same-part : q.first ≤ p.first → p.first ≤ q.last → q ≡ p
    same-part later within =
        let first : q.first ≡ p.first = begins-within p q is_p is_q later within in
        let last : q.last ≡ p.last = ⊎_elim
        (λ (lt : p.last < q.last). absurd (ends-within p q is_p is_q later lt))
        (λ le. ⊎_elim
        (λ (lt : q.last < p.last). absurd (ends-within q p is_q is_p (omega arith) lt))
        (λ ge. omega arith)
        (cases_lt q.last p.last))
        (cases_lt p.last q.last) in
        ap (λ (n : ℕ). as_part n q.last) first ∙ ap (as_part p.first) last

  pub listed-part : (parts : List Part) → AreParts Stops r parts → (p : Part) → IsPart Stops r p → Contains parts p
  listed-part parts are p is_p = ⊎_elim
      (λ have. let is_q = All-contains (IsPart Stops r) parts have.0 are.are have.1 in
      subst (λ (q : Part). Contains parts q) (same-part p have.0 is_p is_q have.2 have.3) have.1)
      (λ cut. absurd (is_p.whole p.first (omega arith) is_p.in_order cut))
      (are.covered p.first is_p.from (let up = is_p.in_order in let upto = is_p.upto in omega arith))

-- ---- the first day that stops a record

module _ (P Q : ℕ → Type 0) (from last : ℕ) where
  either-sooner : (d e : ℕ) → IsFirstFrom P from last (Some d) → IsFirstFrom Q from last (Some e) → (d ≤ e) ⊎ (e < d)
      → IsFirstFrom (λ n. P n ⊎ Q n) from last (Some (min d e))
  either-sooner d e one other (inl sooner) =
      let is : d ≡ min d e = omega arith in
      subst (λ n. IsFirstFrom (λ m. P m ⊎ Q m) from last (Some n)) is
      (one.0, one.1, inl one.2, λ f later before. ⊎_elim (λ p. one.3 f later before p) (λ q. other.3 f later (omega arith) q))
  either-sooner d e one other (inr later) =
      let is : e ≡ min d e = omega arith in
      subst (λ n. IsFirstFrom (λ m. P m ⊎ Q m) from last (Some n)) is
      (other.0, other.1, inr other.2, λ f after before. ⊎_elim (λ p. one.3 f after (omega arith) p) (λ q. other.3 f after before q))

  -- the first of which either holds is the sooner of the first ones
  first-either : (one other : Option ℕ) → IsFirstFrom P from last one → IsFirstFrom Q from last other
      → IsFirstFrom (λ n. P n ⊎ Q n) from last (sooner_of one other)
  first-either None None none nor = λ d later upto. ⊎_elim (λ p. none d later upto p) (λ q. nor d later upto q)
  first-either None (Some e) none found = (
    found.0,
    found.1,
    inr found.2,
    λ f later before.
        ⊎_elim (λ p. none f later (let upto = found.1 in omega arith) p) (λ q. found.3 f later before q),
  )
  first-either (Some d) None found none = (
    found.0,
    found.1,
    inl found.2,
    λ f later before.
        ⊎_elim (λ p. found.3 f later before p) (λ q. none f later (let upto = found.1 in omega arith) q),
  )
  first-either (Some d) (Some e) one other = either-sooner d e one other (⊎_elim (λ less. inr less) (λ upto. inl upto) (cases_lt e d))

-- of which one holds exactly where the other does
first-same : (P Q : ℕ → Type 0) → ((d : ℕ) → P d ↔ Q d) → (from last : ℕ) (found : Option ℕ) → IsFirstFrom P from last found
    → IsFirstFrom Q from last found
first-same P Q same from last None none = λ d later upto has. none d later upto ((same d).1 has)
first-same P Q same from last (Some d) found =
    (found.0, found.1, (same d).0 found.2, λ e later before has. found.3 e later before ((same e).1 has))

-- the days that stop a record by two lists
pub first-stop : (holidays clashes : List ℕ) (days : List Bool) (from last : ℕ) (one other : Option ℕ)
    → IsFirstFrom (IsDateOnDaysRun holidays days) from last one → IsFirstFrom (IsDateOnDaysRun clashes days) from last other
    → IsFirstFrom (IsStopOn (λ d. Contains holidays d ⊎ Contains clashes d) days) from last (sooner_of one other)
first-stop holidays clashes days from last one other first second =
    first-same (λ d. IsDateOnDaysRun holidays days d ⊎ IsDateOnDaysRun clashes days d)
    (IsStopOn (λ d. Contains holidays d ⊎ Contains clashes d) days) (λ d. (
      λ on. ⊎_elim
          (λ one. record { stops = inl one.listed; on_weekday = one.on_weekday })
          (λ other. record { stops = inr other.listed; on_weekday = other.on_weekday })
          on,
      λ stop. ⊎_elim
          (λ one. inl (record { listed = one; on_weekday = stop.on_weekday }))
          (λ other. inr (record { listed = other; on_weekday = stop.on_weekday }))
          stop.stops,
    )) from last (sooner_of one other)
    (first-either (IsDateOnDaysRun holidays days) (IsDateOnDaysRun clashes days) from last one other first second)

pub rests-found : (holidays clashes : List ℕ) (days : List Bool) (from last : ℕ) (left other : List ℕ) (one two found it : Option ℕ)
    → IsRestOf holidays days from last left → IsRestOf clashes days from last other → one ≡ first_upto last left
    → two ≡ first_upto last other → found ≡ sooner_of one two → found ≡ it
    → IsFirstFrom (IsStopOn (λ d. Contains holidays d ⊎ Contains clashes d) days) from last it
rests-found holidays clashes days from last left other one two found it first second is_one is_two sooner is =
    subst (λ (o : Option ℕ). IsFirstFrom (IsStopOn (λ d. Contains holidays d ⊎ Contains clashes d) days) from last o) (sym sooner ∙ is)
    (first-stop holidays clashes days from last one two
    (subst (IsFirstFrom (IsDateOnDaysRun holidays days) from last) (sym is_one) (rest-found holidays days from last left first))
    (subst (IsFirstFrom (IsDateOnDaysRun clashes days) from last) (sym is_two) (rest-found clashes days from last other second)))

-- ---- one cut after another

module _ {K B : Type 0} (Stops : ℕ → Type 0) (k : K) (r : Terms B) where
  -- the records that were there, and those of the parts before `first`, on which another may begin
  pub record IsCutUpTo (old now : List (K × Terms B)) (first : ℕ) : Type 0 where
    pub own : List Part
    pub are : now ≡ old ++ map (part_entry k r) own
    pub so_far : ArePartsBefore Stops r first own
    pub begins : MayBegin Stops r first

  pub cut-nothing : (old : List (K × Terms B)) → r.first ≤ r.last → IsCutUpTo old old r.first
  cut-nothing old up = record { own = []; are = sym (append-nil old); so_far = parts-none Stops r; begins = may-begin Stops r up }

  module _ (old now : List (K × Terms B)) (first : ℕ) (cut : IsCutUpTo old now first) (new : List (K × Terms B)) where
    -- the part up to the record's last day ends the list
    pub cut-end : IsAdded k r first r.last now new → IsFirstFrom (IsStopOn Stops r.days) first r.last None → AreAdded Stops k r old new
    cut-end added none =
        let p : Part = record { first = first; last = r.last } in (
          cut.own ++ p ∷ [],
          parts-last Stops r first cut.own cut.so_far cut.begins none,
          added ∙ ap (λ l. l ++ (k, terms_on r first r.last) ∷ []) cut.are
              ∙ append_assoc old (map (part_entry k r) cut.own) ((k, terms_on r first r.last) ∷ [])
              ∙ ap (λ l. old ++ l) (ap (λ q. map (part_entry k r) cut.own ++ q ∷ [])
              (let up = cut.begins.upto in
              let same : terms_on r first r.last ≡ record r { first = first; last = r.last } =
              ap (λ (m : ℕ). record r { first = first; last = m }) (omega arith) in
              ap (λ (t : Terms B). (k, t)) same)
              ∙ sym (map-append (part_entry k r) cut.own (p ∷ []))),
        )

    -- a cut
    module _ (stop : ℕ) (added : new ≡ now ++ added_before k r first stop)
        (found : IsFirstFrom (IsStopOn Stops r.days) first r.last (Some stop)) where
      joined : new ≡ old ++ map (part_entry k r) (cut.own ++ before_cut first stop)
      joined = added ∙ ap (λ l. l ++ added_before k r first stop) cut.are
          ∙ append_assoc old (map (part_entry k r) cut.own) (added_before k r first stop)
          ∙ ap (λ l. old ++ l) (sym (map-append (part_entry k r) cut.own (before_cut first stop)))

      pub cut-last : ¬ stop < r.last → AreAdded Stops k r old new
      cut-last end = (
        cut.own ++ before_cut first stop,
        parts-cut_last Stops r first cut.own cut.so_far cut.begins stop found (omega arith),
        joined,
      )

      pub cut-next : stop < r.last → IsCutUpTo old new (stop + 1)
      cut-next more =
          let next = parts-next Stops r first cut.own cut.so_far cut.begins stop found more in
          record { own = cut.own ++ before_cut first stop; are = joined; so_far = next.0; begins = next.1 }

-- a record that nothing stops is its one part
pub never-stopped : {K B : Type 0} (holidays clashes : List ℕ) (k : K) (r : Terms B) (old new : List (K × Terms B)) → r.first ≤ r.last
    → holidays ≡ [] → clashes ≡ [] → IsAdded k r r.first r.last old new
    → AreAdded (λ d. Contains holidays d ⊎ Contains clashes d) k r old new
never-stopped holidays clashes k r old new up none nor added =
    let Stops = λ (d : ℕ). Contains holidays d ⊎ Contains clashes d in
    cut-end Stops k r old old r.first (cut-nothing Stops k r old up) new added (λ d early late stop. ⊎_elim
    (λ has. Contains-none d (subst (λ (l : List ℕ). Contains l d) none has))
    (λ has. Contains-none d (subst (λ (l : List ℕ). Contains l d) nor has))
    stop.stops)

-- ---- one record more

-- a record that was pushed
pub pushed-is : {E D : Type 0} (x : PreparedRecord E D) (e : E) (first last : D) (old new : List (PreparedRecord E D)) → new ≡ old ++ x ∷ []
    → x.entry.now ≡ e → x.first ≡ first → x.last ≡ last → IsPushed e first last old new
pushed-is x e first last old new items is_of is_first is_last =
    record { pushed = x; items = items; is_of = is_of; is_first = is_first; is_last = is_last }

module _ {E K B : Type 0} (key : E → K) (terms : E → Terms B) where
  abbrev entry_of : PreparedRecord E ℕ → K × Terms B
  entry_of p = (key p.entry.now, terms_on (terms p.entry.now) p.first p.last)

  -- it comes behind the others
  pub pushed-added : (e : E) (first last : ℕ) (old new : List (PreparedRecord E ℕ)) → IsPushed e first last old new
      → IsAdded (key e) (terms e) first last (records_on key terms old) (records_on key terms new)
  pushed-added e first last old new p =
      ap (map entry_of) p.items ∙ map-append entry_of old (p.pushed ∷ [])
      ∙ ap (λ q. map entry_of old ++ q ∷ []) (rw (p.is_of, p.is_first, p.is_last) refl)

  pub pushed-from : (e : E) (first n last : ℕ) (old new : List (PreparedRecord E ℕ)) → first ≡ n → IsPushed e first last old new
      → IsAdded (key e) (terms e) n last (records_on key terms old) (records_on key terms new)
  pushed-from e first n last old new same p =
      subst (λ (m : ℕ). IsAdded (key e) (terms e) m last (records_on key terms old) (records_on key terms new)) same
      (pushed-added e first last old new p)

-- a date that is left is one of them
pub left-contains : (dates later : List ℕ) (place index date : ℕ) → later ≡ drop place dates → index < length later
    → date ≡ get_or later index date → Contains dates date
left-contains dates later place index date is below at =
    let long : length later ≡ length dates - place = ap length is ∙ length-drop place dates in (
      place + index,
      (let there : place + index < length dates = omega arith in there),
      sym (at ∙ ap (λ (l : List ℕ). get_or l index date) is ∙ get_or-drop place dates index date),
    )
