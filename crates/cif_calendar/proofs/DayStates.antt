-- What stands on the days of one stretch after another.
use Rattle.cif_calendar.proofs.Names.{AreDayStates, AreStretches, IsDayState, IsStretch, List, Records, SameRecords, Stretch, Terms, []}
use Rattle.cif_calendar.proofs.Names.{arith, cases_lt, drop, drop_more, get_or, get_or-append_seam, get_or_append_left, length}
use Rattle.cif_calendar.proofs.Names.{length-append, subst, sym, ℕ, ⊎_elim, ◌++◌, ◌+◌, ◌<◌, ◌∷◌, ◌≡◌, ◌≤◌}
use Rattle.cif_calendar.proofs.Sets.{IsClash-same, IsClear-same, Wins-same}
use Rattle.cif_calendar.specs.declared.day_state.DayState.{DayState}
use Rattle.cif_calendar.specs.declared.day_state.DayState.TheVariants as state

-- ---- one state

-- sets with the same records have the same states
pub IsDayState-same : {B : Type 0} (xs ys : Records B) → SameRecords xs ys → (d : ℕ) (s : DayState) → IsDayState xs d s → IsDayState ys d s
IsDayState-same xs ys e d state.NoneApplies h = λ r has on. h r ((e.same r).1 has) on
IsDayState-same xs ys e d state.Clash h = IsClash-same xs ys e d h
IsDayState-same xs ys e d (state.Letter letter) (won, clear) = (
  record { winner = won.winner; wins = Wins-same xs ys e d won.winner won.wins; letter_is = won.letter_is },
  IsClear-same xs ys e d clear,
)

pub AreDayStates-same : {B : Type 0} (xs ys : Records B) → SameRecords xs ys → (first to : ℕ) (states : List DayState)
    → AreDayStates xs first to states → AreDayStates ys first to states
AreDayStates-same xs ys e first to states a = record {
  many = a.many;
  each = λ i below. IsDayState-same xs ys e (first + i) (get_or states i state.NoneApplies) (a.each i below);
}

-- ---- one after another

module _ {B : Type 0} (records : Records B) (first to : ℕ) (states more : List DayState) (s : DayState) (is : more ≡ states ++ s ∷ [])
    (so_far : AreDayStates records first to states) (state_is : IsDayState records to s) where
  each-more : (i : ℕ) → i < length (states ++ s ∷ []) → IsDayState records (first + i) (get_or (states ++ s ∷ []) i state.NoneApplies)
  each-more i below = ⊎_elim
      (λ old. subst (IsDayState records (first + i)) (sym (get_or_append_left states (s ∷ []) state.NoneApplies i old)) (so_far.each i old))
      (λ last.
      let at : i ≡ length states = omega (arith, length-append states (s ∷ [])) in
      let day : to ≡ first + i = omega (arith, so_far.many) in
      subst (λ n. IsDayState records n (get_or (states ++ s ∷ []) i state.NoneApplies)) day
      (subst (λ j. IsDayState records to (get_or (states ++ s ∷ []) j state.NoneApplies)) (sym at)
      (subst (IsDayState records to) (sym (get_or-append_seam states s [] state.NoneApplies)) state_is)))
      (cases_lt i (length states))

  pub states-more : (next : ℕ) → to + 1 ≡ next → AreDayStates records first next more
  states-more next end = rw is (record { many = omega (arith, so_far.many, length-append states (s ∷ [])); each = each-more })

-- P holds of what was made of the days before `to`, and the stretches that are left follow, from day `first` on.
pub record IsMadeOf {B S : Type 0} (P : ℕ → List S → Type 0) (xs : List (Terms B)) (members : List ℕ) (last first : ℕ) (ss : List Stretch)
    (made : List S) : Type 0 where
  pub to : ℕ
  pub so_far : P to made
  pub next : to ≤ last → first ≡ to
  pub ahead : AreStretches xs members members (last + 1) to (last + 1) ss

module _ {B S : Type 0} (P : ℕ → List S → Type 0) (xs : List (Terms B)) (members : List ℕ) (last : ℕ) where
  pub made-all : (first : ℕ) (ss : List Stretch) (made : List S) → IsMadeOf P xs members last first ss made → ss ≡ [] → P (last + 1) made
  made-all first ss made a none =
      let end : a.to ≡ last + 1 = rw none at a.ahead in
      subst (λ n. P n made) end a.so_far

  -- s is the stretch at place k
  module _ (first k : ℕ) (ss : List Stretch) (s : Stretch) (made : List S) (below : k < length ss) (at : s ≡ get_or ss k s)
      (a : IsMadeOf P xs members last first (drop k ss) made) where
    both : IsStretch xs members members (last + 1) a.to s
        × AreStretches xs members members (last + 1) (s.last + 1) (last + 1) (drop (k + 1) ss)
    both = rw (drop_more ss k s below, sym at) at a.ahead

    inside : a.to ≤ last
    inside = omega (arith, both.0.in_order, both.0.upto)

    pub stretch-here : (end : ℕ) × IsStretch xs members members end first s
    stretch-here = (last + 1, rw (a.next inside) both.0)

    pub made-next : (next : ℕ) (more : List S) → (s.last < last → next ≡ s.last + 1) → (P first made → P (s.last + 1) more)
        → IsMadeOf P xs members last next (drop (k + 1) ss) more
    made-next next more is added = record {
      to = s.last + 1;
      so_far = added (subst (λ n. P n made) (sym (a.next inside)) a.so_far);
      next = λ upto. is (omega arith);
      ahead = both.1;
    }
