-- The spans that may not have ended by a week. On the days of these weeks they are all that count.
use Rattle.cif_weeks.proofs.Names.{AgreeOn, Contains, Contains-cases, Contains-rest, HasDay, HaveOneMask, IsAgreed, IsDisputed}
use Rattle.cif_weeks.proofs.Names.{IsNonDecreasingBy, IsNonDecreasingBy-drop, Leads, List, Shows, Span, Weeks, [], ap, arith, cases_lt}
use Rattle.cif_weeks.proofs.Names.{drop, get_or, get_or_read_under, inl, inr, length, refl, subst, sym, take, take_all, week_of, ℕ, ⊎_elim}
use Rattle.cif_weeks.proofs.Names.{◌-◌, ◌<◌, ◌∷◌, ◌≡◌, ◌≤◌, ◌⊎◌}
use Rattle.cif_weeks.proofs.Masks.{mask-over}

-- the spans of p are some of those of q: all that have day n
pub record SameOn (p q : List Span) (n : ℕ) : Type 0 where
  pub some : (s : Span) → Contains p s → Contains q s
  pub all : (s : Span) → Contains q s → HasDay s n → Contains p s

-- so the same spans lead on the day
module _ {p q : List Span} {n : ℕ} (same : SameOn p q n) where
  leads-all : (s : Span) → Leads p n s → Leads q n s
  leads-all s l = record { has = l.has; least = λ t in_t has_t. l.least t (same.all t in_t has_t) has_t }

  leads-some : (s : Span) → Leads q n s → Leads p n s
  leads-some s l = record { has = l.has; least = λ t in_t has_t. l.least t (same.some t in_t) has_t }

  shows-all : {source : ℕ} → Shows p source n → Shows q source n
  shows-all h = record { it = h.it; listed = same.some h.it h.listed; is = h.is; on = leads-all h.it h.on }

  shows-some : {source : ℕ} → Shows q source n → Shows p source n
  shows-some h = record { it = h.it; listed = same.all h.it h.listed h.on.has; is = h.is; on = leads-some h.it h.on }

  agreed-all : IsAgreed p n → IsAgreed q n
  agreed-all h = record {
    agree = λ s t in_s in_t lead_s lead_t.
        h.agree s t (same.all s in_s lead_s.has) (same.all t in_t lead_t.has) (leads-some s lead_s) (leads-some t lead_t);
  }

  pub disputed-all : IsDisputed p n → IsDisputed q n
  disputed-all h = record {
    one = h.one;
    other = h.other;
    listed = same.some h.one h.listed;
    other_listed = same.some h.other h.other_listed;
    leads = leads-all h.one h.leads;
    other_leads = leads-all h.other h.other_leads;
    differ = h.differ;
  }

-- where this is so on each day of some weeks, a source is shown on the same days
module _ {p q : List Span} {week until source : ℕ} {it : Weeks}
    (same : (n : ℕ) → week ≤ week_of n → week_of n ≤ until → SameOn p q n) (h : HaveOneMask (Shows p source) week until it) where
  pub mask-all : HaveOneMask (Shows q source) week it.last it
  mask-all = record {
    from = h.from;
    upto = omega arith;
    masks = λ v begun unfinished. mask-over v _ (λ n at on. shows-all (same n (omega arith) (omega (arith, h.upto))) on)
        (λ n at on. shows-some (same n (omega arith) (omega (arith, h.upto))) on) (h.masks v begun unfinished);
  }

  pub agree-all : AgreeOn p (Shows p source) week it → (n : ℕ) → week ≤ week_of n → week_of n ≤ it.last → Shows q source n → IsAgreed q n
  agree-all a n begun unfinished on =
      let here = same n begun (omega (arith, h.upto)) in agreed-all here (a.agreed n begun unfinished (shows-some here on))

-- The spans that are left, in the order of their first weeks, are those that may have a day from `week` to `last`.
pub record AreLeft (spans left : List Span) (week last : ℕ) : Type 0 where
  pub some : (s : Span) → Contains left s → Contains spans s
  pub all : (s : Span) → Contains spans s → Contains left s ⊎ ((n : ℕ) → HasDay s n → week ≤ week_of n → week_of n ≤ last → ⊥)
  pub order : IsNonDecreasingBy (λ s. s.first_week) left

-- a list with a first element
first-is : (left : List Span) (span : Span) → 1 ≤ length left → span ≡ get_or left 0 span →
    left ≡ span ∷ take (length left - 1) (drop 1 left)
first-is [] span some is = absurd (omega arith)
first-is (s ∷ rest) span some is = rw (take_all (length (s ∷ rest) - 1) rest (omega arith)) (ap (λ v. v ∷ rest) (sym is))

module _ {spans left : List Span} {week last : ℕ} (h : AreLeft spans left week last) where
  pub left-later : (later : ℕ) → week ≤ later → AreLeft spans left later last
  left-later later upto = record {
    some = h.some;
    all = λ s listed. ⊎_elim (λ here. inl here) (λ gone. inr (λ n has from. gone n has (omega (arith, from)))) (h.all s listed);
    order = h.order;
  }

  -- the first of them
  module _ (span : Span) (some : 1 ≤ length left) (is : span ≡ get_or left 0 span) where
    abbrev rest : List Span
    rest = take (length left - 1) (drop 1 left)

    -- it has no such day
    pub left-fewer : ((n : ℕ) → HasDay span n → week ≤ week_of n → week_of n ≤ last → ⊥) → AreLeft spans rest week last
    left-fewer none =
        let cons = first-is left span some is in
        record {
          some = λ s listed. h.some s (subst (λ v. Contains v s) (sym cons) (Contains-rest span rest s listed));
          all = λ s listed. ⊎_elim
              (λ here. ⊎_elim
              (λ same. inr (subst (λ v. (n : ℕ) → HasDay v n → week ≤ week_of n → week_of n ≤ last → ⊥) same none))
              (λ later. inl later)
              (Contains-cases span rest s (subst (λ v. Contains v s) cons here)))
              (λ gone. inr gone)
              (h.all s listed);
          order = IsNonDecreasingBy-drop (λ (s : Span). s.first_week) 1 (span ∷ rest)
              (subst (IsNonDecreasingBy (λ (s : Span). s.first_week)) cons h.order);
        }

    -- before it begins there is no day
    pub none-before : (n : ℕ) → week ≤ week_of n → week_of n ≤ last → week_of n < span.first_week → {source : ℕ} → ¬ Shows spans source n
    none-before n from upto less on = ⊎_elim
        (λ (k, below, at).
        let rises = h.order 0 k on.it (omega arith) below in
        let first = ap (λ (v : Span). v.first_week) (get_or_read_under left 0 (length left) span on.it is (omega arith) refl) in
        let here = ap (λ (v : Span). v.first_week) at in
        omega (arith, on.on.has.from))
        (λ gone. gone n on.on.has from upto)
        (h.all on.it on.listed)

  -- where none is left there is none
  pub none-after : length left < 1 → {source : ℕ} (n : ℕ) → week_of n ≤ last → Shows spans source n → week_of n < week
  none-after none n upto on = ⊎_elim
      (λ less. less)
      (λ from. absurd (⊎_elim (λ (k, below, is). omega arith) (λ gone. gone n on.on.has from upto) (h.all on.it on.listed)))
      (cases_lt (week_of n) week)

  -- on such a day those that are left are all that count
  pub left-same : (n : ℕ) → week ≤ week_of n → week_of n ≤ last → SameOn left spans n
  left-same n from upto = record {
    some = h.some;
    all = λ s listed has. ⊎_elim (λ here. here) (λ gone. absurd (gone n has from upto)) (h.all s listed);
  }
