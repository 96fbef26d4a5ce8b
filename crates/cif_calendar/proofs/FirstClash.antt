-- A clash is what a clear day has not, and the first clash is one.
use Rattle.cif_calendar.proofs.Names.{AreClear, Bool, Equal, Greater, IsClash, IsClear, IsClearFrom, IsFirstClash, IsFirstClashOf}
use Rattle.cif_calendar.proofs.Names.{IsTotalOrder, IsTrue, Less, List, Ordering, Records, Terms, ap, arith, is_eq, of_key}
use Rattle.cif_calendar.proofs.Names.{ordering_reverse, refl, subst, sym, ℕ, ◌<◌, ◌↔◌, ◌∙◌, ◌≡◌}

pub clash-clear : {B : Type 0} (records : Records B) (d : ℕ) → IsClash records d → IsClear records d → ⊥
clash-clear records d c clear = c.bodies_differ (clear.agree c.one c.other c.one_wins c.other_wins)

-- in a window that has a clash not every day is clear
pub first_clash-clear : {B : Type 0} (records : Records B) (first last d : ℕ) → IsFirstClash records first last d →
    IsClearFrom records first last → ⊥
first_clash-clear records first last d c clear = clash-clear records d c.clash (clear.clear d c.from c.upto)

pub IsFirstClash-unique : {B : Type 0} (records : Records B) (first last d e : ℕ) → IsFirstClash records first last d →
    IsFirstClash records first last e → d ≡ e
IsFirstClash-unique records first last d e p q =
    let not_before : d < e → ⊥ = λ h. clash-clear records d p.clash (q.clear_before d p.from h) in
    let not_after : e < d → ⊥ = λ h. clash-clear records e q.clash (p.clear_before e q.from h) in
    omega (arith, not_before, not_after)

-- keys that compare equal are the same, by the laws of an entry's key
pub same_key-cmp : {K : Type 0} (eq : K → K → Bool) (cmp : K → K → Ordering) → ((j k : K) → eq j k ≡ is_eq (cmp j k)) →
    ((j k : K) → IsTrue (eq j k) ↔ (j ≡ k)) → (j k : K) → cmp j k ≡ Equal → j ≡ k
same_key-cmp eq cmp matches same j k e = (same j k).0 (matches j k ∙ ap is_eq e)

module _ {K B : Type 0} (cmp : K → K → Ordering) (total : IsTotalOrder cmp) (same : (j k : K) → cmp j k ≡ Equal → j ≡ k)
    (entries : List (K × Terms B)) (first last : ℕ) where
  first-key : (j k : K) (d e : ℕ) → IsFirstClashOf cmp entries first last j d → IsFirstClashOf cmp entries first last k e →
      (o : Ordering) → cmp j k ≡ o → j ≡ k
  first-key j k d e p q Less h = absurd (first_clash-clear _ first last d p.clash (q.clear_before j h))
  first-key j k d e p q Equal h = same j k h
  first-key j k d e p q Greater h =
      absurd (first_clash-clear _ first last e q.clash (p.clear_before k (total.antisymm k j ∙ ap ordering_reverse h)))

  -- the first clash is of one key
  pub IsFirstClashOf-key : (j k : K) (d e : ℕ) → IsFirstClashOf cmp entries first last j d →
      IsFirstClashOf cmp entries first last k e → j ≡ k
  IsFirstClashOf-key j k d e p q = first-key j k d e p q (cmp j k) refl

  -- and on one day
  pub IsFirstClashOf-day : (j k : K) (d e : ℕ) → IsFirstClashOf cmp entries first last j d →
      IsFirstClashOf cmp entries first last k e → d ≡ e
  IsFirstClashOf-day j k d e p q =
      let key : k ≡ j = sym (IsFirstClashOf-key j k d e p q) in
      IsFirstClash-unique (of_key entries j) first last d e p.clash (subst (λ i. IsFirstClash (of_key entries i) first last e) key q.clash)

  -- entries that have a first clash are not clear
  pub IsFirstClashOf-clear : (k : K) (d : ℕ) → IsFirstClashOf cmp entries first last k d → AreClear entries first last → ⊥
  IsFirstClashOf-clear k d p clear = first_clash-clear (of_key entries k) first last d p.clash (clear.key k)
