-- What the marks of explained records say of what runs.
use Rattle.cif_views.proofs.Names.{AreExplained, AreLawful, Contains, Contains-cases, Contains-first, Contains-rest, Equal, Explained}
use Rattle.cif_views.proofs.Names.{Greater, HasWinningMark, IsClear, IsMarked, Less, List, Mark, None, Option, Ordering, Records, Runs}
use Rattle.cif_views.proofs.Names.{Some, SomeApplies, Terms, Wins, [], ap, arith, at-contains, cases_lt, contains-at, inl, inr, is_some}
use Rattle.cif_views.proofs.Names.{of_key, ordering_reverse, precedence, refl, subst, sym, ℕ, ⊎_elim, ◌<◌, ◌↔◌, ◌∙◌, ◌∷◌, ◌≡◌, ◌≤◌, ◌⊎◌}
use Rattle.cif_views.specs.declared.marks.Mark.TheVariants as mark

-- what compares as it does the other way round compares equal
pub equal-itself : (o : Ordering) → o ≡ ordering_reverse o → o ≡ Equal
equal-itself Equal h = refl
equal-itself _ h = absurd (cc)

-- winners that agree have the body that runs
winner-runs : {B : Type 0} (records : Records B) (d : ℕ) (r : Terms B) → AreLawful records → Wins records d r → IsClear records d
    → (o : Option B) → r.body ≡ o → Runs records d o
winner-runs records d r lawful wins clear (Some b) is = record { winner = r; wins = wins; body = is }
winner-runs records d r lawful wins clear None is = record {
  cancelled = λ s w. (lawful.cancelled s w.listed).0 (ap is_some (clear.agree s r w wins ∙ is));
}

marked-runs : {B : Type 0} (records : Records B) (d : ℕ) (r : Terms B) (m : Mark) → m ≡ mark.Wins → AreLawful records
    → IsMarked records d r m → Runs records d r.body
marked-runs records d r mark.Wins is lawful marked = winner-runs records d r lawful marked.0 marked.1 r.body refl
marked-runs records d r mark.Clash is lawful marked = absurd (cc)
marked-runs records d r mark.Hidden is lawful marked = absurd (cc)

-- a winner is marked so where all agree
winning-mark : {B : Type 0} (records : Records B) (d : ℕ) (r : Terms B) (m : Mark) → Wins records d r → IsClear records d
    → IsMarked records d r m → m ≡ mark.Wins
winning-mark records d r mark.Wins wins clear marked = refl
winning-mark records d r mark.Clash wins clear marked =
    let clash = marked.1 in absurd (clash.bodies_differ (clear.agree clash.one clash.other clash.one_wins clash.other_wins))
winning-mark records d r mark.Hidden wins clear marked = absurd (marked wins)

module _ {K B : Type 0} (cmp : K → K → Ordering) (same : (j k : K) → cmp j k ≡ Equal → j ≡ k) (self : (k : K) → cmp k k ≡ Equal) (k : K)
  where
    -- one of the key's records whose precedence is not after those of the others
    record IsFirst (es : List (Explained K B)) : Type 0 where
      one : Explained K B
      member : Contains es one
      key : one.key ≡ k
      least : (e : Explained K B) → Contains es e → e.key ≡ k → precedence one.terms ≤ precedence e.terms

    abbrev NoneHasKey : List (Explained K B) → Type 0
    NoneHasKey es = (e : Explained K B) → Contains es e → e.key ≡ k → ⊥

    first-or-none : (es : List (Explained K B)) → NoneHasKey es ⊎ IsFirst es
    first-or-none [] = inl (λ e in_e. let lt : in_e.0 < 0 = in_e.1 in absurd (omega (arith, lt)))
    first-or-none (x ∷ es) = with_key (cmp x.key k) refl (first-or-none es)
      where
        other : (x.key ≡ k → ⊥) → NoneHasKey es ⊎ IsFirst es → NoneHasKey (x ∷ es) ⊎ IsFirst (x ∷ es)
        other not_x (inl none) =
            inl (λ e in_e key. ⊎_elim (λ is. not_x (subst (λ (y : Explained K B). y.key ≡ k) (sym is) key)) (λ later. none e later key)
            (Contains-cases x es e in_e))
        other not_x (inr first) = inr (record {
          one = first.one;
          member = Contains-rest x es first.one first.member;
          key = first.key;
          least = λ e in_e key. ⊎_elim (λ is. absurd (not_x (subst (λ (y : Explained K B). y.key ≡ k) (sym is) key)))
              (λ later. first.least e later key) (Contains-cases x es e in_e);
        })

        beside : x.key ≡ k → NoneHasKey es ⊎ IsFirst es → IsFirst (x ∷ es)
        beside is_x (inl none) = record {
          one = x;
          member = Contains-first x es;
          key = is_x;
          least = λ e in_e key. ⊎_elim (λ (is : x ≡ e). subst (λ (y : Explained K B). precedence x.terms ≤ precedence y.terms) is
              (omega arith)) (λ later. absurd (none e later key)) (Contains-cases x es e in_e);
        }
        beside is_x (inr first) = ⊎_elim
            (λ before. record {
              one = x;
              member = Contains-first x es;
              key = is_x;
              least = λ e in_e key. ⊎_elim (λ (is : x ≡ e). subst (λ (y : Explained K B). precedence x.terms ≤ precedence y.terms) is
                  (omega arith))
                  (λ later. let le = first.least e later key in omega (arith, le, before)) (Contains-cases x es e in_e);
            })
            (λ after. record {
              one = first.one;
              member = Contains-rest x es first.one first.member;
              key = first.key;
              least = λ e in_e key. ⊎_elim
                  (λ (is : x ≡ e). subst (λ (y : Explained K B). precedence first.one.terms ≤ precedence y.terms) is after)
                  (λ later. first.least e later key) (Contains-cases x es e in_e);
            })
            (cases_lt (precedence x.terms) (precedence first.one.terms))

        with_key : (o : Ordering) → cmp x.key k ≡ o → NoneHasKey es ⊎ IsFirst es → NoneHasKey (x ∷ es) ⊎ IsFirst (x ∷ es)
        with_key Equal is h = inr (beside (same x.key k is) h)
        with_key Less is h = other (λ e. let c : cmp x.key k ≡ Equal = ap (λ j. cmp j k) e ∙ self k in absurd (cc)) h
        with_key Greater is h = other (λ e. let c : cmp x.key k ≡ Equal = ap (λ j. cmp j k) e ∙ self k in absurd (cc)) h

module _ {K B : Type 0} (cmp : K → K → Ordering) (IsOf : K → List ℕ → Type 0) (entries : List (K × Terms B)) (u : List ℕ) (d : ℕ)
    (es : List (Explained K B)) (are : AreExplained cmp IsOf entries u d es) where
  pub wins-runs : (e : Explained K B) → AreLawful (of_key entries e.key) → Contains es e → e.mark ≡ mark.Wins
      → Runs (of_key entries e.key) d e.terms.body
  wins-runs e lawful in_e is = marked-runs (of_key entries e.key) d e.terms e.mark is lawful (are.found e in_e).marked

  pub wins-agree : (same : (j k : K) → cmp j k ≡ Equal → j ≡ k) (self : (k : K) → cmp k k ≡ Equal) (k : K) → IsOf k u
      → HasWinningMark es k ↔ (SomeApplies (of_key entries k) d × IsClear (of_key entries k) d)
  wins-agree same self k train = (forth, λ h. back h.0 h.1 (first-or-none cmp same self k es))
    where
      forth : HasWinningMark es k → SomeApplies (of_key entries k) d × IsClear (of_key entries k) d
      forth h =
          let e = h.one in
          let is = are.found e h.member in
          let clear : IsClear (of_key entries e.key) d = clear_of e.mark h.wins is.marked in (
            record {
              one = e.terms;
              listed = subst (λ j. of_key entries j e.terms) h.key (contains-at entries e.place (e.key, e.terms) is.at);
              applies = is.applies;
            },
            subst (λ j. IsClear (of_key entries j) d) h.key clear,
          )
        where
          clear_of : (m : Mark) → m ≡ mark.Wins → IsMarked (of_key entries h.one.key) d h.one.terms m → IsClear (of_key entries h.one.key) d
          clear_of mark.Wins is marked = marked.1
          clear_of mark.Clash is marked = absurd (cc)
          clear_of mark.Hidden is marked = absurd (cc)

      back : SomeApplies (of_key entries k) d → IsClear (of_key entries k) d → NoneHasKey cmp same self k es ⊎ IsFirst cmp same self k es
          → HasWinningMark es k
      back some clear (inl none) =
          let place = at-contains entries (k, some.one) some.listed in
          let found = are.all place.0 k some.one place.1 train some.applies in
          absurd (none _ found.1 refl)
      back some clear (inr first) =
          let e = first.one in
          let is = are.found e first.member in
          let wins : Wins (of_key entries k) d e.terms = record {
            listed = subst (λ j. of_key entries j e.terms) first.key (contains-at entries e.place (e.key, e.terms) is.at);
            applies = is.applies;
            least = λ s in_s on.
                let place = at-contains entries (k, s) in_s in
                let found = are.all place.0 k s place.1 train on in
                first.least _ found.1 refl;
          } in
          record {
            one = e;
            member = first.member;
            key = first.key;
            wins = winning-mark (of_key entries k) d e.terms e.mark wins clear
                (subst (λ j. IsMarked (of_key entries j) d e.terms e.mark) first.key is.marked);
          }
