-- Members that are looked at together: who wins, and who leads.
use Rattle.cif_calendar.proofs.Names.{Applies, C, Combines, Contains-append_cases, Contains-append_left, Contains-append_right, Disputed}
use Rattle.cif_calendar.proofs.Names.{IsChosen, IsDisputed, IsRank, Leader, Leads, List, Nobody, NoneApplies, Option, P, Records, Some}
use Rattle.cif_calendar.proofs.Names.{Standing, Stands, StandsAt, Stp, Terms, Wins, [], ap, arith, body_at, get_or, inl, inr, length}
use Rattle.cif_calendar.proofs.Names.{letter, map, option_and_then, option_map, precedence, refl, same_Some, slice_get, slice_get-map}
use Rattle.cif_calendar.proofs.Names.{slice_get_read, subst, sym, ℕ, ⊎_elim, ◌++◌, ◌<◌, ◌∙◌, ◌∷◌, ◌≡◌, ◌≤◌, ◌⊎◌}
use Rattle.cif_columns.specs.declared.stp.Stp.TheVariants.{N, O}
use Rattle.cif_calendar.proofs.Elements.{Contains-cases, Contains-first}

-- what an index reads, as a look-up among the terms
pub terms_at : {X Y : Type 0} (f : X → Y) (xs : List X) (i : ℕ) (x : X) → i < length xs → x ≡ get_or xs i x →
    slice_get (map f xs) i ≡ Some (f x)
terms_at f xs i x below is = slice_get-map f xs i ∙ ap (λ o. option_map f o) (slice_get_read xs (length xs) i x refl below is)

-- zs has the records of ys and of ns, and no others
pub record IsUnion {B : Type 0} (ys ns zs : Records B) : Type 0 where
  pub left : (s : Terms B) → ys s → zs s
  pub right : (s : Terms B) → ns s → zs s
  pub only : (s : Terms B) → zs s → ys s ⊎ ns s

pub union-swap : {B : Type 0} (ys ns zs : Records B) → IsUnion ys ns zs → IsUnion ns ys zs
union-swap ys ns zs u = record { left = u.right; right = u.left; only = λ s h. ⊎_elim (λ a. inr a) (λ b. inl b) (u.only s h) }

-- the records at two lists of positions are those at one after the other
pub chosen-union : {B : Type 0} (xs : List (Terms B)) (ms ns : List ℕ) → IsUnion (IsChosen xs ms) (IsChosen xs ns) (IsChosen xs (ms ++ ns))
chosen-union xs ms ns = record {
  left = λ s c. record { position = c.position; member = Contains-append_left ms ns c.position c.member; at = c.at };
  right = λ s c. record { position = c.position; member = Contains-append_right ms ns c.position c.member; at = c.at };
  only = λ s c. ⊎_elim
      (λ a. inl (record { position = c.position; member = a; at = c.at }))
      (λ b. inr (record { position = c.position; member = b; at = c.at }))
      (Contains-append_cases ms ns c.position c.member);
}

-- the record at one position
module _ {B : Type 0} (xs : List (Terms B)) (i : ℕ) (r : Terms B) (at : slice_get xs i ≡ Some r) where
  pub chosen-one : IsChosen xs (i ∷ []) r
  chosen-one = record { position = i; member = Contains-first i []; at = at }

  pub one-chosen : (s : Terms B) → IsChosen xs (i ∷ []) s → r ≡ s
  one-chosen s c = ⊎_elim
      (λ e. same_Some r s (sym at ∙ ap (slice_get xs) e ∙ c.at))
      (λ rest. absurd (let h : rest.0 < 0 = rest.1 in omega arith))
      (Contains-cases i [] c.position c.member)

  pub one-none : (d : ℕ) → (Applies r d → ⊥) → NoneApplies (IsChosen xs (i ∷ [])) d
  one-none d off = record { none = λ s c on. off (subst (λ (q : Terms B). Applies q d) (sym (one-chosen s c)) on) }

  pub one-wins : (d : ℕ) → Applies r d → Wins (IsChosen xs (i ∷ [])) d r
  one-wins d on = record {
    listed = chosen-one;
    applies = on;
    least = λ s c _. let e : precedence r ≡ precedence s = ap (λ (q : Terms B). precedence q) (one-chosen s c) in omega arith;
  }

module _ {B : Type 0} (ys ns zs : Records B) (u : IsUnion ys ns zs) (d : ℕ) where
  -- a winner stays one, where no record of the others is before it
  pub wins-kept : (t : Terms B) → Wins ys d t → ((s : Terms B) → ns s → Applies s d → precedence t ≤ precedence s) → Wins zs d t
  wins-kept t w least = record {
    listed = u.left t w.listed;
    applies = w.applies;
    least = λ s h on. ⊎_elim (λ old. w.least s old on) (λ new. least s new on) (u.only s h);
  }

  pub none-both : NoneApplies ys d → NoneApplies ns d → NoneApplies zs d
  none-both none other = record { none = λ s h on. ⊎_elim (λ old. none.none s old on) (λ new. other.none s new on) (u.only s h) }

  -- a winner won before
  wins-back : (s : Terms B) → Wins zs d s → Wins ys d s ⊎ Wins ns d s
  wins-back s w = ⊎_elim
      (λ old. inl (record { listed = old; applies = w.applies; least = λ q h on. w.least q (u.left q h) on }))
      (λ new. inr (record { listed = new; applies = w.applies; least = λ q h on. w.least q (u.right q h) on }))
      (u.only s w.listed)

  -- who leads, leads on where the others are all behind
  leads-kept : (t : Terms B) → Leads ys d t → ((s : Terms B) → ns s → Applies s d → precedence t < precedence s) → Leads zs d t
  leads-kept t l behind = record {
    wins = wins-kept t l.wins (λ s h on. let k = behind s h on in omega arith);
    undisputed = λ s w. ⊎_elim
        (λ old. l.undisputed s old)
        (λ new.
        let k = behind s new.listed new.applies in
        let j : precedence s ≤ precedence t = w.least t (u.left t l.wins.listed) l.wins.applies in absurd (omega arith))
        (wins-back s w);
  }

  -- or have its letter and its body
  leads-both : (t v : Terms B) → precedence t ≡ precedence v → t.body ≡ v.body → Leads ys d t → Leads ns d v → Leads zs d t
  leads-both t v level same l m = record {
    wins = wins-kept t l.wins (λ s h on. let k : precedence v ≤ precedence s = m.wins.least s h on in omega arith);
    undisputed = λ s w. ⊎_elim (λ old. l.undisputed s old) (λ new. same ∙ m.undisputed s new) (wins-back s w);
  }

  disputed-kept : (t : Terms B) → IsDisputed ys d t → ((s : Terms B) → ns s → Applies s d → precedence t ≤ precedence s) → IsDisputed zs d t
  disputed-kept t l least = record {
    wins = wins-kept t l.wins least;
    rival = l.rival;
    rival_wins = wins-kept l.rival l.rival_wins (λ s h on.
        let k = least s h on in
        let j : precedence l.rival ≤ precedence t = l.rival_wins.least t l.wins.listed l.wins.applies in omega arith);
    apart = l.apart;
  }

-- two winners of one letter with different bodies
disputed-both : {B : Type 0} (ys ns zs : Records B) → IsUnion ys ns zs → (d : ℕ) (t v : Terms B) → precedence t ≡ precedence v →
    (t.body ≡ v.body → ⊥) → Wins ys d t → Wins ns d v → IsDisputed zs d t
disputed-both ys ns zs u d t v level apart w x = record {
  wins = wins-kept ys ns zs u d t w (λ s h on. let k : precedence v ≤ precedence s = x.least s h on in omega arith);
  rival = v;
  rival_wins = wins-kept ns ys zs (union-swap ys ns zs u) d v x (λ s h on.
      let k : precedence t ≤ precedence s = w.least s h on in omega arith);
  apart = apart;
}

letter-below : (s : Stp) → letter s < 255
letter-below P = omega arith
letter-below N = omega arith
letter-below O = omega arith
letter-below C = omega arith

module _ {B : Type 0} (xs : List (Terms B)) (members : List ℕ) where
  -- the body at a number
  pub body-at : (k : ℕ) (t : Terms B) → StandsAt xs members k t → body_at xs (slice_get members k) ≡ t.body
  body-at k t a = ap (body_at xs) a.member ∙ ap (λ (o : Option (Terms B)). option_and_then (λ (v : Terms B). v.body) o) a.at

  -- a record that applies is not before the one that leads
  rank-least : (records : Records B) (d n : ℕ) (st : Standing) → IsRank xs members st n → Stands xs members records d st →
      (s : Terms B) → records s → Applies s d → n ≤ precedence s
  rank-least records d n Nobody is none s h on = absurd (none.none s h on)
  rank-least records d n (Leader k) is (t, at, l) s h on =
      let e = is t at in let j : precedence t ≤ precedence s = l.wins.least s h on in omega arith
  rank-least records d n (Disputed k) is (t, at, l) s h on =
      let e = is t at in let j : precedence t ≤ precedence s = l.wins.least s h on in omega arith

  -- it is behind the standing
  abbrev IsBehind : Standing → Terms B → Type 0
  IsBehind Nobody s = ⊥
  IsBehind (Leader k) s = (t : Terms B) → StandsAt xs members k t → precedence t < precedence s
  IsBehind (Disputed k) s = (t : Terms B) → StandsAt xs members k t → precedence t < precedence s

  rank-behind : (n : ℕ) (st : Standing) (s : Terms B) → IsRank xs members st n → n < precedence s → IsBehind st s
  rank-behind n Nobody s is h = let top = letter-below s.letter in omega arith
  rank-behind n (Leader k) s is h = λ t at. let e = is t at in omega arith
  rank-behind n (Disputed k) s is h = λ t at. let e = is t at in omega arith

  -- a standing stays, where the others that apply are behind it
  stands-kept : (ys ns zs : Records B) → IsUnion ys ns zs → (d : ℕ) (st : Standing) → ((s : Terms B) → ns s → Applies s d → IsBehind st s) →
      Stands xs members ys d st → Stands xs members zs d st
  stands-kept ys ns zs u d Nobody behind none = none-both ys ns zs u d none (record { none = behind })
  stands-kept ys ns zs u d (Leader k) behind (t, at, l) = (t, at, leads-kept ys ns zs u d t l (λ s h on. behind s h on t at))
  stands-kept ys ns zs u d (Disputed k) behind (t, at, l) =
      (t, at, disputed-kept ys ns zs u d t l (λ s h on. let j : precedence t < precedence s = behind s h on t at in omega arith))

  -- Two standings together.
  pub combines_first : (one other : Standing) (a b : ℕ) → IsRank xs members one a → IsRank xs members other b → a < b →
      Combines xs members one other one
  combines_first one other a b is also before = record {
    below = λ n a b. a;
    stands = λ ms ns d h k. stands-kept _ _ _ (chosen-union xs ms ns) d one (λ s c on.
        let j = rank-least _ d b other also k s c on in rank-behind a one s is (omega arith)) h;
  }

  pub combines_second : (one other : Standing) (a b : ℕ) → IsRank xs members one a → IsRank xs members other b → b < a →
      Combines xs members one other other
  combines_second one other a b is also before = record {
    below = λ n a b. b;
    stands = λ ms ns d h k. stands-kept _ _ _ (union-swap _ _ _ (chosen-union xs ms ns)) d other (λ s c on.
        let j = rank-least _ d a one is h s c on in rank-behind b other s also (omega arith)) k;
  }

  pub nobody-combines : (one : Standing) → Combines xs members one Nobody one
  nobody-combines one = record {
    below = λ n a b. a;
    stands = λ ms ns d h k. stands-kept _ _ _ (chosen-union xs ms ns) d one (λ s c on. absurd (k.none s c on)) h;
  }

  -- where those who lead have one letter
  module _ (n : ℕ) where
    -- one who is no leader stays, or is nobody as the other is
    pub first-stays : (one other : Standing) → ((k : ℕ) → one ≡ Leader k → ⊥) → IsRank xs members one n → IsRank xs members other n →
        Combines xs members one other one
    first-stays Nobody other apart is also = record {
      below = λ n a b. a;
      stands = λ ms ns d h i. stands-kept _ _ _ (chosen-union xs ms ns) d Nobody (λ s c on.
          let j = rank-least _ d n other also i s c on in let top = letter-below s.letter in omega arith) h;
    }
    first-stays (Leader k) other apart is also = absurd (apart k refl)
    first-stays (Disputed k) other apart is also = record {
      below = λ n a b. a;
      stands = λ ms ns d (t, at, l) h. let kept = disputed-kept _ _ _ (chosen-union xs ms ns) d t l in
          (t, at, kept (λ s c on. let e = is t at in let j = rank-least _ d n other also h s c on in omega arith));
    }

    pub other-stays : (k : ℕ) (other : Standing) → ((j : ℕ) → other ≡ Leader j → ⊥) → IsRank xs members (Leader k) n →
        IsRank xs members other n → Combines xs members (Leader k) other other
    other-stays k Nobody apart is also = record {
      below = λ n a b. tt;
      stands = λ ms ns d (t, at, l) h. absurd (let e = is t at in let top = letter-below t.letter in omega arith);
    }
    other-stays k (Leader j) apart is also = absurd (apart j refl)
    other-stays k (Disputed j) apart is also = record {
      below = λ n a b. b;
      stands = λ ms ns d h (t, at, l). let kept = disputed-kept _ _ _ (union-swap _ _ _ (chosen-union xs ms ns)) d t l in
          (t, at, kept (λ s c on. let e = also t at in let i = rank-least _ d n (Leader k) is h s c on in omega arith));
    }

    module _ (k j : ℕ) (is : IsRank xs members (Leader k) n) (also : IsRank xs members (Leader j) n) where
      pub leaders_agree : body_at xs (slice_get members k) ≡ body_at xs (slice_get members j) →
          Combines xs members (Leader k) (Leader j) (Leader k)
      leaders_agree same = record {
        below = λ n a b. a;
        stands = λ ms ns d (t, at, l) (v, at_v, m). (
          t,
          at,
          leads-both _ _ _ (chosen-union xs ms ns) d t v (sym (is t at) ∙ also v at_v) (sym (body-at k t at) ∙ same ∙ body-at j v at_v) l m,
        );
      }

      pub leaders_differ : (body_at xs (slice_get members k) ≡ body_at xs (slice_get members j) → ⊥) →
          Combines xs members (Leader k) (Leader j) (Disputed k)
      leaders_differ apart = record {
        below = λ n a b. a;
        stands = λ ms ns d (t, at, l) (v, at_v, m). (
          t,
          at,
          disputed-both _ _ _ (chosen-union xs ms ns) d t v (sym (is t at) ∙ also v at_v)
              (λ same. apart (body-at k t at ∙ same ∙ sym (body-at j v at_v))) l.wins m.wins,
        );
      }

  -- one member alone leads where it applies
  pub one-leads : (k i : ℕ) (r : Terms B) (d : ℕ) → slice_get members k ≡ Some i → slice_get xs i ≡ Some r → Applies r d →
      Stands xs members (IsChosen xs (i ∷ [])) d (Leader k)
  one-leads k i r d member at on = (
    r,
    record { position = i; member = member; at = at },
    record { wins = one-wins xs i r at d on; undisputed = λ s w. ap (λ (q : Terms B). q.body) (one-chosen xs i r at s w.listed) },
  )
