-- The masks of a span's days week by week, and of the days that some of the spans so far have, span by span.
use Rattle.cif_weeks.proofs.Names.{AgreeOn, Bool, Contains, Contains-append_left, Contains-push, Contains-push_cases, HasDay, HaveOneMask}
use Rattle.cif_weeks.proofs.Names.{IsAgreed, IsAmongDates, IsDisputed, IsMask, IsNonDecreasingBy, IsSpanOf, IsWithin, Leads, List, RunsOn}
use Rattle.cif_weeks.proofs.Names.{Shows, SomeOf, Span, Terms, Weeks, Window, [], ap, arith, cases_eq, cases_lt, get_or, get_or-take}
use Rattle.cif_weeks.proofs.Names.{get_or_default, get_or_read_under, inl, inr, is_lt, length, length-take, letter, nat_cmp, refl, rules}
use Rattle.cif_weeks.proofs.Names.{subst, sym, take, take-append-drop, take_all, take_more, true, week_of, weekday_of, ℕ, ⊎_elim, ◌*◌, ◌++◌}
use Rattle.cif_weeks.proofs.Names.{◌+◌, ◌-◌, ◌<◌, ◌↔◌, ◌∙◌, ◌∷◌, ◌≡◌, ◌≢◌, ◌≤◌, ◌⊎◌}
use Rattle.std.specs.Ordering.{ord_max, ord_min}
use Rattle.cif_calendar.specs.Applies.{Applies}
use Rattle.cif_weeks.proofs.{Masks.mask-over, Masks.mask_runs, WeekDays.RunsOn-below}

-- a test of two days
pub day-later : (a b : ℕ) (test : Bool) → test ≡ is_lt (nat_cmp a b) → test ≡ true → a < b
day-later a b test is holds = search rules

-- the days of a record in a window, whose first is the later of two, and whose last the earlier
module _ {B : Type 0} (window : Window) (r : Terms B) (first last : ℕ) (begins : first ≡ ord_max nat_cmp r.first window.first)
    (ends : last ≡ ord_min nat_cmp r.last window.last) where
  from-both : (r.first ≤ first) × (window.first ≤ first) × ((first ≡ r.first) ⊎ (first ≡ window.first))
  from-both = (search rules, search rules, search rules)

  upto-both : (last ≤ r.last) × (last ≤ window.last) × ((last ≡ r.last) ⊎ (last ≡ window.last))
  upto-both = (search rules, search rules, search rules)

  pub span-of : (s : Span) → s.letter ≡ r.letter → ((n : ℕ) → HasDay s n ↔ IsAmongDates first last r.days n) → IsSpanOf window r s
  span-of s is days = let f = from-both in let l = upto-both in record {
    same_letter = is;
    days = λ n. (
      λ has. let d = (days n).0 has in (
        record { from = omega (arith, f.1, d.begun); upto = omega (arith, l.1, d.unfinished) },
        record { begun = omega (arith, f.0, d.begun); unfinished = omega (arith, l.0, d.unfinished); on_weekday = d.on_weekday },
      ),
      λ (within, on). (days n).1 (record {
        begun = omega (arith, f.2, on.begun, within.from);
        unfinished = omega (arith, l.2, on.unfinished, within.upto);
        on_weekday = on.on_weekday;
      }),
    );
  }

  pub span-none : last < first → (n : ℕ) → IsWithin window n → ¬ Applies r n
  span-none none n within on = omega (arith, none, from-both.2, upto-both.2, on.begun, on.unfinished, within.from, within.upto)

-- a week of the span has this mask
pub span-mask : (s : Span) (week : ℕ) (days : List Bool) → s.first_week ≤ week → week ≤ s.last_week → length days ≡ 7
    → (week ≡ s.first_week → s.first_days ≡ days) → (week ≡ s.last_week → s.last_days ≡ days)
    → (s.first_week < week → week < s.last_week → s.days ≡ days) → IsMask (HasDay s) week days
span-mask s week days from upto seven first last between = record {
  seven = seven;
  shows = λ n at has. ⊎_elim
      (λ sooner. ⊎_elim
      (λ later. subst (λ d. RunsOn d (weekday_of n)) (between later sooner) (has.between (omega arith) (omega arith)))
      (λ begins. subst (λ d. RunsOn d (weekday_of n)) (first (omega arith)) (has.first (omega arith)))
      (cases_lt s.first_week week))
      (λ ends. subst (λ d. RunsOn d (weekday_of n)) (last (omega arith)) (has.last (omega arith)))
      (cases_lt week s.last_week);
  only = λ w runs.
      let below = RunsOn-below days w seven runs in
      let real : 4 ≤ week * 7 + w = ⊎_elim
      (λ later. omega arith)
      (λ none. let h = s.begins w (subst (λ d. RunsOn d w) (sym (first (omega arith))) runs) in omega arith)
      (cases_lt 0 week) in
      let n : ℕ = week * 7 + w - 4 in
      let at : week_of n ≡ week = omega arith in
      let day : weekday_of n ≡ w = omega arith in
      let on : RunsOn days (weekday_of n) = subst (λ u. RunsOn days u) (sym day) runs in (
        n,
        at,
        day,
        record {
          from = omega arith;
          upto = omega arith;
          first = λ e. subst (λ d. RunsOn d (weekday_of n)) (sym (first (sym at ∙ e))) on;
          last = λ e. subst (λ d. RunsOn d (weekday_of n)) (sym (last (sym at ∙ e))) on;
          between = λ later sooner. subst (λ d. RunsOn d (weekday_of n)) (sym (between (omega arith) (omega arith))) on;
        },
      );
}

-- one week by itself
pub week-alone : (s : Span) (week until : ℕ) (days : List Bool) → week ≤ until → IsMask (HasDay s) week days →
    HaveOneMask (HasDay s) week until (record { days = days; last = week })
week-alone s week until days upto m = record {
  from = omega arith;
  upto = upto;
  masks = λ v begun unfinished. subst (λ u. IsMask (HasDay s) u days) (let is : week ≡ v = omega arith in is) m;
}

pub take_next : {X : Type 0} (xs : List X) (i : ℕ) (x : X) → i < length xs → x ≡ get_or xs i x → take (i + 1) xs ≡ take i xs ++ x ∷ []
take_next xs i x below is = take_more xs i x below ∙ ap (λ y. take i xs ++ y ∷ []) (sym is)

-- One span more.
module _ {Is : Span → Type 0} {On : Span → ℕ → Type 0} {p : List Span} (t : Span) where
  pub old_or_new : (n : ℕ) → SomeOf Is On (p ++ t ∷ []) n → SomeOf Is On p n ⊎ (Is t × On t n)
  old_or_new n h = ⊎_elim
      (λ old. inl (record { it = h.it; listed = old; is = h.is; on = h.on }))
      (λ same. inr (subst (λ s. Is s × On s n) (sym same) (h.is, h.on)))
      (Contains-push_cases p t h.it h.listed)

  old : (n : ℕ) → SomeOf Is On p n → SomeOf Is On (p ++ t ∷ []) n
  old n h = record { it = h.it; listed = Contains-append_left p (t ∷ []) h.it h.listed; is = h.is; on = h.on }

  module _ {week : ℕ} {so_far : Weeks} where
    -- if it is meant, the masks are united where both are known
    pub some-more : {until : ℕ} {weeks : Weeks} {both : List Bool} → HaveOneMask (SomeOf Is On p) week until so_far → Is t
        → HaveOneMask (On t) week so_far.last weeks → length both ≡ 7
        → ((w : ℕ) → RunsOn both w ↔ (RunsOn so_far.days w ⊎ RunsOn weeks.days w))
        → HaveOneMask (SomeOf Is On (p ++ t ∷ [])) week until (record { days = both; last = weeks.last })
    some-more h is k seven union = record {
      from = k.from;
      upto = omega arith;
      masks = λ v begun unfinished.
          let before = h.masks v begun (omega arith) in
          let here = k.masks v begun unfinished in
          record {
            seven = seven;
            shows = λ n at has. (union (weekday_of n)).1
                (⊎_elim (λ o. inl (before.shows n at o)) (λ new. inr (here.shows n at new.1)) (old_or_new n has));
            only = λ w runs. ⊎_elim
                (λ o. let (n, at, day, has) = before.only w o in (n, at, day, old n has))
                (λ new. let (n, at, day, on) = here.only w new in
                (n, at, day, record { it = t; listed = Contains-push p t; is = is; on = on }))
                ((union w).0 runs);
          };
    }

    -- if it isn't, the mask remains, perhaps for fewer weeks
    pub some-same : {until last : ℕ} → HaveOneMask (SomeOf Is On p) week until so_far → ¬ Is t → week ≤ last → last ≤ so_far.last
        → HaveOneMask (SomeOf Is On (p ++ t ∷ [])) week until (record { days = so_far.days; last = last })
    some-same h other from upto = record {
      from = from;
      upto = omega arith;
      masks = λ v begun unfinished. mask-over v _ (λ n _ has. old n has)
          (λ n _ has. ⊎_elim (λ o. o) (λ new. absurd (other new.0)) (old_or_new n has)) (h.masks v begun (omega arith));
    }

    pub agree-more : {spans : List Span} {it : Weeks} → AgreeOn spans (SomeOf Is On p) week so_far → it.last ≤ so_far.last
        → (Is t → (n : ℕ) → week ≤ week_of n → week_of n ≤ it.last → On t n → IsAgreed spans n)
        → AgreeOn spans (SomeOf Is On (p ++ t ∷ [])) week it
    agree-more h upto k = record {
      agreed = λ n begun unfinished has. ⊎_elim
          (λ o. h.agreed n begun (omega arith) o)
          (λ new. k new.0 n begun unfinished new.1)
          (old_or_new n has);
    }

-- the spans from number k on begin after week `last`
abbrev pub AreLater : List Span → ℕ → ℕ → Type 0
AreLater spans k last = (s : Span) → Contains spans s → Contains (take k spans) s ⊎ (last < s.first_week)

pub later-none : (spans : List Span) (k last : ℕ) → length spans ≤ k → AreLater spans k last
later-none spans k last all s listed = inl (subst (λ v. Contains v s) (sym (take_all k spans all)) listed)

pub later-rest : (spans : List Span) (k last : ℕ) (t : Span) → IsNonDecreasingBy (λ s. s.first_week) spans → k < length spans
    → t ≡ get_or spans k t → last < t.first_week → AreLater spans k last
later-rest spans k last t order below is after s (j, within, at) = ⊎_elim
    (λ less. inl (j, (let long = length-take k spans in omega arith), get_or-take k spans j s less ∙ at))
    (λ from.
    let rises = order k j s from within in
    let first = ap (λ (v : Span). v.first_week) (get_or_read_under spans k (length spans) t s is below refl) in
    let here = ap (λ (v : Span). v.first_week) at in
    inr (omega arith))
    (cases_lt j k)

-- so they have no day in the weeks up to then
module _ {Is : Span → Type 0} {On : Span → ℕ → Type 0} (has : (s : Span) (n : ℕ) → On s n → HasDay s n) (spans : List Span) (k last : ℕ)
    (later : AreLater spans k last) where
  some-first : (n : ℕ) → week_of n ≤ last → SomeOf Is On spans n → SomeOf Is On (take k spans) n
  some-first n upto s = record {
    it = s.it;
    listed = ⊎_elim (λ first. first) (λ after. absurd (omega (arith, (has s.it n s.on).from))) (later s.it s.listed);
    is = s.is;
    on = s.on;
  }

  pub some-all : {week until : ℕ} {days : List Bool}
      → HaveOneMask (SomeOf Is On (take k spans)) week until (record { days = days; last = last })
      → HaveOneMask (SomeOf Is On spans) week until (record { days = days; last = last })
  some-all h = record {
    from = h.from;
    upto = h.upto;
    masks = λ v begun unfinished. mask-over v _
        (λ n at s. record {
          it = s.it;
          listed = subst (λ p. Contains p s.it) (take-append-drop k spans) (Contains-append_left (take k spans) _ s.it s.listed);
          is = s.is;
          on = s.on;
        })
        (λ n at s. some-first n (omega arith) s) (h.masks v begun unfinished);
  }

  pub some-agreed : {p : List Span} {week : ℕ} {days : List Bool}
      → AgreeOn p (SomeOf Is On (take k spans)) week (record { days = days; last = last })
      → AgreeOn p (SomeOf Is On spans) week (record { days = days; last = last })
  some-agreed a = record { agreed = λ n begun unfinished s. a.agreed n begun unfinished (some-first n unfinished s) }

-- one span alone leads on all its days
module _ (spans : List Span) (span : Span) (one : length spans ≡ 1) (is : span ≡ get_or spans 0 span) where
  alone : (s : Span) → Contains spans s → s ≡ span
  alone s (k, below, at) =
      sym at ∙ ap (λ j. get_or spans j s) (let first : k ≡ 0 = omega arith in first) ∙ get_or_default spans 0 s span (omega arith) ∙ sym is

  pub alone-weeks : {source week until : ℕ} {it : Weeks} → span.source ≡ source → HaveOneMask (HasDay span) week until it →
      HaveOneMask (Shows spans source) week until it
  alone-weeks same h = record {
    from = h.from;
    upto = h.upto;
    masks = λ v begun unfinished. mask-over v _
        (λ n at has. record {
          it = span;
          listed = (0, omega arith, sym is);
          is = same;
          on = record { has = has; least = λ t in_t on. omega (arith, ap (λ (u : Span). letter u.letter) (alone t in_t)) };
        })
        (λ n at s. subst (λ t. HasDay t n) (alone s.it s.listed) s.on.has) (h.masks v begun unfinished);
  }

-- span t is over a span, or is its rival: its letter is before the other's, or the same, and their sources differ
abbrev pub IsOver : Span → Span → Type 0
IsOver span t = letter t.letter < letter span.letter

abbrev pub IsRival : Span → Span → Type 0
IsRival span t = (letter t.letter ≡ letter span.letter) × (t.source ≢ span.source)

-- a span leads on its days that no span over it has, and the spans agree where no rival has them
module _ {spans : List Span} {span : Span} {week until last : ℕ} {own : Weeks} {over days : List Bool}
    (h : HaveOneMask (HasDay span) week until own)
    (o : HaveOneMask (SomeOf (IsOver span) HasDay spans) week own.last (record { days = over; last = last }))
    (seven : length days ≡ 7) (minus : (w : ℕ) → RunsOn days w ↔ (RunsOn own.days w × (¬ RunsOn over w))) where
  pub led-weeks : HaveOneMask (λ n. Leads spans n span) week until (record { days = days; last = last })
  led-weeks = record {
    from = o.from;
    upto = omega arith;
    masks = λ v begun unfinished.
        let m = h.masks v begun (omega arith) in
        let k = o.masks v begun unfinished in
        record {
          seven = seven;
          shows = λ n at leads. (minus (weekday_of n)).1 (
            m.shows n at leads.has,
            λ hidden.
                let t = mask_runs (SomeOf (IsOver span) HasDay spans) v over n k at hidden in
                let least = leads.least t.it t.listed t.on in
                omega (arith, t.is),
          );
          only = λ w runs.
              let (own_w, free) = (minus w).0 runs in
              let (n, at, day, has) = m.only w own_w in
              let least = λ (t : Span) (listed : Contains spans t) (has_t : HasDay t n). ⊎_elim
              (λ less. absurd (free (subst (λ w. RunsOn over w) day
              (k.shows n at (record { it = t; listed = listed; is = less; on = has_t })))))
              (λ from. from)
              (cases_lt (letter t.letter) (letter span.letter)) in
              (n, at, day, record { has = has; least = least });
        };
  }

  pub led-agreed : {rivals : List Bool}
      → HaveOneMask (SomeOf (IsRival span) HasDay spans) week own.last (record { days = rivals; last = last })
      → ((w : ℕ) → ¬ (RunsOn days w × RunsOn rivals w)) → Contains spans span
      → AgreeOn spans (λ n. Leads spans n span) week (record { days = days; last = last })
  led-agreed r apart listed = record {
    agreed = λ n begun unfinished leads.
        let one = λ (s : Span) (in_s : Contains spans s) (leads_s : Leads spans n s).
        let there = leads.least s in_s leads_s.has in
        let back = leads_s.least span listed leads.has in
        ⊎_elim
        (λ (same : s.source ≡ span.source). same)
        (λ other. absurd (apart (weekday_of n) (
          (led-weeks.masks (week_of n) begun unfinished).shows n refl leads,
          (r.masks (week_of n) begun unfinished).shows n refl
              (record { it = s; listed = in_s; is = (omega arith, other); on = leads_s.has }),
        )))
        (cases_eq s.source span.source) in
        record { agree = λ s t in_s in_t leads_s leads_t. one s in_s leads_s ∙ sym (one t in_t leads_t) };
  }

-- a day of the first week on which it leads, and a rival has one, is disputed
pub led-disputed : {spans : List Span} {span : Span} {week until last : ℕ} {days rivals : Weeks}
    → HaveOneMask (λ n. Leads spans n span) week until days → HaveOneMask (SomeOf (IsRival span) HasDay spans) week last rivals
    → (w : ℕ) → RunsOn days.days w → RunsOn rivals.days w → Contains spans span → (n : ℕ) × (week_of n ≡ week) × IsDisputed spans n
led-disputed {spans} {span} {week} {rivals = rivals} h r w on both listed =
    let (n, at, day, leads) = (h.masks week (omega arith) h.from).only w on in
    let t = mask_runs (SomeOf (IsRival span) HasDay spans) week rivals.days n (r.masks week (omega arith) r.from) at
    (subst (λ v. RunsOn rivals.days v) (sym day) both) in (
      n,
      at,
      record {
        one = span;
        other = t.it;
        listed = listed;
        other_listed = t.listed;
        leads = leads;
        other_leads = record { has = t.on; least = λ u in_u has_u. omega (arith, leads.least u in_u has_u, t.is) };
        differ = λ e. t.is.1 (sym e);
      },
    )
