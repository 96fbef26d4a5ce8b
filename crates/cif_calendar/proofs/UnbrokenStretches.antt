-- In an unbroken stretch a record applies on all days of a weekday or on none, so the winners of the first week are those of all days.
use Rattle.cif_calendar.proofs.Names.{Applies, IsChosen, IsClear, IsPiece, IsSource, IsUnbroken, List, None, Option, Piece, Records, RunsOn}
use Rattle.cif_calendar.proofs.Names.{Some, Terms, Wins, arith, cases_lt, get_or, get_or-set_other, get_or-set_same, length, min, set}
use Rattle.cif_calendar.proofs.Names.{subst, sym, weekday_of, ℕ, ⊎_elim, ◌%◌, ◌+◌, ◌-◌, ◌<◌, ◌↔◌, ◌∙◌, ◌≡◌, ◌≤◌}

-- d and e are days of one weekday in the stretch
record AreAlike (first last d e : ℕ) : Type 0 where
  d_from : first ≤ d
  d_upto : d ≤ last
  e_from : first ≤ e
  e_upto : e ≤ last
  same : weekday_of d ≡ weekday_of e

alike-back : {first last d e : ℕ} → AreAlike first last d e → AreAlike first last e d
alike-back a = record { d_from = a.e_from; d_upto = a.e_upto; e_from = a.d_from; e_upto = a.d_upto; same = sym a.same }

module _ {B : Type 0} (records : Records B) (first last : ℕ) (u : IsUnbroken records first last) where
  -- A record applies on one of the days exactly if it lies over the first day, and the weekday is in its mask. So a stretch can be found
  -- from the dates.
  applies-over : (d : ℕ) (r : Terms B) → records r → first ≤ d → d ≤ last →
      Applies r d ↔ ((r.first ≤ first) × (first ≤ r.last) × RunsOn r.days (weekday_of d))
  applies-over d r in' from upto = (
    λ on. (
      ⊎_elim
          (λ late. let k = u.begins r in' late in absurd (omega (arith, on.begun)))
          (λ early. early)
          (cases_lt first r.first),
      omega (arith, on.unfinished),
      on.on_weekday,
    ),
    λ (begun, unfinished, on). let k = u.ends r in' unfinished in
        record { begun = omega (arith, begun); unfinished = omega arith; on_weekday = on },
  )

  applies-alike : (d e : ℕ) (r : Terms B) → AreAlike first last d e → records r → Applies r d → Applies r e
  applies-alike d e r a in' on =
      let (begun, unfinished, weekday) = (applies-over d r in' a.d_from a.d_upto).0 on in
      (applies-over e r in' a.e_from a.e_upto).1 (begun, unfinished, subst (λ (w : ℕ). RunsOn r.days w) a.same weekday)

  wins-alike : (d e : ℕ) (r : Terms B) → AreAlike first last d e → Wins records d r → Wins records e r
  wins-alike d e r a w = record {
    listed = w.listed;
    applies = applies-alike d e r a w.listed w.applies;
    least = λ s in' on. w.least s in' (applies-alike e d s (alike-back a) in' on);
  }

  clear-alike : (d e : ℕ) → AreAlike first last d e → IsClear records d → IsClear records e
  clear-alike d e a c = record { agree = λ r s v w. c.agree r s (wins-alike e d r (alike-back a) v) (wins-alike e d s (alike-back a) w) }

module _ {B : Type 0} (xs : List (Terms B)) (members : List ℕ) (first last : ℕ)
    (u : IsUnbroken (IsChosen xs members) first last) where
  source-alike : (d e : ℕ) (o : Option ℕ) → AreAlike first last d e → IsSource xs members d o → IsSource xs members e o
  source-alike d e None a h = record {
    cancelled = λ r w. h.cancelled r (wins-alike (IsChosen xs members) first last u e d r (alike-back a) w);
  }
  source-alike d e (Some i) a h = record {
    member = h.member;
    winner = h.winner;
    at = h.at;
    wins = wins-alike (IsChosen xs members) first last u d e h.winner a h.wins;
    runs = h.runs;
  }

-- the day of the first seven that has d's weekday
abbrev in_week : ℕ → ℕ → ℕ
in_week first d = first + (d - first) % 7

in_week-alike : (first last d : ℕ) → first ≤ d → d ≤ last → AreAlike first last (in_week first d) d
in_week-alike first last d from upto =
    record { d_from = omega arith; d_upto = omega arith; e_from = from; e_upto = upto; same = omega arith }

in_week-before : (first last d : ℕ) → first ≤ d → d ≤ last → in_week first d < min (last + 1) (first + 7)
in_week-before first last d from upto = omega arith

-- the winners of the days from `first` to the day before `to`, which are clear
pub record IsWeekFrom {B : Type 0} (xs : List (Terms B)) (members : List ℕ) (first to : ℕ) (winners : List (Option ℕ)) : Type 0 where
  pub sources : (d : ℕ) → first ≤ d → d < to → IsSource xs members d (get_or winners (weekday_of d) None)
  pub clear : (d : ℕ) → first ≤ d → d < to → IsClear (IsChosen xs members) d
  pub idle : (w : ℕ) → ((d : ℕ) → first ≤ d → d < to → weekday_of d ≡ w → ⊥) → get_or winners w None ≡ None

-- one day more, as a loop says it: w is its weekday, and `to` the next day
pub week-more : {B : Type 0} (xs : List (Terms B)) (members : List ℕ) (first day w to : ℕ) (ws : List (Option ℕ)) (o : Option ℕ) →
    w ≡ weekday_of day → to ≡ day + 1 → length ws ≡ 7 → first ≤ day → day < first + 7 → IsSource xs members day o →
    IsClear (IsChosen xs members) day → IsWeekFrom xs members first day ws → IsWeekFrom xs members first to (set ws w o)
week-more xs members first day w to ws o is next seven from near source clear week = rw (next, is) (record {
  sources = λ d a b. ⊎_elim
      (λ less. rw (get_or-set_other ws (weekday_of day) (weekday_of d) o None (λ e. omega arith)) (week.sources d a less))
      (λ upto. let e : day ≡ d = omega arith in
      subst (λ n. IsSource xs members n (get_or (set ws (weekday_of day) o) (weekday_of n) None)) e
      (rw (get_or-set_same ws (weekday_of day) o None (omega arith)) source))
      (cases_lt d day);
  clear = λ d a b. ⊎_elim
      (λ less. week.clear d a less)
      (λ upto. let e : day ≡ d = omega arith in subst (IsClear (IsChosen xs members)) e clear)
      (cases_lt d day);
  idle = λ v none.
      get_or-set_other ws (weekday_of day) v o None (λ e. none day from (omega arith) (sym e))
      ∙ week.idle v (λ d a b. none d a (omega arith));
})

-- the winners of the first seven days are those of the whole stretch
pub piece-from_week : {B : Type 0} (xs : List (Terms B)) (members : List ℕ) (p : Piece) → IsUnbroken (IsChosen xs members) p.first p.last →
    IsWeekFrom xs members p.first (min (p.last + 1) (p.first + 7)) p.winners → IsPiece xs members p
piece-from_week xs members p u week = record {
  unbroken = u;
  clear = record {
    clear = λ d from upto.
        let e = in_week p.first d in
        let a = in_week-alike p.first p.last d from upto in
        clear-alike (IsChosen xs members) p.first p.last u e d a (week.clear e a.d_from (in_week-before p.first p.last d from upto));
  };
  sources = λ d from upto.
      let e = in_week p.first d in
      let a = in_week-alike p.first p.last d from upto in
      subst (λ (w : ℕ). IsSource xs members d (get_or p.winners w None)) a.same
      (source-alike xs members p.first p.last u e d (get_or p.winners (weekday_of e) None) a
      (week.sources e a.d_from (in_week-before p.first p.last d from upto)));
  idle = λ w none. week.idle w (λ d from before. none d from (omega arith));
}
