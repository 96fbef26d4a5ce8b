-- Schedules with the same fields are the same; and the one that is closed.
use Rattle.cif_extract.proofs.Names.{BasicTerms, BodyLines, Bool, List, Option, Schedule, Some, Stp, [], ap, closed, false, has_body}
use Rattle.cif_extract.proofs.Names.{is_some, props, refl, schedule_of, true, with_schedule, ℕ, ◌++◌, ◌∷◌, ◌≡◌, ◌≤◌}
use mathlib.Core.HLevel.{Σ_prop_path}

-- what the type keeps of its fields
abbrev Facts : List ℕ × ℕ × ℕ × List Bool × Stp × Option BodyLines → Type 0
Facts v = (v.1 ≤ v.2) × (is_some v.5 ≡ has_body v.4)

pub same_schedule : (r q : Schedule) → r.uid ≡ q.uid → r.first ≡ q.first → r.last ≡ q.last → r.days ≡ q.days → r.letter ≡ q.letter →
    r.body ≡ q.body → r ≡ q
same_schedule r q a b c d e f =
    let parts : ◌≡◌ {A = (v : List ℕ × ℕ × ℕ × List Bool × Stp × Option BodyLines) × Facts v}
    ((r.uid, r.first, r.last, r.days, r.letter, r.body), (r.in_order, r.bodied))
    ((q.uid, q.first, q.last, q.days, q.letter, q.body), (q.in_order, q.bodied)) = Σ_prop_path (λ v. hlevel props) (cc) in
    ap (λ v. record {
      uid = v.0.0;
      first = v.0.1;
      last = v.0.2;
      days = v.0.3;
      letter = v.0.4;
      body = v.0.5;
      in_order = v.1.0;
      bodied = v.1.1;
    }) parts

-- the schedule that is opened is one more, where its letter has a body
pub closed_some : (schedules : List Schedule) (t : BasicTerms) (lines : List (List ℕ)) (runs : true ≡ has_body t.letter)
    → closed schedules (Some t) lines ≡ schedules ++ (schedule_of t (Some lines) runs ∷ [])
closed_some schedules t lines runs = by_letter (has_body t.letter) refl
  where
    by_letter : (b : Bool) (e : b ≡ has_body t.letter)
        → with_schedule schedules t lines b e ≡ schedules ++ (schedule_of t (Some lines) runs ∷ [])
    by_letter true e = ap (λ (s : Schedule). schedules ++ (s ∷ [])) (same_schedule _ _ refl refl refl refl refl refl)
    by_letter false e = cc
