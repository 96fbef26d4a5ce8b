-- What runs on a day is one thing, and the source of the day has it.
use Rattle.cif_calendar.proofs.Names.{AreLawful, BodyRuns, C, IsChosen, IsClear, IsNone, IsSome, IsSource, List, None, NothingRuns, Option}
use Rattle.cif_calendar.proofs.Names.{Records, Runs, Some, Terms, Wins, ap, body_at, is_some, option_and_then, refl, subst, sym, ℕ, ◌↔◌}
use Rattle.cif_calendar.proofs.Names.{◌∙◌, ◌≡◌}

none-some : {B : Type 0} (r : Terms B) (b : B) → r.body ≡ Some b → IsNone r.body → ⊥
none-some r b e n = let h = rw e at n in cc

-- where a body runs, something runs
pub nothing-body : {B : Type 0} (records : Records B) (d : ℕ) (b : B) → AreLawful records → NothingRuns records d → BodyRuns records d b → ⊥
nothing-body records d b l n q = none-some q.winner b q.body ((l.cancelled q.winner q.wins.listed).1 (n.cancelled q.winner q.wins))

-- where no body runs, nothing does
no_body-cancelled : {B : Type 0} (records : Records B) (d : ℕ) → AreLawful records → ((b : B) → BodyRuns records d b → ⊥) →
    (r : Terms B) → Wins records d r → (o : Option B) → r.body ≡ o → r.letter ≡ C
no_body-cancelled records d l none r w None e = (l.cancelled r w.listed).0 (ap is_some e)
no_body-cancelled records d l none r w (Some b) e = absurd (none b (record { winner = r; wins = w; body = e }))

pub no_body-nothing : {B : Type 0} (records : Records B) (d : ℕ) → AreLawful records → ((b : B) → BodyRuns records d b → ⊥) →
    NothingRuns records d
no_body-nothing records d l none = record { cancelled = λ r w. no_body-cancelled records d l none r w r.body refl }

-- lawful records of which the same bodies run
pub Runs-from_bodies : {B : Type 0} (xs ys : Records B) (d : ℕ) → AreLawful xs → AreLawful ys →
    ((b : B) → BodyRuns xs d b ↔ BodyRuns ys d b) → (o : Option B) → Runs xs d o → Runs ys d o
Runs-from_bodies xs ys d lawful_xs lawful_ys same None n =
    no_body-nothing ys d lawful_ys (λ b runs. nothing-body xs d b lawful_xs n ((same b).1 runs))
Runs-from_bodies xs ys d lawful_xs lawful_ys same (Some b) runs = (same b).0 runs

-- one body runs
pub body-unique : {B : Type 0} (records : Records B) (d : ℕ) (a b : B) → IsClear records d → BodyRuns records d a →
    BodyRuns records d b → a ≡ b
body-unique records d a b clear p q = let h : Some a ≡ Some b = sym p.body ∙ clear.agree p.winner q.winner p.wins q.wins ∙ q.body in cc

-- what runs is one thing
pub Runs-unique : {B : Type 0} (records : Records B) (d : ℕ) (a b : Option B) → AreLawful records → IsClear records d →
    Runs records d a → Runs records d b → a ≡ b
Runs-unique records d None None l clear p q = refl
Runs-unique records d None (Some y) l clear p q = absurd (nothing-body records d y l p q)
Runs-unique records d (Some x) None l clear p q = absurd (nothing-body records d x l q p)
Runs-unique records d (Some x) (Some y) l clear p q = ap Some (body-unique records d x y clear p q)

pub some-body : {B : Type 0} (o : Option B) → IsSome o → (b : B) × (o ≡ Some b)
some-body None h = absurd (cc)
some-body (Some b) h = (b, refl)

-- the source of a day has what runs
pub Runs-from_source : {B : Type 0} (xs : List (Terms B)) (members : List ℕ) (d : ℕ) (o : Option ℕ) → IsSource xs members d o →
    Runs (IsChosen xs members) d (body_at xs o)
Runs-from_source xs members d None h = h
Runs-from_source {B} xs members d (Some i) h =
    let b = some-body h.winner.body h.runs in
    let e : body_at xs (Some i) ≡ Some b.0 = ap (λ (r : Option (Terms B)). option_and_then (λ (t : Terms B). t.body) r) h.at ∙ b.1 in
    subst (λ v. Runs (IsChosen xs members) d v) (sym e) (record { winner = h.winner; wins = h.wins; body = b.1 })
