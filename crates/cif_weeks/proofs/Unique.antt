-- Two sets of records that have one form and say the same have the same records.
use Rattle.cif_weeks.proofs.Names.{Contains, Form, HaveForm, List, Meets, One}
use Rattle.cif_weeks.proofs.Names.{Option, Permanent, Permanents, SayTheSame, Three, Two, Window}
use Rattle.cif_weeks.proofs.Names.{arith, same_members, ℕ, ◌<◌, ◌≡◌}
use Rattle.cif_weeks.proofs.{UniqueFewest.member-fewest, UniqueWeeks.member-weeks}
pub use Rattle.cif_weeks.proofs.UniqueWeeks.{SayTheSame-from_runs, SayTheSame-sym}

-- a record of the one is one of the other
pub member : {B : Type 0} (form : Form) (window : Window) (xs ys : Permanents B) → HaveForm form window xs → HaveForm form window ys →
    SayTheSame window xs ys → (r : Permanent B) → xs r → ys r
member One window xs ys x y h = member-weeks One tt window xs ys x y h
member Two window xs ys x y h = member-weeks Two tt window xs ys x y h
member Three window xs ys x y h = member-fewest window xs ys x y h

module _ {B : Type 0} (form : Form) (window : Window) where
  -- so two lists that meet the form are equal
  pub unique : (body_on : ℕ → Option B) (xs ys : List (Permanent B)) → Meets form window body_on xs → Meets form window body_on ys → xs ≡ ys
  unique body_on xs ys x y =
      same_members (λ r s. r.first < s.first) (λ r s up down. omega (arith, up, down)) xs ys x.rising y.rising
      (member form window (Contains xs) (Contains ys) x.have_form y.have_form
      (SayTheSame-from_runs window body_on (Contains xs) (Contains ys) x.say y.say))
      (member form window (Contains ys) (Contains xs) y.have_form x.have_form
      (SayTheSame-from_runs window body_on (Contains ys) (Contains xs) y.say x.say))
