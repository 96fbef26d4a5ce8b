-- Canonical lists of all keys that say the same are equal.
use Rattle.cif_weeks.proofs.Names.{AreCanonical, Contains, Form, IsOneWay, IsTotalOrder, List, Option, Ordering, Permanent, Precedes}
use Rattle.cif_weeks.proofs.Names.{SayTheSame, SayTheSameByKey, SayWhatRunsByKey, Window, arith, inl, inr, less_one_way, not_less, of_key}
use Rattle.cif_weeks.proofs.Names.{same_members, sym, ℕ, ◌<◌, ◌≡◌}
use Rattle.cif_weeks.proofs.Unique.{SayTheSame-from_runs, SayTheSame-sym, member}

module _ {K B : Type 0} (cmp : K → K → Ordering) (total : IsTotalOrder cmp) where
  -- no two pairs come each before the other
  precedes_one_way : IsOneWay (Precedes {K = K} {B = B} cmp)
  precedes_one_way (j, r) (k, s) (inl up) (inl down) = less_one_way cmp total j k up down
  precedes_one_way (j, r) (k, s) (inl up) (inr down) = not_less cmp total j k (sym down.0) up
  precedes_one_way (j, r) (k, s) (inr up) (inl down) = not_less cmp total k j (sym up.0) down
  precedes_one_way (j, r) (k, s) (inr up) (inr down) =
      let a : r.first < s.first = up.1 in
      let b : s.first < r.first = down.1 in
      omega arith

  module _ (form : Form) (window : Window) where
    members : (xs ys : List (K × Permanent B)) → AreCanonical cmp form window xs → AreCanonical cmp form window ys
        → ((k : K) → SayTheSame window (of_key xs k) (of_key ys k)) → (z : K × Permanent B) → Contains xs z → Contains ys z
    members xs ys x y same (k, r) in_xs = member form window (of_key xs k) (of_key ys k) (x.have_form k) (y.have_form k) (same k) r in_xs

    -- canonical lists that say the same are equal
    pub unique_same : (xs ys : List (K × Permanent B)) → AreCanonical cmp form window xs → AreCanonical cmp form window ys
        → SayTheSameByKey window xs ys → xs ≡ ys
    unique_same xs ys x y h =
        same_members (Precedes cmp) precedes_one_way xs ys x.rising y.rising
        (members xs ys x y h.same)
        (members ys xs y x (λ k. SayTheSame-sym window (of_key xs k) (of_key ys k) (h.same k)))

    -- so are those that say what runs
    pub unique_by_key : (body_on : K → ℕ → Option B) (xs ys : List (K × Permanent B))
        → AreCanonical cmp form window xs → SayWhatRunsByKey window body_on xs
        → AreCanonical cmp form window ys → SayWhatRunsByKey window body_on ys → xs ≡ ys
    unique_by_key body_on xs ys x say_x y say_y = unique_same xs ys x y (record {
      same = λ k. SayTheSame-from_runs window (body_on k) (of_key xs k) (of_key ys k) (say_x.say k) (say_y.say k);
    })
