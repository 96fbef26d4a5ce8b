-- What holds of each of some records.
use Rattle.cif_extract.proofs.Names.{List, Record, [], map, ◌++◌, ◌∷◌}

-- P holds of each record
abbrev pub Each : (Record → Type 0) → List Record → Type 0
Each P [] = Unit {0}
Each P (r ∷ records) = P r × Each P records

pub each_append : (P : Record → Type 0) (a b : List Record) → Each P a → Each P b → Each P (a ++ b)
each_append P [] b p q = q
each_append P (r ∷ a) b p q = (p.0, each_append P a b p.1 q)

pub each_so : (P Q : Record → Type 0) → ((r : Record) → P r → Q r) → (rs : List Record) → Each P rs → Each Q rs
each_so P Q f [] h = tt
each_so P Q f (r ∷ rs) h = (f r h.0, each_so P Q f rs h.1)

-- records made of values, of which P holds
pub each_map : {A : Type 0} (P : Record → Type 0) (f : A → Record) → ((x : A) → P (f x)) → (xs : List A) → Each P (map f xs)
each_map P f h [] = tt
each_map P f h (x ∷ xs) = (h x, each_map P f h xs)

pub each_front : (P : Record → Type 0) (a b : List Record) → Each P (a ++ b) → Each P a
each_front P [] b p = tt
each_front P (r ∷ a) b p = (p.0, each_front P a b p.1)

pub each_back : (P : Record → Type 0) (a b : List Record) → Each P (a ++ b) → Each P b
each_back P [] b p = p
each_back P (r ∷ a) b p = each_back P a b p.1
