-- A kind is found by its identity, and by no other.
use Rattle.cif_records.proofs.Names.{Bool, Hd, IfSome, Kind, List, Some, [], bytes_decides, cond, false, find, is_identity, kinds, refl}
use Rattle.cif_records.proofs.Names.{sym, true, ℕ, ◌∷◌, ◌≡◌}
use Rattle.cif_records.specs.Kind.{identity}

-- the kind that is found has these letters
pub found_kind : (letters : List ℕ) (among : List Kind) → IfSome (find (is_identity letters) among) (λ kind. letters ≡ identity kind)
found_kind letters [] = tt
found_kind letters (kind ∷ others) = at (is_identity letters kind) refl (found_kind letters others)
  where
    at : (b : Bool) → b ≡ is_identity letters kind
        → IfSome (find (is_identity letters) others) (λ k. letters ≡ identity k)
        → IfSome (cond b (Some kind) (find (is_identity letters) others)) (λ k. letters ≡ identity k)
    at true e behind = sym ((bytes_decides (identity kind) letters).0 (sym e))
    at false e behind = behind

-- the kind with these letters is found
pub only_kind : (letters : List ℕ) (kind : Kind) → letters ≡ identity kind → find (is_identity letters) kinds ≡ Some kind
only_kind letters Hd e = rw e
only_kind letters _ e = rw e
