-- What stands for the keys of entries where these are sorted.
use Rattle.std.specs.Prelude.{◌≡◌, ℕ, ◌+◌, ◌*◌, List, [], ◌∷◌, All, map}
use Rattle.std.specs.List.{range_with_len}
use Rattle.cif_columns.specs.Uid.{IsUid}
use Rattle.cif_calendar.specs.{ByKey.HasKey, Terms.Terms}

-- the pairs are the positions of the first n entries, each behind what stands for its key
pub record AreRanked {K B R : Type 0} (stands_for : R → K → Type 0) (entries : List (K × Terms B)) (n : ℕ) (ranked : List (R × ℕ))
    : Type 0 where
  pub positions : map (λ p. p.1) ranked ≡ range_with_len 0 n
  pub ranks : All (λ p. (k : K) → HasKey entries p.1 k → stands_for p.0 k) ranked

-- The number that digits in base 256 spell after those of n, the first counting most.
abbrev pub number_after : ℕ → List ℕ → ℕ
number_after n [] = n
number_after n (digit ∷ digits) = number_after (n * 256 + digit) digits

-- the number has the columns of an identity as its digits
pub record IsNumberOf (number : ℕ) (uid : List ℕ) : Type 0 where
  pub is_uid : IsUid uid
  pub digits : number ≡ number_after 0 uid
