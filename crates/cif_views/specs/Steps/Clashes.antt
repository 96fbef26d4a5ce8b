-- The clashes of entries by their names. No public clause cites it.
use Rattle.std.specs.Prelude.{◌≡◌, ℕ, List, ◌++◌, map}
use Rattle.std.specs.declared.cmp.Ordering.{Ordering}
use Rattle.cif_calendar.specs.{Clashes.AreClashes, Terms.Terms}
use Rattle.cif_extract.specs.declared.fault.Clash.{Clash}

-- behind the clashes that were known come those of the entries, each by its name
pub record AreAdded {K B : Type 0} (cmp : K → K → Ordering) (name : K → ℕ → Clash) (entries : List (K × Terms B)) (first last : ℕ)
    (known all : List Clash) : Type 0 where
  pub found : List (K × ℕ)
  pub clashes : AreClashes cmp entries first last found
  pub added : all ≡ known ++ map (λ (f : K × ℕ). name f.0 f.1) found
