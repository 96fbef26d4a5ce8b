-- The schedules of a canonical form, by the positions of their runs.
use Rattle.cif_canon.proofs.Names.{All, All-head, All-tail, AllZip, HasRecord, IsRunOf, List, Permanent, Run, Terms, [], ap, arith}
use Rattle.cif_canon.proofs.Names.{flat_map, get_or, length, of_run, record_at, refl, slice_get, suc, sym, text_if, zero, ℕ, ◌++◌, ◌<◌}
use Rattle.cif_canon.proofs.{CanonTexts.texts-of_runs, Names.◌∙◌, Names.◌∷◌, Names.◌≡◌}

module _ {K B : Type 0} (entries : List (K × Terms B)) where
  abbrev pub records : List Run → List (K × Permanent B)
  records runs = flat_map (of_run (λ e. e) entries) runs

  -- the record of a run before others
  first-is : (run : Run) (runs : List Run) (have : HasRecord entries run) → records (run ∷ runs) ≡ have.it ∷ records runs
  first-is run runs have = ap (λ o. text_if (λ e. e ∷ []) o ++ records runs) have.is

  pub as-many : (runs : List Run) → All (HasRecord entries) runs → length (records runs) ≡ length runs
  as-many [] have = refl
  as-many (run ∷ runs) have =
      ap length (first-is run runs (All-head (HasRecord entries) run runs have))
      ∙ ap suc (as-many runs (All-tail (HasRecord entries) run runs have))

  pub at-position : (runs : List Run) → All (HasRecord entries) runs → (i : ℕ) (run : Run) → i < length runs → run ≡ get_or runs i run →
      slice_get (records runs) i ≡ record_at entries run
  at-position [] have i run within is = absurd (omega (arith, within))
  at-position (r ∷ runs) have zero run within is =
      let here = All-head (HasRecord entries) r runs have in
      ap (λ (l : List (K × Permanent B)). slice_get l 0) (first-is r runs here) ∙ sym (ap (record_at entries) is ∙ here.is)
  at-position (r ∷ runs) have (suc i) run within is =
      let here = All-head (HasRecord entries) r runs have in
      ap (λ (l : List (K × Permanent B)). slice_get l (suc i)) (first-is r runs here)
      ∙ at-position runs (All-tail (HasRecord entries) r runs have) i run (omega (arith, within)) is

  -- those of canonical records are these
  each : (es : List (K × Permanent B)) → flat_map (λ e. e ∷ []) es ≡ es
  each [] = refl
  each (e ∷ es) = ap (λ (l : List (K × Permanent B)). e ∷ l) (each es)

  pub records-are : (runs : List Run) (es : List (K × Permanent B)) → AllZip (IsRunOf entries) runs es → records runs ≡ es
  records-are runs es zip = texts-of_runs entries (λ e. e ∷ []) runs es zip ∙ each es
