-- What an extract says fits the columns of lines.
use Rattle.cif_extract.proofs.Names.{All, All-append, All-cons, All-nil, AllFit, Association, ExtractParts, FitsColumns, List, ScheduleFits}
use Rattle.cif_extract.proofs.Names.{Tiploc, [], ap, association_table, get_or, length, subst, sym, take, take_more, tiploc_table, ℕ, ◌++◌}
use Rattle.cif_extract.proofs.Names.{◌+◌, ◌<◌, ◌∙◌, ◌∷◌, ◌≡◌}
use Rattle.cif_records.proofs.Headers as headers
use Rattle.cif_records.proofs.Tiplocs as tiplocs

-- the locations of an extract
tiplocs_fit : (ts : List Tiploc) → All (λ (t : Tiploc). AllFit (tiploc_table t)) ts
tiplocs_fit [] = All-nil (λ (t : Tiploc). AllFit (tiploc_table t))
tiplocs_fit (t ∷ ts) = All-cons (λ (u : Tiploc). AllFit (tiploc_table u)) t ts (tiplocs.fits t) (tiplocs_fit ts)

-- an extract fits where its associations and its schedules do
pub extract_fits : (x : ExtractParts) → All (λ (a : Association). AllFit (association_table a)) x.associations
    → All ScheduleFits x.schedules → FitsColumns x
extract_fits x associations schedules = record {
  header = headers.fits x.header;
  tiplocs = tiplocs_fit x.tiplocs;
  associations = associations;
  schedules = schedules;
}

-- one more of which P holds
pub one_more : {X : Type 0} (P : X → Type 0) (xs : List X) (i : ℕ) (x : X) → i < length xs → x ≡ get_or xs i x
    → All P (take i xs) → P x → All P (take (i + 1) xs)
one_more P xs i x within is before here =
    subst (All P) (sym (take_more xs i x within ∙ ap (λ y. take i xs ++ y ∷ []) (sym is)))
    (All-append P (take i xs) (x ∷ []) before (All-cons P x [] here (All-nil P)))
