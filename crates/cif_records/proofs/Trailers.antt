-- There is no reason to refuse a line that spells a trailer.
use Rattle.cif_records.proofs.Names.{AllFit, AllStandIn, List, None, codes, printable_fact, refl, ℕ, ◌≡◌}
use Rattle.cif_records.{proofs.Rows.◌&◌, specs.Trailer.trailer_refusal, specs.Trailer.trailer_table}

pub no_refusal : (line : List ℕ) → AllStandIn line trailer_table → trailer_refusal line ≡ None
unfolding trailer_refusal
no_refusal line s = rw s.0

-- it fits its columns
pub fits : AllFit trailer_table
fits = (refl, printable_fact (codes "ZZ") refl) & tt & tt
