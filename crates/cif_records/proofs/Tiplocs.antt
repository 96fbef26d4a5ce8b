-- A line spells at most one location, and there is no reason to refuse a line that spells one.
use Rattle.cif_records.proofs.Names.{AllFit, ArePrintable, List, None, SpellsTiploc, Tiploc, ap, codes, length, printable_fact, props, refl}
use Rattle.cif_records.proofs.Names.{sym, tiploc_refusal, tiploc_table, ℕ, ◌∙◌, ◌≡◌}
use mathlib.Core.HLevel.{Σ_prop_path}
use Rattle.cif_records.proofs.Rows.{◌&◌}

-- a location is determined by its columns
pub same_tiploc : (t u : Tiploc) → t.columns ≡ u.columns → t ≡ u
same_tiploc t u same =
    let parts : ◌≡◌ {A = (c : List ℕ) × ((length c ≡ 70) × ArePrintable c)}
    (t.columns, (t.wide, t.printable)) (u.columns, (u.wide, u.printable)) =
    Σ_prop_path (λ c. hlevel props) same in
    ap (λ v. record { columns = v.0; wide = v.1.0; printable = v.1.1 }) parts

-- what it says fits its columns
pub fits : (t : Tiploc) → AllFit (tiploc_table t)
fits t = (refl, printable_fact (codes "TI") refl) & (t.wide, t.printable) & tt & tt

pub one_tiploc : (line : List ℕ) (t u : Tiploc) → SpellsTiploc line t → SpellsTiploc line u → t ≡ u
one_tiploc line t u p q = same_tiploc t u (sym p.1.0 ∙ q.1.0)

pub no_refusal : (line : List ℕ) (t : Tiploc) → SpellsTiploc line t → tiploc_refusal line ≡ None
unfolding tiploc_refusal
no_refusal line t p = rw p.0
