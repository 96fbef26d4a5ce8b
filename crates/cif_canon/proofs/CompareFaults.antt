-- Why two extracts aren't compared.
use Rattle.cif_canon.proofs.Names.{Bool, Clash, ExtractParts, Fault, Header, IsCanonFault, IsClearExtract, IsCompareFault, IsFirstClashIn}
use Rattle.cif_canon.proofs.Names.{ap, eqb, eqb-true, false, header_window, not, not-false, sym, window_from, ◌∙◌, ◌≡◌, ◌⊎◌}
use Rattle.cif_extract.specs.declared.fault.Fault.TheVariants as fault

-- headers whose dates aren't found to differ have one window
pub one-window : (h k : Header) (firsts lasts : Bool) → firsts ≡ not (eqb h.first k.first) → firsts ≡ false →
    lasts ≡ not (eqb h.last k.last) → lasts ≡ false → header_window h ≡ header_window k
one-window h k firsts lasts f first l last =
    ap (λ n. window_from n h.last) (eqb-true h.first k.first (not-false _ (sym f ∙ first)))
    ∙ ap (λ n. window_from k.first n) (eqb-true h.last k.last (not-false _ (sym l ∙ last)))

-- the fault of one of two extracts with one window
pub compare-fault : (x y z : ExtractParts) → header_window x.header ≡ header_window y.header →
    ((clash : Clash) → IsFirstClashIn z clash → IsFirstClashIn x clash ⊎ (IsClearExtract x × IsFirstClashIn y clash)) →
    (why : Fault) → IsCanonFault z why → IsCompareFault x y why
compare-fault x y z same either (fault.Ambiguous clash) h = (same, either clash h)
compare-fault x y z same either fault.Memory h = same
compare-fault x y z same either _ h = absurd h
