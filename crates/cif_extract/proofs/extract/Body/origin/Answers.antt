-- The journey's first line spells its LO (`some_journey`), so `read` gives that (`only`) and refuses nothing.
use Rattle.cif_extract.proofs.Names.{Ok, SpellsOrigin, [], ap, arith, get_or, is_ok, length, parts_in, subst, sym, ◌∙◌, ◌≡◌}
use Rattle.cif_extract.proofs.{Bodies.some_journey, extract.Body.origin.Goals.After-read}
use Rattle.cif_extract.proofs.extract.Body.origin.Goals as goal

read : (c : After-read) → c.read.result ≡ Ok (parts_in c.args.self.now).origin
read c =
    let it = (parts_in c.args.self.now).origin in
    let line = c.first.ensures ∙ ap (λ lines. get_or lines 0 []) c.journey.ensures.journey in
    c.read.ensures.only it (subst (λ l. SpellsOrigin l it) (sym line) (some_journey c.args.self.now c.journey.ensures.keep).begun)

pub unwrap-requires : goal.unwrap-requires
unwrap-requires c = ap is_ok (read c)

pub returns : goal.returns
returns c =
    let said = read (goal.at.returns c).After-read in
    let given = c.unwrap.ensures in
    cc

pub first-requires : goal.first-requires
first-requires c = omega (arith, ap length c.journey.ensures.journey, (some_journey c.args.self.now c.journey.ensures.keep).longer)
