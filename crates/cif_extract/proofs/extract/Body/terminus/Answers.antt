-- The journey's last line spells its LT (`some_journey`), so `read` gives that (`only`) and refuses nothing.
use Rattle.cif_extract.proofs.Names.{Ok, SpellsTerminus, [], ap, arith, get_or, is_ok, length, parts_in, subst, sym, ◌-◌, ◌∙◌, ◌≡◌}
use Rattle.cif_extract.proofs.{Bodies.some_journey, extract.Body.terminus.Goals.After-read}
use Rattle.cif_extract.proofs.extract.Body.terminus.Goals as goal

read : (c : After-read) → c.read.result ≡ Ok (parts_in c.args.self.now).terminus
read c =
    let it = (parts_in c.args.self.now).terminus in
    let line = c.last.ensures ∙ ap (λ lines. get_or lines (length lines - 1) []) c.journey.ensures.journey in
    c.read.ensures.only it (subst (λ l. SpellsTerminus l it) (sym line) (some_journey c.args.self.now c.journey.ensures.keep).ended)

pub unwrap-requires : goal.unwrap-requires
unwrap-requires c = ap is_ok (read c)

pub returns : goal.returns
returns c =
    let said = read (goal.at.returns c).After-read in
    let given = c.unwrap.ensures in
    cc

pub last-requires : goal.last-requires
last-requires c = omega (arith, ap length c.journey.ensures.journey, (some_journey c.args.self.now c.journey.ensures.keep).longer)
