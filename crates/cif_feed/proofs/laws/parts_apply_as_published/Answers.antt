-- One way the parts cover the days without a cut, and the other way they have no cut.
use Rattle.cif_feed.proofs.{Names.All-contains, Names.IsPart, Names.IsStop, PartLists.listed-part}
use Rattle.cif_feed.proofs.laws.parts_apply_as_published.Goals as goal

pub returns-clause-all : goal.returns-clause-all
returns-clause-all g c = λ drops h entries first to k code r parts p are.
    let Stops = IsStop drops h entries first to k code in (
      λ listed. All-contains (IsPart Stops r) parts p are.are listed,
      λ is. listed-part Stops r parts are p is,
    )
