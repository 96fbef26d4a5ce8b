-- It is the one or the other.
use Rattle.cif_feed.proofs.Names.{Bool, IsPreparedAs, published_parts, subst, sym}
use Rattle.cif_feed.proofs.published_extract.PublishedExtract.prepare_if.Goals as goal

pub returns : goal.returns
returns c =
    subst (λ (b : Bool). IsPreparedAs c.args.preparation.holidays.now b (published_parts c.args.self.now) c.in_ok-prepared.prepared
    c.none.result) (sym c.if-preparation.false)
    (record { prepared = c.in_ok-prepared.ensures; reported = (c.none.ensures.keys, c.none.ensures.records) })
