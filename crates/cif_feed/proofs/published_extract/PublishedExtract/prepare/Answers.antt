-- It is cut at no date of its keys (`whole-prepared`).
use Rattle.cif_feed.proofs.Names.{IfOk-weaker, [], key_cmp, nat_cmp, published_parts}
use Rattle.cif_feed.proofs.{ClashingKeys.whole-prepared, FoundKeys.get-none, FoundKeys.reads-none}
use Rattle.cif_feed.proofs.published_extract.PublishedExtract.prepare.Goals as goal

pub returns : goal.returns
returns c = IfOk-weaker _ _ _ (λ x cut. whole-prepared c.args.holidays.now (published_parts c.args.self.now) x
    (cut (λ k. []) (λ k. []) (reads-none _ _ (get-none key_cmp c.new.result c.new.ensures.empty))
    (reads-none _ _ (get-none nat_cmp c.new-2.result c.new-2.ensures.empty)))) c.cut.ensures
