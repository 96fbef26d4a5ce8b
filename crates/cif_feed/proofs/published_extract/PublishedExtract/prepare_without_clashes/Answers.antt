-- What is cut at the clash dates of its keys is the extract without clashes (`ClashingKeys`).
use Rattle.cif_feed.proofs.Names.{get, key_cmp, nat_cmp, published_parts, refl}
use Rattle.cif_feed.proofs.ClashingKeys.{cut-dropped, reported-dropped}
use Rattle.cif_feed.proofs.published_extract.PublishedExtract.prepare_without_clashes.Goals as goal

pub returns : goal.returns
returns c =
    let h = c.args.holidays.now in
    let p = published_parts c.args.self.now in
    let all = c.clash_dates.new.reported.items in
    let associations = get key_cmp c.in_ok-associations.associations in
    let trains = get nat_cmp c.in_ok-associations.trains in
    let found = c.in_ok-associations.ensures in
    record {
      prepared = cut-dropped h p c.new-keys.result.items all c.new-keys.ensures.items associations trains found
          c.in_ok-prepared.prepared (c.in_ok-prepared.ensures found.1.days found.2.days found.1.reads found.2.reads);
      reported = reported-dropped h p c.new-keys.result.items all c.new-keys.ensures.items associations trains found _ _
          c.count_clashing_associations.ensures.count c.count_clashing_schedules.ensures.count _ refl refl;
    }
