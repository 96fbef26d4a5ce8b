-- What decides by the clash days that were found (`told-winners`), or the first clash (`first-clash`).
use Rattle.cif_feed.proofs.Names.{AreAllFound, DroppedKey, List, get, key_cmp, nat_cmp, published_parts, refl, subst, sym}
use Rattle.cif_feed.proofs.{FirstPublishedClash.first-clash, ToldWinners.told-winners}
use Rattle.cif_feed.specs.{Steps.Deciding.rows_of, Winners.IsFirstPublishedClash}
use Rattle.cif_extract.specs.declared.fault.Clash.{Clash}
use Rattle.cif_feed.proofs.published_extract.PublishedExtract.winners.Goals as goal

pub returns-clause-winners : goal.returns-clause-winners
returns-clause-winners c =
    let h = c.args.preparation.holidays.now in
    let p = published_parts c.args.self.now in
    let all = c.clash_dates.new.reported.items in
    let associations = get key_cmp c.in_ok-associations.associations in
    let trains = get nat_cmp c.in_ok-associations.trains in
    let found = subst (λ (known : List DroppedKey). AreAllFound h p known all associations trains) c.new-keys.ensures.items
    c.in_ok-associations.ensures in
    told-winners h p all associations trains found c.count_dropped-records.result _ c.in_default.ensures.kept.0 refl
    c.args.preparation.drops_clashes c.in_default.ensures.kept.1 c.count_dropped-records.ensures.none
    c.count_dropped-records.ensures.counted (rows_of c.args.self.now.schedules.items c.in_ok-runs.runs.items)
    (rw (c.as_slice.ensures.value, c.of.ensures.first, c.of.ensures.last) at (c.in_ok-runs.ensures.decides found.2.days found.2.reads))

pub returns-clause-within : goal.returns-clause-within
returns-clause-within c = rw c.as_slice.ensures.value at c.in_ok-runs.ensures.within

pub returns-in-Some-clause-fault : goal.returns-in-Some-clause-fault
returns-in-Some-clause-fault c =
    let h = c.args.preparation.holidays.now in
    let p = published_parts c.args.self.now in
    let all = c.clash_dates.new.reported.items in
    let associations = get key_cmp c.in_ok-associations.associations in
    let trains = get nat_cmp c.in_ok-associations.trains in
    let found = subst (λ (known : List DroppedKey). AreAllFound h p known all associations trains) c.new-keys.ensures.items
    c.in_ok-associations.ensures in
    let (stays, (key, others, is, same)) = c.in-Some.ensures.first in (
      stays,
      subst (λ (x : Clash). IsFirstPublishedClash h p x) (sym same) (first-clash h p all associations trains found key others is),
    )
