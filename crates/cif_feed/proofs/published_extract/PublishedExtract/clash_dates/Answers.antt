-- They are found in the associations, and then in the schedules (`all-found`).
use Rattle.cif_feed.proofs.{ClashingKeys.all-found, Names.get, Names.key_cmp, Names.nat_cmp}
use Rattle.cif_feed.proofs.published_extract.PublishedExtract.clash_dates.Goals as goal

pub returns : goal.returns
returns c =
    all-found c.args.holidays.now c.args.self.now c.as_slice.result.now c.as_slice-schedules.result.now c.of-window.result.first
    c.of-window.result.last c.args.reported.now.items c.find_clash_dates.new.reported.items c.find_clash_dates-2.new.reported.items
    (get key_cmp c.in_ok-associations.associations) (get nat_cmp c.in_ok-trains.trains) c.as_slice.ensures.value
    c.as_slice-schedules.ensures.value c.of-window.ensures.first c.of-window.ensures.last c.in_ok-associations.ensures
    c.in_ok-trains.ensures
