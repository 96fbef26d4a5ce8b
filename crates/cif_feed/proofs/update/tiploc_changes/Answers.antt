-- The last of the locations and of the marks go to the front.
use Rattle.cif_feed.proofs.Names.{[], append-nil, refl, sym}
use Rattle.cif_feed.proofs.update.tiploc_changes.Goals as goal

pub loop-tiploc-init : goal.loop-tiploc-init
loop-tiploc-init c = (
  c.requires,
  [],
  [],
  sym (append-nil c.args.tiplocs.items),
  sym (append-nil c.args.marks.items),
  rw c.in_ok-changes.ensures.items refl,
)
