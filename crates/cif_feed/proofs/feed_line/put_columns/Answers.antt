-- Both pieces are printable.
use Rattle.cif_feed.proofs.Names.{All-append, All-drop, IsPrintable}
use Rattle.cif_feed.proofs.feed_line.put_columns.Goals as goal

pub returns-then-ne-clause-printable : goal.returns-then-ne-clause-printable
returns-then-ne-clause-printable c = rw c.copy_from_slice.ensures.after (All-append IsPrintable _ _
    c.columns_at-new_tiploc.ensures.printable (All-drop IsPrintable 7 _ c.columns_at-columns.ensures.printable))
