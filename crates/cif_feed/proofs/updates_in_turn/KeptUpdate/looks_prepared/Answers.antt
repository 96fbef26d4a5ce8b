-- By what was read of the full extract, if it was read.
use Rattle.cif_feed.proofs.Names.{refl, sym}
use Rattle.cif_feed.proofs.updates_in_turn.KeptUpdate.looks_prepared.Goals as goal

pub returns-then-not-have_marks : goal.returns-then-not-have_marks
returns-then-not-have_marks c =
    rw (c.in-Some.is, sym c.if-not-have_marks.ensures, sym c.as_slice.ensures.value) c.have_marks-then-not-have_marks.ensures

pub returns-else-not-have_marks : goal.returns-else-not-have_marks
returns-else-not-have_marks c =
    rw (c.in-Some.is, sym c.if-not-have_marks.ensures, c.if-not-have_marks.false) refl

pub returns-in-None : goal.returns-in-None
returns-in-None c = rw c.in-None.is refl
