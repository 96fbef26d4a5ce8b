-- Of one letter: two leaders agree or differ (`leaders_agree`, `leaders_differ`), and who is disputed stays so.
use Rattle.cif_calendar.proofs.{Names.iff_false, Winning.first-stays, Winning.leaders_agree, Winning.leaders_differ, Winning.other-stays}
use Rattle.cif_calendar.proofs.standing.level.Goals as goal

pub returns-in_default-clause-stands : goal.returns-in_default-clause-stands
returns-in_default-clause-stands g c n is also = first-stays _ _ n c.args.one c.args.other c.in_default.not-Leader is also

pub returns-in_default-other-clause-stands : goal.returns-in_default-other-clause-stands
returns-in_default-other-clause-stands g c n is also =
    rw c.in-Leader.is (other-stays _ _ n c.in-Leader.leader c.args.other c.in_default-other.not-Leader (rw c.in-Leader.is at is) also)

pub returns-then-have_one_body-clause-stands : goal.returns-then-have_one_body-clause-stands
returns-then-have_one_body-clause-stands g c n is also = rw (c.in-Leader.is, c.in-Leader-other.is)
    (leaders_agree _ _ n c.in-Leader.leader c.in-Leader-other.rival (rw c.in-Leader.is at is) (rw c.in-Leader-other.is at also)
    (c.have_one_body.ensures.exact.0 c.if-have_one_body.true))

pub returns-else-have_one_body-clause-stands : goal.returns-else-have_one_body-clause-stands
returns-else-have_one_body-clause-stands g c n is also = rw (c.in-Leader.is, c.in-Leader-other.is)
    (leaders_differ _ _ n c.in-Leader.leader c.in-Leader-other.rival (rw c.in-Leader.is at is) (rw c.in-Leader-other.is at also)
    (iff_false c.have_one_body.ensures.exact c.if-have_one_body.false))
