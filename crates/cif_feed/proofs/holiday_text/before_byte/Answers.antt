-- The first place with such a byte (`before-found`), or none (`before-none`).
use Rattle.cif_feed.proofs.HolidayLines.{before-found, before-none}
use Rattle.cif_feed.proofs.holiday_text.before_byte.Goals as goal

pub returns-in-Some : goal.returns-in-Some
returns-in-Some c = before-found c.args.byte c.args.bytes.now c.in-Some.at c.in-Some.ensures

pub returns-in-None : goal.returns-in-None
returns-in-None c = before-none c.args.byte c.args.bytes.now c.in-None.ensures
