-- The date that counting gives is the one that has so many days before it (`date-is`).
use Rattle.cif_views.proofs.Names.{arith, two_digits, ◌≡◌}
use Rattle.cif_views.proofs.LongDates.{date-is, four-digits}
use Rattle.jiff_core.proofs.SignedLemmas.{signed_arith}
unfoldable use Rattle.cif_columns.specs.DayDigits.{date_of}
unfoldable use Rattle.cif_views.specs.Boards.{date_text}
use Rattle.cif_views.proofs.boards.date_text.Goals as goal

pub year_of-year-requires : goal.year_of-year-requires
year_of-year-requires c = four-digits c.args.number c.from_days_since_min-date.result c.requires c.from_days_since_min-date.ensures

pub returns : goal.returns
unfolding date_text
returns c =
    let n = c.args.number in
    let (year, month, day) = date-is n c.from_days_since_min-date.result c.requires c.from_days_since_min-date.ensures in
    let own = c.year_of-year.ensures.year in
    let same : c.year_of-year.result ≡ (date_of n).year = omega (arith, signed_arith, year, own) in
    rw (c.digits_of.ensures, c.digits_of-2.ensures, c.digits_of-3.ensures, c.digits_of-4.ensures, same, month, day)
