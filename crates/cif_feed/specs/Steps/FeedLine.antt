-- What the readers of lines of feeds give.
use Rattle.std.specs.Prelude.{◌≡◌, ℕ, true, List, Some}
use Rattle.cif_records.specs.{Basic.terms_of, Bodies.has_body, Detail.detail_in}
use Rattle.cif_records.specs.declared.{basic.Basic.Basic, basic.BasicTerms.BasicTerms}
use Rattle.cif_records.specs.declared.record.Record.TheVariants as of
use Rattle.cif_feed.specs.{FeedLine.SpellsInFeed, declared.feed_line.Feed.Feed, declared.holidays.HolidayCodes.HolidayCodes}

-- the line spells a basic schedule with these terms, whose detail, if it has one, stands in its columns
pub record ReadsBasic (feed : Feed) (allowed : HolidayCodes) (line : List ℕ) (t : BasicTerms) : Type 0 where
  pub basic : Basic
  pub terms : t ≡ terms_of basic
  pub spells : SpellsInFeed feed allowed line (of.Basic basic)
  pub detail : has_body basic.letter ≡ true → basic.detail ≡ Some (detail_in line)
