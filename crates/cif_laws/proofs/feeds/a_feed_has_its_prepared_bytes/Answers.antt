-- The holidays' text spells the one of the example; with it the feed prepares to its text, and that has its canonical form.
use Rattle.cif_laws.proofs.ExampleFeed.{example-is-prepared, nothing-dropped, prepared-example-is}
use Rattle.cif_laws.proofs.ExampleHolidays.{example-days, example-spelled}
use Rattle.cif_laws.proofs.feeds.a_feed_has_its_prepared_bytes.Goals as goal

pub returns-clause-prepared : goal.returns-clause-prepared
returns-clause-prepared c = (example-days, nothing-dropped, example-spelled, example-is-prepared)

pub returns-clause-canonical : goal.returns-clause-canonical
returns-clause-canonical c = prepared-example-is
