-- One code is named, and has no day more.
use Rattle.cif_feed.proofs.Names.{E, G, X, refl}
use Rattle.cif_feed.proofs.GrownHolidays.{has-more, no-more, others-E, others-G, others-X}
use Rattle.cif_feed.proofs.holidays.Holidays.name.Goals as goal

pub returns-in-X : goal.returns-in-X
returns-in-X c = has-more _ _ X _ refl (λ d. no-more _) (others-X _ refl refl) _ c.in-X.is

pub returns-in-E : goal.returns-in-E
returns-in-E c = has-more _ _ E _ refl (λ d. no-more _) (others-E _ refl refl) _ c.in-E.is

pub returns-in-G : goal.returns-in-G
returns-in-G c = has-more _ _ G _ refl (λ d. no-more _) (others-G _ refl refl) _ c.in-G.is
