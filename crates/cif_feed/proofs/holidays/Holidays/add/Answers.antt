-- One code has one day more.
use Rattle.cif_feed.proofs.Names.{E, G, IfOk-weaker, X, refl}
use Rattle.cif_feed.proofs.GrownHolidays.{has-more, others-E, others-G, others-X}
use Rattle.cif_feed.proofs.holidays.Holidays.add.Goals as goal

pub returns-in-X : goal.returns-in-X
returns-in-X c = IfOk-weaker _ _ _ (λ done days. has-more _ _ X _ c.insert.ensures.named days (others-X _ refl refl) _ c.in-X.is)
    c.insert.ensures.days

pub returns-in-E : goal.returns-in-E
returns-in-E c = IfOk-weaker _ _ _ (λ done days. has-more _ _ E _ c.insert-in-E.ensures.named days (others-E _ refl refl) _ c.in-E.is)
    c.insert-in-E.ensures.days

pub returns-in-G : goal.returns-in-G
returns-in-G c = IfOk-weaker _ _ _ (λ done days. has-more _ _ G _ c.insert-in-G.ensures.named days (others-G _ refl refl) _ c.in-G.is)
    c.insert-in-G.ensures.days
