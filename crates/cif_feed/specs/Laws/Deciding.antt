-- Dates on which a schedule decides have a body: its position.
use Rattle.std.proofs.Common.{Bool, false, true, ◌≡◌}
use Rattle.std.specs.Prelude.{IsNone, ◌↔◌}
use Rattle.cif_columns.specs.declared.stp.Stp.TheVariants.{C}
use Rattle.cif_weeks.specs.declared.form.Run.{Run}
use Rattle.cif_feed.specs.Steps.Deciding.{terms_of_dates}

-- no letter of theirs is a cancellation's
pub cancelled_dates : (run : Run) (before : Bool) → IsNone (terms_of_dates run before).body ↔ ((terms_of_dates run before).letter ≡ C)
cancelled_dates run true = (λ none. absurd (cc), λ is. absurd (cc))
cancelled_dates run false = (λ none. absurd (cc), λ is. absurd (cc))
