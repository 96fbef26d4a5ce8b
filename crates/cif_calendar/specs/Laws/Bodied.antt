-- The law of an entry's cancellations, from the records' law of bodies.
use Rattle.std.proofs.Common.{◌≡◌, Option, false, refl, sym, ◌∙◌, ap}
use Rattle.std.specs.{Option.is_some, Prelude.IsNone, Prelude.◌↔◌}
use Rattle.cif_columns.specs.declared.stp.Stp.{Stp}
use Rattle.cif_columns.specs.declared.stp.Stp.TheVariants.{P, N, O, C}
use Rattle.cif_records.specs.Bodies.{has_body}

-- only a cancellation has no body
no_body : (letter : Stp) → has_body letter ≡ false → letter ≡ C
no_body C h = refl
no_body N h = absurd (cc)
no_body O h = absurd (cc)
no_body P h = absurd (cc)

-- where a record has a body by its letter, the cancellations have none
pub cancelled-from_bodied : {B : Type 0} (letter : Stp) (body : Option B) → is_some body ≡ has_body letter →
    IsNone body ↔ (letter ≡ C)
cancelled-from_bodied letter body bodied =
    (λ none. no_body letter (sym bodied ∙ none), λ is. bodied ∙ ap has_body is)
