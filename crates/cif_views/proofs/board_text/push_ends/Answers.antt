-- What is written of each field is named.
use Rattle.cif_views.proofs.board_text.push_ends.Goals as goal

pub returns : goal.returns
returns g c = rw (c.location_name.ensures, c.location_name-2.ensures) at c.push_fields.ensures
