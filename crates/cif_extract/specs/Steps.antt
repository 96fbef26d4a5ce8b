-- What the contracts of the code's own steps speak of. Of public functions only those of `Reading` cite it: by `HasTaken`, of which
-- nothing has to be believed but what these say, and by `no_progress`, `GoesOnPlainly` and `IsTaken`, which cif_feed's own steps cite.
pub mod Reading
