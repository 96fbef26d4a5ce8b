-- Which bytes are accepted, for a window that is asked for.
use Rattle.std.specs.Prelude.{ℕ, List}
use Rattle.cif_calendar.specs.{Entries.association_entries, Entries.schedule_entries, Keys.AreClear}
use Rattle.cif_extract.specs.{ExtractParts.ExtractParts, SpellsExtract.BytesSpell, SpellsExtract.BytesSpellWithin}
use Rattle.cif_canon.specs.{Asked.IsNarrowed, declared.asked.Asked.Asked}

-- An extract is clear: on no day of its window do two winners of an association's key, or of a train, have different bodies.
pub record IsClearExtract (x : ExtractParts) : Type 0 where
  pub associations : AreClear (association_entries x.associations) x.header.first x.header.last
  pub schedules : AreClear (schedule_entries x.schedules) x.header.first x.header.last

-- The bytes are accepted as x: they spell an extract, which narrowed to the window that is asked for is x, and x is clear.
pub record IsAccepted (asked : Asked) (x : ExtractParts) (bytes : List ℕ) : Type 0 where
  pub whole : ExtractParts
  pub spelled : BytesSpell bytes whole
  pub narrowed : IsNarrowed asked whole x
  pub clear : IsClearExtract x

-- the bytes are at most max lines, which spell an extract, and narrowed to the window that is asked for it is x
pub record SpellsNarrowed (max : ℕ) (asked : Asked) (x : ExtractParts) (bytes : List ℕ) : Type 0 where
  pub whole : ExtractParts
  pub spelled : BytesSpellWithin max bytes whole
  pub narrowed : IsNarrowed asked whole x

-- the bytes are accepted as x, in at most max lines
pub record IsAcceptedWithin (max : ℕ) (asked : Asked) (x : ExtractParts) (bytes : List ℕ) : Type 0 where
  pub spelled : SpellsNarrowed max asked x bytes
  pub clear : IsClearExtract x
