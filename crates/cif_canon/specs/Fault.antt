-- Why there is no canonical form.
use Rattle.std.specs.{Cmp.Lexicographic.slice_cmp, Ordering.nat_cmp, Prelude.List, Prelude.ℕ, Prelude.⊤}
use Rattle.cif_calendar.specs.{Entries.association_entries, Entries.schedule_entries, Keys.AreClear, Keys.IsFirstClashOf}
use Rattle.cif_extract.specs.{ExtractParts.ExtractParts, ExtractParts.extract_parts, ReadCall.ReadCall, ReadCall.reading}
use Rattle.cif_extract.specs.{ReadFault.IsOfReading, ReadFault.IsReadFault, ReadFault.is_read, SpellsExtract.BytesSpellWithin}
use Rattle.cif_extract.specs.{declared.extract.Extract.Extract, declared.fault.Clash.Clash, declared.fault.Clash.TheVariants.Association}
use Rattle.cif_extract.specs.{declared.fault.Clash.TheVariants.Train, declared.fault.Fault.Fault}
use Rattle.cif_extract.specs.declared.fault.Fault.TheVariants.{Ambiguous, OutsideWindow, WindowReversed, Read, Write, Memory}
use Rattle.cif_records.specs.AssocKey.{key_cmp}
use Rattle.cif_canon.specs.{Accepted.SpellsNarrowed, Asked.IsNarrowingFault, declared.asked.Asked.Asked}
use Rattle.cif_columns.specs.Source.{Unread}

-- The first clash of an extract in its window: that of associations, by the least key and its first day, or, where these are clear,
-- that of trains.
abbrev pub IsFirstClashIn : ExtractParts → Clash → Type 0
IsFirstClashIn x (Association key day) =
    IsFirstClashOf key_cmp (association_entries x.associations) x.header.first x.header.last key day
IsFirstClashIn x (Train uid day) =
    AreClear (association_entries x.associations) x.header.first x.header.last
    × IsFirstClashOf (slice_cmp nat_cmp) (schedule_entries x.schedules) x.header.first x.header.last uid day

-- why an extract has no canonical form: its first clash, or memory ran out, of which no contract speaks
abbrev pub IsCanonFault : ExtractParts → Fault → Type 0
IsCanonFault x (Ambiguous clash) = IsFirstClashIn x clash
IsCanonFault x Memory = ⊤
IsCanonFault x _ = ⊥

-- the bytes spell an extract that has this first clash in the window that is asked for
pub record SpellsClash (max : ℕ) (asked : Asked) (bytes : List ℕ) (clash : Clash) : Type 0 where
  pub narrowed : ExtractParts
  pub spelled : SpellsNarrowed max asked narrowed bytes
  pub clash_is : IsFirstClashIn narrowed clash

-- the bytes are at most max lines, which spell an extract, and it isn't narrowed, for this fault
pub record SpellsOtherWindow (max : ℕ) (asked : Asked) (bytes : List ℕ) (fault : Fault) : Type 0 where
  pub whole : ExtractParts
  pub spelled : BytesSpellWithin max bytes whole
  pub fault_is : IsNarrowingFault asked whole.header fault

-- Why bytes aren't read as an extract for the window that is asked for, where `after` is what the reader has left then: the first
-- refusal, or else a window that can't be asked for.
abbrev pub IsReadNarrowedFault : ℕ → Asked → List ℕ → Unread → Fault → Type 0
IsReadNarrowedFault max asked bytes after OutsideWindow = SpellsOtherWindow max asked bytes OutsideWindow
IsReadNarrowedFault max asked bytes after WindowReversed = SpellsOtherWindow max asked bytes WindowReversed
IsReadNarrowedFault max asked bytes after fault = IsReadFault max bytes after fault

-- Why they have no canonical form for it: they aren't read so, or else the first clash; or it can't be written.
abbrev pub IsNormaliseFault : ℕ → Asked → List ℕ → Unread → Fault → Type 0
IsNormaliseFault max asked bytes after (Ambiguous clash) = SpellsClash max asked bytes clash
IsNormaliseFault max asked bytes after Write = ⊤
IsNormaliseFault max asked bytes after fault = IsReadNarrowedFault max asked bytes after fault

-- the faults of reading an extract for a window that is asked for, for any source
abbrev pub IsOfReadNarrowed : ℕ → Fault → Type 0
IsOfReadNarrowed max OutsideWindow = ⊤
IsOfReadNarrowed max WindowReversed = ⊤
IsOfReadNarrowed max fault = IsOfReading max fault

-- those of `check`, and those of `normalise`, for any devices
abbrev pub IsOfCheck : ℕ → Fault → Type 0
IsOfCheck max (Ambiguous clash) = ⊤
IsOfCheck max fault = IsOfReadNarrowed max fault

abbrev pub IsOfNormalise : ℕ → Fault → Type 0
IsOfNormalise max Write = ⊤
IsOfNormalise max fault = IsOfCheck max fault

-- a fault that says nothing of the bytes: a device failed, or memory ran out
abbrev pub IsDeviceOrMemory : Fault → Type 0
IsDeviceOrMemory Read = ⊤
IsDeviceOrMemory Write = ⊤
IsDeviceOrMemory Memory = ⊤
IsDeviceOrMemory _ = ⊥

-- what reading an extract for a window that is asked for may come to
abbrev pub reading_narrowed : ℕ → Asked → ReadCall Extract Fault
reading_narrowed max asked =
    reading is_read (λ bytes extract. SpellsNarrowed max asked (extract_parts extract) bytes) (IsReadNarrowedFault max asked)
    (IsOfReadNarrowed max)
