-- How a line spells a record: the layouts of this profile, or those of a feed.
use Rattle.std.specs.Prelude.{ℕ, Bool, List, Option, codes}
use Rattle.std.specs.Str.{bytes_eq}
use Rattle.cif_columns.specs.{Field.columns, declared.refusal.Refusal.Refusal}
use Rattle.cif_records.specs.{Kind.kind_in, Record.SpellsRecord, Record.record_refusal}
use Rattle.cif_records.specs.declared.{record.Kind.Kind, record.Record.Record}

-- what is read of a line by itself
pub record Layouts : Type 1 where
  -- the kind of record that it names, by which it has its place
  pub kind : List ℕ → Option Kind
  -- whether it is the BS of a cancellation: a journey may follow, and needn't
  pub cancels : List ℕ → Bool
  -- the first reason to refuse it as a record
  pub refusal : List ℕ → Option Refusal
  -- when it spells this record
  pub spells : List ℕ → Record → Type 0

-- column 80 is the letter of a cancellation
abbrev pub cancels : List ℕ → Bool
cancels line = bytes_eq (columns 80 80 line) (codes "C")

-- the layouts of this profile
abbrev pub own_layouts : Layouts
own_layouts = record { kind = kind_in; cancels = cancels; refusal = record_refusal; spells = SpellsRecord }
