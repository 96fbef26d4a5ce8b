-- All clashes of an extract.
use Rattle.std.specs.Prelude.{◌≡◌, ℕ, List, ◌++◌, map}
use Rattle.std.specs.{Cmp.Lexicographic.slice_cmp, Ordering.nat_cmp}
use Rattle.cif_calendar.specs.{Clashes.AreClashes, Entries.association_entries, Entries.schedule_entries}
use Rattle.cif_extract.specs.ExtractParts.{ExtractParts}
use Rattle.cif_extract.specs.declared.{fault.Clash.Clash, fault.Clash.TheVariants.Association, fault.Clash.TheVariants.Train}
use Rattle.cif_records.specs.{AssocKey.key_cmp, declared.association.AssocKey.AssocKey}

-- a key of associations, or a train, and a day
abbrev pub association_clash : AssocKey × ℕ → Clash
association_clash found = Association found.0 found.1

abbrev pub train_clash : List ℕ × ℕ → Clash
train_clash found = Train found.0 found.1

-- All clashes of an extract in its window: those of associations, and then those of trains.
pub record AreAllClashes (x : ExtractParts) (clashes : List Clash) : Type 0 where
  pub associations : List (AssocKey × ℕ)
  pub of_associations : AreClashes key_cmp (association_entries x.associations) x.header.first x.header.last associations
  pub trains : List (List ℕ × ℕ)
  pub of_trains : AreClashes (slice_cmp nat_cmp) (schedule_entries x.schedules) x.header.first x.header.last trains
  pub are : clashes ≡ map association_clash associations ++ map train_clash trains
