-- Extracts of this profile and published ones, as one another.
use Rattle.std.{proofs.lemmas.Bool.false≢true, specs.Prelude.None, specs.Prelude.false, specs.Prelude.map}
use Rattle.cif_extract.specs.{ExtractParts.ExtractParts, declared.extract.Schedule.Schedule}
use Rattle.cif_records.specs.declared.association.Association.{Association}
use Rattle.cif_feed.specs.{PublishedParts.PublishedParts, declared.published_extract.PublishedAssociation.PublishedAssociation}
use Rattle.cif_feed.specs.{declared.published_extract.PublishedSchedule.PublishedSchedule}

-- an association, and a schedule, as published ones: the end isn't open, and there is no holiday code
abbrev pub association_as_published : Association → PublishedAssociation
association_as_published a = record { association = a; open_end = false; closed = λ never. absurd (false≢true never) }

abbrev pub schedule_as_published : Schedule → PublishedSchedule
schedule_as_published s = record { schedule = s; open_end = false; code = None; closed = λ never. absurd (false≢true never) }

-- an extract of this profile as a published one
abbrev pub as_published : ExtractParts → PublishedParts
as_published x = record {
  header = x.header;
  tiplocs = x.tiplocs;
  associations = map association_as_published x.associations;
  schedules = map schedule_as_published x.schedules;
}

-- a published extract as one of this profile: an open end is the last day that there is, and the holiday codes are left out
abbrev pub of_profile : PublishedParts → ExtractParts
of_profile p = record {
  header = p.header;
  tiplocs = p.tiplocs;
  associations = map (λ (a : PublishedAssociation). a.association) p.associations;
  schedules = map (λ (s : PublishedSchedule). s.schedule) p.schedules;
}
