-- The associations and the schedules of an extract as entries: their keys and their terms.
use Rattle.std.specs.Prelude.{ℕ, List, map}
use Rattle.cif_calendar.specs.Terms.{Terms}
use Rattle.cif_extract.specs.{Body.BodyLines, declared.extract.Schedule.Schedule}
use Rattle.cif_records.specs.declared.{association.AssocBody.AssocBody, association.AssocKey.AssocKey, association.Association.Association}

abbrev pub association_terms : Association → Terms AssocBody
association_terms a = record { first = a.first; last = a.last; days = a.days; letter = a.letter; body = a.body }

-- an association by its key and its terms
abbrev pub association_entry : Association → AssocKey × Terms AssocBody
association_entry a = (a.key, association_terms a)

abbrev pub association_entries : List Association → List (AssocKey × Terms AssocBody)
association_entries associations = map association_entry associations

abbrev pub schedule_terms : Schedule → Terms BodyLines
schedule_terms s = record { first = s.first; last = s.last; days = s.days; letter = s.letter; body = s.body }

-- a schedule by its train and its terms
abbrev pub schedule_entry : Schedule → List ℕ × Terms BodyLines
schedule_entry s = (s.uid, schedule_terms s)

abbrev pub schedule_entries : List Schedule → List (List ℕ × Terms BodyLines)
schedule_entries schedules = map schedule_entry schedules
