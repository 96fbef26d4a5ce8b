-- Records one behind another, as the grammar has them.
use Rattle.cif_extract.proofs.Names.{AreSchedule, AreSchedules, ExtractParts, List, Record, Schedule, [], ap, append-nil, append_assoc, map}
use Rattle.cif_extract.proofs.Names.{records_before_trailer, refl, sym, ◌++◌, ◌∙◌, ◌∷◌, ◌≡◌}
use Rattle.cif_records.specs.declared.record.Record.TheVariants as of

-- a schedule more
pub schedules_more : (records own : List Record) (schedules : List Schedule) (schedule : Schedule) → AreSchedules records schedules →
    AreSchedule own schedule → AreSchedules (records ++ own) (schedules ++ (schedule ∷ []))
schedules_more records own [] schedule are is = (own, [], rw are (sym (append-nil own)), is, refl)
schedules_more records own (s ∷ schedules) schedule are is =
    let (first, others, parts, first_is, others_are) = are in (
      first,
      others ++ own,
      ap (λ rs. rs ++ own) parts ∙ append_assoc first others own,
      first_is,
      schedules_more others own schedules schedule others_are is,
    )

-- records behind those of the schedules
pub behind_schedules : (x : ExtractParts) (groups own : List Record) →
    records_before_trailer x groups ++ own ≡ records_before_trailer x (groups ++ own)
behind_schedules x groups own =
    ap (λ rs. of.Header x.header ∷ rs)
    (append_assoc (map of.Tiploc x.tiplocs) (map of.Association x.associations ++ groups) own
    ∙ ap (λ rs. map of.Tiploc x.tiplocs ++ rs) (append_assoc (map of.Association x.associations) groups own))
