-- The parts of the text of differences, appended one after another.
use Rattle.cif_canon.proofs.Names.{IsAppended, List, Option, Run, Schedule, Sided, Sink, Tiploc, association_entries, flat_map}
use Rattle.cif_canon.proofs.Names.{marked_association, marked_schedule, marked_tiploc, schedule_entries, sided_records, sided_run_text, ℕ}
use Rattle.cif_canon.proofs.{AppendedTexts.both, AppendedTexts.text-is, Names.◌++◌, SidedTexts.sided-text}
use Rattle.cif_records.specs.declared.association.Association.{Association}

-- the text of runs of associations, of schedules
abbrev pub associations_text : List Association → List Association → List (Sided Run) → List ℕ
associations_text xs ys runs = flat_map (sided_run_text marked_association (association_entries xs) (association_entries ys)) runs

abbrev pub schedules_text : List Schedule → List Schedule → List (Sided Run) → List ℕ
schedules_text xs ys runs = flat_map (sided_run_text marked_schedule (schedule_entries xs) (schedule_entries ys)) runs

module _ {W : Type 0} (contents : W → Option (List ℕ)) (errors : W → Option ℕ) (tiplocs : List (Sided Tiploc))
    (la ra : List Association) (associations : List (Sided Run)) (ls rs : List Schedule) (schedules : List (Sided Run)) where
  abbrev first : List ℕ
  first = flat_map marked_tiploc tiplocs

  abbrev second : List ℕ
  second = flat_map marked_association (sided_records (association_entries la) (association_entries ra) associations)

  abbrev third : List ℕ
  third = flat_map marked_schedule (sided_records (schedule_entries ls) (schedule_entries rs) schedules)

  pub differences-appended : (s t u v : Sink W) → IsAppended contents errors first s t →
      IsAppended contents errors (associations_text la ra associations) t u →
      IsAppended contents errors (schedules_text ls rs schedules) u v → IsAppended contents errors (first ++ (second ++ third)) s v
  differences-appended s t u v a b c =
      both contents errors first (second ++ third) s t v a
      (both contents errors second third t u v
      (text-is contents errors (associations_text la ra associations) second t u
      (sided-text (association_entries la) (association_entries ra) marked_association associations) b)
      (text-is contents errors (schedules_text ls rs schedules) third u v
      (sided-text (schedule_entries ls) (schedule_entries rs) marked_schedule schedules) c))
