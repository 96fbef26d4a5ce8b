-- The parts of a canonical text, appended one after another.
use Rattle.cif_canon.proofs.Names.{ExtractParts, IsAppended, List, Option, Run, Sink, Tiploc, [], association_entries, association_run_text}
use Rattle.cif_canon.proofs.Names.{canon_text, flat_map, header_table, plain_line, schedule_entries, schedule_run_text, tiploc_text}
use Rattle.cif_canon.proofs.{AppendedTexts.both, Names.trailer_table, Names.ℕ, Names.◌++◌, Names.◌∷◌}

module _ {W : Type 0} (contents : W → Option (List ℕ)) (errors : W → Option ℕ) (x : ExtractParts) (tiplocs : List Tiploc)
    (associations schedules : List Run) where
  abbrev head : List ℕ
  head = plain_line (header_table x.header) ++ (10 ∷ [])

  abbrev end : List ℕ
  end = plain_line trailer_table ++ (10 ∷ [])

  abbrev first : List ℕ
  first = flat_map tiploc_text tiplocs

  abbrev second : List ℕ
  second = flat_map (association_run_text (association_entries x.associations)) associations

  abbrev third : List ℕ
  third = flat_map (schedule_run_text (schedule_entries x.schedules)) schedules

  pub canon-appended : (s t u v w z : Sink W) → IsAppended contents errors head s t → IsAppended contents errors first t u →
      IsAppended contents errors second u v → IsAppended contents errors third v w → IsAppended contents errors end w z →
      IsAppended contents errors (canon_text x tiplocs associations schedules) s z
  unfolding canon_text
  canon-appended s t u v w z a b c d e =
      both contents errors head (first ++ (second ++ (third ++ end))) s t z a
      (both contents errors first (second ++ (third ++ end)) t u z b
      (both contents errors second (third ++ end) u v z c (both contents errors third end v w z d e)))
