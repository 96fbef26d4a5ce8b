-- Lines that are kept, one after another.
use Rattle.cif_extract.proofs.Names.{AllStandIn, Call, Detail, Extra, KeepAll, KeepBody, List, Option, Origin, Record, Row, Terminus, []}
use Rattle.cif_extract.proofs.Names.{ap, append_assoc, begun_journey, body_tables, call_record, detail_table, extra_records}
use Rattle.cif_extract.proofs.Names.{journey_records, map, map-append, plain_line, record_table, refl, subst, sym, ℕ, ◌++◌, ◌∙◌, ◌∷◌, ◌≡◌}
use Rattle.cif_records.specs.declared.record.Record.TheVariants as of
use Rattle.cif_extract.proofs.BodyLines.{keep_last}

-- one record more
pub kept-more : (lines : List (List ℕ)) (d : Detail) (records : List Record) (r : Record) → KeepAll lines (body_tables d records) →
    AllStandIn (plain_line (record_table r)) (record_table r) →
    KeepAll (lines ++ (plain_line (record_table r) ∷ [])) (body_tables d (records ++ (r ∷ [])))
kept-more lines d records r kept stands =
    subst (KeepAll (lines ++ (plain_line (record_table r) ∷ [])))
    (ap (λ (ts : List (List Row)). detail_table d ∷ ts) (sym (map-append record_table records (r ∷ []))))
    (keep_last lines (body_tables d records) (plain_line (record_table r)) (record_table r) kept stands refl)

-- a call more
pub journey-more : (x : Option Extra) (o : Origin) (calls : List Call) (call : Call) →
    begun_journey x o calls ++ (call_record call ∷ []) ≡ begun_journey x o (calls ++ (call ∷ []))
journey-more x o calls call =
    append_assoc (extra_records x) (of.Origin o ∷ map call_record calls) (call_record call ∷ [])
    ∙ ap (λ (rs : List Record). extra_records x ++ (of.Origin o ∷ rs)) (sym (map-append call_record calls (call ∷ [])))

-- the last location
pub journey-whole : (x : Option Extra) (o : Origin) (calls : List Call) (t : Terminus) →
    begun_journey x o calls ++ (of.Terminus t ∷ []) ≡ extra_records x ++ journey_records o calls t
journey-whole x o calls t = append_assoc (extra_records x) (of.Origin o ∷ map call_record calls) (of.Terminus t ∷ [])

-- the lines of a schedule up to its last keep its body
pub keep_body : (lines : List (List ℕ)) (d : Detail) (x : Option Extra) (o : Origin) (calls : List Call) (t : Terminus) →
    KeepAll lines (body_tables d (begun_journey x o calls)) → AllStandIn (plain_line (record_table (of.Terminus t))) (record_table
    (of.Terminus t)) →
    KeepBody (lines ++ (plain_line (record_table (of.Terminus t)) ∷ []))
    (record { detail = d; extra = x; origin = o; calls = calls; terminus = t })
keep_body lines d x o calls t kept stands =
    subst (λ records. KeepAll (lines ++ (plain_line (record_table (of.Terminus t)) ∷ [])) (body_tables d records))
    (journey-whole x o calls t)
    (kept-more lines d (begun_journey x o calls) (of.Terminus t) kept stands)
