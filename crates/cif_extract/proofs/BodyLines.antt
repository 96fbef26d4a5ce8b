-- How the lines of a body are put together.
use Rattle.cif_extract.proofs.Names.{AllStandIn, BodyParts, Call, KeepAll, KeepBody, KeepMore, List, Row, [], ap, append_assoc, body_tables}
use Rattle.cif_extract.proofs.Names.{call_record, detail_table, extra_records, get_or, journey_records, length, map, map-append, plain_line}
use Rattle.cif_extract.proofs.Names.{record_table, subst, sym, take, take_more, ℕ, ◌++◌, ◌+◌, ◌<◌, ◌∙◌, ◌∷◌, ◌≡◌}

-- a line more
pub keep_last : (lines : List (List ℕ)) (tables : List (List Row)) (line : List ℕ) (table : List Row) → KeepAll lines tables
    → AllStandIn line table → line ≡ plain_line table → KeepAll (lines ++ line ∷ []) (tables ++ table ∷ [])
keep_last [] [] line table k stands plain = (stands, plain, tt)
keep_last [] (t ∷ tables) line table k stands plain = absurd k
keep_last (l ∷ lines) [] line table k stands plain = absurd k
keep_last (l ∷ lines) (t ∷ tables) line table k stands plain = (k.0, k.1, keep_last lines tables line table k.2 stands plain)

pub more_by : (old new : List (List ℕ)) (line : List ℕ) (table : List Row) → new ≡ old ++ line ∷ [] → AllStandIn line table
    → line ≡ plain_line table → KeepMore old new (table ∷ [])
more_by old new line table is stands plain =
    λ tables k. subst (λ l. KeepAll l (tables ++ table ∷ [])) (sym is) (keep_last old tables line table k stands plain)

pub more_and_more : (old new last : List (List ℕ)) (more most : List (List Row)) → KeepMore old new more → KeepMore new last most
    → KeepMore old last (more ++ most)
more_and_more old new last more most a b =
    λ tables k. subst (KeepAll last) (append_assoc tables more most) (b (tables ++ more) (a tables k))

-- the tables of a call more
pub calls_more : (calls : List Call) (i : ℕ) (call : Call) → i < length calls → call ≡ get_or calls i call
    → map record_table (map call_record (take i calls)) ++ record_table (call_record call) ∷ []
    ≡ map record_table (map call_record (take (i + 1) calls))
calls_more calls i call within is =
    let e : take (i + 1) calls ≡ take i calls ++ call ∷ [] =
    take_more calls i call within ∙ ap (λ c. take i calls ++ c ∷ []) (sym is) in
    sym (map-append record_table (map call_record (take i calls)) (call_record call ∷ []))
    ∙ ap (map record_table) (sym (map-append call_record (take i calls) (call ∷ [])))
    ∙ ap (λ cs. map record_table (map call_record cs)) (sym e)

-- the lines of the detail and further details, and then of the journey
pub whole_body : (p : BodyParts) (empty all : List (List ℕ)) → empty ≡ []
    → KeepMore empty all (body_tables p.detail (extra_records p.extra)
    ++ map record_table (journey_records p.origin p.calls p.terminus)) → KeepBody all p
whole_body p empty all none m =
    let journey = journey_records p.origin p.calls p.terminus in
    subst (λ tables. KeepAll all (detail_table p.detail ∷ tables)) (sym (map-append record_table (extra_records p.extra) journey))
    (m [] (subst (λ lines. KeepAll lines []) (sym none) tt))
