-- The rows of the fields and those of the journeys are those of the pair (`schedule-rows`).
use Rattle.cif_views.proofs.Names.{List, Other, ap, basic_columns, changed, codes, difference_text, drop, extra_columns, extra_in, field_rows}
use Rattle.cif_views.proofs.Names.{flat_map-append, in_record, rows_of_journeys, rows_text, schedule_head, schedule_plain, sym, take, without_extra}
use Rattle.cif_views.proofs.Names.{ℕ, ◌++◌, ◌∙◌, ◌≡◌}
use Rattle.cif_views.proofs.PairedJourneys.{schedule-rows}
use Rattle.cif_views.proofs.RowNames.{Value, added-both, added-is, all-written}
use Rattle.cif_views.proofs.difference_table.write_schedules.Goals as goal

pub returns : goal.returns
returns g c =
    let f = g.F.RowFormat.FORMAT in
    let s = schedule_plain c.args.left.now in
    let t = schedule_plain c.args.right.now in
    let a = c.basic-one.ensures in
    let b = c.basic-other.ensures in
    let x = c.extra_among-extra.ensures ∙ ap extra_in c.further-lefts.ensures in
    let y = c.extra_among-other_extra.ensures ∙ ap extra_in c.further-rights.ensures in
    let ls = c.journey_among.ensures ∙ ap without_extra c.further-lefts.ensures in
    let rs = c.journey_among-2.ensures ∙ ap without_extra c.further-rights.ensures in
    let both : (a b : List (List Value)) → rows_text f a ++ rows_text f b ≡ rows_text f (a ++ b) =
    λ a b. sym (flat_map-append (difference_text f) a b) in
    let head = schedule_head changed c.basic-one.result in
    let details = field_rows (in_record head (codes "BS")) Other c.basic-one.result c.basic-other.result (drop 4 basic_columns) in
    let identities = field_rows (in_record head (codes "BS")) Other c.extra_among-extra.result c.extra_among-other_extra.result
    (take 1 extra_columns) in
    let extras = field_rows (in_record head (codes "BX")) Other c.extra_among-extra.result c.extra_among-other_extra.result
    (drop 1 extra_columns) in
    let journeys = rows_of_journeys head c.journey_among.result c.journey_among-2.result in
    all-written _ _ _ _ _ _ _ _ c.new-rows.ensures
    (added-is _ _ _ _ _ _ _ _
    (ap (λ (l : List ℕ). rows_text f details ++ l)
    (ap (λ (l : List ℕ). rows_text f identities ++ l) (both extras journeys) ∙ both identities (extras ++ journeys))
    ∙ both details (identities ++ (extras ++ journeys))
    ∙ ap (rows_text f) ((λ i.
    field_rows (in_record (schedule_head changed (a i)) (codes "BS")) Other (a i) (b i) (drop 4 basic_columns)
    ++ (field_rows (in_record (schedule_head changed (a i)) (codes "BS")) Other (x i) (y i) (take 1 extra_columns)
    ++ (field_rows (in_record (schedule_head changed (a i)) (codes "BX")) Other (x i) (y i) (drop 1 extra_columns)
    ++ rows_of_journeys (schedule_head changed (a i)) (ls i) (rs i)))) ∙ schedule-rows s t))
    (added-both _ _ _ _ _ _ _ _ _ _ c.write_differing.ensures
    (added-both _ _ _ _ _ _ _ _ _ _ c.write_differing-2.ensures
    (added-both _ _ _ _ _ _ _ _ _ _ c.write_differing-3.ensures c.write_journeys.ensures)))) c.finish.ensures
