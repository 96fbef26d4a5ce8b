-- The text is a fold over runs with their numbers: one more goes behind it (`one-more`). Each run has a record.
use Rattle.cif_canon.proofs.Names.{HasRecord, ap, arith, enumerate_from, length-enumerate_from, numbered_text, schedule_entries}
use Rattle.cif_canon.proofs.Names.{schedule_plain, subst, sym, text_if, ◌+◌}
use Rattle.cif_canon.proofs.{AppendedTexts.all-items, AppendedTexts.one-more, AppendedTexts.text-is, CanonLines.at-number}
use Rattle.cif_canon.proofs.canon_lines.list_runs.Goals as goal

pub record_of-requires : goal.record_of-requires
record_of-requires g c =
    subst (HasRecord (schedule_entries c.args.schedules.now)) (sym c.index-runs-at.is)
    (c.requires c.loop-at.at c.index-runs-at.result c.loop-at-test.true)

pub loop-at-preserved : goal.loop-at-preserved
loop-at-preserved g c =
    let runs = c.args.runs.now in
    let n = c.loop-at.at in
    let run = c.index-runs-at.result in
    let within = c.loop-at-test.true in
    let many = length-enumerate_from 1 runs in
    let listed = g.L.CanonListing.schedule_text c.args.listing.now in
    one-more _ _ (numbered_text listed (schedule_entries c.args.schedules.now))
    (enumerate_from 1 runs) n _ _ c.loop-at.invariant (n + 1, run) _ (omega (arith, within, many))
    (at-number runs n run within c.index-runs-at.is)
    (text-is _ _ _ _ _ _ (ap (text_if (λ e. listed (n + 1) (schedule_plain e))) (sym c.record_of.ensures)) c.write_schedule.ensures)

pub returns : goal.returns
returns g c =
    let over = c.loop-at-test.false in
    let many = length-enumerate_from 1 c.args.runs.now in
    all-items _ _ (numbered_text (g.L.CanonListing.schedule_text c.args.listing.now) (schedule_entries c.args.schedules.now))
    (enumerate_from 1 c.args.runs.now) c.loop-at.at _ _ c.loop-at.invariant (omega (arith, over, many))
