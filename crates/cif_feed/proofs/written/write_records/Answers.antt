-- Five texts, one after another: all are written, or one has failed.
use Rattle.cif_feed.proofs.Names.{failed_first, flat_map, head_text, tiploc_text, trailer_text, writes_err, writes_on}
use Rattle.cif_feed.proofs.written.write_records.Goals as goal

pub returns-in_err-write_head : goal.returns-in_err-write_head
returns-in_err-write_head g c =
    writes_err _ _ _ _ _ c.from_residual.result c.from_residual.ensures.0
    (failed_first _ _ (head_text c.args.header.now) _ _ _ c.in_err-write_head.ensures)

pub returns-in_err-write_all : goal.returns-in_err-write_all
returns-in_err-write_all g c =
    writes_on _ _ (head_text c.args.header.now) _ _ _ _ _ c.in_ok-write_head.ensures
    (writes_err _ _ _ _ _ c.from_residual-in_err-write_all.result c.from_residual-in_err-write_all.ensures.0
    (failed_first _ _ (flat_map tiploc_text c.args.tiplocs.now) _ _ _ c.in_err-write_all.ensures))

pub returns-in_err-write_all-2 : goal.returns-in_err-write_all-2
returns-in_err-write_all-2 g c =
    writes_on _ _ (head_text c.args.header.now) _ _ _ _ _ c.in_ok-write_head.ensures
    (writes_on _ _ (flat_map tiploc_text c.args.tiplocs.now) _ _ _ _ _ c.in_ok-write_all.ensures
    (writes_err _ _ _ _ _ c.from_residual-in_err-write_all-2.result c.from_residual-in_err-write_all-2.ensures.0
    (failed_first _ _ (flat_map g.A.Written.text c.args.associations.now) _ _ _ c.in_err-write_all-2.ensures)))

pub returns-in_err-write_all-3 : goal.returns-in_err-write_all-3
returns-in_err-write_all-3 g c =
    writes_on _ _ (head_text c.args.header.now) _ _ _ _ _ c.in_ok-write_head.ensures
    (writes_on _ _ (flat_map tiploc_text c.args.tiplocs.now) _ _ _ _ _ c.in_ok-write_all.ensures
    (writes_on _ _ (flat_map g.A.Written.text c.args.associations.now) _ _ _ _ _ c.in_ok-write_all-2.ensures
    (writes_err _ _ _ _ _ c.from_residual-in_err-write_all-3.result c.from_residual-in_err-write_all-3.ensures.0
    (failed_first _ _ (flat_map g.S.Written.text c.args.schedules.now) trailer_text _ _ c.in_err-write_all-3.ensures))))

pub returns : goal.returns
returns g c =
    writes_on _ _ (head_text c.args.header.now) _ _ _ _ _ c.in_ok-write_head.ensures
    (writes_on _ _ (flat_map tiploc_text c.args.tiplocs.now) _ _ _ _ _ c.in_ok-write_all.ensures
    (writes_on _ _ (flat_map g.A.Written.text c.args.associations.now) _ _ _ _ _ c.in_ok-write_all-2.ensures
    (writes_on _ _ (flat_map g.S.Written.text c.args.schedules.now) trailer_text _ _ _ _ c.in_ok-write_all-3.ensures
    c.write_trailer.ensures)))
