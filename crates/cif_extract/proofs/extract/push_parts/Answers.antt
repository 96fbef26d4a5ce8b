-- One line more stands behind those so far (`more_by`), and the table of a call behind those of the calls so far (`calls_more`).
use Rattle.cif_extract.proofs.Names.{Call, KeepMore, List, [], body_tables, call_record, detail_table, extra_records, extra_table, map}
use Rattle.cif_extract.proofs.Names.{map-append, on_ok_weaker, option_copied, record_table, subst, sym, take, take_all, ◌++◌, ◌∷◌}
use Rattle.cif_records.specs.declared.record.Record.TheVariants as of
use Rattle.cif_extract.proofs.BodyLines.{calls_more, more_and_more, more_by}
use Rattle.cif_extract.proofs.extract.push_parts.Goals as goal
use Rattle.cif_extract.proofs.extract.push_parts.Goals.{in-Some+in_ok-push-2, in_default}

pub loop-call-preserved : goal.loop-call-preserved
loop-call-preserved c =
    let old = c.push-2.new.self in
    let new = c.push-in-loop-call.new.self in
    let table = record_table (call_record c.call-item.result) in
    let more = more_by c.loop-call.lines new c.write-in-loop-call.result table c.in_ok-push-4.ensures c.write-in-loop-call.ensures.again
    c.write-in-loop-call.ensures.plain in
    let so_far = map record_table (map call_record (take c.loop-call.call-index c.args.calls.now)) in
    subst (KeepMore old new) (calls_more c.args.calls.now c.loop-call.call-index c.call-item.result c.loop-call-test.true c.call-item.is)
    (more_and_more old c.loop-call.lines new so_far (table ∷ []) c.loop-call.invariant more)

pub returns : goal.returns
returns c =
    let old = c.args.lines.now in
    let head = c.match-extra.lines in
    let first = c.push-2.new.self in
    let all = c.loop-call.lines in
    let new = c.push-3.new.self in
    let detail = detail_table c.args.detail.now in
    let begin = record_table (of.Origin c.args.origin.now) in
    let end = record_table (of.Terminus c.args.terminus.now) in
    let calls = map call_record c.args.calls.now in
    let d = more_by old c.push.new.self c.write.result detail c.in_ok-push.ensures c.write.ensures.again c.write.ensures.plain in
    let h : KeepMore old head (body_tables c.args.detail.now (extra_records (option_copied c.args.extra))) = elim c.match-extra.branch [
      | in-Some+in_ok-push-2 w ↦
          let further = extra_table w.in-Some.extra.now in
          rw (w.lines-is, w.in-Some.is) (more_and_more old c.push.new.self w.push-in-Some.new.self (detail ∷ []) (further ∷ []) d
          (more_by c.push.new.self w.push-in-Some.new.self w.write-in-Some.result further w.in_ok-push-2.ensures
          w.write-in-Some.ensures.again w.write-in-Some.ensures.plain))
      | in_default w ↦ rw (w.lines-is, w.in_default.is) d
    ] in
    let a = more_by head first c.write-2.result begin c.in_ok-push-3.ensures c.write-2.ensures.again c.write-2.ensures.plain in
    let b = subst (λ (cs : List Call). KeepMore first all (map record_table (map call_record cs)))
    (take_all c.loop-call.call-index c.args.calls.now c.loop-call-test.false) c.loop-call.invariant in
    on_ok_weaker c.push-3.result (λ is. subst
    (λ tables. KeepMore old new (body_tables c.args.detail.now (extra_records (option_copied c.args.extra)) ++ begin ∷ tables))
    (sym (map-append record_table calls (of.Terminus c.args.terminus.now ∷ [])))
    (more_and_more old head new _ (begin ∷ (map record_table calls ++ end ∷ [])) h
    (more_and_more head all new (begin ∷ map record_table calls) (end ∷ [])
    (more_and_more head first all (begin ∷ []) (map record_table calls) a b)
    (more_by all new c.write-3.result end is c.write-3.ensures.again c.write-3.ensures.plain)))) c.push-3.ensures
