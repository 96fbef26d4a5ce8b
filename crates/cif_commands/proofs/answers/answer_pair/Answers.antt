-- A fault after both are read is reported by `compared`, and the text by `compare-answer` or `diff-answer`, of the extracts that were
-- read, which are kept.
use Rattle.cif_commands.proofs.Names.{IsCompareFault, IsOfReadNarrowed, MAX_LINES, comparison_line, differences_in, extract_parts, hands, inl}
use Rattle.cif_commands.proofs.Names.{inr, listed_status, outcome_of, refl, subst}
use Rattle.cif_canon.proofs.ReadPairs.{pair-may}
use Rattle.cif_commands.proofs.Answered.{handed-text, nothing-of-both, only-fails, reported-as}
use Rattle.cif_commands.proofs.KnownAnswers.{compare-answer, compared, diff-answer, uncompared}
use Rattle.cif_commands.proofs.answers.answer_pair.Goals as goal

pub returns-in_err-left : goal.returns-in_err-left
returns-in_err-left g c =
    let job = c.args.job.compared.now in
    let f = c.in_err-left.field-0.0 in
    let call = c.from_residual in
    nothing-of-both _ _ _ c.args.sink.now call.result f call.ensures.1
    (λ write. subst (IsOfReadNarrowed MAX_LINES) write (pair-may _ _ job.asked job.common _ _ _ _ f c.in_err-left.ensures)) _ _ _ _ _ _ _ _
    (uncompared _ _ _ _ _ _ job.asked job.common f c.in_err-left.ensures call.result call.ensures.1)

pub returns-in_err-comparison-in-Comparison : goal.returns-in_err-comparison-in-Comparison
returns-in_err-comparison-in-Comparison g c =
    let job = c.args.job.compared.now in
    let f = c.in_err-comparison-in-Comparison.field-0.0 in
    let call = c.from_residual-in_err-comparison-in-Comparison in
    let refused = rw (c.insert-left.ensures.value, c.insert-right.ensures.value) at c.in_err-comparison-in-Comparison.ensures.fault in
    nothing-of-both _ _ _ c.args.sink.now call.result f call.ensures.1
    (λ write. subst (IsCompareFault (extract_parts c.in_ok-left.left) (extract_parts c.in_ok-left.right)) write refused) _ _ _ _ _ _ _ _
    (compared _ _ _ _ _ _ c.in_ok-left.left c.in_ok-left.right job.asked job.common c.in_ok-left.ensures call.result
    (hands call.result f call.ensures.1 _ (inl refused)))

pub returns-in_ok-comparison-in-Comparison : goal.returns-in_ok-comparison-in-Comparison
returns-in_ok-comparison-in-Comparison g c =
    let job = c.args.job.compared.now in
    let call = c.map_err-written in
    let reported = reported-as _ _ _ _ _ _ _ c.write_comparison.result call.result call.ensures.cases c.write_comparison.ensures in
    let made = c.in_ok-comparison-in-Comparison.comparison in
    rw c.in-Comparison.is record {
      answer = handed-text _ _ _ _ (comparison_line made) (outcome_of made) _ c.outcome.result call.result c.write_comparison.new.sink
          c.finish.new.sink c.finish.result c.outcome.ensures reported.0 reported.1
          (compare-answer _ _ _ _ _ _ c.in_ok-left.left c.in_ok-left.right job c.in_ok-left.ensures made
          (rw (c.insert-left.ensures.value, c.insert-right.ensures.value) at c.in_ok-comparison-in-Comparison.ensures.ok))
          c.finish.ensures.finishes;
      reads = compared _ _ _ _ _ _ c.in_ok-left.left c.in_ok-left.right job.asked job.common c.in_ok-left.ensures c.finish.result
          (only-fails _ _ _ _ c.outcome.result call.result c.write_comparison.new.sink c.finish.new.sink c.finish.result reported.1
          (inr refl) c.finish.ensures.finishes);
      handed_on = c.finish.ensures.handed_on;
    }

pub returns-in_err-found-in-Differences : goal.returns-in_err-found-in-Differences
returns-in_err-found-in-Differences g c =
    let job = c.args.job.compared.now in
    let f = c.in_err-found-in-Differences.field-0.0 in
    let call = c.from_residual-in_err-found-in-Differences in
    let refused = rw (c.insert-left.ensures.value, c.insert-right.ensures.value) at c.in_err-found-in-Differences.ensures.fault in
    nothing-of-both _ _ _ c.args.sink.now call.result f call.ensures.1
    (λ write. subst (IsCompareFault (extract_parts c.in_ok-left.left) (extract_parts c.in_ok-left.right)) write refused) _ _ _ _ _ _ _ _
    (compared _ _ _ _ _ _ c.in_ok-left.left c.in_ok-left.right job.asked job.common c.in_ok-left.ensures call.result
    (hands call.result f call.ensures.1 _ (inl refused)))

pub returns-in_ok-found-in-Differences : goal.returns-in_ok-found-in-Differences
returns-in_ok-found-in-Differences g c =
    let job = c.args.job.compared.now in
    let made = c.in_ok-found-in-Differences.found in
    let none = c.is_empty.result in
    let call = c.write_differences-written in
    let format = c.in-Differences.format in
    rw c.in-Differences.is record {
      answer = handed-text _ _ _ _ (differences_in format made) (listed_status none) _ c.listed.result call.result call.new.sink
          c.finish-in-Differences.new.sink c.finish-in-Differences.result c.listed.ensures call.ensures.writes call.ensures.fault
          (diff-answer _ _ _ _ _ _ c.in_ok-left.left c.in_ok-left.right format job c.in_ok-left.ensures made none
          (rw (c.insert-left.ensures.value, c.insert-right.ensures.value) at c.in_ok-found-in-Differences.ensures.ok)
          (rw (c.insert-left.ensures.value, c.insert-right.ensures.value) at c.in_ok-found-in-Differences.ensures.turn) c.is_empty.ensures)
          c.finish-in-Differences.ensures.finishes;
      reads = compared _ _ _ _ _ _ c.in_ok-left.left c.in_ok-left.right job.asked job.common c.in_ok-left.ensures
          c.finish-in-Differences.result
          (only-fails _ _ _ _ c.listed.result call.result call.new.sink c.finish-in-Differences.new.sink c.finish-in-Differences.result
          call.ensures.fault (inr refl)
          c.finish-in-Differences.ensures.finishes);
      handed_on = c.finish-in-Differences.ensures.handed_on;
    }
