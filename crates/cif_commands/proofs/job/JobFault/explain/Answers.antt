-- The text that went out is that of the fault: at a failed flush nothing was left to write.
use Rattle.cif_commands.proofs.Names.{Err, Explains, HasFailed, List, Writes, [], ap, append-nil, err_from_is_err_and, failed_second, refl}
use Rattle.cif_commands.proofs.Names.{subst, sym, ℕ, ◌∙◌}
use Rattle.cif_commands.proofs.job.JobFault.explain.Goals as goal

pub returns-in_err-flush-clause-answer : goal.returns-in_err-flush-clause-answer
returns-in_err-flush-clause-answer g c =
    let call = c.from_residual-in_err-flush in
    let text = c.as_bytes.result.now in
    let is = c.as_bytes.ensures.value ∙ c.text.ensures in
    let p = err_from_is_err_and call.result call.ensures.1 in
    let failed = failed_second g.O.Write.contents g.O.WriteDevice.write_errors text [] c.args.output.now c.write_all.new.self
    c.flush.new.self c.in_ok-write_all.ensures c.in_err-flush.ensures.writes in
    subst (Explains g.O.Write.contents g.O.WriteDevice.write_errors g.E.Write.contents g.E.WriteDevice.write_errors c.args.self.now
    c.args.output.now c.flush.new.self c.args.errors.now c.args.errors.now) (sym (p.1 ∙ ap Err p.2)) (
      sym c.status-status.ensures ∙ c.if-status-eq-DONE.true,
      refl,
      subst (λ (t : List ℕ). HasFailed g.O.Write.contents g.O.WriteDevice.write_errors t c.args.output.now c.flush.new.self)
          (append-nil text ∙ is) failed,
    )

pub returns-else-status-eq-DONE-clause-answer : goal.returns-else-status-eq-DONE-clause-answer
returns-else-status-eq-DONE-clause-answer g c =
    let is = c.as_bytes-else-status-eq-DONE.ensures.value ∙ c.text-else-status-eq-DONE.ensures in (
      c.status-status.ensures,
      λ zero. absurd (c.if-status-eq-DONE.false (c.status-status.ensures ∙ zero)),
      λ some. record {
        reported = c.write_all-else-status-eq-DONE.result;
        writes = subst (λ (t : List ℕ). Writes g.E.Write.contents g.E.WriteDevice.write_errors t c.args.errors.now
            c.write_all-else-status-eq-DONE.new.self c.write_all-else-status-eq-DONE.result) is c.write_all-else-status-eq-DONE.ensures;
        silent = refl;
      },
    )
