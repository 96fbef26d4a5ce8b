-- The words ask for a task, which is done, or for nothing.
use Rattle.std.specs.List.{list_any}
use Rattle.cif_extract.specs.declared.fault.Fault.TheVariants.{Memory}
use Rattle.cif_commands.proofs.Names.{Err, ap, inl, inr, map, refl, string_bytes, subst, true, ⊎_elim, ◌||◌, ◌∙◌, ◌≡◌}
use Rattle.cif_commands.specs.{Program.is_verbose, Status.ReportsFault}
use Rattle.cif_commands.proofs.program.Program.run.Goals as goal

pub returns-in-Ok-done : goal.returns-in-Ok-done
returns-in-Ok-done g c =
    let done = c.in-Ok-done.ensures in
    inl (record {
      request = c.in-Ok.request;
      asks = c.in-Ok.ensures.asked;
      reported = done.0;
      done = inl done.1;
      advice = done.2;
    })

pub returns-in-Ok : goal.returns-in-Ok
returns-in-Ok g c =
    let undone = c.in-Err-done.ensures in
    inl (record {
      request = c.in-Ok.request;
      asks = c.in-Ok.ensures.asked;
      reported = c.end.new.errors;
      done = inr (record {
        silent = undone.0;
        line = subst (λ e. ReportsFault g.E.Write.contents g.E.WriteDevice.write_errors (Err Memory) e c.end.new.errors) undone.1
            c.end.ensures.line;
        status_is = c.end.ensures.status;
      });
      advice = inl refl;
    })

pub returns : goal.returns
returns g c =
    let words = c.has_verbose-asks_more.ensures ∙ ap (λ ws. list_any is_verbose (map string_bytes ws)) c.as_slice.ensures.value in
    inr (record {
      fault = c.in-Err.fault;
      is_fault = c.in-Err.ensures.refused;
      reported = c.refused.ensures.0;
      explained = c.refused.ensures.1;
      advice = ⊎_elim
          (λ same. inl same)
          (λ said. inr (subst (λ b. (c.args.self.now.is_terminal || b) ≡ true) words said.0, said.1))
          c.refused.ensures.2;
    })
