-- The updates are done to the inputs of the request, and advice comes after them.
use Rattle.cif_commands.proofs.Names.{inl, inr, refl, sym, ◌∙◌}
use Rattle.cif_commands.proofs.OpenedInputs.{update-inputs-of}
use Rattle.cif_commands.specs.{InputLeft.input_remaining, Job.names_of}
use Rattle.cif_commands.proofs.program.Program.updated.Goals as goal

pub returns-then-not-helps : goal.returns-then-not-helps
returns-then-not-helps g c = (
  c.run_update-ended.new.errors,
  record {
    full = c.deref_mut.result.now;
    full_new = c.run_update-ended.new.full;
    updates = c.as_mut_slice.result.now;
    updates_new = c.run_update-ended.new.updates;
    inputs = update-inputs-of g.F.Files.of_standard g.F.Files.of_file
        (input_remaining g.F.Standard.Read.remaining g.F.File.Read.remaining g.F.Files.of_standard g.F.Files.of_file) _ _
        c.opening-opening.ensures.files (names_of c.args.request.now.inputs) _ _ _ _ c.deref_mut.ensures.value c.as_mut_slice.ensures.value c.in_ok-inputs.ensures;
    answered = c.run_update-ended.result.answer;
    kept = c.run_update-ended.result.kept;
    answer = c.run_update-ended.ensures.answer;
    fault = c.run_update-ended.ensures.fault;
    reads = c.run_update-ended.ensures.reads;
    handed_on = c.run_update-ended.ensures.handed_on;
    lines = c.run_update-ended.ensures.reported;
    status_is = c.run_update-ended.ensures.status;
  },
  inl refl,
)

pub returns : goal.returns
returns g c = (
  c.run_update-ended.new.errors,
  record {
    full = c.deref_mut.result.now;
    full_new = c.run_update-ended.new.full;
    updates = c.as_mut_slice.result.now;
    updates_new = c.run_update-ended.new.updates;
    inputs = update-inputs-of g.F.Files.of_standard g.F.Files.of_file
        (input_remaining g.F.Standard.Read.remaining g.F.File.Read.remaining g.F.Files.of_standard g.F.Files.of_file) _ _
        c.opening-opening.ensures.files (names_of c.args.request.now.inputs) _ _ _ _ c.deref_mut.ensures.value c.as_mut_slice.ensures.value c.in_ok-inputs.ensures;
    answered = c.run_update-ended.result.answer;
    kept = c.run_update-ended.result.kept;
    answer = c.run_update-ended.ensures.answer;
    fault = c.run_update-ended.ensures.fault;
    reads = c.run_update-ended.ensures.reads;
    handed_on = c.run_update-ended.ensures.handed_on;
    lines = c.run_update-ended.ensures.reported;
    status_is = c.run_update-ended.ensures.status;
  },
  inr (
    sym c.opening-opening.ensures.helps ∙ sym c.helps.ensures ∙ c.if-not-helps.false,
    (_, c.write_all.result, c.write_all.ensures),
  ),
)
