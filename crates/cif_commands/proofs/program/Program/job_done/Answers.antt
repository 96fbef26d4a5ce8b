-- The job is done with the inputs of the request, and advice comes after it.
use Rattle.cif_commands.proofs.Names.{inl, inr, refl, sym, ◌∙◌}
use Rattle.cif_commands.proofs.OpenedInputs.{job-inputs-of}
use Rattle.cif_commands.specs.{InputLeft.input_remaining, Job.names_of}
use Rattle.cif_commands.proofs.program.Program.job_done.Goals as goal

pub returns-then-not-helps : goal.returns-then-not-helps
returns-then-not-helps g c = (
  c.run_job-ended.new.errors,
  record {
    left = c.deref_mut.result.now;
    left_new = c.run_job-ended.new.source;
    right = c.deref_mut-2.result.now;
    right_new = c.run_job-ended.new.right;
    inputs = job-inputs-of g.F.Files.of_standard g.F.Files.of_file
        (input_remaining g.F.Standard.Read.remaining g.F.File.Read.remaining g.F.Files.of_standard g.F.Files.of_file) _ _
        c.opening-opening.ensures.files (names_of c.args.request.now.inputs) _ _ _ _ c.deref_mut.ensures.value c.deref_mut-2.ensures.value c.in_ok-inputs.ensures;
    answered = c.run_job-ended.result.answer;
    answer = c.run_job-ended.ensures.answer;
    reads = c.run_job-ended.ensures.reads;
    handed_on = c.run_job-ended.ensures.handed_on;
    line = c.run_job-ended.ensures.line;
    status_is = c.run_job-ended.ensures.status;
  },
  inl refl,
)

pub returns : goal.returns
returns g c = (
  c.run_job-ended.new.errors,
  record {
    left = c.deref_mut.result.now;
    left_new = c.run_job-ended.new.source;
    right = c.deref_mut-2.result.now;
    right_new = c.run_job-ended.new.right;
    inputs = job-inputs-of g.F.Files.of_standard g.F.Files.of_file
        (input_remaining g.F.Standard.Read.remaining g.F.File.Read.remaining g.F.Files.of_standard g.F.Files.of_file) _ _
        c.opening-opening.ensures.files (names_of c.args.request.now.inputs) _ _ _ _ c.deref_mut.ensures.value c.deref_mut-2.ensures.value c.in_ok-inputs.ensures;
    answered = c.run_job-ended.result.answer;
    answer = c.run_job-ended.ensures.answer;
    reads = c.run_job-ended.ensures.reads;
    handed_on = c.run_job-ended.ensures.handed_on;
    line = c.run_job-ended.ensures.line;
    status_is = c.run_job-ended.ensures.status;
  },
  inr (
    sym c.opening-opening.ensures.helps ∙ sym c.helps.ensures ∙ c.if-not-helps.false,
    (_, c.write_all.result, c.write_all.ensures),
  ),
)
