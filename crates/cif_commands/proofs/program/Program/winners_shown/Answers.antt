-- The winners are shown of the inputs of the request, and advice comes after them.
use Rattle.cif_commands.proofs.Names.{inl, inr, refl, sym, ◌∙◌}
use Rattle.cif_commands.proofs.OpenedInputs.{feed-inputs-of}
use Rattle.cif_commands.specs.{InputLeft.input_remaining, Job.names_of}
use Rattle.cif_commands.proofs.program.Program.winners_shown.Goals as goal

pub returns-then-not-helps : goal.returns-then-not-helps
returns-then-not-helps g c = (
  c.run_winners-ended.new.errors,
  record {
    holidays = c.in_ok-inputs.inputs.holidays;
    holidays_new = c.run_winners-ended.new.holidays;
    source = c.deref_mut.result.now;
    source_new = c.run_winners-ended.new.source;
    inputs = feed-inputs-of g.F.Files.of_standard g.F.Files.of_file
        (input_remaining g.F.Standard.Read.remaining g.F.File.Read.remaining g.F.Files.of_standard g.F.Files.of_file) _ _
        c.opening-opening.ensures.files (names_of c.args.request.now.inputs) c.in_ok-inputs.inputs.holidays _ _
        c.deref_mut.ensures.value c.in_ok-inputs.ensures;
    answered = c.run_winners-ended.result.answer;
    kept = c.run_winners-ended.result.kept;
    answer = c.run_winners-ended.ensures.answer;
    fault = c.run_winners-ended.ensures.fault;
    reads = c.run_winners-ended.ensures.reads;
    handed_on = c.run_winners-ended.ensures.handed_on;
    lines = c.run_winners-ended.ensures.reported;
    status_is = c.run_winners-ended.ensures.status;
  },
  inl refl,
)

pub returns : goal.returns
returns g c = (
  c.run_winners-ended.new.errors,
  record {
    holidays = c.in_ok-inputs.inputs.holidays;
    holidays_new = c.run_winners-ended.new.holidays;
    source = c.deref_mut.result.now;
    source_new = c.run_winners-ended.new.source;
    inputs = feed-inputs-of g.F.Files.of_standard g.F.Files.of_file
        (input_remaining g.F.Standard.Read.remaining g.F.File.Read.remaining g.F.Files.of_standard g.F.Files.of_file) _ _
        c.opening-opening.ensures.files (names_of c.args.request.now.inputs) c.in_ok-inputs.inputs.holidays _ _
        c.deref_mut.ensures.value c.in_ok-inputs.ensures;
    answered = c.run_winners-ended.result.answer;
    kept = c.run_winners-ended.result.kept;
    answer = c.run_winners-ended.ensures.answer;
    fault = c.run_winners-ended.ensures.fault;
    reads = c.run_winners-ended.ensures.reads;
    handed_on = c.run_winners-ended.ensures.handed_on;
    lines = c.run_winners-ended.ensures.reported;
    status_is = c.run_winners-ended.ensures.status;
  },
  inr (
    sym c.opening-opening.ensures.helps ∙ sym c.helps.ensures ∙ c.if-not-helps.false,
    (_, c.write_all.result, c.write_all.ensures),
  ),
)
