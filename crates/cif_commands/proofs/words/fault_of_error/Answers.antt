-- The kind and the text are those of the error.
use Rattle.cif_commands.{proofs.Names.ap, proofs.Names.inr, proofs.Names.◌∙◌, specs.declared.job.JobFault.TheVariants.Usage}
use Rattle.cif_commands.proofs.words.fault_of_error.Goals as goal

pub returns-in-Ok : goal.returns-in-Ok
returns-in-Ok c =
    inr (
      λ memory. c.in_default.not-OutOfMemory (c.kind.ensures ∙ memory),
      (c.in-Ok.text, ap (λ kind. Usage kind c.in-Ok.text) c.kind.ensures),
    )
