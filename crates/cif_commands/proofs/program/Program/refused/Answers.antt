-- The fault is explained, and advice comes after it.
use Rattle.cif_commands.proofs.Names.{inl, inr, refl, sym, ◌∙◌}
use Rattle.cif_commands.proofs.program.Program.refused.Goals as goal

pub returns-then-not-helps : goal.returns-then-not-helps
returns-then-not-helps g c = (c.run_fault-status.new.errors, c.run_fault-status.ensures, inl refl)

pub returns : goal.returns
returns g c = (
  c.run_fault-status.new.errors,
  c.run_fault-status.ensures,
  inr (sym c.of-verbosity.ensures ∙ sym c.helps.ensures ∙ c.if-not-helps.false, (_, c.write_all.result, c.write_all.ensures)),
)
