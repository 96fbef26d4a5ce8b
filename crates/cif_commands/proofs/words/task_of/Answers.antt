-- The error of `clap` has one of the named kinds.
use Rattle.cif_commands.proofs.Names.{IsFaultAt, List, Text, ap, inl, inr, map, string_bytes, subst, sym}
use Rattle.cif_commands.proofs.words.task_of.Goals as goal

pub returns-clause-refused : goal.returns-clause-refused
returns-clause-refused c =
    let choices = c.all_choices.result in
    let given = map string_bytes c.as_slice.result.now in
    let fault : IsFaultAt choices given c.fault_of_error.result = elim c.fault_of_error.ensures [
      | inl memory ↦ subst (IsFaultAt choices given) (sym memory) tt
      | inr usage ↦ subst (IsFaultAt choices given) (sym usage.1.1)
          (elim c.in-Err.ensures.kinds [ inl none ↦ absurd (usage.0 none) | inr among ↦ among ])
    ] in
    record {
      choices = choices;
      are_choices = c.all_choices.ensures;
      fault_is = subst (λ (words : List Text). IsFaultAt choices words c.fault_of_error.result)
          (ap (map string_bytes) c.as_slice.ensures.value)
          fault;
    }
