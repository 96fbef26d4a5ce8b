-- A public call is the step's (`step-is`).
use Rattle.cif_views.proofs.Names.{List, Option, Shown, [], ap, append-nil, map, sym, ◌++◌, ◌∙◌, ◌∷◌}
use Rattle.cif_views.proofs.PublicRows.{step-is}
use Rattle.cif_views.specs.Tables.{Numbered}
use Rattle.cif_views.specs.{Boards.stop_of, Steps.PublicCalls.public_call}
use Rattle.cif_views.specs.declared.public_stop.PublicStop.{PublicStop}
use Rattle.cif_views.proofs.public_calls.add_stop.Goals as goal
use Rattle.cif_views.proofs.public_calls.add_stop.Goals.{in-Some+in_ok-push, in_default}

pub returns-clause-stops : goal.returns-clause-stops
returns-clause-stops c =
    let call : Numbered = record { schedule = 1; call = c.args.call; line = c.args.line.now } in
    let old = c.args.stops.now.items in
    let with = λ (o : Option Shown). old ++ map stop_of (public_call call o) in
    elim c.match-step.branch [
      | in-Some+in_ok-push w ↦
          ap (λ v. v.items) w.stops-is
          ∙ w.in_ok-push.ensures.items
          ∙ ap (λ (s : PublicStop). old ++ (s ∷ [])) w.stop_of.ensures
          ∙ ap (λ p. with p.1) (step-is _ _ _ _ _ _ c.kind_of_line-kind.ensures c.of-times.ensures w.in-Some.ensures.exact)
      | in_default w ↦
          ap (λ v. v.items) w.stops-is
          ∙ sym (append-nil old)
          ∙ ap (λ p. with p.1) (step-is _ _ _ _ _ _ c.kind_of_line-kind.ensures c.of-times.ensures w.in_default.ensures.exact)
    ]
