-- One more write: `moves_front` moves the bytes that it took from `rest` to those that are done, and the appends join.
use Rattle.cif_columns.proofs.Names.{Appends-trans, List, ap, append_assoc, arith, drop, length, sym, take, take-append-drop, take_rest, ℕ}
use Rattle.cif_columns.proofs.Names.{◌++◌, ◌-◌, ◌∙◌, ◌≡◌}
use Rattle.cif_columns.proofs.sink.Sink.write_all.Goals as goal

moves_front : (all done rest : List ℕ) (n : ℕ) → all ≡ done ++ rest → all ≡ (done ++ take n rest) ++ take (length rest - n) (drop n rest)
moves_front all done rest n e =
    e ∙ ap (λ l. done ++ l) (sym (take-append-drop n rest)) ∙ sym (append_assoc done (take n rest) (drop n rest))
    ∙ ap (λ l. (done ++ take n rest) ++ l) (sym (take_rest rest n))

pub loop-rest-preserved : goal.loop-rest-preserved
loop-rest-preserved g c =
    let (done, split, going, appended, errors) = c.loop-rest.invariant in
    let rest = c.loop-rest.rest.now in
    let n = c.in-Ok.n in (
      done ++ take n rest,
      moves_front _ done rest n split,
      going,
      Appends-trans _ _ _ _ _ appended c.in-Ok.ensures.bytes,
      c.in-Ok.ensures.fine (λ none. absurd (omega arith)) ∙ errors,
    )
