-- Three rows are put, which are a whole table.
use Rattle.cif_records.proofs.Names.{AllFit, List, Row, [], ap, arith, exactly, length, length-columns, length-plain_line, plain_line}
use Rattle.cif_records.proofs.Names.{put_all, put_all-plain_line, refl, replicate, row, spare, ℕ, ◌++◌, ◌∙◌, ◌∷◌, ◌≡◌}
use Rattle.cif_records.proofs.{Rows.onto, Rows.◌&◌, detail.columns_alone.Goals.After-put_spare-2}
use Rattle.cif_records.proofs.detail.columns_alone.Goals as goal

abbrev rows : After-put_spare-2 → List Row
rows c = row 1 29 spare ∷ row 30 78 (exactly c.columns_at.result) ∷ row 79 80 spare ∷ []

fits : (c : After-put_spare-2) → AllFit (rows c)
fits c =
    let wide : length c.columns_at.result ≡ 49 = omega (
      arith,
      ap length c.columns_at.ensures.value,
      length-columns 30 78 c.args.line.now c.columns_at.ensures.line (omega arith) (omega arith) (omega arith),
    ) in
    tt & (wide & c.columns_at.ensures.printable) & tt & tt

built : (c : After-put_spare-2) → c.put_spare-2.new.self ≡ plain_line (rows c)
built c =
    let put : c.put_spare-2.new.self ≡ put_all [] (rows c) =
    onto _ c.put_spare-2.ensures.columns (onto _ c.put_columns.ensures.columns (onto _ c.put_spare.ensures.columns c.new-alone.ensures)) in
    put ∙ put_all-plain_line (rows c) refl (fits c)

pub finish-requires : goal.finish-requires
finish-requires c =
    let here = (goal.at.finish-requires c).After-put_spare-2 in
    ap length (built here) ∙ length-plain_line (rows here) refl (fits here)

pub returns-clause-columns : goal.returns-clause-columns
returns-clause-columns c =
    c.finish.ensures ∙ built ((goal.at.returns-clause-columns c).After-put_spare-2)
    ∙ ap (λ (l : List ℕ). replicate 29 32 ++ (l ++ replicate 2 32)) c.columns_at.ensures.value
