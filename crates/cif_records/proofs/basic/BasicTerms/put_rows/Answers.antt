-- The detail's columns are put as one piece between the rows of front and back.
use Rattle.cif_records.proofs.Names.{AllFit, List, Row, [], ap, arith, basic_back, basic_front, codes, detail_rows, exactly, fits-append}
use Rattle.cif_records.proofs.Names.{length, length-columns, length-plain_line, plain_line, plain_line-append, printable_fact, put_all}
use Rattle.cif_records.proofs.Names.{put_all-plain_line, refl, row, sym, ℕ, ◌++◌, ◌∙◌, ◌∷◌, ◌≡◌}
use Rattle.cif_records.proofs.{Rows.onto, Rows.◌&◌, basic.BasicTerms.put_rows.Goals.After-put_on-5}
use Rattle.cif_records.proofs.basic.BasicTerms.put_rows.Goals as goal

abbrev front : After-put_on-5 → List Row
front c = let t = c.args.self.now in basic_front t.uid t.first t.last t.days

-- the rows that were put
abbrev back : After-put_on-5 → List Row
back c = row 30 78 (exactly c.columns_at.result) ∷ basic_back c.args.self.now.letter

abbrev rows : After-put_on-5 → List Row
rows c = front c ++ back c

front-fits : (c : After-put_on-5) → AllFit (front c)
front-fits c =
    (refl, printable_fact (codes "BS") refl) & (refl, printable_fact (codes "N") refl) & c.put_on.ensures.fits
    & c.put_on-2.ensures.fits & c.put_on-3.ensures.fits & c.put_on-4.ensures.fits & (refl, printable_fact (codes " ") refl) & tt

fits : (c : After-put_on-5) → AllFit (rows c)
fits c =
    let wide : length c.columns_at.result ≡ 49 = omega (
      arith,
      ap length c.columns_at.ensures.value,
      length-columns 30 78 c.args.detail.now c.columns_at.ensures.line (omega arith) (omega arith) (omega arith),
    ) in
    fits-append (front c) (back c) (front-fits c) ((wide & c.columns_at.ensures.printable) & tt & c.put_on-5.ensures.fits & tt)

built : (c : After-put_on-5) → c.put_on-5.new.line ≡ plain_line (rows c)
built c =
    let put : c.put_on-5.new.line ≡ put_all [] (rows c) =
    onto _ c.put_on-5.ensures.columns (onto _ c.put_spare.ensures.columns (onto _ c.put_columns-4.ensures.columns
    (onto _ c.put_columns-3.ensures.columns (onto _ c.put_on-4.ensures.columns (onto _ c.put_on-3.ensures.columns
    (onto _ c.put_on-2.ensures.columns (onto _ c.put_on.ensures.columns (onto _ c.put_columns-2.ensures.columns
    (onto _ c.put_columns.ensures.columns c.requires))))))))) in
    put ∙ put_all-plain_line (rows c) refl (fits c)

pub returns-clause-columns : goal.returns-clause-columns
returns-clause-columns c = λ d is.
    let here = (goal.at.returns-clause-columns c).After-put_on-5 in
    let last = basic_back c.args.self.now.letter in
    built here ∙ plain_line-append (front here) (back here)
    ∙ ap (λ (l : List ℕ). plain_line (front here) ++ (l ++ plain_line last)) (c.columns_at.ensures.value ∙ is)
    ∙ ap (λ (l : List ℕ). plain_line (front here) ++ l) (sym (plain_line-append (detail_rows d) last))
    ∙ sym (plain_line-append (front here) (detail_rows d ++ last))

pub returns-clause-width : goal.returns-clause-width
returns-clause-width c =
    let here = (goal.at.returns-clause-width c).After-put_on-5 in
    ap length (built here) ∙ length-plain_line (rows here) refl (fits here)

pub returns-clause-fits : goal.returns-clause-fits
returns-clause-fits c = λ d are.
    let here = (goal.at.returns-clause-fits c).After-put_on-5 in
    let last = basic_back c.args.self.now.letter in
    fits-append (front here) (detail_rows d ++ last) (front-fits here)
    (fits-append (detail_rows d) last are (tt & c.put_on-5.ensures.fits & tt))
