-- In front of the line feed of its text stands the line (`front_of_text`).
use Rattle.cif_columns.proofs.Names.{ArePrintable, IsLine, [], ap, arith, get_or, length, length-append, length-take, subst, sym, take, ◌∙◌}
use Rattle.cif_columns.proofs.{Names.◌∷◌, Names.◌≡◌, TextsOfLines.front_of_text, lines.LineSlice.first.Goals.After-first_text-text}
use Rattle.cif_columns.proofs.lines.LineSlice.first.Goals as goal

line : (c : After-first_text-text) → IsLine (get_or c.args.self.now 0 [])
line c = c.are_lines.ensures 0 [] c.requires

long : (c : After-first_text-text) → length c.first_text-text.result ≡ 81
long c = omega (arith, ap length c.first_text-text.ensures, length-append (get_or c.args.self.now 0 []) (10 ∷ []), (line c).width)

front : (c : After-first_text-text) → take 80 c.first_text-text.result ≡ get_or c.args.self.now 0 []
front c = ap (take 80) c.first_text-text.ensures ∙ front_of_text (get_or c.args.self.now 0 []) (line c).width

pub slice_bounds-array_of-end : goal.slice_bounds-array_of-end
slice_bounds-array_of-end c =
    let width = long (goal.at.slice_bounds-array_of-end c).After-first_text-text in
    omega (arith, width, length-take 80 c.first_text-text.result)

pub array_of-requires : goal.array_of-requires
array_of-requires c =
    let width = long (goal.at.array_of-requires c).After-first_text-text in
    (omega arith, omega (arith, width, length-take 80 c.first_text-text.result))

pub of_printable-requires : goal.of_printable-requires
of_printable-requires c =
    let d = (goal.at.of_printable-requires c).After-first_text-text in
    subst ArePrintable (sym (c.array_of.ensures ∙ front d)) (line d).printable

pub returns : goal.returns
returns c =
    let d = (goal.at.returns c).After-first_text-text in
    c.of_printable.ensures ∙ c.array_of.ensures ∙ front d
