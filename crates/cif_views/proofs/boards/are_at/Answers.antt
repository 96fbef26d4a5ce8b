-- The first line is at one of the locations, or else the others decide (`first-and-rest`).
use Rattle.cif_views.proofs.Names.{Bool, List, [], ap, arith, drop, length, length-drop, refl, sym, ℕ, ◌∙◌, ◌||◌, ◌∷◌, ◌≡◌}
use Rattle.std.specs.List.{list_any}
use Rattle.cif_columns.specs.Field.{columns_from}
use Rattle.cif_views.proofs.TableRows.{first-and-rest, no-lines, some-lines}
use Rattle.cif_views.specs.Steps.Boards.{is_at}
use Rattle.cif_views.proofs.boards.are_at.Goals as goal

abbrev at : List (List ℕ) → List ℕ → Bool
at place line = is_at place (columns_from 3 7 line)

none-at : (place lines : List (List ℕ)) → length lines ≡ 0 → list_any (at place) lines ≡ list_any (at place) []
none-at place [] none = refl
none-at place (l ∷ lines) none = absurd (omega (arith, none))

pub loop-lines-init : goal.loop-lines-init
loop-lines-init c = refl

pub returns-then-has : goal.returns-then-has
returns-then-has c =
    let place = c.args.place.now in
    let some = some-lines c.loop-lines.lines _ c.is_empty.ensures c.loop-lines-test.true in
    let is = first-and-rest c.loop-lines.lines c.first.result _ some c.first.ensures refl in
    let here = sym c.if-has.true ∙ c.has.ensures ∙ ap (is_at place) c.columns_at.ensures.value in
    ap (λ (b : Bool). b || list_any (at place) (drop 1 c.loop-lines.lines)) here ∙ sym (ap (list_any (at place)) is) ∙ c.loop-lines.invariant

pub loop-lines-smaller : goal.loop-lines-smaller
loop-lines-smaller c =
    let some = some-lines c.loop-lines.lines _ c.is_empty.ensures c.loop-lines-test.true in
    let behind = ap length c.rest-lines.ensures ∙ length-drop 1 c.loop-lines.lines in omega (arith, some, behind)

pub loop-lines-preserved : goal.loop-lines-preserved
loop-lines-preserved c =
    let place = c.args.place.now in
    let some = some-lines c.loop-lines.lines _ c.is_empty.ensures c.loop-lines-test.true in
    let is = first-and-rest c.loop-lines.lines c.first.result c.rest-lines.result some c.first.ensures c.rest-lines.ensures in
    let here = sym c.if-has.false ∙ c.has.ensures ∙ ap (is_at place) c.columns_at.ensures.value in
    ap (λ (b : Bool). b || list_any (at place) c.rest-lines.result) here ∙ sym (ap (list_any (at place)) is) ∙ c.loop-lines.invariant

pub returns : goal.returns
returns c =
    let none = no-lines c.loop-lines.lines _ c.is_empty.ensures c.loop-lines-test.false in
    sym (none-at c.args.place.now c.loop-lines.lines none) ∙ c.loop-lines.invariant
