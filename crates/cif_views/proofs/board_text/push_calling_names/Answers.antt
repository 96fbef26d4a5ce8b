-- There are three names if there is a place.
use Rattle.cif_views.proofs.Names.{List, None, Option, Some, [], append-nil, false, false≢true, refl, sym, true, ℕ, ◌∙◌, ◌≡◌}
use Rattle.std.specs.Prelude.{is_some}
use Rattle.cif_views.proofs.RowNames.{Format, added-is, added-waits, names_text}
use Rattle.cif_views.specs.{Boards.calling_names, declared.places.Place.Place}
use Rattle.cif_views.proofs.board_text.push_calling_names.Goals as goal

some-names : (f : Format) (goal other : Option Place) → true ≡ is_some goal → true ≡ is_some other →
    names_text f (calling_names other) ≡ names_text f (calling_names goal)
some-names f None other is some = absurd (false≢true (sym is))
some-names f goal None is some = absurd (false≢true (sym some))
some-names f (Some goal) (Some other) is some = refl

no-names : (f : Format) (goal : Option Place) → false ≡ is_some goal → [] ≡ names_text f (calling_names goal)
no-names f None is = refl
no-names f (Some goal) is = absurd (false≢true is)

pub returns-then-is_some : goal.returns-then-is_some
returns-then-is_some g c =
    added-is _ _ _ _ _ _ _ _
    (some-names g.F.RowFormat.FORMAT c.args.goal (Some (record { tiploc = []; crs = None })) (sym c.if-is_some.true ∙ c.is_some.ensures) refl)
    c.push_names.ensures

pub returns-else-is_some : goal.returns-else-is_some
returns-else-is_some g c =
    added-is _ _ _ _ _ _ _ _ (no-names g.F.RowFormat.FORMAT c.args.goal (sym c.if-is_some.false ∙ c.is_some.ensures))
    (added-waits _ _ [] _ _ _ (sym (append-nil _)))
