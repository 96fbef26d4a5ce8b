-- What a BS comes to, and an LT.
use Rattle.cif_extract.proofs.Names.{AllStandIn, Basic, BasicTerms, Detail, IsClosed, IsKeepable, List, None, Option, Progress, Schedule}
use Rattle.cif_extract.proofs.Names.{Some, Terminus, [], ap, closed, detail_table, false, has_body, is_some, plain_line, schedule_of, step}
use Rattle.cif_extract.proofs.Names.{subst, sym, terms_of, ℕ, ◌++◌, ◌∙◌, ◌∷◌, ◌≡◌}
use Rattle.cif_records.specs.declared.record.Record.TheVariants as of
use Rattle.cif_extract.specs.Steps.Reading.{begun, kept}
use Rattle.cif_extract.specs.declared.place.Place.TheVariants as at

module _ (p : Progress) (b : Basic) (t : BasicTerms) (terms : t ≡ terms_of b) where
  pub begun_none : (d : Option Detail) (e : is_some d ≡ has_body b.letter) → d ≡ None → (s : Schedule) →
      ((none : false ≡ has_body t.letter) → s ≡ schedule_of t None none) →
      record p { place = at.Cancelled; schedules = p.schedules ++ (s ∷ []); opened = None } ≡ begun p b d e
  begun_none None e none s is =
      ap (λ (x : Schedule). record p { place = at.Cancelled; schedules = p.schedules ++ (x ∷ []); opened = None })
      (subst (λ (u : BasicTerms). (none : false ≡ has_body u.letter) → s ≡ schedule_of u None none) terms is e)
  begun_none (Some d) e none s is = absurd (cc)

  pub begun_some : (d : Option Detail) (e : is_some d ≡ has_body b.letter) (detail : Detail) → d ≡ Some detail →
      record p { place = at.Basic; opened = Some t; lines = plain_line (detail_table detail) ∷ [] } ≡ begun p b d e
  begun_some None e detail some = absurd (cc)
  begun_some (Some d) e detail some =
      let same : detail ≡ d = cc in
      ap (λ (x : Detail). record p { place = at.Basic; opened = Some t; lines = plain_line (detail_table x) ∷ [] }) same
      ∙ ap (λ (u : BasicTerms). record p { place = at.Basic; opened = Some u; lines = plain_line (detail_table d) ∷ [] }) terms

-- the detail's line that is kept spells it
pub keepable_none : (b : Basic) → b.detail ≡ None → IsKeepable (of.Basic b)
keepable_none b e = rw e tt

pub keepable_some : (b : Basic) (d : Detail) (line : List ℕ) → b.detail ≡ Some d → line ≡ plain_line (detail_table d) →
    AllStandIn line (detail_table d) → IsKeepable (of.Basic b)
keepable_some b d line e plain again = rw e (subst (λ l. AllStandIn l (detail_table d)) plain again)

-- the last line of a schedule is there now
module _ (before now : Progress) (t : Terminus) (is : now ≡ record before { lines = kept before.opened before.lines (of.Terminus t) }) where
  terminus : (opened : Option BasicTerms) → now.opened ≡ opened →
      record now { place = at.Schedules; opened = None; schedules = closed now.schedules opened now.lines } ≡ step before (of.Terminus t)
  terminus opened e =
      ap (λ o. record now { place = at.Schedules; opened = None; schedules = closed now.schedules o now.lines }) (sym e)
      ∙ ap (λ (n : Progress). record n { place = at.Schedules; opened = None; schedules = closed n.schedules n.opened n.lines }) is

  pub terminus_none : now.opened ≡ None → record now { place = at.Schedules; opened = None } ≡ step before (of.Terminus t)
  terminus_none = terminus None

  -- and closing the schedule is the step
  pub closing : (o : BasicTerms) (after : Progress) → now.opened ≡ Some o →
      IsClosed (record now { place = at.Schedules; opened = None }) o after → after ≡ step before (of.Terminus t)
  closing o after some closed = closed ∙ terminus (Some o) some
