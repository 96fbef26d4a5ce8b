-- The line is made of that of the detail, which is the detail's plain line.
use Rattle.cif_canon.proofs.Names.{BodyLines, List, Permanent, ap, detail_of, schedule_plain, ℕ, ◌∙◌}
use Rattle.cif_canon.proofs.canonical_form.CanonRecord+Uid+Body.basic.Goals as goal

pub returns : goal.returns
returns c =
    c.permanent_line.ensures (detail_of c.self.inside.body.now) c.detail_line-detail.ensures.plain
    ∙ ap (λ (e : List ℕ × Permanent BodyLines). (schedule_plain e).basic) c.self.view_is
