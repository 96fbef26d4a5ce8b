-- By its letter the BS has the detail that stands in the line, whose plain line is kept, or none.
use Rattle.std.proofs.lemmas.Result.{on_ok_weaker}
use Rattle.cif_extract.proofs.Names.{BasicTerms, ap, detail_in, false, has_body, no_detail_there, progress_of, sym, true, ◌∙◌, ◌≡◌}
use Rattle.cif_extract.proofs.BasicSteps.{begun_none, begun_some, keepable_none, keepable_some}
use Rattle.cif_extract.proofs.reading.Reading.put_basic.Goals as goal

pub returns-then-has_body : goal.returns-then-has_body
returns-then-has_body c = λ b terms detail.
    let has : has_body b.letter ≡ true =
    ap (λ (t : BasicTerms). has_body t.letter) (sym terms) ∙ sym c.has_body.ensures ∙ c.if-has_body.true in
    let some = detail has in
    on_ok_weaker c.keep_plain.result (λ is. (
      keepable_some b (detail_in c.args.line.now) c.line_of.result some c.line_of.ensures.plain c.line_of.ensures.again,
      is ∙ rw (c.clear.ensures, c.line_of.ensures.plain)
          (begun_some (progress_of c.args.self.now) b _ terms b.detail b.bodied (detail_in c.args.line.now) some),
    )) c.keep_plain.ensures

pub returns-in_ok-push : goal.returns-in_ok-push
returns-in_ok-push c = λ b terms detail.
    let lacks : has_body b.letter ≡ false =
    ap (λ (t : BasicTerms). has_body t.letter) (sym terms) ∙ sym c.has_body.ensures ∙ c.if-has_body.false in
    let none = no_detail_there b lacks in (
      keepable_none b none,
      rw c.in_ok-push.ensures.items (begun_none (progress_of c.args.self.now) b _ terms b.detail b.bodied none c.of.result c.of.ensures),
    )
