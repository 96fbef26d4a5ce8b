-- The invariant names the contents so far: one more (`given_more`), one too many, one that is overlong, and the end are said of them all.
use Rattle.cif_feed.proofs.Names.{AreJudgedAndRest, BadLength, [], ap, arith, content, content_more, given_more, given_none, given_overlong}
use Rattle.cif_feed.proofs.Names.{inl, inr, judged_all_given, length, line_of, no_contents, of_any, read_nothing, read_on_both, refl}
use Rattle.cif_feed.proofs.Names.{source_ended, sym, ⊎_elim, ◌++◌, ◌+◌, ◌<◌, ◌∙◌, ◌∷◌, ◌≡◌, ◌≤◌}
use Rattle.cif_feed.proofs.JudgedRuns.{comes-finished, comes-line_fault, comes-memory, overlong_ok}
use Rattle.cif_feed.proofs.ReportedReasons.{own_of_long, some_has_here}
use Rattle.cif_feed.proofs.judged.Judged.read.Goals as goal

pub loop-contents-init : goal.loop-contents-init
loop-contents-init g c = (
  [],
  given_none AreJudgedAndRest g.R.Read.remaining no_contents 10000 c.args.max_lines c.new-contents.result c.args.source.now
      c.new-contents.ensures.most c.new-contents.ensures.limit c.new-contents.ensures.given c.new-contents.ensures.held,
  c.new-judging.ensures c.args.max_lines,
  read_nothing _ _,
  inl c.new-contents.ensures.held,
)

pub loop-contents-preserved : goal.loop-contents-preserved
loop-contents-preserved g c =
    let (cs, so_far, judged, read_on, begun) = c.loop-contents.invariant in
    let next = rw c.in-Ok-Content.field-0-is at c.in-Ok-Content.ensures in
    let number = c.line_number-number.result in
    let numbered : number ≡ length cs + 1 = omega (arith, c.line_number-number.ensures, next.holds.1, so_far.counted) in
    let within : number ≤ c.args.max_lines =
    omega (arith, c.line_number-number.ensures, next.holds.0, next.holds.1, so_far.same_limit) in
    let one = content c.next.new.self in (
      cs ++ one ∷ [],
      given_more AreJudgedAndRest g.R.Read.remaining g.R.ReadDevice.read_errors _ _ _ _ _ cs so_far c.next.new.self c.next.new.source next
          (λ bytes rest after known first. content_more bytes cs rest one after known first),
      c.in-Ok.ensures.judged c.args.max_lines cs one judged numbered within (c.line_of.ensures ∙ ap line_of c.content.ensures),
      read_on_both _ _ _ _ read_on next.device,
      inr (⊎_elim (λ none. sym read_on.going ∙ next.fresh none) (λ begun. begun) begun),
    )

pub loop-contents-smaller : goal.loop-contents-smaller
loop-contents-smaller g c =
    let next = rw c.in-Ok-Content.field-0-is at c.in-Ok-Content.ensures in
    omega (arith, next.holds.0, next.holds.1, c.next.new.self.counted)

pub returns-in-Err-take : goal.returns-in-Err-take
returns-in-Err-take g c =
    let (cs, so_far, judged, read_on, begun) = c.loop-contents.invariant in
    let next = rw c.in-Ok-Content.field-0-is at c.in-Ok-Content.ensures in
    comes-memory _ _ c.args.max_lines _ _ (read_on_both _ _ _ _ read_on next.device) c.in-Err-take.fault c.in-Err-take.ensures.memory

pub returns-in-Ok-Overlong : goal.returns-in-Ok-Overlong
returns-in-Ok-Overlong g c =
    let (cs, so_far, judged, read_on, begun) = c.loop-contents.invariant in
    let next = rw c.in-Ok-Overlong.field-0-is at c.in-Ok-Overlong.ensures in
    let (last, gave) = given_overlong g.R.Read.remaining g.R.ReadDevice.read_errors _ _ _ _ cs so_far c.next.new.self c.next.new.source next
    in
    let (long, wide, is) = last in
    let own = own_of_long long wide in
    let room : length cs < c.args.max_lines = omega (arith, next.holds.0, so_far.counted, so_far.same_limit) in
    let number = c.line_number-number-in-Ok-Overlong in
    let numbered : number.result + 1 ≡ length cs + 1 = omega (arith, number.ensures, next.holds.1, so_far.counted) in
    let now = c.refuse.ensures c.args.max_lines cs long judged numbered own in
    record {
      ok = overlong_ok c.args.max_lines cs long room (g.R.Read.remaining c.args.source.now.reader)
          (g.R.Read.remaining c.next.new.source.reader) (source_ended c.next.new.source) is gave c.refuse.new.self.reasons
          (some_has_here cs long BadLength own) now.reported;
      fault = of_any _ _ (λ bytes. tt);
      answers = tt;
      source = (⊎_elim (λ none. sym read_on.going ∙ next.fresh none) (λ begun. begun) begun, read_on_both _ _ _ _ read_on next.device);
      end = λ whole. absurd whole;
    }

pub returns-in-Ok-End : goal.returns-in-Ok-End
returns-in-Ok-End g c =
    let (cs, so_far, judged, read_on, begun) = c.loop-contents.invariant in
    let next = rw c.in-Ok-End.field-0-is at c.in-Ok-End.ensures in
    let within : length cs ≤ c.args.max_lines = omega (arith, so_far.counted, so_far.same_limit, c.loop-contents.contents.counted) in
    let ended = judged_all_given g.R.Read.remaining g.R.ReadDevice.read_errors _ _ _ _ cs so_far c.next.new.self c.next.new.source next in
    comes-finished _ _ c.args.max_lines _ _ cs within (read_on_both _ _ _ _ read_on next.device) ended.0 ((next.ended refl).1, ended.1)
    (sym read_on.going ∙ (next.ended refl).0) c.finish.result
    (c.finish.ensures c.args.max_lines cs judged (c.line_number.ensures ∙ next.holds ∙ so_far.counted))

pub returns-in-Err : goal.returns-in-Err
returns-in-Err g c =
    let (cs, so_far, judged, read_on, begun) = c.loop-contents.invariant in
    rw c.from.ensures
    (comes-line_fault _ _ c.args.max_lines _ _ c.loop-contents.source cs so_far read_on _ c.next.new.source c.in-Err.fault c.in-Err.ensures)
