-- The invariant names the lines so far: one more (`line-more`), one that is bad, and the end are said of them all.
use Rattle.cif_feed.proofs.Names.{HasLineMore, IsHolidayLine, IsLineFault, [], ap, content, given_none, none_given, read_nothing}
use Rattle.cif_feed.proofs.Names.{read_on_both, subst, ◌++◌, ◌+◌, ◌∷◌}
use Rattle.cif_feed.proofs.HolidayLines.{AreLinesAndRest, are-none, are-push, comes-bad, comes-end, comes-line_fault, comes-overlong}
use Rattle.cif_feed.proofs.HolidayLines.{line-more}
use Rattle.cif_feed.proofs.holidays.Holidays.read.Goals as goal

pub loop-lines-init : goal.loop-lines-init
loop-lines-init g c = (
  [],
  given_none AreLinesAndRest g.R.Read.remaining none_given 1002 100000000 c.new-lines.result c.args.source.now c.new-lines.ensures.most
      c.new-lines.ensures.limit c.new-lines.ensures.given c.new-lines.ensures.held,
  are-none c.new-holidays.result c.new-holidays.ensures.names c.new-holidays.ensures.days,
  read_nothing _ _,
)

pub loop-lines-preserved : goal.loop-lines-preserved
loop-lines-preserved g c =
    let (ls, so_far, are, read_on) = c.loop-lines.invariant in
    let next = rw c.in-Ok-Content.field-0-is at c.in-Ok-Content.ensures in
    let line = content c.next.new.self in
    let added = c.in-Ok.ensures.ok in (
      ls ++ line ∷ [],
      line-more _ _ _ _ _ ls so_far read_on c.next.new.self c.next.new.source next (subst IsHolidayLine c.content.ensures added.0),
      are-push ls line c.loop-lines.holidays c.add_line.new.self are
          (subst (λ l. HasLineMore c.loop-lines.holidays l c.add_line.new.self) c.content.ensures added.1),
      read_on_both _ _ _ _ read_on next.device,
    )

pub returns-in-Err-add_line : goal.returns-in-Err-add_line
returns-in-Err-add_line g c =
    let (ls, so_far, are, read_on) = c.loop-lines.invariant in
    comes-bad _ _ _ _ _ ls so_far read_on c.next.new.self c.next.new.source
    (rw c.in-Ok-Content.field-0-is at c.in-Ok-Content.ensures) c.line_number-number.result c.line_number-number.ensures
    c.in-Err-add_line.fault
    (subst (λ l. IsLineFault c.line_number-number.result l c.in-Err-add_line.fault) c.content.ensures c.in-Err-add_line.ensures.err)

pub returns-in-Ok-Overlong : goal.returns-in-Ok-Overlong
returns-in-Ok-Overlong g c =
    let (ls, so_far, are, read_on) = c.loop-lines.invariant in
    comes-overlong _ _ _ _ _ ls so_far read_on c.next.new.self c.next.new.source
    (rw c.in-Ok-Overlong.field-0-is at c.in-Ok-Overlong.ensures) _ (ap (λ n. n + 1) c.line_number-line.ensures)

pub returns-in-Ok-End : goal.returns-in-Ok-End
returns-in-Ok-End g c =
    let (ls, so_far, are, read_on) = c.loop-lines.invariant in
    comes-end _ _ _ _ _ ls so_far read_on c.next.new.self c.next.new.source (rw c.in-Ok-End.field-0-is at c.in-Ok-End.ensures)
    c.loop-lines.holidays are

pub returns-in-Err : goal.returns-in-Err
returns-in-Err g c =
    let (ls, so_far, are, read_on) = c.loop-lines.invariant in
    rw c.from.ensures (comes-line_fault _ _ _ _ _ ls so_far read_on c.next.new.self c.next.new.source c.in-Err.fault c.in-Err.ensures)
