-- The lines so far are named by the loop's invariant; each step adds the one that was read (`reading_line`).
use Rattle.std.proofs.Common.{◌≡◌, ◌∙◌, ℕ, List, length, [], ◌++◌, ◌∷◌, Ok, Option, ap, sym}
use Rattle.cif_columns.specs.GivenLines.{AreAllLines, AreLinesToFault}
use Rattle.cif_columns.specs.Source.{unread_of}
use Rattle.cif_columns.proofs.GivenLinesLaws.{reading_starts, reading_line, reading_ends, reading_faults, known_so}
use Rattle.cif_columns.proofs.ReadSources.{line_reads_on, read_nothing, read_on_both}
use Rattle.test_cases.proofs.devices.line_count.count_lines.Goals as goal

pub loop-lines-init : goal.loop-lines-init
loop-lines-init g c =
    let new = c.new-lines.ensures in (
      [],
      reading_starts g.R.Read.remaining c.args.max_lines c.new-lines.result c.args.source.now new.held new.given new.limit new.past,
      read_nothing _ _,
    )

pub loop-lines-preserved : goal.loop-lines-preserved
loop-lines-preserved g c =
    let (ls, so_far, read_on) = c.loop-lines.invariant in
    let next = c.in-Ok-Some.ensures in
    let line = c.in-Ok-Some.field-0-0 in
    let is = c.in-Ok-Some.field-0-is in (
      ls ++ line ∷ [],
      reading_line g.R.Read.remaining _ _ _ _ ls so_far c.next.new.self c.next.new.source line
          (rw is at next.answer) (next.past_now ∙ rw is) next.limit_now (rw is at next.counted),
      read_on_both _ _ _ _ read_on (next.device so_far.reads_on),
    )

pub returns-in-Ok-None-clause-all : goal.returns-in-Ok-None-clause-all
returns-in-Ok-None-clause-all g c =
    let (ls, so_far, read_on) = c.loop-lines.invariant in
    let next = c.in-Ok-None.ensures in
    let is = c.in-Ok-None.field-0-is in
    known_so _ (λ bytes. AreAllLines c.args.max_lines bytes ls)
    (λ bytes. (lines : List (List ℕ)) × (c.line_number.result ≡ length lines) × AreAllLines c.args.max_lines bytes lines)
    (λ bytes h. (ls, c.line_number.ensures ∙ next.ended (ap Ok is) ∙ so_far.counted, h))
    (reading_ends g.R.Read.remaining _ _ _ _ ls so_far c.next.new.self c.next.new.source (rw is at next.answer))

pub returns-in-Err-clause-fault : goal.returns-in-Err-clause-fault
returns-in-Err-clause-fault g c =
    let (ls, so_far, read_on) = c.loop-lines.invariant in
    let after = unread_of g.R.Read.remaining c.next.new.source in
    known_so _ (λ bytes. AreLinesToFault c.args.max_lines bytes after ls c.in-Err.fault)
    (λ bytes. (lines : List (List ℕ)) × AreLinesToFault c.args.max_lines bytes after lines c.in-Err.fault) (λ bytes h. (ls, h))
    (reading_faults g.R.Read.remaining _ _ _ _ ls so_far c.next.new.self c.next.new.source g.R.ReadDevice.read_errors c.in-Err.fault
    c.in-Err.ensures)

pub returns-in-Ok-None-clause-device : goal.returns-in-Ok-None-clause-device
returns-in-Ok-None-clause-device g c =
    let (ls, so_far, read_on) = c.loop-lines.invariant in
    read_on_both _ _ _ _ read_on (c.in-Ok-None.ensures.device so_far.reads_on)

pub returns-in-Ok-None-clause-endless : goal.returns-in-Ok-None-clause-endless
returns-in-Ok-None-clause-endless g c =
    let (ls, so_far, read_on) = c.loop-lines.invariant in
    let is = ap Ok c.in-Ok-None.field-0-is in
    (sym read_on.going ∙ c.in-Ok-None.ensures.endless so_far.reads_on is, c.in-Ok-None.ensures.reported so_far.reads_on is)

pub returns-in-Err-clause-device : goal.returns-in-Err-clause-device
returns-in-Err-clause-device g c =
    let (ls, so_far, read_on) = c.loop-lines.invariant in
    line_reads_on _ (Option (List ℕ)) ℕ _ _ _ c.in-Err.fault read_on (c.in-Err.ensures.device so_far.reads_on)
