-- The invariant names the lines so far: one more (`come_more`), one refused (`at_line`) and the end are said of them all.
use Rattle.std.specs.Result.{is_ok}
use Rattle.cif_extract.proofs.Names.{[], ap, arith, given, known_both, length, nothing_left, progress_of, read_on_both, reading_decides}
use Rattle.cif_extract.proofs.Names.{reading_ends, reading_faults, reading_line, refl, rules, subst, sym, true≢false, ◌++◌, ◌+◌, ◌<◌, ◌∙◌}
use Rattle.cif_extract.{proofs.Names.◌∷◌, proofs.Names.◌≡◌, proofs.Names.◌≤◌, proofs.FirstRefusals.at_line, proofs.ReadCalls.at-fault}
use Rattle.cif_extract.{specs.declared.fault.Fault.TheVariants.Memory, proofs.ReadingRuns.refused_here, proofs.ReadingRuns.refused_reason}
use Rattle.cif_columns.{proofs.PassedLines.next_passed, specs.declared.ahead.Most.TheVariants.Of}
use Rattle.cif_extract.proofs.ReadingRuns.{HasCome, come_more, come_none, comes-end, comes-line_fault, comes-memory, comes-untaken}
use Rattle.cif_extract.proofs.reading.read_extract.Goals as goal

pub loop-columns-preserved-then-goes_on_plainly : goal.loop-columns-preserved-then-goes_on_plainly
loop-columns-preserved-then-goes_on_plainly g c =
    let (ls, so_far, come, read_on) = c.loop-columns.invariant in
    let columns = c.in-Some.columns.now in
    let plain = c.if-goes_on_plainly.ensures refl in
    let next = next_passed g.R.Read.remaining g.R.ReadDevice.read_errors (Of 82) c.loop-columns.lines c.pass_line.new.self
    c.loop-columns.source columns c.in-Some.ensures plain.is_line.printable c.pass_line.ensures in
    let more : given c.pass_line.new.self ≡ given c.loop-columns.lines + 1 = next.counted in
    let room : length ls < c.args.max_lines =
    omega (arith, more, so_far.counted, so_far.same_limit, next.limit_now, c.pass_line.new.self.counted) in (
      ls ++ columns ∷ [],
      reading_line g.R.Read.remaining _ _ _ _ ls so_far c.pass_line.new.self c.loop-columns.source columns next.answer next.past_now
          next.limit_now more,
      come_more c.args.max_lines ls columns plain.is_line room (progress_of c.loop-columns.reading) come
          (progress_of c.take_plain_stop.new.self) c.in_ok-take_plain_stop.ensures,
      read_on,
    )

pub loop-columns-preserved-in-Some-goes_further_plainly : goal.loop-columns-preserved-in-Some-goes_further_plainly
loop-columns-preserved-in-Some-goes_further_plainly g c =
    let (ls, so_far, come, read_on) = c.loop-columns.invariant in
    let columns = c.in-Some.columns.now in
    let plain = c.in-Some-goes_further_plainly.ensures.plain in
    let passed = c.pass_line-in-Some-goes_further_plainly in
    let next = next_passed g.R.Read.remaining g.R.ReadDevice.read_errors (Of 82) c.loop-columns.lines passed.new.self
    c.loop-columns.source columns c.in-Some.ensures plain.is_line.printable passed.ensures in
    let more : given passed.new.self ≡ given c.loop-columns.lines + 1 = next.counted in
    let room : length ls < c.args.max_lines =
    omega (arith, more, so_far.counted, so_far.same_limit, next.limit_now, passed.new.self.counted) in (
      ls ++ columns ∷ [],
      reading_line g.R.Read.remaining _ _ _ _ ls so_far passed.new.self c.loop-columns.source columns next.answer next.past_now
          next.limit_now more,
      come_more c.args.max_lines ls columns plain.is_line room (progress_of c.loop-columns.reading) come
          (progress_of c.take_plain_further.new.self) c.in_ok-take_plain_further.ensures,
      read_on,
    )

pub loop-columns-preserved : goal.loop-columns-preserved
loop-columns-preserved g c =
    let (ls, so_far, come, read_on) = c.loop-columns.invariant in
    let next = rw c.in-Ok-true.field-0-test at c.in-Ok-true.ensures in
    let line = c.read_line.new.line in
    let more : given c.read_line.new.self ≡ given c.loop-columns.lines + 1 = next.counted in
    let room : length ls < c.args.max_lines =
    omega (arith, more, so_far.counted, so_far.same_limit, next.limit_now, c.read_line.new.self.counted)
    in (
      ls ++ line ∷ [],
      reading_line g.R.Read.remaining _ _ _ _ ls so_far c.read_line.new.self c.read_line.new.source line next.answer next.past_now
          next.limit_now more,
      come_more c.args.max_lines ls line c.take.ensures.line room (progress_of c.loop-columns.reading) come (progress_of c.take.new.self)
          c.in-Ok.ensures.taken,
      read_on_both _ _ _ _ read_on (next.device so_far.reads_on),
    )

pub loop-columns-init : goal.loop-columns-init
loop-columns-init g c = (
  [],
  search rules,
  subst (HasCome c.args.max_lines []) (sym c.new-reading.ensures) (come_none c.args.max_lines),
  search rules,
)

pub returns-in_err-take_plain_stop : goal.returns-in_err-take_plain_stop
returns-in_err-take_plain_stop g c =
    rw (at-fault c.from_residual.result Memory c.from_residual.ensures.1) (comes-memory _ _ c.args.max_lines _ _ c.loop-columns.invariant.3)

pub returns-in-Err-take : goal.returns-in-Err-take
returns-in-Err-take g c =
    let (ls, so_far, come, read_on) = c.loop-columns.invariant in
    let next = rw c.in-Ok-true.field-0-test at c.in-Ok-true.ensures in
    let line = c.read_line.new.line in
    let more : given c.read_line.new.self ≡ given c.loop-columns.lines + 1 = next.counted in
    let room : length ls < c.args.max_lines =
    omega (arith, more, so_far.counted, so_far.same_limit, next.limit_now, c.read_line.new.self.counted) in
    let now =
    reading_line g.R.Read.remaining _ _ _ _ ls so_far c.read_line.new.self c.read_line.new.source line next.answer next.past_now
    next.limit_now more in
    let number : c.line_number.result ≡ length ls + 1 = omega (arith, c.line_number.ensures, more, so_far.counted) in
    rw c.at_line.ensures
    (comes-untaken _ _ c.args.max_lines _ _ c.line_number.result c.in-Err-take.fault (omega (arith, number))
    (omega (arith, number, room)) (read_on_both _ _ _ _ read_on (next.device so_far.reads_on))
    (λ why e. known_both _ _ _
    (at_line c.args.max_lines _ ls come.fine g.R.Read.remaining c.read_line.new.self c.read_line.new.source line
    c.line_number.result why
    now number
    (refused_here c.args.max_lines ls line c.take.ensures.line room (progress_of c.loop-columns.reading) come
    ∙ refused_reason _ line (progress_of c.loop-columns.reading) (progress_of c.take.new.self) c.in-Err-take.fault why
    c.in-Err-take.ensures.taken e))
    (reading_decides g.R.Read.remaining _ _ _ _ ls so_far c.read_line.new.self c.read_line.new.source c.line_number.result
    (c.line_number.ensures ∙ more) (next.decided so_far.reads_on (λ is. true≢false (ap is_ok is))))))

pub returns-in-Err : goal.returns-in-Err
returns-in-Err g c =
    let (ls, so_far, come, read_on) = c.loop-columns.invariant in
    let next = c.in-Err.ensures in
    let within : given c.loop-columns.lines ≤ c.args.max_lines = omega (arith, c.loop-columns.lines.counted, so_far.same_limit) in
    rw c.from.ensures
    (comes-line_fault _ _ c.args.max_lines _ _ ls come.fine c.loop-columns.source read_on (given c.loop-columns.lines) within c.in-Err.fault
    (reading_faults g.R.Read.remaining _ _ _ _ ls so_far c.read_line.new.self c.read_line.new.source g.R.ReadDevice.read_errors
    c.in-Err.fault next)
    (next.fault so_far.reads_on) (next.device so_far.reads_on))

pub returns-in-Ok-false : goal.returns-in-Ok-false
returns-in-Ok-false g c =
    let (ls, so_far, come, read_on) = c.loop-columns.invariant in
    let next = rw c.in-Ok-false.field-0-test at c.in-Ok-false.ensures in
    let number : c.line_number-in-Ok-false.result ≡ length ls = c.line_number-in-Ok-false.ensures ∙ next.ended refl ∙ so_far.counted in
    let within : c.line_number-in-Ok-false.result ≤ c.args.max_lines =
    omega (arith, c.line_number-in-Ok-false.ensures, c.read_line.new.self.counted, next.limit_now, so_far.same_limit) in
    comes-end _ _ c.args.max_lines _ _ ls come.fine
    (reading_ends g.R.Read.remaining _ _ _ _ ls so_far c.read_line.new.self c.read_line.new.source next.answer) (
      next.reported so_far.reads_on refl,
      nothing_left g.R.Read.remaining _ _ _ _ ls so_far c.read_line.new.self c.read_line.new.source next.answer,
    )
    (sym read_on.going ∙ next.endless so_far.reads_on refl) (read_on_both _ _ _ _ read_on (next.device so_far.reads_on))
    c.line_number-in-Ok-false.result number within (progress_of c.loop-columns.reading) come.taken c.finish.result
    (c.finish.ensures.are come.taken.records come.taken.read) c.finish.ensures.truncated
    (c.finish.ensures.unfinished come.taken.records come.taken.read)

pub take-requires : goal.take-requires
take-requires g c = let (ls, so_far, come, read_on) = c.loop-columns.invariant in (come.taken.records, come.taken.read)

pub take_plain_stop-requires : goal.take_plain_stop-requires
take_plain_stop-requires g c = c.if-goes_on_plainly.ensures refl

pub take_plain_further-requires-clause-read : goal.take_plain_further-requires-clause-read
take_plain_further-requires-clause-read g c =
    let (ls, so_far, come, read_on) = c.loop-columns.invariant in (come.taken.records, come.taken.read)

pub pass_line-requires : goal.pass_line-requires
pass_line-requires g c = (c.in-Some.columns.now, c.in-Some.ensures)

pub loop-columns-smaller : goal.loop-columns-smaller
loop-columns-smaller g c =
    let next = rw c.in-Ok-true.field-0-test at c.in-Ok-true.ensures in
    let more : given c.read_line.new.self ≡ given c.loop-columns.lines + 1 = next.counted in
    omega (arith, more, next.limit_now, c.read_line.new.self.counted)

pub take_plain_further-requires-clause-plain : goal.take_plain_further-requires-clause-plain
take_plain_further-requires-clause-plain g c = c.in-Some-goes_further_plainly.ensures

pub returns-in_err-take_plain_further : goal.returns-in_err-take_plain_further
returns-in_err-take_plain_further g c =
    rw (at-fault c.from_residual-in_err-take_plain_further.result Memory c.from_residual-in_err-take_plain_further.ensures.1)
    (comes-memory _ _ c.args.max_lines _ _ c.loop-columns.invariant.3)
