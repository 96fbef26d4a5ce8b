-- The invariant names the contents so far: one more (`feed_line`, `feed_comment`), one refused (`at_feed_line`) and the end are said of
-- them all.
use Rattle.cif_feed.proofs.Names.{MarkParts, [], ap, arith, is_comment, is_note, kind_in, known_both, length, nothing_left, read_nothing}
use Rattle.cif_feed.proofs.Names.{read_on_both, reading_decides, reading_ends, reading_faults, reading_starts, refl, sym, ◌++◌, ◌+◌, ◌<◌}
use Rattle.cif_feed.proofs.Names.{true≢false, ◌∙◌, ◌∷◌, ◌≡◌, ◌≤◌}
use Rattle.std.specs.Result.{is_ok}
use Rattle.cif_columns.{proofs.PassedLines.next_passed, specs.declared.ahead.Most.TheVariants.InFeed, specs.LineReader.given}
use Rattle.cif_extract.{proofs.ReadCalls.at-fault, specs.declared.fault.Fault.TheVariants.Memory}
use Rattle.cif_feed.proofs.FeedRuns.{at_feed_line, comes-end, comes-line_fault, comes-memory, comes-untaken, comment_fine, feed_comment}
use Rattle.cif_feed.proofs.FeedRuns.{feed_line, feed_reason, few_lines, line_why, none_more, none_none, room_more, room_one}
use Rattle.cif_feed.{proofs.SaidLines.marked_result, specs.declared.feed_fault.FeedFault.TheVariants.Extract}
use Rattle.cif_feed.proofs.feed_reading.read_feed.Goals as goal

pub loop-columns-init : goal.loop-columns-init
loop-columns-init g c = (
  [],
  reading_starts g.R.Read.remaining c.args.max_lines c.new-lines.result c.args.source.now c.new-lines.ensures.held c.new-lines.ensures.given
      c.new-lines.ensures.limit c.new-lines.ensures.past,
  c.new-reading.ensures c.args.feed c.args.allowed,
  none_none c.args.feed c.args.allowed c.args.max_lines,
  read_nothing g.R.ReadDevice.read_errors c.args.source.now,
)

pub loop-columns-preserved-in-loop-columns : goal.loop-columns-preserved-in-loop-columns
loop-columns-preserved-in-loop-columns g c =
    let (cs, so_far, taken, fine, read_on) = c.loop-columns.invariant in
    let columns = c.in-Some.columns.now in
    let stop = c.in_ok-take_plain_stop.ensures c.args.feed c.args.allowed cs taken in
    let next = next_passed g.R.Read.remaining g.R.ReadDevice.read_errors InFeed c.loop-columns.lines c.pass_line.new.self
    c.loop-columns.source columns c.in-Some.ensures stop.is_line.printable c.pass_line.ensures in
    let more : given c.pass_line.new.self ≡ given c.loop-columns.lines + 1 = next.counted in
    let room : length cs < c.args.max_lines =
    omega (arith, more, so_far.counted, so_far.same_limit, next.limit_now, c.pass_line.new.self.counted) in (
      cs ++ columns ∷ [],
      feed_line g.R.Read.remaining g.R.ReadDevice.read_errors _ _ _ _ cs so_far c.pass_line.new.self c.loop-columns.source columns
          stop.is_line next,
      stop.taken,
      none_more c.args.feed c.args.allowed c.args.max_lines cs columns fine
          (line_why c.args.feed c.args.allowed c.args.max_lines cs columns stop.is_line stop.no_comment room ∙ stop.stands),
      read_on,
    )

pub take-requires-clause-room : goal.take-requires-clause-room
take-requires-clause-room g c =
    let (cs, so_far, taken, fine, read_on) = c.loop-columns.invariant in
    let got = rw c.in-Ok-Line.field-0-is at c.in-Ok-Line.ensures in
    room_one is_note cs c.loop-columns.reading.marks.passed.notes (ap (λ (m : MarkParts). m.passed.notes) taken.marks)
    (few_lines c.read_content.new.self cs (given c.loop-columns.lines) got.0.counted so_far.counted)

pub take-requires-clause-counts : goal.take-requires-clause-counts
take-requires-clause-counts g c =
    let (cs, so_far, taken, fine, read_on) = c.loop-columns.invariant in
    let got = rw c.in-Ok-Line.field-0-is at c.in-Ok-Line.ensures in
    room_more cs c.loop-columns.reading.marks.counts (ap (λ (m : MarkParts). m.counts) taken.marks)
    (few_lines c.read_content.new.self cs (given c.loop-columns.lines) got.0.counted so_far.counted)

pub loop-columns-preserved-in-Ok : goal.loop-columns-preserved-in-Ok
loop-columns-preserved-in-Ok g c =
    let (cs, so_far, taken, fine, read_on) = c.loop-columns.invariant in
    let got = rw c.in-Ok-Line.field-0-is at c.in-Ok-Line.ensures in
    let next = got.0 in
    let line = c.read_content.new.line in
    let more : given c.read_content.new.self ≡ given c.loop-columns.lines + 1 = next.counted in
    let room : length cs < c.args.max_lines =
    omega (arith, more, so_far.counted, so_far.same_limit, next.limit_now, c.read_content.new.self.counted) in
    let number : c.line_number-number.result ≡ length cs + 1 = omega (arith, c.line_number-number.ensures, more, so_far.counted) in
    let now = c.in-Ok.ensures.taken cs taken number in (
      cs ++ line ∷ [],
      feed_line g.R.Read.remaining g.R.ReadDevice.read_errors _ _ _ _ cs so_far c.read_content.new.self c.read_content.new.source line
          c.in-Ok.ensures.line next,
      now.1,
      none_more c.args.feed c.args.allowed c.args.max_lines cs line fine
          (line_why c.args.feed c.args.allowed c.args.max_lines cs line c.in-Ok.ensures.line got.1 room ∙ now.0),
      read_on_both _ _ _ _ read_on (next.device so_far.reads_on),
    )

pub pass_comment-requires : goal.pass_comment-requires
pass_comment-requires g c =
    let (cs, so_far, taken, fine, read_on) = c.loop-columns.invariant in
    let got = rw c.in-Ok-Comment.field-0-is at c.in-Ok-Comment.ensures in
    room_one is_comment cs c.loop-columns.reading.marks.passed.comments (ap (λ (m : MarkParts). m.passed.comments) taken.marks)
    (few_lines c.read_content.new.self cs (given c.loop-columns.lines) got.counted so_far.counted)

pub loop-columns-preserved : goal.loop-columns-preserved
loop-columns-preserved g c =
    let (cs, so_far, taken, fine, read_on) = c.loop-columns.invariant in
    let passed = rw c.in-Ok-Comment.field-0-is at c.in-Ok-Comment.ensures in
    let more : given c.read_content.new.self ≡ given c.loop-columns.lines + 1 = passed.counted in
    let room : length cs < c.args.max_lines =
    omega (arith, more, so_far.counted, so_far.same_limit, passed.limit_now, c.read_content.new.self.counted) in
    let (comment, is, now) = feed_comment g.R.Read.remaining g.R.ReadDevice.read_errors _ _ _ _ cs so_far c.read_content.new.self
    c.read_content.new.source passed in (
      cs ++ comment ∷ [],
      now,
      c.pass_comment.ensures c.args.feed c.args.allowed cs comment taken is,
      none_more c.args.feed c.args.allowed c.args.max_lines cs comment fine
          (comment_fine c.args.feed c.args.allowed c.args.max_lines cs comment is room),
      read_on_both _ _ _ _ read_on passed.read_on,
    )

pub returns-in-Ok-End-clause-marked : goal.returns-in-Ok-End-clause-marked
returns-in-Ok-End-clause-marked g c =
    let (cs, so_far, taken, fine, read_on) = c.loop-columns.invariant in
    marked_result c.args.feed c.args.allowed cs c.finish.result
    (c.finish.ensures.held c.args.feed c.args.allowed cs taken)

pub returns-in_err-take_plain_stop-clause-reads : goal.returns-in_err-take_plain_stop-clause-reads
returns-in_err-take_plain_stop-clause-reads g c =
    rw (at-fault c.from_residual.result (Extract Memory) c.from_residual.ensures.1)
    (comes-memory c.args.feed c.args.allowed c.args.max_lines _ _ _ _ c.loop-columns.invariant.4)

pub returns-in-Err-take-clause-reads : goal.returns-in-Err-take-clause-reads
returns-in-Err-take-clause-reads g c =
    let (cs, so_far, taken, fine, read_on) = c.loop-columns.invariant in
    let got = rw c.in-Ok-Line.field-0-is at c.in-Ok-Line.ensures in
    let next = got.0 in
    let line = c.read_content.new.line in
    let more : given c.read_content.new.self ≡ given c.loop-columns.lines + 1 = next.counted in
    let room : length cs < c.args.max_lines =
    omega (arith, more, so_far.counted, so_far.same_limit, next.limit_now, c.read_content.new.self.counted) in
    let number : c.line_number-number.result ≡ length cs + 1 = omega (arith, c.line_number-number.ensures, more, so_far.counted) in
    let start = g.R.Read.remaining c.args.source.now.reader in
    rw c.fault_at.ensures
    (comes-untaken c.args.feed c.args.allowed c.args.max_lines _ _ _ _ c.line_number-number.result (kind_in line) c.in-Err-take.fault
    (omega (arith, number)) (omega (arith, number, room)) (read_on_both _ _ _ _ read_on (next.device so_far.reads_on))
    (λ why e. known_both start _ _
    (at_feed_line c.args.feed c.args.allowed c.args.max_lines start cs fine g.R.Read.remaining c.read_content.new.self
    c.read_content.new.source line c.line_number-number.result why
    (feed_line g.R.Read.remaining g.R.ReadDevice.read_errors _ _ _ _ cs so_far c.read_content.new.self c.read_content.new.source line
    c.in-Err-take.ensures.line next) number
    (line_why c.args.feed c.args.allowed c.args.max_lines cs line c.in-Err-take.ensures.line got.1 room
    ∙ feed_reason c.args.feed c.args.allowed cs line c.in-Err-take.fault why _ (c.in-Err-take.ensures.taken cs taken number) e))
    (reading_decides g.R.Read.remaining _ _ _ _ cs so_far c.read_content.new.self c.read_content.new.source c.line_number-number.result
    (c.line_number-number.ensures ∙ more) (next.decided so_far.reads_on (λ is. true≢false (ap is_ok is))))))

pub returns-in-Ok-End-clause-reads : goal.returns-in-Ok-End-clause-reads
returns-in-Ok-End-clause-reads g c =
    let (cs, so_far, taken, fine, read_on) = c.loop-columns.invariant in
    let next = rw c.in-Ok-End.field-0-is at c.in-Ok-End.ensures in
    let number : c.line_number.result ≡ length cs = c.line_number.ensures ∙ next.ended refl ∙ so_far.counted in
    let within : c.line_number.result ≤ c.args.max_lines =
    omega (arith, c.line_number.ensures, c.read_content.new.self.counted, next.limit_now, so_far.same_limit) in
    comes-end c.args.feed c.args.allowed c.args.max_lines _ _ _ _ cs fine
    (reading_ends g.R.Read.remaining _ _ _ _ cs so_far c.read_content.new.self c.read_content.new.source next.answer) (
      next.reported so_far.reads_on refl,
      nothing_left g.R.Read.remaining _ _ _ _ cs so_far c.read_content.new.self c.read_content.new.source next.answer,
    )
    (sym read_on.going ∙ next.endless so_far.reads_on refl) (read_on_both _ _ _ _ read_on (next.device so_far.reads_on))
    c.line_number.result number within c.finish.result (c.finish.ensures.held c.args.feed c.args.allowed cs taken)
    c.finish.ensures.truncated (c.finish.ensures.unfinished c.args.feed c.args.allowed cs taken)

pub returns-in-Err-clause-reads : goal.returns-in-Err-clause-reads
returns-in-Err-clause-reads g c =
    let (cs, so_far, taken, fine, read_on) = c.loop-columns.invariant in
    let next = c.in-Err.ensures.0 in
    let within : given c.loop-columns.lines ≤ c.args.max_lines = omega (arith, c.loop-columns.lines.counted, so_far.same_limit) in
    rw c.from.ensures
    (comes-line_fault c.args.feed c.args.allowed c.args.max_lines _ _ _ _ cs fine _ c.loop-columns.source so_far read_on
    (given c.loop-columns.lines) within c.in-Err.fault
    (reading_faults g.R.Read.remaining _ _ _ _ cs so_far c.read_content.new.self c.read_content.new.source g.R.ReadDevice.read_errors
    c.in-Err.fault next) c.in-Err.ensures.1 (next.fault so_far.reads_on) (next.device so_far.reads_on))
