-- A line that is passed where it is ahead is the next line, as `read_line` gives it, from any source.
use Rattle.cif_columns.proofs.Names.{AreAhead, ArePrintable, BeginWithLine, Content, EndsAtFeed, HasPassed, IsLine, IsNextBy, Keeps-refl}
use Rattle.cif_columns.proofs.Names.{Line, LineReader, List, Most, Of, Ok, Option, Reading, Some, Source, ap, arith, drop, drop-cons}
use Rattle.cif_columns.proofs.Names.{length, length-take, most_by, past, prepend_known, reader_of, sym, take-append-drop, ℕ, ◌++◌, ◌+◌, ◌<◌}
use Rattle.cif_columns.proofs.{ContentAnswers.none_decided, FirstContents.content_first, FirstContents.fed_decides}
use Rattle.cif_columns.proofs.{FirstContents.passed_left, GivenLinesLaws.known_so, LineAnswers.gives_line, Names.◌∙◌, Names.◌∷◌, Names.◌≡◌}
use Rattle.cif_columns.proofs.{PlainLines.unstripped, ReadSources.read_nothing}
use Rattle.cif_columns.specs.LineReader.{given, held, left, limit}

-- eighty bytes of a line and a line feed
module _ (bytes line : List ℕ) (begins : BeginWithLine bytes line) where
  is_line : IsLine line
  is_line =
      let within = begins.within in
      record { width = ap length begins.is ∙ omega (arith, within, length-take 80 bytes); printable = begins.printable }

  line_ends : EndsAtFeed 82 bytes line (drop 81 bytes)
  line_ends = record {
    part = line;
    no_feed = λ k d below e. let low = (begins.printable k d below).0 in absurd (omega (arith, low, e));
    short = let wide = is_line.width in omega (arith, wide);
    parts = sym (take-append-drop 80 bytes) ∙ ap (λ l. l ++ drop 80 bytes) (sym begins.is)
        ∙ ap (λ l. line ++ l) (drop-cons bytes 80 0 begins.within ∙ ap (λ b. b ∷ drop 81 bytes) begins.feed);
    is = sym (unstripped line is_line);
  }

-- stand first, and are passed
begins_next : {R : Type 0} (remaining : R → Option (List ℕ)) (errors : R → Option ℕ) (most : Most) (old new : LineReader)
    (source : Source R) (line : Line) → past old ≡ Reading → past new ≡ Reading → given old < limit old → BeginWithLine (held old) line
    → held new ≡ drop 81 (held old) → limit new ≡ limit old → given new ≡ given old + 1
    → IsNextBy remaining errors most old source (Ok (Some line)) new source
begins_next remaining errors most old new source line reading past_now room begins held_now limit_now counted =
    let unread = remaining (reader_of source) in
    let fed = line_ends (held old) line begins in
    gives_line reading limit_now line (is_line (held old) line begins) past_now room counted
    (known_so (left remaining old source) _ _ (λ bytes answer. (
      answer.0,
      ap (λ l. prepend_known l unread) held_now ∙ answer.1,
      content_first 82 bytes line answer.0 answer.2,
    )) (passed_left (Of 82) (left remaining old source) unread (held old) line (drop 81 (held old)) Content (Keeps-refl _) fed))
    (read_nothing errors source)
    (λ not. record {
      given = held old;
      parts = Keeps-refl _;
      decided = λ none. fed_decides 82 (most_by most (held old)) _ _ _ fed
          (none_decided (most_by most (held old)) (limit old) (given old) (held old) none);
    })

pub next_passed : {R : Type 0} (remaining : R → Option (List ℕ)) (errors : R → Option ℕ) (most : Most) (old new : LineReader)
    (source : Source R) (line : List ℕ) → AreAhead old line → ArePrintable line → HasPassed old new
    → IsNextBy remaining errors most old source (Ok (Some line)) new source
next_passed remaining errors most old new source line ahead printable passed =
    begins_next remaining errors most old new source line ahead.reading (passed.past_now ∙ ahead.reading) ahead.room
    (record { is = ahead.first; printable = printable; within = ahead.within; feed = ahead.feed }) passed.held_now passed.limit_now
    passed.counted
