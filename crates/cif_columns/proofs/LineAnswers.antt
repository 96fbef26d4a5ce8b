-- What a content is as a line, and what a `LineReader` answers of it.
use Rattle.cif_columns.proofs.Names.{BadByte, BadLength, BeginOverlong, Bool, Content, ContentReader, DecideNoContent, Err, Faulted}
use Rattle.cif_columns.proofs.Names.{GivenDecideContent, HasFailedToRead, HasLineReason, HasPassedComment, HasReadOn, IfSome, InFeed}
use Rattle.cif_columns.proofs.Names.{IsFirstContent, IsLine, IsLineReason, IsNextBy, IsNextWithin, IsNoComment, Line, LineFault, LineReader}
use Rattle.cif_columns.proofs.Names.{List, Most, Ok, Option, Overlong, PassesContent, Read, Reading, Refusal, Refused, Some, Source, ap}
use Rattle.cif_columns.proofs.Names.{arith, cond, content, contents_of, eqb-true, false, is_comment, is_printable, length, line_of}
use Rattle.cif_columns.proofs.Names.{list_all, most_by, nat_eq, nat_tests, past, reader_of, refl, source_ended, subst, sym, true, ℕ, ◌+◌}
use Rattle.cif_columns.proofs.Names.{◌<◌, ◌∙◌, ◌∷◌, ◌≡◌, ◌≢◌, ◌≤◌}
use Rattle.cif_columns.proofs.{Comments.overlong_no_comment, GivenLinesLaws.known_so, PrintableBytes.printable_fact}
use Rattle.cif_columns.proofs.{PrintableBytes.printable_true}
use Rattle.cif_columns.proofs.FirstContents.{content_first, overlong_content, some_content}
use Rattle.cif_columns.specs.LineReader.{IsNextContent, content_of, given, held, left, limit}
use Rattle.cif_columns.specs.declared.line_reader.Content.TheVariants as content_is

-- ---- what a content is

pub line_ok : (one line : List ℕ) → line_of one ≡ Ok line → (one ≡ line) × IsLine line
line_ok one line is = at (nat_eq (length one) 80) (list_all is_printable one) refl refl is
  where
    at : (w p : Bool) → w ≡ nat_eq (length one) 80 → p ≡ list_all is_printable one
        → cond w (cond p (Ok one) (Err BadByte)) (Err BadLength) ≡ Ok line → (one ≡ line) × IsLine line
    at true true ew ep is =
        let same : one ≡ line = cc in
        (same, subst IsLine same (record { width = eqb-true _ 80 (sym ew); printable = printable_fact one (sym ep) }))
    at true false ew ep is = absurd (cc)
    at false p ew ep is = absurd (cc)

line_err : (max number : ℕ) → number ≤ max → (one : List ℕ) (why : Refusal) → line_of one ≡ Err why
    → HasLineReason max number one why × IsLineReason why
line_err max number within one why is = at (nat_eq (length one) 80) (list_all is_printable one) refl refl is
  where
    at : (w p : Bool) → w ≡ nat_eq (length one) 80 → p ≡ list_all is_printable one
        → cond w (cond p (Ok one) (Err BadByte)) (Err BadLength) ≡ Err why → HasLineReason max number one why × IsLineReason why
    at true true ew ep is = absurd (cc)
    at true false ew ep is =
        let same : BadByte ≡ why = cc in
        let bad : ¬ _ = λ good. false_true (ep ∙ printable_true one good) in
        subst (λ w. HasLineReason max number one w × IsLineReason w) same ((within, eqb-true _ 80 (sym ew), bad), tt)
      where
        false_true : false ≡ true → ⊥
        false_true h = absurd (cc)
    at false p ew ep is =
        let same : BadLength ≡ why = cc in
        let other : length one ≢ 80 = grind (arith, nat_tests) in
        subst (λ w. HasLineReason max number one w × IsLineReason w) same ((within, other), tt)

-- ---- what a call answers where nothing was answered before

module _ {R : Type 0} {remaining : R → Option (List ℕ)} {errors : R → Option ℕ} {most : Most} {old new : LineReader} {from to : Source R}
    (reading : past old ≡ Reading) (limit_now : limit new ≡ limit old) where
  pub gives_line : (line : Line) → IsLine line → past new ≡ Reading → given old < limit old → given new ≡ given old + 1
      → IfSome (left remaining old from)
      (λ bytes. (rest : List ℕ) × (left remaining new to ≡ Some rest) × IsFirstContent bytes line rest)
      → HasReadOn errors from to
      → (source_ended to ≡ false → GivenDecideContent most (limit old) (given old) (left remaining old from) (remaining (reader_of to)))
      → IsNextBy remaining errors most old from (Ok (Some line)) new to
  gives_line line is_line past_now room counted found device decided = record {
    answer = λ _. known_so (left remaining old from) _ _ (λ bytes first. (
      first.0,
      first.1,
      record { room = room; is_line = is_line; stands = first.2.stands; contents = first.2.contents },
    )) found;
    device = λ _. device;
    decided = λ _ _. decided;
    undecided = λ _ e. absurd (cc);
    endless = λ _ e. absurd (cc);
    reported = λ _ e. absurd (cc);
    fault = λ _. tt;
    past_now = past_now;
    again = λ e. absurd (e reading);
    still = λ e. absurd (e reading);
    unread = λ e. absurd (e reading);
    limit_now = limit_now;
    counted = counted;
    ended = λ e. absurd (cc);
    refused = tt;
  }

  refuses_next : (number : ℕ) (why : Refusal) → number ≡ given old + 1 → IsLineReason why → past new ≡ Faulted (Refused number why)
      → given new ≡ given old
      → IfSome (left remaining old from)
      (λ bytes. (one : List ℕ) × (others : List (List ℕ)) × (contents_of bytes ≡ one ∷ others) × HasLineReason (limit old) number one why)
      → HasReadOn errors from to
      → (source_ended to ≡ false → GivenDecideContent most (limit old) (given old) (left remaining old from) (remaining (reader_of to)))
      → IsNextBy remaining errors most old from (Err (Refused number why)) new to
  refuses_next number why next is_reason past_now same found device decided = record {
    answer = λ _. known_so (left remaining old from) _ _ (λ bytes first.
        record { next = next; content = first.0; others = first.1; contents = first.2; reason = first.3 }) found;
    device = λ _. device;
    decided = λ _ _. decided;
    undecided = λ _ e. absurd (cc);
    endless = λ _ e. absurd (cc);
    reported = λ _ e. absurd (cc);
    fault = λ _. (next, is_reason);
    past_now = past_now;
    again = λ e. absurd (e reading);
    still = λ e. absurd (e reading);
    unread = λ e. absurd (e reading);
    limit_now = limit_now;
    counted = tt;
    ended = λ e. absurd (cc);
    refused = same;
  }

  fails_next : past new ≡ Faulted Read → given new ≡ given old
      → IfSome (left remaining old from) (λ bytes. left remaining new to ≡ Some bytes) → HasFailedToRead errors from to
      → DecideNoContent (most_by most (held new)) (limit old) (given old) (held new)
      → IsNextBy remaining errors most old from (Err Read) new to
  fails_next past_now same found device undecided = record {
    answer = λ _. found;
    device = λ _. device;
    decided = λ _ other. absurd (other refl);
    undecided = λ _ e. undecided;
    endless = λ _ e. absurd (cc);
    reported = λ _ e. absurd (cc);
    fault = λ _. tt;
    past_now = past_now;
    again = λ e. absurd (e reading);
    still = λ e. absurd (e reading);
    unread = λ e. absurd (e reading);
    limit_now = limit_now;
    counted = tt;
    ended = λ e. absurd (cc);
    refused = same;
  }

-- ---- by what its contents gave

module _ {R : Type 0} {remaining : R → Option (List ℕ)} {errors : R → Option ℕ} {most : Most} {old new : LineReader} {from to : Source R}
    (reading : past old ≡ Reading) where
  -- none that is overlong is a line, and in a feed none is a comment
  pub passes_overlong : ((bytes : List ℕ) → 81 < most_by most bytes)
      → IsNextWithin remaining errors most old.contents from (Ok Overlong) new.contents to → (number : ℕ)
      → number ≡ given new + 1 → past new ≡ Faulted (Refused number BadLength)
      → PassesContent remaining errors most old from (Err (Refused number BadLength)) new to
  passes_overlong wide next number numbered past_now = (
    refuses_next reading next.limit_now number BadLength is tt past_now next.holds.1
        (known_so (left remaining old from) _ _ (λ bytes answer.
        let (one, others, contents, long, front) = overlong_content (most_by most bytes) bytes (omega (arith, wide bytes)) answer.1 in
        (one, others, contents, (omega (arith, is, next.holds.0), omega (arith, long, wide bytes)))) next.answer)
        next.device (λ not. next.decided (λ e. absurd (cc)) not),
    λ feed _ _ _. known_so (left remaining old from) _ _ (λ bytes answer first more is.
        let begins = subst (λ m. BeginOverlong (most_by m bytes) bytes) feed answer.1 in
        let some : 0 < most_by InFeed bytes = subst (λ m. 0 < most_by m bytes) feed (omega (arith, wide bytes)) in
        let (one, others, contents, long, front) = overlong_content (most_by InFeed bytes) bytes some begins in
        let same : one ≡ first = cc in
        ap is_comment (sym same) ∙ overlong_no_comment one bytes long front) next.answer,
  )
    where
      is : number ≡ given old + 1
      is = numbered ∙ ap (λ n. n + 1) next.holds.1

  pub passes_fault : (fault : LineFault) → IsNextWithin remaining errors most old.contents from (Err fault) new.contents to
      → past new ≡ Faulted fault → PassesContent remaining errors most old from (Err fault) new to
  passes_fault (Refused number why) next past_now = (
    refuses_next reading next.limit_now number why next.holds.2 (subst IsLineReason (sym next.holds.3) tt) past_now next.holds.1
        (known_so (left remaining old from) _ _ (λ bytes some.
        let (one, others, contents) = some_content bytes some in
        let over : limit old < number = omega (arith, next.holds.0, next.holds.2) in
        (one, others, contents, subst (HasLineReason (limit old) number one) (sym next.holds.3) over))
        next.answer) next.device (λ not. next.decided (λ e. absurd (cc)) not),
    λ _ _ _ room. absurd (omega (arith, room, next.holds.0)),
  )
  passes_fault Read next past_now = (
    fails_next reading next.limit_now past_now next.holds.0 next.answer next.device next.holds.1,
    λ _ other. absurd (other refl),
  )

  -- a content is a line
  pub makes_line : IsNextWithin remaining errors most old.contents from (Ok Content) new.contents to → past new ≡ Reading → (line : Line)
      → line_of (content new.contents) ≡ Ok line → IsNextBy remaining errors most old from (Ok (Some line)) new to
  makes_line next past_now line is =
      let found = line_ok (content new.contents) line is in
      gives_line reading next.limit_now line found.1 past_now next.holds.0 next.holds.1
      (known_so (left remaining old from) _ _ (λ bytes answer. (
        answer.0,
        answer.1,
        subst (λ l. IsFirstContent bytes l answer.0) found.0 (content_first _ bytes _ answer.0 answer.2),
      )) next.answer)
      next.device (λ not. next.decided (λ e. absurd (cc)) not)

  -- or a comment
  pub passes_comment : IsNextWithin remaining errors most old.contents from (Ok Content) new.contents to → past new ≡ Reading
      → is_comment (content new.contents) ≡ true → HasPassedComment remaining errors old from new to
  passes_comment next past_now is = record {
    reading = reading;
    comment = known_so (left remaining old from) _ _
        (λ bytes answer. (content new.contents, answer.0, is, answer.1, content_first _ bytes _ answer.0 answer.2)) next.answer;
    read_on = next.device;
    counted = next.holds.1;
    limit_now = next.limit_now;
    past_now = past_now ∙ sym reading;
  }

  -- or neither, and isn't counted
  pub refuses_content : (between : ContentReader) → IsNextWithin remaining errors most old.contents from (Ok Content) between to
      → (why : Refusal)
      → line_of (content between) ≡ Err why → limit new ≡ between.limit → given new + 1 ≡ between.given
      → past new ≡ Faulted (Refused between.given why)
      → IsNextBy remaining errors most old from (Err (Refused between.given why)) new to
  refuses_content between next why is limit_now counted past_now =
      let room : between.given ≤ limit old = omega (arith, next.holds.0, next.holds.1) in
      let reason = line_err (limit old) between.given room (content between) why is in
      refuses_next reading (limit_now ∙ next.limit_now) between.given why next.holds.1 reason.1 past_now
      (omega (arith, counted, next.holds.1))
      (known_so (left remaining old from) _ _ (λ bytes answer.
      (content between, contents_of answer.0, (content_first _ bytes _ answer.0 answer.2).contents, reason.0)) next.answer)
      next.device (λ not. next.decided (λ e. absurd (cc)) not)

-- a content that was given is the first: if it is no comment, none stands there
pub no_comment : {R : Type 0} {remaining : R → Option (List ℕ)} {errors : R → Option ℕ} {most : Most} (old : LineReader)
    {from to : Source R} (between : ContentReader) → IsNextWithin remaining errors most old.contents from (Ok Content) between to
    → is_comment (content between) ≡ false → IsNoComment remaining old from
no_comment {remaining = remaining} old {from = from} between next none = λ _ _. known_so (left remaining old from) _ _
    (λ bytes answer first more is.
    let all = (content_first _ bytes _ answer.0 answer.2).contents in
    let same : content between ≡ first = cc in
    ap is_comment (sym same) ∙ none) next.answer

-- a line that was given is a comment, or none
pub content_next : {R : Type 0} {remaining : R → Option (List ℕ)} {errors : R → Option ℕ} (old new : LineReader) {from to : Source R}
    (line : Line) → past old ≡ Reading → past new ≡ Reading → IsNextBy remaining errors InFeed old from (Ok (Some line)) new to
    → IsNextContent remaining errors old from (Ok (content_of line)) line new to
content_next {remaining = remaining} {errors} old new {from} {to} line reading past_now next = at (is_comment line) refl
  where
    at : (b : Bool) → b ≡ is_comment line
        → IsNextContent remaining errors old from (Ok (cond b content_is.Comment content_is.Line)) line new to
    at true is = record {
      reading = reading;
      comment = known_so (left remaining old from) _ _
          (λ bytes found. (line, found.0, sym is, found.1, record { stands = found.2.stands; contents = found.2.contents }))
          (next.answer reading);
      read_on = next.device reading;
      counted = next.counted;
      limit_now = next.limit_now;
      past_now = past_now ∙ sym reading;
    }
    at false is = (next, sym is)
