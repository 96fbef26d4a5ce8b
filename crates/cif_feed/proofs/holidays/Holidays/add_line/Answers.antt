-- The line's words are those of what stands before its remark: none, or a code and dates (`HolidayLines`).
use Rattle.cif_feed.proofs.Names.{List, [], ap, arith, get_or, length, sym, words_in, words_of, ℕ, ◌<◌, ◌∙◌, ◌∷◌, ◌≡◌, ◌≤◌}
use Rattle.cif_feed.proofs.HolidayLines.{line-err, line-ok, one-byte}
use Rattle.cif_feed.proofs.holidays.Holidays.add_line.Goals as goal

words : (c : goal.After-add_dates) → words_of c.args.line.now
    ≡ (get_or c.first_word.result.0.now 0 0 ∷ []) ∷ words_in c.first_word.result.1.now
words c =
    let low : 1 ≤ length c.first_word.result.0.now = c.in-len1.len_at_least in
    let high : length c.first_word.result.0.now < 2 = c.in-len1.len_below in
    ap words_in (sym c.before_byte.ensures) ∙ c.first_word.ensures.some (omega arith)
    ∙ ap (λ (w : List ℕ). w ∷ words_in c.first_word.result.1.now) (one-byte c.first_word.result.0.now (omega arith))

pub returns-in-Some-clause-ok : goal.returns-in-Some-clause-ok
returns-in-Some-clause-ok c =
    line-ok c.args.line.now (get_or c.first_word.result.0.now 0 0) (words_in c.first_word.result.1.now)
    (words c) c.in-Some.code c.args.self.now
    c.add_dates.new.self c.add_dates.result c.if-line-gt-LONGEST_LINE.false c.in-Some.ensures.found
    c.add_dates.ensures.ok

pub returns-in-Some-clause-err : goal.returns-in-Some-clause-err
returns-in-Some-clause-err c =
    line-err c.args.line.now (get_or c.first_word.result.0.now 0 0) (words_in c.first_word.result.1.now) (words c) c.args.number
    c.add_dates.result c.add_dates.ensures.err
