-- The loop passes spaces; what stands before the next space is a word (`first-some`), or no word is left (`first-none`).
use Rattle.cif_feed.proofs.Names.{List, ap, arith, before_first, drop, length, sym, take_rest, words_in, ℕ, ◌==◌, ◌∙◌, ◌∷◌}
use Rattle.cif_feed.proofs.{HolidayLines.first-none, HolidayLines.first-some, holiday_text.first_word.Goals.else-loop-start-test}
use Rattle.cif_feed.proofs.{holiday_text.first_word.Goals.then-loop-start-test+else-bytes-start-eq32}
use Rattle.cif_feed.proofs.holiday_text.first_word.Goals as goal

pub returns-clause-none : goal.returns-clause-none
returns-clause-none c = λ empty.
    first-none c.args.bytes.now c.loop-start.start c.loop-start.invariant.1 c.before_byte-word.result.now
    (c.before_byte-word.ensures ∙ ap (before_first (λ (b : ℕ). b == 32)) (take_rest c.args.bytes.now c.loop-start.start))
    (λ below is. elim c.loop-start-test.branch [
      | then-loop-start-test+else-bytes-start-eq32 w ↦ absurd (w.if-bytes-start-eq32.false is)
      | else-loop-start-test w ↦ absurd (let out = w.loop-start-test.false in omega arith)
    ])
    empty

pub returns-clause-some : goal.returns-clause-some
returns-clause-some c = λ some.
    let from = take_rest c.args.bytes.now c.loop-start.start in
    first-some c.args.bytes.now c.loop-start.start c.loop-start.invariant.1 c.before_byte-word.result.now
    (c.before_byte-word.ensures ∙ ap (before_first (λ (b : ℕ). b == 32)) from) some
    ∙ ap (λ (l : List ℕ). c.before_byte-word.result.now ∷ words_in l)
    (sym (take_rest _ (length c.before_byte-word.result.now) ∙ ap (drop (length c.before_byte-word.result.now)) from))
