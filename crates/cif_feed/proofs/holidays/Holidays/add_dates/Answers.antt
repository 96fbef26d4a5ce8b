-- One word more is one day more (`more-day`); at the end all words were dates (`dates-all`).
use Rattle.cif_feed.proofs.Names.{All-push, IsDate, List, None, Some, [], ap, append_assoc, arith, length, refl, rules, sym, words_in, ℕ}
use Rattle.cif_feed.proofs.Names.{◌++◌, ◌<◌, ◌∙◌, ◌∷◌, ◌≡◌}
use Rattle.cif_feed.proofs.HolidayLines.{dates-all, more-day, more-nothing, no-date}
use Rattle.cif_feed.proofs.holidays.Holidays.add_dates.Goals as goal

pub loop-word-init : goal.loop-word-init
loop-word-init c = ([], refl, λ k d below. absurd (omega arith), more-nothing _ _ _ c.name.ensures)

pub loop-word-preserved : goal.loop-word-preserved
loop-word-preserved c =
    let (done, parts, dates, more) = c.loop-word.invariant in
    let some : 0 < length c.first_word.result.0.now = search rules in
    let word = c.first_word.result.0.now in (
      done ++ word ∷ [],
      parts ∙ ap (λ (l : List (List ℕ)). done ++ l) (c.first_word.ensures.some some)
          ∙ sym (append_assoc done (word ∷ []) (words_in c.first_word.result.1.now)),
      All-push IsDate done word dates (c.in-Some.day, c.in-Some.ensures.found),
      more-day _ _ _ c.args.code done word c.in-Some.day more c.in-Ok.ensures c.in-Some.ensures.found,
    )

pub returns-then-is_empty-clause-ok : goal.returns-then-is_empty-clause-ok
returns-then-is_empty-clause-ok c =
    let (done, parts, dates, more) = c.loop-word.invariant in
    let none : length c.first_word.result.0.now ≡ 0 = search rules in
    dates-all _ _ c.args.code _ done (words_in c.loop-word.rest.now) parts (c.first_word.ensures.none none) dates more

pub returns-in_default-clause-err : goal.returns-in_default-clause-err
returns-in_default-clause-err c =
    let (done, parts, dates, more) = c.loop-word.invariant in
    let some : 0 < length c.first_word.result.0.now = search rules in (
      refl,
      no-date _ done (words_in c.first_word.result.1.now) c.first_word.result.0.now
          (parts ∙ ap (λ (l : List (List ℕ)). done ++ l) (c.first_word.ensures.some some))
          (λ d stands. let none : None ≡ Some d = c.in_default.ensures.only d stands in cc),
    )
