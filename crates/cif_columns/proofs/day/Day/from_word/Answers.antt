-- A word of six bytes is digits, and one of ten a long date.
use Rattle.cif_columns.proofs.DateWords.{long-word-length, short-length}
use Rattle.cif_columns.proofs.Names.{List, StandsInYymmdd, arith, ap, inl, inr, length, rules, subst, sym, ℕ, ◌∙◌, ◌≡◌}
use Rattle.cif_columns.specs.DateWord.{StandsInLong}
use Rattle.cif_columns.proofs.day.Day.from_word.Goals as goal

pub returns-in-Some-clause-only : goal.returns-in-Some-clause-only
returns-in-Some-clause-only c = λ n is.
    let same : c.in-Some.digits.now ≡ c.args.word.now = search rules in
    elim is [
      | inl s ↦ c.from_yymmdd.ensures.only n (subst (λ (w : List ℕ). StandsInYymmdd w n) (sym same) s)
      | inr l ↦
          let six : length c.in-Some.digits.now ≡ 6 = search rules in
          absurd (omega (arith, sym six ∙ ap length same ∙ long-word-length c.args.word.now n l))
    ]

pub returns-in-Some-as_array-clause-only : goal.returns-in-Some-as_array-clause-only
returns-in-Some-as_array-clause-only c = λ n is.
    let same : c.in-Some-as_array.columns.now ≡ c.args.word.now = search rules in
    elim is [
      | inl s ↦
          let ten : length c.in-Some-as_array.columns.now ≡ 10 = search rules in
          absurd (omega (arith, sym ten ∙ ap length same ∙ short-length c.args.word.now n s))
      | inr l ↦ c.day_in_long.ensures.only n (subst (λ (w : List ℕ). StandsInLong w n) (sym same) l)
    ]
