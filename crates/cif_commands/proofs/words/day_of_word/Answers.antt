-- Where `found` and `only` give no day, the word names none.
use Rattle.cif_commands.proofs.Names.{IfSome, List, MatchOption, NamesNoDay, None, Option, Some, rules, subst, ℕ, ◌≡◌}
use Rattle.cif_commands.proofs.words.day_of_word.Goals as goal
use Rattle.cif_columns.specs.DateWord.{IsDateWord}

named : (word : List ℕ) (o : Option ℕ) → IfSome o (IsDateWord word) → ((n : ℕ) → IsDateWord word n → o ≡ Some n) →
    MatchOption o (NamesNoDay word) (IsDateWord word)
named word None found only = λ n stands. let none = only n stands in cc
named word (Some day) found only = found

pub returns : goal.returns
returns c =
    let same : c.as_bytes.result.now ≡ c.args.word.now = search rules in
    subst (λ (w : List ℕ). MatchOption c.from_word.result (NamesNoDay w) (IsDateWord w)) same
    (named c.as_bytes.result.now c.from_word.result c.from_word.ensures.found c.from_word.ensures.only)
