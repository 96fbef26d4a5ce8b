-- The words so far name days, and these are added.
use Rattle.cif_feed.proofs.Names.{All, HasMore, IsDate, List, NamesDay, length, words_in, ℕ, ◌++◌, ◌≡◌}
use Rattle.cif_feed.proofs.holidays.Holidays.add_dates.Given as goal

abbrev pub invariant-loop-word : goal.invariant-loop-word
invariant-loop-word l = (done : List (List ℕ)) × (words_in l.words ≡ done ++ words_in l.rest) × All IsDate done
    × HasMore l.fn.self l.code (NamesDay done) l.self

abbrev pub decreases-loop-word : goal.decreases-loop-word
decreases-loop-word l = length l.rest
