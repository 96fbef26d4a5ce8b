-- The words are those of what is left.
use Rattle.cif_feed.proofs.Names.{drop, length, words_in, ◌-◌, ◌≡◌, ◌≤◌}
use Rattle.cif_feed.proofs.holiday_text.first_word.Given as goal

abbrev pub invariant-loop-start : goal.invariant-loop-start
invariant-loop-start l = (l.start ≤ length l.bytes) × (words_in (drop l.start l.bytes) ≡ words_in l.bytes)

abbrev pub decreases-loop-start : goal.decreases-loop-start
decreases-loop-start l = length l.bytes - l.start
