-- The laws of changes, at a test that tells whether keys are the same.
use Rattle.cif_feed.proofs.ChangeLaws.{after_all-append, after_all-untouched, of_key-after_all, same_equiv}
use Rattle.cif_feed.proofs.laws.changes_leave_the_last_word.Goals as goal

pub returns-clause-last : goal.returns-clause-last
returns-clause-last g c = λ same records changes key tells. of_key-after_all same (same_equiv same tells) records changes key

pub returns-clause-order : goal.returns-clause-order
returns-clause-order g c = λ same records changes tells. after_all-untouched same records changes

pub returns-clause-sequence : goal.returns-clause-sequence
returns-clause-sequence g c = λ same records one other. after_all-append same records one other
