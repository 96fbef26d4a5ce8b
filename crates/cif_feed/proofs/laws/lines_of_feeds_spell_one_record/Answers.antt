-- By the record, and of AA and BS by the transaction.
use Rattle.cif_feed.proofs.FeedLines as lines
use Rattle.cif_feed.proofs.laws.lines_of_feeds_spell_one_record.Goals as goal

pub returns-clause-one : goal.returns-clause-one
returns-clause-one c = lines.one

pub returns-clause-fine : goal.returns-clause-fine
returns-clause-fine c = lines.fine
