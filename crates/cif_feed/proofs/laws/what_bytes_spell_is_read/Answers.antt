-- There is one at most, and what is spelled isn't blamed.
use Rattle.cif_feed.proofs.{HolidayLines.holidays_as, JudgedRuns.judged_as, SpelledFeeds.published_as, SpelledFeeds.update_as}
use Rattle.cif_feed.proofs.{UpdatesInTurn.updated_blames_none, WrittenPrepared.prepared_blames_none}
use Rattle.cif_feed.proofs.laws.what_bytes_spell_is_read.Goals as goal

pub returns-clause-published : goal.returns-clause-published
returns-clause-published c = published_as

pub returns-clause-update : goal.returns-clause-update
returns-clause-update c max bytes after x result s = update_as max bytes after x s result

pub returns-clause-updated : goal.returns-clause-updated
returns-clause-updated c how max old bytes after u fault s may = updated_blames_none how max old bytes after u s may fault

pub returns-clause-judged : goal.returns-clause-judged
returns-clause-judged c max bytes after x result s = judged_as max bytes x s after result

pub returns-clause-holidays : goal.returns-clause-holidays
returns-clause-holidays c = holidays_as

pub returns-clause-prepared : goal.returns-clause-prepared
returns-clause-prepared c h max bytes after x fault s = prepared_blames_none h max bytes after x s fault
