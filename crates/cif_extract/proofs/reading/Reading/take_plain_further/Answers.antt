-- The columns as they are kept are the plain line: `plain_further` has all of it, and of an LT `plain_last`, with which its schedule ends.
use Rattle.std.proofs.lemmas.Result.{on_ok_weaker}
use Rattle.cif_extract.proofs.Names.{HasLast, IsFurtherPlainly, progress_of, subst, ◌∙◌}
use Rattle.cif_extract.proofs.TakenLines.{plain_further, plain_last, refusal_of_record}
use Rattle.cif_extract.proofs.reading.Reading.take_plain_further.Goals as goal
use Rattle.cif_extract.proofs.reading.Reading.take_plain_further.Goals.{In_ok-keep_columns-in-Lt}

last : (c : In_ok-keep_columns-in-Lt) → HasLast (progress_of c.args.self.now) c.args.columns.now (progress_of c.keep_columns.new.self)
last c =
    let (records, read) = c.requires.read in
    plain_last _ _ _ records read (subst (IsFurtherPlainly c.args.self.now.place c.args.columns.now) c.in-Lt.is c.requires.plain)
    c.in_ok-keep_columns-in-Lt.ensures

pub end_schedule-requires : goal.end_schedule-requires
end_schedule-requires c = (progress_of c.args.self.now, c.args.columns.now, last (goal.at.end_schedule-requires c).In_ok-keep_columns-in-Lt)

pub returns-in_ok-keep_columns-in-Lt : goal.returns-in_ok-keep_columns-in-Lt
returns-in_ok-keep_columns-in-Lt c =
    let plain = c.requires.plain in
    on_ok_weaker c.end_schedule.result
    (λ step. (refusal_of_record _ _ c.args.kind plain.plain.kind_there plain.allowed ∙ plain.plain.fine, step))
    (c.end_schedule.ensures _ _ (last (goal.at.returns-in_ok-keep_columns-in-Lt c).In_ok-keep_columns-in-Lt))

pub returns-in_default : goal.returns-in_default
returns-in_default c =
    on_ok_weaker c.keep_columns-in_default.result
    (plain_further (progress_of c.args.self.now) (progress_of c.keep_columns-in_default.new.self) c.args.columns.now c.args.kind
    c.requires.plain c.in_default.not-Lt)
    (rw c.after_further-self.ensures at c.keep_columns-in_default.ensures)
