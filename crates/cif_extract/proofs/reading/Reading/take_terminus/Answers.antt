-- By its kind the record is an LT (`has_last`), whose schedule ends.
use Rattle.cif_extract.proofs.{Names.HasLast, Names.progress_of, TakenLines.has_last, reading.Reading.take_terminus.Goals.In_ok-keep}
use Rattle.cif_extract.proofs.reading.Reading.take_terminus.Goals as goal

last : (c : In_ok-keep) → HasLast (progress_of c.args.self.now) c.args.line.now (progress_of c.keep.new.self)
last c =
    let (records, read) = c.requires.read in
    let (fine, (r, spells, again, is)) = c.in_ok-keep.ensures in
    has_last _ _ _ records read c.requires.journey c.requires.kind r spells again is

pub end_schedule-requires : goal.end_schedule-requires
end_schedule-requires c = (progress_of c.args.self.now, c.args.line.now, last (goal.at.end_schedule-requires c).In_ok-keep)

pub returns : goal.returns
returns c = (c.in_ok-keep.ensures.0, c.in_ok-end_schedule.ensures _ _ (last (goal.at.returns c).In_ok-keep))
