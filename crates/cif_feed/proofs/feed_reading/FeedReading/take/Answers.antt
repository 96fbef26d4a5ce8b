-- A note is counted (`note_taken`); of a line that is taken its mark is kept (`line_taken`).
use Rattle.cif_feed.proofs.Names.{List, ap, is_schedule_mark, is_trailer_mark, kind_in, mark_parts, sym, with_mark, ℕ, ◌||◌, ◌∙◌}
use Rattle.cif_feed.proofs.{FeedSteps.line_taken, FeedSteps.note_taken, MarkLaws.marked, MarkLaws.schedule_there, MarkLaws.trailer_there}
use Rattle.cif_feed.proofs.feed_reading.FeedReading.take.Goals as goal

pub returns-then-is_note-clause-taken : goal.returns-then-is_note-clause-taken
returns-then-is_note-clause-taken c = λ cs so_far at.
    note_taken c.args.feed c.args.allowed cs c.args.line.now c.requires.no_comment (sym c.is_note.ensures.note ∙ c.if-is_note.true)
    c.take_note.result c.args.self.now c.take_note.new.self so_far c.take_note.ensures

pub returns-clause-taken : goal.returns-clause-taken
returns-clause-taken c = λ cs so_far at.
    let a = c.args in
    let old = a.self.now in
    let here : ℕ × List ℕ = (a.number, a.line.now) in
    let (taken, is) = c.in_ok-mark.ensures in
    line_taken a.feed a.allowed cs a.line.now a.number old (record {
      reading = c.take_record.new.reading;
      marks = c.add.new.self;
      has_basic = old.has_basic || c.is_of_schedule.result;
      has_trailer = old.has_trailer || c.is_of_trailer.result;
    }) at so_far (record {
      no_comment = c.requires.no_comment;
      no_note = sym c.is_note.ensures.note ∙ c.if-is_note.false;
      marks = c.in_ok-add.ensures ∙ ap (with_mark (mark_parts old.marks)) is
          ∙ marked a.allowed a.number a.line.now (mark_parts old.marks) a.feed taken.1.0 taken.1.1;
      basic = ap (λ b. old.has_basic || b) (c.is_of_schedule.ensures ∙ ap is_schedule_mark is
          ∙ schedule_there a.allowed (kind_in a.line.now) here);
      trailer = ap (λ b. old.has_trailer || b) (c.is_of_trailer.ensures ∙ ap is_trailer_mark is
          ∙ trailer_there a.allowed (kind_in a.line.now) here);
    }) taken
