-- By cases of what is left: a first position has its entry's key (`leading`), and of two the lesser is the first (`lesser-first`).
use Rattle.cif_calendar.proofs.Names.{IsFirstOfBoth, ap, false, is_lt, keyed, true, ◌∙◌, ◌≡◌}
use Rattle.cif_calendar.proofs.{FirstClash.same_key-cmp, by_key.first_entry.Given.Over, by_key.first_entry.Goals.After-is_lt}
use Rattle.cif_calendar.proofs.FirstEntries.{leading, left-alone, lesser-first, right-alone}
use Rattle.cif_calendar.proofs.by_key.first_entry.Goals as goal

-- of two first positions that of the lesser key
of-two : (g : Over) (c : After-is_lt g) →
    let First = IsFirstOfBoth g.E.Key.Ord.cmp (keyed g.E.Entry.key g.E.Entry.terms c.args.left.now) c.args.left_positions.now
    (keyed g.E.Entry.key g.E.Entry.terms c.args.right.now) c.args.right_positions.now in
    (c.is_lt.result ≡ true → First (g.E.Entry.key c.index-right-j.result))
    × (c.is_lt.result ≡ false → First (g.E.Entry.key c.index-left-i.result))
of-two g c =
    let one = leading g.E.Entry.key g.E.Entry.terms c.args.left.now c.args.left_positions.now c.in-Some-Some.i.now c.index-left-i.result
    c.requires.left c.in-Some-Some.ensures.item.3.0 c.in-Some-Some.ensures.item.3.1 c.index-left-i.is in
    let other = leading g.E.Entry.key g.E.Entry.terms c.args.right.now c.args.right_positions.now c.in-Some-Some.j.now
    c.index-right-j.result c.requires.right c.in-Some-Some.ensures'.item.3.0 c.in-Some-Some.ensures'.item.3.1 c.index-right-j.is in
    lesser-first g.E.Key.Ord.cmp g.met.E.Key.Ord.total (keyed g.E.Entry.key g.E.Entry.terms c.args.left.now) c.args.left_positions.now
    c.requires.left_rising (keyed g.E.Entry.key g.E.Entry.terms c.args.right.now) c.args.right_positions.now c.requires.right_rising
    (same_key-cmp g.E.Key.PartialEq.eq g.E.Key.Ord.cmp g.met.E.Key.Ord.matches_eq g.met.E.Entry.same_key)
    (g.E.Entry.key c.index-left-i.result) c.in-Some-Some.ensures.item.3.0 one (g.E.Entry.key c.index-right-j.result)
    c.in-Some-Some.ensures'.item.3.0 other c.is_lt.result
    (c.is_lt.ensures ∙ ap is_lt (c.cmp.ensures ∙ ap (λ k. g.E.Key.Ord.cmp k c.key-in-Some-Some.result.now) c.key.ensures
    ∙ ap (g.E.Key.Ord.cmp (g.E.Entry.key c.index-right-j.result)) c.key-in-Some-Some.ensures))

pub returns-then-is_lt : goal.returns-then-is_lt
returns-then-is_lt g c = (of-two g (goal.at.returns-then-is_lt g c).After-is_lt).0 c.if-is_lt.true

pub returns-else-is_lt : goal.returns-else-is_lt
returns-else-is_lt g c = (of-two g (goal.at.returns-else-is_lt g c).After-is_lt).1 c.if-is_lt.false

pub returns-in-Some-None : goal.returns-in-Some-None
returns-in-Some-None g c =
    let es = keyed g.E.Entry.key g.E.Entry.terms c.args.left.now in
    let fs = keyed g.E.Entry.key g.E.Entry.terms c.args.right.now in
    left-alone g.E.Key.Ord.cmp g.met.E.Key.Ord.total es c.args.left_positions.now c.requires.left_rising fs c.args.right_positions.now
    c.requires.right_rising
    (g.E.Entry.key c.index-left-i-in-Some-None.result) c.in-Some-None.ensures.item.3.0
    (leading g.E.Entry.key g.E.Entry.terms c.args.left.now c.args.left_positions.now c.in-Some-None.i.now
    c.index-left-i-in-Some-None.result c.requires.left c.in-Some-None.ensures.item.3.0 c.in-Some-None.ensures.item.3.1
    c.index-left-i-in-Some-None.is) c.in-Some-None.ensures'.item.3

pub returns-in-None-Some : goal.returns-in-None-Some
returns-in-None-Some g c =
    let es = keyed g.E.Entry.key g.E.Entry.terms c.args.left.now in
    let fs = keyed g.E.Entry.key g.E.Entry.terms c.args.right.now in
    right-alone g.E.Key.Ord.cmp g.met.E.Key.Ord.total es c.args.left_positions.now c.requires.left_rising fs c.args.right_positions.now
    c.requires.right_rising
    (g.E.Entry.key c.index-right-j-in-None-Some.result) c.in-None-Some.ensures'.item.3.0
    (leading g.E.Entry.key g.E.Entry.terms c.args.right.now c.args.right_positions.now c.in-None-Some.j.now
    c.index-right-j-in-None-Some.result c.requires.right c.in-None-Some.ensures'.item.3.0 c.in-None-Some.ensures'.item.3.1
    c.index-right-j-in-None-Some.is) c.in-None-Some.ensures.item.3
