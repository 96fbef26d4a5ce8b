-- The winner that is read is the day's source: each piece that has the day tells the same (`source_at-piece`).
use Rattle.cif_calendar.proofs.Names.{None, ap, get_or, source_at, sym, ◌∙◌, ◌≡◌}
use Rattle.cif_calendar.proofs.{PieceLists.source_at-piece, key_calendar.Calendar.source_on.Goals.After-weekday}
use Rattle.cif_calendar.proofs.key_calendar.Calendar.source_on.Goals as goal

winner : (c : After-weekday) → get_or c.piece_on.result.now.winners c.weekday.result None ≡ source_at c.args.self.now.pieces c.args.day
winner c =
    let says = c.piece_on.ensures in
    ap (λ w. get_or c.piece_on.result.now.winners w None) c.weekday.ensures.value
    ∙ sym (source_at-piece c.args.self.now.pieces _ _ c.piece_on.result.now c.args.day says.tiles says.listed says.from says.upto)

pub returns-clause-source : goal.returns-clause-source
returns-clause-source c = winner (goal.at.returns-clause-source c).After-weekday

pub returns-clause-piece : goal.returns-clause-piece
returns-clause-piece c p listed from upto =
    let here = (goal.at.returns-clause-piece c).After-weekday in
    winner here ∙ source_at-piece c.args.self.now.pieces _ _ p c.args.day here.piece_on.ensures.tiles listed from upto
