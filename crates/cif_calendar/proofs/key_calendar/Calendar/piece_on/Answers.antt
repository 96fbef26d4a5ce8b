-- By their last days pieces rise (`tiles-rise`), so the search finds a place (`place-from_point`): a piece stands there and has the day.
use Rattle.cif_calendar.proofs.Names.{Contains, IsPartitionPoint-from_clause, IsPartitionedBy-ltb, List, Piece, arith, ltb, rules, subst}
use Rattle.cif_calendar.proofs.{Names.sym, Names.◌+◌, Names.◌≤◌, key_calendar.Calendar.piece_on.Goals.After-partition_point-i}
use Rattle.cif_calendar.proofs.PieceLists.{IsPlaceOf, place-below, place-from, place-from_point, tiles-rise}
use Rattle.cif_calendar.proofs.key_calendar.Calendar.piece_on.Goals as goal

place : (c : After-partition_point-i) → IsPlaceOf c.pieces-pieces.result.now c.args.day c.partition_point-i.result
place c =
    let rise = tiles-rise _ _ _ c.pieces-pieces.ensures.tiles in
    place-from_point _ _ _ (IsPartitionPoint-from_clause (λ (p : Piece). ltb p.last c.args.day) _ _
    c.partition_point-i.ensures.partitioned (IsPartitionedBy-ltb (λ (p : Piece). p.last) _ c.args.day rise) (λ a r q k. search rules))

pub bounds-pieces-i : goal.bounds-pieces-i
bounds-pieces-i c =
    place-below c.pieces-pieces.result.now c.args.self.now.first (c.args.self.now.last + 1) c.args.day c.partition_point-i.result
    c.pieces-pieces.ensures.tiles c.requires.from (omega (arith, c.requires.upto)) (place c)

pub returns : goal.returns
returns c =
    let here = (goal.at.returns c).After-partition_point-i in
    let below = bounds-pieces-i here in
    let pieces = c.pieces-pieces.ensures in
    record {
      listed = subst (λ (ps : List Piece). Contains ps c.index-pieces-i.result) pieces.pieces
          (c.partition_point-i.result, below, sym c.index-pieces-i.is);
      from = subst (λ (p : Piece). p.first ≤ c.args.day) (sym c.index-pieces-i.is)
          (place-from c.pieces-pieces.result.now c.args.self.now.first (c.args.self.now.last + 1) c.args.day c.partition_point-i.result
          c.index-pieces-i.result pieces.tiles c.requires.from (place here) below);
      upto = subst (λ (p : Piece). c.args.day ≤ p.last) (sym c.index-pieces-i.is) ((place here).at c.index-pieces-i.result below);
      tiles = rw pieces.pieces at pieces.tiles;
    }
