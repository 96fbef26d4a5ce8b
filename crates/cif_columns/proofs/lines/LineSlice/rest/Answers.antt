-- What is kept behind the first line keeps the others (`rest_kept`).
use Rattle.cif_columns.proofs.{Names.drop, lines.LineSlice.rest.Goals.After-from, lines.LineSlice.rest.Goals.After-split_at}
use Rattle.cif_columns.proofs.KeptLines.{Keep, are_kept, first_within, keep_view, lines_kept, rest_kept}
use Rattle.cif_columns.proofs.lines.LineSlice.rest.Goals as goal

kept : (c : After-from) → Keep c.self.inside.kept.now c.args.self.now
kept c = keep_view c.self.inside.kept.now c.args.self.now c.self.invariant c.self.view_is

rest : (c : After-split_at) → Keep c.split_at.result.1.now (drop 1 c.args.self.now)
rest c =
    rest_kept c.self.inside.kept.now c.args.self.now (keep_view c.self.inside.kept.now c.args.self.now c.self.invariant c.self.view_is)
    c.requires c.from.result c.from.ensures c.split_at.result.1.now c.split_at.ensures.back

pub split_at-requires : goal.split_at-requires
split_at-requires c = first_within c.self.inside.kept.now c.args.self.now (kept c) c.requires c.from.result c.from.ensures

pub invariant_of-result : goal.invariant_of-result
invariant_of-result c = are_kept c.split_at.result.1.now (drop 1 c.args.self.now) (rest (goal.at.invariant_of-result c).After-split_at)

pub returns : goal.returns
returns c = lines_kept c.split_at.result.1.now (drop 1 c.args.self.now) (rest (goal.at.returns c).After-split_at)
