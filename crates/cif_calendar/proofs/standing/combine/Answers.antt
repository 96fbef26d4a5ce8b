-- The lesser letter leads; where neither is less, both are the same.
use Rattle.cif_calendar.proofs.{Names.IsRank, Names.arith, Names.subst, Names.◌≡◌, Winning.combines_first, Winning.combines_second}
use Rattle.cif_calendar.proofs.standing.combine.Goals as goal

pub returns-then-rank_of_one-rank_of_other-clause-stands : goal.returns-then-rank_of_one-rank_of_other-clause-stands
returns-then-rank_of_one-rank_of_other-clause-stands g c = combines_first _ _ c.args.one c.args.other
    c.rank-rank_of_one.result _ c.rank-rank_of_one.ensures c.rank-rank_of_other.ensures c.if-rank_of_one-rank_of_other.true

pub returns-then-rank_of_other-rank_of_one-clause-stands : goal.returns-then-rank_of_other-rank_of_one-clause-stands
returns-then-rank_of_other-rank_of_one-clause-stands g c = combines_second _ _ c.args.one c.args.other
    c.rank-rank_of_one.result _ c.rank-rank_of_one.ensures c.rank-rank_of_other.ensures c.if-rank_of_other-rank_of_one.true

pub returns-else-rank_of_other-rank_of_one-clause-stands : goal.returns-else-rank_of_other-rank_of_one-clause-stands
returns-else-rank_of_other-rank_of_one-clause-stands g c =
    let same : c.rank-rank_of_other.result ≡ c.rank-rank_of_one.result =
    omega (arith, c.if-rank_of_one-rank_of_other.false, c.if-rank_of_other-rank_of_one.false) in
    c.level.ensures.stands c.rank-rank_of_one.result c.rank-rank_of_one.ensures
    (subst (IsRank c.args.members.now.terms c.args.members.now.positions c.args.other) same
    c.rank-rank_of_other.ensures)
