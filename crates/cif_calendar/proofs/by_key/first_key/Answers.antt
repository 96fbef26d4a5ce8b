-- Of each list those that have the entry's key are counted and split off.
use Rattle.cif_calendar.proofs.Names.{AreFrom, IsCountOfKey, keyed, subst, sym}
use Rattle.cif_calendar.proofs.by_key.first_key.Goals as goal

pub count_of_key-left_count-requires-clause-from : goal.count_of_key-left_count-requires-clause-from
count_of_key-left_count-requires-clause-from g c =
    subst (AreFrom g.E.Key.Ord.cmp (keyed g.E.Entry.key g.E.Entry.terms c.args.left.now) c.args.left_positions.now) (sym c.key.ensures)
    c.in-Some.ensures.left_from

pub count_of_key-right_count-requires-clause-from : goal.count_of_key-right_count-requires-clause-from
count_of_key-right_count-requires-clause-from g c =
    subst (AreFrom g.E.Key.Ord.cmp (keyed g.E.Entry.key g.E.Entry.terms c.args.right.now) c.args.right_positions.now) (sym c.key-2.ensures)
    c.in-Some.ensures.right_from

pub returns : goal.returns
returns g c = record {
  first = c.in-Some.ensures;
  left_split = record {
    count = c.count_of_key-left_count.result;
    is_count = subst (λ k. IsCountOfKey g.E.Key.Ord.cmp (keyed g.E.Entry.key g.E.Entry.terms c.args.left.now) c.args.left_positions.now k
        c.count_of_key-left_count.result) c.key.ensures c.count_of_key-left_count.ensures;
    prefix_is = c.split_at.ensures.front;
    later_is = c.split_at.ensures.back;
  };
  right_split = record {
    count = c.count_of_key-right_count.result;
    is_count = subst (λ k. IsCountOfKey g.E.Key.Ord.cmp (keyed g.E.Entry.key g.E.Entry.terms c.args.right.now) c.args.right_positions.now k
        c.count_of_key-right_count.result) c.key-2.ensures c.count_of_key-right_count.ensures;
    prefix_is = c.split_at-2.ensures.front;
    later_is = c.split_at-2.ensures.back;
  };
}
