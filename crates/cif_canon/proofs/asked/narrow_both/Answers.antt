-- The second one is narrowed behind the first, or it is to blame.
use Rattle.cif_canon.proofs.{Names.extract_parts, ReadPairs.both-narrowed, ReadPairs.left-refused, ReadPairs.right-refused}
use Rattle.cif_canon.proofs.asked.narrow_both.Goals as goal

pub returns-in_err-narrow : goal.returns-in_err-narrow
returns-in_err-narrow c =
    left-refused c.args.asked.now c.args.common c.args.left c.args.right c.asked_of_both-asked.result c.asked_of_both-asked.ensures
    c.in_err-narrow.field-0.0 c.in_err-narrow.ensures.fault c.from_residual.result c.from_residual.ensures.1

pub returns-in_err-narrow-2 : goal.returns-in_err-narrow-2
returns-in_err-narrow-2 c =
    let call = c.from_residual-in_err-narrow-2 in
    right-refused c.args.asked.now c.args.common c.args.left c.args.right c.asked_of_both-asked.result c.asked_of_both-asked.ensures
    (extract_parts c.narrow.new.extract) c.in_ok-narrow.ensures.ok c.in_err-narrow-2.field-0.0 c.in_err-narrow-2.ensures.fault call.result
    call.ensures.1

pub returns : goal.returns
returns c =
    both-narrowed c.args.asked.now c.args.common c.args.left c.args.right c.asked_of_both-asked.result c.asked_of_both-asked.ensures
    c.narrow.new.extract c.narrow-2.new.extract c.in_ok-narrow.ensures.ok c.in_ok-narrow-2.ensures.ok
