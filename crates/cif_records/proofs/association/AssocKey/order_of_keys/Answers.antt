-- Whatever the width, texts compare as their columns do (`order_of_columns`): once for each of the key's three texts.
use Rattle.cif_columns.proofs.TextOrder.{order_of_columns}
use Rattle.cif_records.proofs.association.AssocKey.order_of_keys.Goals as goal

pub returns-clause-written : goal.returns-clause-written
returns-clause-written c a b p q =
    rw (
      order_of_columns 7 a.location b.location p.location.1 q.location.1 p.location.0 q.location.0,
      order_of_columns 1 a.base_suffix b.base_suffix p.base_suffix.1 q.base_suffix.1 p.base_suffix.0 q.base_suffix.0,
      order_of_columns 1 a.associated_suffix b.associated_suffix p.associated_suffix.1 q.associated_suffix.1 p.associated_suffix.0
          q.associated_suffix.0,
    )
