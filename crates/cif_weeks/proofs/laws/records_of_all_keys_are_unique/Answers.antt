-- Laws of all lists: `UniqueByKey` has them, since each key's records are unique and the order of keys is total.
use Rattle.cif_weeks.proofs.UniqueByKey.{unique_by_key, unique_same}
use Rattle.cif_weeks.proofs.laws.records_of_all_keys_are_unique.Goals as goal

pub returns : goal.returns
returns g c = record {
  by_what_runs = unique_by_key g.K.Ord.cmp g.met.K.Ord.total;
  by_what_they_say = unique_same g.K.Ord.cmp g.met.K.Ord.total;
}
