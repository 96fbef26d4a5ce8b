-- Each row is put behind those before (`onto`).
use Rattle.cif_records.proofs.Rows.{onto}
use Rattle.cif_records.proofs.origin.OriginLayout.put_rows.Goals as goal

pub returns-clause-columns : goal.returns-clause-columns
returns-clause-columns c =
    onto _ c.put_spare.ensures.columns (onto _ c.put_on-10.ensures.columns (onto _ c.put_on-9.ensures.columns
    (onto _ c.put_on-8.ensures.columns (onto _ c.put_on-7.ensures.columns (onto _ c.put_on-6.ensures.columns
    (onto _ c.put_on-5.ensures.columns (onto _ c.put_on-4.ensures.columns (onto _ c.put_on-3.ensures.columns
    (onto _ c.put_on-2.ensures.columns (onto _ c.put_on.ensures.columns (onto _ c.put_columns.ensures.columns c.requires)))))))))))
