-- The text is that of the bytes (`appended`).
use Rattle.cif_canon.proofs.AppendedTexts.{appended, text-is}
use Rattle.cif_canon.proofs.writing.append.Goals as goal

pub returns : goal.returns
returns g c =
    text-is _ _ c.as_bytes.result.now c.args.text.now _ _ c.as_bytes.ensures.value
    (appended _ _ c.as_bytes.result.now _ _ c.write_all.result c.write_all.ensures)
