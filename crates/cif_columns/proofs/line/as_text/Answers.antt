-- The fault can't come: printable bytes are ASCII, each below 128, and so they are UTF-8, by two lemmas of std.
use Rattle.cif_columns.proofs.Names.{arith}
use Rattle.std.proofs.{lemmas.Str.Ascii.IsAscii-from_all, lemmas.Str.IsUtf8-from_ascii}
use Rattle.cif_columns.proofs.line.as_text.Goals as goal

-- bytes that may stand in a line are ASCII
pub unreachable-requires : goal.unreachable-requires
unreachable-requires c =
    let bytes = c.args.bytes.now in
    let ascii = IsAscii-from_all bytes (λ k d below. let printable = c.requires k d below in omega arith) in
    c.in-Err.ensures.cases.0 (IsUtf8-from_ascii bytes ascii)
