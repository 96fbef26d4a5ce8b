-- Of fewer bytes than a line has, nothing follows it (`drop_all`); of more, all that is left is taken (`take_all`).
use Rattle.std.proofs.Common.{◌≤◌, ◌-◌, arith, drop, length, sym}
use Rattle.std.proofs.lemmas.List.{drop_all, length-drop, take_all}
use Rattle.example_archive.proofs.after_header.Goals as goal

pub returns-then-bytes-lt-HEADER_LINE : goal.returns-then-bytes-lt-HEADER_LINE
returns-then-bytes-lt-HEADER_LINE c =
    let few = c.if-bytes-lt-HEADER_LINE.true in
    sym (drop_all 81 c.args.bytes.now (omega (arith, few)))

pub returns-else-bytes-lt-HEADER_LINE : goal.returns-else-bytes-lt-HEADER_LINE
returns-else-bytes-lt-HEADER_LINE c =
    let bytes = c.args.bytes.now in
    take_all (length bytes - 81) (drop 81 bytes) (omega (arith, length-drop 81 bytes))
