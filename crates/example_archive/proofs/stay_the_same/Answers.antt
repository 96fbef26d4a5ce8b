-- Canonical bytes are their own (`same-again`), and `==` compares bytes.
use Rattle.std.proofs.Common.{◌≡◌, ◌∙◌, rules, subst, sym}
use Rattle.std.specs.Cmp.Lexicographic.{bytes_decides}
use Rattle.cif_columns.specs.Sink.{writer_of}
use Rattle.example_archive.specs.Archive.{AreCanonicalBytes}
use Rattle.example_archive.proofs.Archived.{same-again}
use Rattle.example_archive.proofs.stay_the_same.Goals as goal

pub returns : goal.returns
returns c =
    let once = (writer_of c.in_ok-once.once).items in
    let twice = (writer_of c.in_ok-twice.twice).items in
    let given : c.deref.result.now ≡ once = search rules in
    let read : c.as_slice.result.now ≡ once = search rules in
    let read_again : c.as_slice-2.result.now ≡ twice = search rules in
    let again = subst (λ bytes. AreCanonicalBytes c.args.from c.args.to bytes twice) given c.in_ok-twice.ensures in
    c.eq.ensures ∙ (bytes_decides c.as_slice.result.now c.as_slice-2.result.now).1
    (read ∙ same-again c.args.from c.args.to c.args.extract.now once twice c.in_ok-once.ensures again ∙ sym read_again)
