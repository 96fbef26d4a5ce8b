-- The canonical text of an extract is that of what it spells (`same-read`), and `==` compares bytes.
use Rattle.std.proofs.Common.{◌≡◌, ◌∙◌, rules, subst, sym}
use Rattle.std.specs.Cmp.Lexicographic.{bytes_decides}
use Rattle.cif_columns.specs.Sink.{writer_of}
use Rattle.cif_extract.specs.ExtractParts.{extract_parts}
use Rattle.cif_extract.specs.SpellsExtract.{BytesSpell}
use Rattle.example_archive.proofs.Archived.{same-read}
use Rattle.example_archive.proofs.by_hand.reads_back.Goals as goal

pub returns : goal.returns
returns c =
    let text = (writer_of c.in_ok-text.text).items in
    let again = (writer_of c.in_ok-again.again).items in
    let given : c.as_slice.result.now ≡ text = search rules in
    let read : c.as_slice-2.result.now ≡ text = search rules in
    let read_again : c.as_slice-3.result.now ≡ again = search rules in
    let within = rw c.new-source.ensures.reader at c.in_ok-read.ensures.ok in
    let spelled = subst (λ bytes. BytesSpell bytes (extract_parts c.in_ok-read.read)) given within.spell in
    c.eq.ensures ∙ (bytes_decides c.as_slice-2.result.now c.as_slice-3.result.now).1
    (read ∙ same-read (extract_parts c.args.extract.now) (extract_parts c.in_ok-read.read) text again c.in_ok-text.ensures spelled
    c.in_ok-again.ensures ∙ sym read_again)
