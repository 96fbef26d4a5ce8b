-- Bytes that spell an extract aren't refused, and spell no other (`read_as`).
use Rattle.cif_extract.proofs.SpelledBytes.{read_as}
use Rattle.cif_extract.proofs.laws.what_bytes_spell_is_read.Goals as goal

pub returns : goal.returns
returns c max bytes after x result spells ok err = read_as max bytes x spells after result ok err
