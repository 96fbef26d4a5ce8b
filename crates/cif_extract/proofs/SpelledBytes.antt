-- Bytes that spell an extract aren't refused, and spell no other.
use Rattle.cif_extract.proofs.Names.{BytesSpell, BytesSpellWithin, Err, Extract, ExtractParts, Fault, IfErr, IfOk, IsFirstRefusal, IsReadAs}
use Rattle.cif_extract.proofs.Names.{IsReadFault, IsTruncated, List, Ok, Refusal, Result, Unread, contents_of, extract_parts, own_layouts}
use Rattle.cif_extract.proofs.{FirstRefusals.fine-refused, LayoutLaws.own_are, Names.ℕ, Names.⊎_elim, Names.◌≡◌, OneExtract.one_extract}
use Rattle.cif_extract.proofs.{OrderLaws.spelled_fine, SpelledLines.spelled_trailer}
use Rattle.cif_extract.specs.declared.fault.Fault.TheVariants as fault

-- bytes spell one extract at most
pub one_spelled : (bytes : List ℕ) (x y : ExtractParts) → BytesSpell bytes x → BytesSpell bytes y → x ≡ y
one_spelled bytes x y p q = one_extract own_layouts own_are (contents_of bytes) x y p.spelled q.spelled

module _ (max : ℕ) (bytes : List ℕ) (x : ExtractParts) (spells : BytesSpellWithin max bytes x) where
  pub spelled-refused : (number : ℕ) (why : Refusal) → IsFirstRefusal max bytes number why → ⊥
  spelled-refused number why refused =
      let s = spells.spell.spelled in
      ⊎_elim
      (λ r. fine-refused max (contents_of bytes) number why
      (spelled_fine max (contents_of bytes) x spells.within spells.spell.are_lines s) r)
      (λ (t : IsTruncated max (contents_of bytes) number why).
      spelled_trailer own_layouts own_are (contents_of bytes) x s t.no_trailer) refused

  -- what is answered, by what the answers say of the bytes
  pub read_as : (after : Unread) (result : Result Extract Fault) →
      IfOk result (λ extract. BytesSpellWithin max bytes (extract_parts extract)) → IfErr result (IsReadFault max bytes after) →
      IsReadAs x result
  read_as after (Ok extract) ok err = one_spelled bytes (extract_parts extract) x ok.spell spells.spell
  read_as after (Err (fault.Refused number why)) ok err = absurd (spelled-refused number why err.0)
  read_as after (Err fault.Read) ok err = tt
  read_as after (Err fault.Memory) ok err = tt
  read_as after (Err _) ok err = absurd err
