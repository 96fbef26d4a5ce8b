-- What layouts owe: what holds of the records that a line spells by them.
use Rattle.cif_extract.proofs.Names.{AllFit, Basic, C, IsLine, Layouts, List, None, Record, Some, SpellsRecord, Stp, [], ap, basic_back}
use Rattle.cif_extract.proofs.Names.{basic_front, bytes_eq, codes, columns, detail_rows, has_body, kind_of, letter, not, own_layouts}
use Rattle.cif_extract.proofs.Names.{record_table, refl, stands-back, ℕ, ◌++◌, ◌∙◌, ◌∷◌, ◌≡◌}
use Rattle.cif_records.proofs.Records as records
use Rattle.cif_records.specs.declared.record.Record.TheVariants as of
use Rattle.cif_extract.specs.Layouts.{cancels}

pub record AreLayouts (l : Layouts) : Type 0 where
  -- the line names its kind, and cancels where it is a BS without a body
  pub kind : (line : List ℕ) (r : Record) → l.spells line r → l.kind line ≡ Some (kind_of r)
  pub cancels : (line : List ℕ) (b : Basic) → l.spells line (of.Basic b) → l.cancels line ≡ not (has_body b.letter)
  -- the line isn't refused, and spells no other record
  pub fine : (line : List ℕ) (r : Record) → l.spells line r → l.refusal line ≡ None
  pub one : (line : List ℕ) (r s : Record) → l.spells line r → l.spells line s → r ≡ s
  -- what it says fits the columns of lines
  pub fits : (line : List ℕ) → IsLine line → (r : Record) → l.spells line r → AllFit (record_table r)

-- column 80 is the letter C exactly where there is no body
pub letter_cancels : (line : List ℕ) (stp : Stp) → columns 80 80 line ≡ letter stp ∷ [] → cancels line ≡ not (has_body stp)
letter_cancels line stp s = ap (λ (cs : List ℕ). bytes_eq cs (codes "C")) s ∙ by_letter stp
  where
    by_letter : (stp : Stp) → bytes_eq (letter stp ∷ []) (codes "C") ≡ not (has_body stp)
    by_letter C = refl
    by_letter _ = refl

own_cancels : (line : List ℕ) (b : Basic) → SpellsRecord line (of.Basic b) → cancels line ≡ not (has_body b.letter)
own_cancels line b s =
    letter_cancels line b.letter (stands-back line (detail_rows b.detail) (basic_back b.letter)
    (stands-back line (basic_front b.uid b.first b.last b.days) (detail_rows b.detail ++ basic_back b.letter) s)).1.0

pub own_are : AreLayouts own_layouts
own_are = record {
  kind = records.kind_there;
  cancels = own_cancels;
  fine = records.no_refusal;
  one = records.one_record;
  fits = records.fit;
}
