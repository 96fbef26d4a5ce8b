-- What `normalise` and `check` answer.
use Rattle.std.specs.Prelude.{◌≡◌, ◌⊎◌, ℕ, ⊤, List, Option, Result, Ok, Err}
use Rattle.cif_columns.specs.{Sink.HasFailed, Sink.HasWritten, declared.sink.Sink.Sink}
use Rattle.cif_extract.specs.{ExtractParts.ExtractParts, ReadCall.ReadCall, ReadCall.reading, ReadFault.is_read}
use Rattle.cif_extract.specs.declared.{fault.Fault.Fault, fault.Fault.TheVariants.Write}
use Rattle.cif_weeks.specs.declared.form.Form.{Form}
use Rattle.cif_canon.specs.{Accepted.IsAcceptedWithin, Accepted.SpellsNarrowed, Asked.IsNarrowed, Asked.IsNarrowingFault, Canon.CanonParts}
use Rattle.cif_canon.specs.{Canon.IsCanonOf, Canonical.IsCanonicalOf, Counts.counts_of}
use Rattle.cif_canon.specs.Fault.{IsCanonFault, IsNormaliseFault, IsOfCheck, IsOfNormalise}
use Rattle.cif_canon.specs.NormalForm.{IsNormalFormAgain, IsReachedFromForms, IsUnique}
use Rattle.cif_canon.specs.declared.{asked.Asked.Asked, canonical_form.Counts.Counts}

-- The input is accepted, in at most max lines and for the window that is asked for, and this is its canonical text and its counts.
pub record IsNormalised (form : Form) (asked : Asked) (max : ℕ) (input text : List ℕ) (counts : Counts) : Type 0 where
  pub meant : ExtractParts
  pub accepted : IsAcceptedWithin max asked meant input
  -- the text is canonical and says what is meant
  pub canonical : IsCanonicalOf form meant text
  -- it is equal to other canonical texts exactly if their inputs say the same
  pub unique : IsUnique form meant text
  -- it is its own canonical text
  pub again : IsNormalFormAgain form asked text text
  -- it is the canonical text of what any form has
  pub reached : IsReachedFromForms form asked meant text
  -- the counts are those of its records
  pub counted : counts ≡ counts_of canonical.made

-- What there is of a whole extract: the canonical form of what it is narrowed to, or none since it isn't narrowed, or else has a clash.
abbrev pub HasCanon : Form → Asked → ExtractParts → Result CanonParts Fault → Type 0
HasCanon form asked whole (Ok canon) = (x : ExtractParts) × IsNarrowed asked whole x × IsCanonOf form x canon
HasCanon form asked whole (Err fault) =
    IsNarrowingFault asked whole.header fault ⊎ ((x : ExtractParts) × IsNarrowed asked whole x × IsCanonFault x fault)

-- the input is read as an extract for the window that is asked for, in at most max lines, and this is its canonical form
pub record IsCanonOfInput (form : Form) (asked : Asked) (max : ℕ) (input : List ℕ) (canon : CanonParts) : Type 0 where
  pub meant : ExtractParts
  pub spelled : SpellsNarrowed max asked meant input
  pub is_canon : IsCanonOf form meant canon

-- At Ok, and at Write, the text is the canonical text of the input; at any other fault this says nothing.
abbrev pub Normalises : Form → Asked → ℕ → List ℕ → List ℕ → Result Counts Fault → Type 0
Normalises form asked max input text (Ok counts) = IsNormalised form asked max input text counts
Normalises form asked max input text (Err Write) = (counts : Counts) × IsNormalised form asked max input text counts
Normalises form asked max input text (Err fault) = ⊤

-- what reading an input as its canonical form may come to
abbrev pub reading_canon : Form → Asked → ℕ → ReadCall CanonParts Fault
reading_canon form asked max = reading is_read (IsCanonOfInput form asked max) (IsNormaliseFault max asked) (IsOfCheck max)

-- what `check`, and what `normalise`, may come to
abbrev pub checking : Form → Asked → ℕ → ReadCall Counts Fault
checking form asked max =
    reading is_read (λ bytes counts. (text : List ℕ) × IsNormalised form asked max bytes text counts) (IsNormaliseFault max asked)
    (IsOfCheck max)

abbrev pub normalising : Form → Asked → ℕ → ReadCall Counts Fault
normalising form asked max = record (checking form asked max) { MayFail = IsOfNormalise max }

-- what a call that may answer a fault owes its sink: the whole text at Ok, a prefix of it at Write, and nothing at any other fault
abbrev pub FaultWrites : {W A : Type 0} → (W → Option (List ℕ)) → (W → Option ℕ) → List ℕ → Sink W → Sink W → Result A Fault → Type 0
FaultWrites contents errors text old new (Ok done) = HasWritten contents errors text old new
FaultWrites contents errors text old new (Err Write) = HasFailed contents errors text old new
FaultWrites contents errors text old new (Err fault) = new ≡ old

-- p holds where a text was written, or a prefix of it was
abbrev pub IfWritten : {A : Type 0} → Result A Fault → Type 0 → Type 0
IfWritten (Ok done) p = p
IfWritten (Err Write) p = p
IfWritten (Err fault) p = ⊤
