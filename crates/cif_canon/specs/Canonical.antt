-- The canonical form of an extract.
use Rattle.std.specs.Prelude.{◌≡◌, ℕ, List, AllPairs}
use Rattle.std.specs.{Cmp.Lexicographic.slice_cmp, Ordering.nat_cmp, declared.cmp.Ordering.Ordering, declared.cmp.Ordering.TheVariants.Less}
use Rattle.cif_calendar.specs.{Entries.association_entries, Entries.schedule_entries, Terms.Terms}
use Rattle.cif_extract.specs.{ExtractParts.ExtractParts, SpellsExtract.BytesSpell, Texts.extract_text}
use Rattle.cif_records.specs.AssocKey.{key_cmp}
use Rattle.cif_weeks.specs.{Canonical.AreCanonical, Permanent.Permanent, Permanent.permanent_entries, Window.Window}
use Rattle.cif_weeks.specs.declared.form.Form.{Form}
use Rattle.cif_canon.specs.{Asked.header_window, Meaning.SameMeaning}

-- The entries are permanent records alone, and rise strictly by key and then first day, so that no two have one key and one first day;
-- those of each key have the form.
pub record AreCanonicalEntries {K B : Type 0} (cmp : K → K → Ordering) (form : Form) (window : Window) (entries : List (K × Terms B))
    : Type 0 where
  pub records : List (K × Permanent B)
  pub are : entries ≡ permanent_entries records
  pub canonical : AreCanonical cmp form window records

-- The TI records rise strictly by their columns, and the associations and the schedules are canonical.
pub record IsCanonicalExtract (form : Form) (x : ExtractParts) : Type 0 where
  pub tiplocs : AllPairs (λ s t. slice_cmp nat_cmp s.columns t.columns ≡ Less) x.tiplocs
  pub associations : AreCanonicalEntries key_cmp form (header_window x.header) (association_entries x.associations)
  pub schedules : AreCanonicalEntries (slice_cmp nat_cmp) form (header_window x.header) (schedule_entries x.schedules)

-- The bytes spell this extract and are its plain text, and it is canonical. (A text alone spells no extract whose values don't fit their
-- columns.)
pub record IsCanonicalText (form : Form) (x : ExtractParts) (bytes : List ℕ) : Type 0 where
  pub spelled : BytesSpell bytes x
  pub text : bytes ≡ extract_text x
  pub canonical : IsCanonicalExtract form x

-- The bytes are canonical, and say what the extract says.
pub record IsCanonicalOf (form : Form) (x : ExtractParts) (bytes : List ℕ) : Type 0 where
  pub made : ExtractParts
  pub canonical : IsCanonicalText form made bytes
  pub same : SameMeaning x made
