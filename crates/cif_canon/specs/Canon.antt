-- What a `Canon` is: the canonical form of an extract, and why there is none.
use Rattle.std.specs.Prelude.{◌≡◌, ℕ, List}
use Rattle.std.specs.{Cmp.Lexicographic.slice_cmp, Ordering.nat_cmp}
use Rattle.cif_calendar.specs.{Entries.schedule_entries, Meaning.EntriesSayTheSame}
use Rattle.cif_extract.specs.{Body.BodyLines, ExtractParts.ExtractParts}
use Rattle.cif_weeks.specs.{Canonical.AreCanonical, Permanent.Permanent, Permanent.permanent_entries}
use Rattle.cif_weeks.specs.declared.form.Form.{Form}
use Rattle.cif_canon.specs.{Accepted.IsClearExtract, Asked.IsNarrowed, Asked.header_window, Canonical.IsCanonicalOf, Counts.counts_of, Lines.ExtractLines}
use Rattle.cif_canon.specs.{Lines.lines_of, declared.asked.Asked.Asked, declared.canonical_form.Counts.Counts}
use Rattle.cif_canon.specs.NormalForm.{IsNormalFormAgain, IsReachedFromForms, IsUnique}

-- what a contract sees of it: its text, its lines by kind, and how many records it has
pub record CanonParts : Type 0 where
  pub text : List ℕ
  pub lines : ExtractLines
  pub counts : Counts

-- The extract x is clear, and this is its canonical form: the text of a canonical extract that says the same, and its counts.
pub record IsCanonOf (form : Form) (x : ExtractParts) (c : CanonParts) : Type 0 where
  pub clear : IsClearExtract x
  -- the text is canonical, spells what it is the text of, and says what x says
  pub canonical : IsCanonicalOf form x c.text
  -- it is equal to other canonical texts exactly if their inputs say the same
  pub unique : IsUnique form x c.text
  -- whatever x was narrowed from: the text is its own canonical text, and that of each canonical text of any form that says the same
  pub again : (asked : Asked) (whole : ExtractParts) → IsNarrowed asked whole x → IsNormalFormAgain form asked c.text c.text
  pub reached : (asked : Asked) (whole : ExtractParts) → IsNarrowed asked whole x → IsReachedFromForms form asked x c.text
  -- its lines are the plain lines of the extract that its text spells
  pub lines_are : c.lines ≡ lines_of canonical.made
  -- the counts are those of its records
  pub counted : c.counts ≡ counts_of canonical.made

-- The extract x is clear, and these are the schedules of its canonical form, each with its UID: they say what runs.
pub record AreCanonSchedules (form : Form) (x : ExtractParts) (schedules : List (List ℕ × Permanent BodyLines)) : Type 0 where
  pub clear : IsClearExtract x
  pub canonical : AreCanonical (slice_cmp nat_cmp) form (header_window x.header) schedules
  pub same_meaning : EntriesSayTheSame (schedule_entries x.schedules) (permanent_entries schedules) x.header.first x.header.last
