-- What is made of an extract is canonical in the extract's own window.
use Rattle.std.proofs.Common.{List, subst, sym, ℕ}
use Rattle.std.specs.{Cmp.Lexicographic.slice_cmp, Ordering.nat_cmp}
use Rattle.cif_calendar.specs.{Entries.association_entries, Entries.schedule_entries}
use Rattle.cif_canon.proofs.SameExtracts.{one-window}
use Rattle.cif_canon.specs.{Asked.header_window, Canonical.AreCanonicalEntries, Canonical.IsCanonicalExtract, Meaning.SameMeaning}
use Rattle.cif_extract.specs.ExtractParts.{ExtractParts}
use Rattle.cif_records.specs.AssocKey.{key_cmp}
use Rattle.cif_weeks.specs.declared.form.Form.{Form}

module _ (form : Form) (x made : ExtractParts) (same : SameMeaning x made) (c : IsCanonicalExtract form made) where
  pub associations-in : AreCanonicalEntries key_cmp form (header_window x.header) (association_entries made.associations)
  associations-in = subst (λ w. AreCanonicalEntries key_cmp form w (association_entries made.associations)) (sym (one-window x made same))
      c.associations

  pub schedules-in : AreCanonicalEntries (slice_cmp nat_cmp) form (header_window x.header) (schedule_entries made.schedules)
  schedules-in = subst (λ w. AreCanonicalEntries (slice_cmp nat_cmp) form w (schedule_entries made.schedules))
      (sym (one-window x made same)) c.schedules
