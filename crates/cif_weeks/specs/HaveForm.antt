-- The records of one key have the form.
use Rattle.std.specs.Prelude.{◌≡◌, ◌≢◌, ℕ}
use Rattle.cif_weeks.specs.{Aligned.IsAligned, Applies.Applies, Permanent.Permanent, Permanent.Permanents, Separate.AreSeparate}
use Rattle.cif_weeks.specs.{WhatRuns.HasBody, Window.Window, declared.form.Form.Form}

-- On each day at most one of the records applies; each is aligned; each two with one body are separate, where the days are those on which
-- a record with this body applies.
pub record HaveForm {B : Type 0} (form : Form) (window : Window) (records : Permanents B) : Type 0 where
  pub single : (n : ℕ) (r s : Permanent B) → records r → records s → Applies r n → Applies s n → r ≡ s
  pub aligned : (r : Permanent B) → records r → IsAligned form window r
  pub separate : (r s : Permanent B) → records r → records s → r ≢ s → r.body ≡ s.body →
      AreSeparate form window (λ n. HasBody records n r.body) r s
