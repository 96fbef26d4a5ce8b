-- The canonical bytes of an input, for a form and a window that is asked for: that they are the only ones, their own canonical form,
-- and reached from each form.
use Rattle.std.specs.Prelude.{◌≡◌, ◌↔◌, ℕ, List, drop}
use Rattle.cif_extract.specs.ExtractParts.{ExtractParts}
use Rattle.cif_weeks.specs.declared.form.Form.{Form}
use Rattle.cif_canon.specs.{Accepted.IsAccepted, Asked.header_window, Asked.nothing_asked, Canonical.IsCanonicalOf, Meaning.Agree}
use Rattle.cif_canon.specs.{Meaning.SameMeaning, declared.asked.Asked.Asked}

-- The bytes are the canonical form of the input, for a window that is asked for: the input is accepted for it as an extract, and they
-- are canonical and say what that says.
pub record IsNormalFormOf (form : Form) (asked : Asked) (input bytes : List ℕ) : Type 0 where
  pub meant : ExtractParts
  pub accepted : IsAccepted asked meant input
  pub canonical : IsCanonicalOf form meant bytes

-- what follows the first line of canonical bytes, which is eighty columns and a line feed
abbrev pub after_first_line : List ℕ → List ℕ
after_first_line bytes = drop 81 bytes

-- Canonical bytes of x are the only ones: whatever another input, and the window that is asked for of it, its canonical bytes of the
-- same form are these exactly if it says what x says.
pub record IsUnique (form : Form) (x : ExtractParts) (bytes : List ℕ) : Type 0 where
  pub whole : (asked : Asked) (input other : List ℕ) (n : IsNormalFormOf form asked input other) → (other ≡ bytes) ↔ SameMeaning n.meant x
  -- Where only the windows are equal, whatever else the headers say: they are equal after their first lines exactly if the two agree in
  -- that window.
  pub after_header : (asked : Asked) (input other : List ℕ) (n : IsNormalFormOf form asked input other) →
      header_window n.meant.header ≡ header_window x.header →
      (after_first_line other ≡ after_first_line bytes) ↔ Agree (header_window x.header) n.meant x

-- The bytes are the canonical form of these others, for the window that was asked for and where none is.
pub record IsNormalFormAgain (form : Form) (asked : Asked) (others bytes : List ℕ) : Type 0 where
  pub asked_again : IsNormalFormOf form asked others bytes
  pub unasked : IsNormalFormOf form nothing_asked others bytes

-- The way between the forms: whatever canonical bytes of x are read, of any form, these bytes are their canonical form.
pub record IsReachedFromForms (form : Form) (asked : Asked) (x : ExtractParts) (bytes : List ℕ) : Type 0 where
  pub from : (other_form : Form) (others : List ℕ) → IsCanonicalOf other_form x others → IsNormalFormAgain form asked others bytes
