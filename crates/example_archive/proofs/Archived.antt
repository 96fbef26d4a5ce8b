-- What an archive knows of canonical bytes: what has them is accepted, and normalising them again returns them.
use Rattle.std.proofs.Common.{◌≡◌, ℕ, List, subst}
use Rattle.cif_extract.specs.ExtractParts.{ExtractParts}
use Rattle.cif_extract.specs.SpellsExtract.{BytesSpell}
use Rattle.cif_extract.proofs.SpelledBytes.{one_spelled}
use Rattle.cif_weeks.specs.declared.form.Form.TheVariants.{Two}
use Rattle.cif_canon.specs.Accepted.{IsAccepted}
use Rattle.cif_canon.specs.Asked.{IsNarrowed, header_window, nothing_asked}
use Rattle.cif_canon.specs.Meaning.{SameMeaning}
use Rattle.cif_canon.specs.NormalForm.{IsNormalFormOf}
use Rattle.cif_canon.specs.declared.asked.Asked.{Asked}
use Rattle.cif_canon.proofs.NormalForms.{one-accepted, one-narrowed, unasked}
use Rattle.cif_canon.proofs.SameExtracts.{same-sym, same-trans}
use Rattle.example_archive.specs.Archive.{AreCanonicalBytes, dates}
use Rattle.example_archive.specs.ByHand.{IsCanonicalTextOf}

module _ (from to : ℕ) (extract bytes : List ℕ) (c : AreCanonicalBytes from to extract bytes) where
  -- what has canonical bytes is accepted, with the window that was asked for
  pub accepted : IsAccepted (dates from to) c.1.meant extract
  accepted =
      let a = c.1.accepted in
      record { whole = a.spelled.whole; spelled = a.spelled.spelled.spell; narrowed = a.spelled.narrowed; clear = a.clear }

  pub window_is : header_window c.1.meant.header ≡ record { first = from; last = to }
  window_is = c.1.accepted.spelled.narrowed.window

-- what a canonical form is of says what it says
module _ (asked : Asked) (input bytes : List ℕ) (n : IsNormalFormOf Two asked input bytes) where
  says : (x : ExtractParts) → n.meant ≡ x → SameMeaning n.meant x
  says x is =
      let same = n.canonical.same in
      subst (SameMeaning n.meant) is (same-trans n.meant n.canonical.made n.meant same (same-sym n.meant n.canonical.made same))

-- canonical bytes are their own
pub same-again : (from to : ℕ) (extract once twice : List ℕ) → AreCanonicalBytes from to extract once →
    AreCanonicalBytes from to once twice → once ≡ twice
same-again from to extract once twice c d =
    let n = c.1.again.asked_again in
    (d.1.unique.whole (dates from to) once once n).1 (says (dates from to) once once n d.1.meant
    (one-accepted (dates from to) once n.meant d.1.meant n.accepted (accepted from to once twice d)))

-- and so is the canonical text of an extract that a program holds
pub same-read : (x y : ExtractParts) (text again : List ℕ) → IsCanonicalTextOf x text → BytesSpell text y → IsCanonicalTextOf y again →
    text ≡ again
same-read x y text again c spelled d =
    let n = (c.2.again nothing_asked x (unasked x)).unasked in
    let whole : n.accepted.whole ≡ y = one_spelled text n.accepted.whole y n.accepted.spelled spelled in
    let narrowed = subst (λ w. IsNarrowed nothing_asked w n.meant) whole n.accepted.narrowed in
    (d.2.unique.whole nothing_asked text text n).1 (says nothing_asked text text n y
    (one-narrowed nothing_asked y n.meant y narrowed (unasked y)))
