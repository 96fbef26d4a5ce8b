-- The sources of a calendar, and their bodies.
use Rattle.cif_weeks.proofs.Names.{AreSources, CalendarParts, IsWithin, List, None, Option, Some, Terms, body_at, body_in, length}
use Rattle.cif_weeks.proofs.Names.{option_and_then, refl, slice_get, slice_get_within, source_in, sym, window_of, ℕ, ◌<◌, ◌∙◌, ◌≡◌}
use Rattle.cif_calendar.proofs.Meaning.{some-body}
use Rattle.cif_weeks.proofs.SourcesIn.{source_in-inside, source_in-within}

module _ {B : Type 0} (xs : List (Terms B)) (c : CalendarParts) (sources : AreSources xs c) where
  -- a body runs in the window alone, and has a source there
  pub body-source : (o : Option ℕ) (b : B) → body_at xs o ≡ Some b → (i : ℕ) × (o ≡ Some i)
  body-source None b e = absurd (cc)
  body-source (Some i) b e = (i, refl)

  pub inside : (b : B) (n : ℕ) → body_in xs c n ≡ Some b → IsWithin (window_of c) n
  inside b n runs = let (i, is) = body-source (source_in c n) b runs in source_in-inside c n i is

  -- a source of the calendar is the position of a body
  pub source-body : (n i : ℕ) → source_in c n ≡ Some i → (b : B) × (body_at xs (Some i) ≡ Some b)
  source-body n i is =
      let within = source_in-inside c n i is in
      some-body (body_at xs (Some i))
      (sources.bodied n i within.from within.upto (sym (source_in-within c n within.from within.upto) ∙ is))

  body-below : (i : ℕ) (b : B) (o : Option (Terms B)) → slice_get xs i ≡ o → option_and_then (λ (r : Terms B). r.body) o ≡ Some b →
      i < length xs
  body-below i b None at e = absurd (cc)
  body-below i b (Some r) at e = slice_get_within xs i r at

  pub has-below : (i : ℕ) (b : B) → body_at xs (Some i) ≡ Some b → i < length xs
  has-below i b is = body-below i b (slice_get xs i) refl is
