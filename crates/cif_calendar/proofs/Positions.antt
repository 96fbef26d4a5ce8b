-- The records at a key's positions are the records of the key.
use Rattle.cif_calendar.proofs.Names.{AreLawful, ArePositionsOf, C, Contains, IsChosen, IsNone, List, None, Option, SameRecords, Some}
use Rattle.cif_calendar.proofs.Names.{Terms, ap, get_or_from_slice_get, keyed, map, of_key, option_map, same_Some, slice_get}
use Rattle.cif_calendar.proofs.Names.{slice_get-get_or, slice_get-map, slice_get_within, subst, sym, ℕ, ◌↔◌, ◌∙◌, ◌≡◌}

-- an element that a look-up finds is in the list, and an element of the list is found
pub contains-at : {X : Type 0} (xs : List X) (i : ℕ) (x : X) → slice_get xs i ≡ Some x → Contains xs x
contains-at xs i x e = (i, slice_get_within xs i x e, get_or_from_slice_get xs i x x e)

pub at-contains : {X : Type 0} (xs : List X) (x : X) → Contains xs x → (i : ℕ) × (slice_get xs i ≡ Some x)
at-contains xs x c = (c.0, slice_get-get_or xs c.0 x c.1 ∙ ap Some c.2)

module _ {E K B : Type 0} (key : E → K) (terms : E → Terms B) where
  terms-found : (o : Option E) (k : K) (r : Terms B) → option_map {U = K × Terms B} (λ e. (key e, terms e)) o ≡ Some (k, r) →
      option_map terms o ≡ Some r
  terms-found None k r e = absurd (cc)
  terms-found (Some x) k r e = ap (λ (q : Option (K × Terms B)). option_map (λ p. p.1) q) e

  -- the terms at a position, where the key and the terms stand
  pub terms_at-keyed : (es : List E) (i : ℕ) (k : K) (r : Terms B) → slice_get (keyed key terms es) i ≡ Some (k, r) →
      slice_get (map terms es) i ≡ Some r
  terms_at-keyed es i k r e =
      slice_get-map terms es i ∙ terms-found (slice_get es i) k r (sym (slice_get-map (λ x. (key x, terms x)) es i) ∙ e)

  -- each record of the list is an entry's, so the law of entries is one of the list
  module _ (cancelled : (e : E) → IsNone (terms e).body ↔ ((terms e).letter ≡ C)) where
    chosen-cancelled : (o : Option E) (r : Terms B) → option_map terms o ≡ Some r → IsNone r.body ↔ (r.letter ≡ C)
    chosen-cancelled None r e = absurd (cc)
    chosen-cancelled (Some x) r e = subst (λ (s : Terms B). IsNone s.body ↔ (s.letter ≡ C)) (same_Some (terms x) r e) (cancelled x)

    pub AreLawful-chosen : (es : List E) (members : List ℕ) → AreLawful (IsChosen (map terms es) members)
    AreLawful-chosen es members = record {
      cancelled = λ r c. chosen-cancelled (slice_get es c.position) r (sym (slice_get-map terms es c.position) ∙ c.at);
    }

    pub AreLawful-of_key : (es : List E) (k : K) → AreLawful (of_key (keyed key terms es) k)
    AreLawful-of_key es k = record {
      cancelled = λ r in'. let f = at-contains (keyed key terms es) (k, r) in' in
          chosen-cancelled (slice_get es f.0) r (sym (slice_get-map terms es f.0) ∙ terms_at-keyed es f.0 k r f.1);
    }

  module _ (es : List E) (k : K) (members : List ℕ) (p : ArePositionsOf (keyed key terms es) k members) where
    -- the records at a key's positions are the key's records
    pub positions-records : SameRecords (IsChosen (map terms es) members) (of_key (keyed key terms es) k)
    positions-records = record {
      same = λ r. (
        λ c. let f = p.found c.position c.member in
            let e : f.0 ≡ r = same_Some f.0 r (sym (terms_at-keyed es c.position k f.0 f.1) ∙ c.at) in
            subst (λ s. of_key (keyed key terms es) k s) e (contains-at (keyed key terms es) c.position (k, f.0) f.1),
        λ in'. let f = at-contains (keyed key terms es) (k, r) in' in
            record { position = f.0; member = p.all f.0 r f.1; at = terms_at-keyed es f.0 k r f.1 },
      );
    }
