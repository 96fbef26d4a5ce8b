-- Canonical bytes are the only ones that say what they say, their own canonical form, and reached from each form.
use Rattle.cif_canon.proofs.Names.{Agree, AreClear, Asked, AskedDatesAreWithin, BytesSpell, ExtractParts, FitsColumns, Form, Header, IfSome}
use Rattle.cif_canon.proofs.Names.{IsAccepted, IsCanonicalExtract, IsCanonicalOf, IsClearExtract, IsNarrowed, IsWithin, List, None, Option}
use Rattle.cif_canon.proofs.Names.{SameMeaning, Schedule, Some, Tiploc, Window, [], ap, arith, canonical-clear, contents_of, drop_at}
use Rattle.cif_canon.proofs.Names.{extract_text, flat_map, header_table, header_window, key_cmp, length, length-append, length-plain_line}
use Rattle.cif_canon.proofs.Names.{line_of_association, line_of_tiploc, lines_text, map, nat_cmp, nothing_asked, one_spelled, plain_line}
use Rattle.cif_canon.proofs.Names.{plain_lines_of, refl, same_extract_parts, slice_cmp, spelled-fits, subst, sym, text-spells}
use Rattle.cif_canon.proofs.Names.{trailer_table, unwrap_or, window_asked, with_window, ℕ, ◌++◌, ◌∙◌, ◌∷◌, ◌≡◌, ◌≤◌}
use Rattle.cif_records.proofs.Headers as headers
use Rattle.cif_records.specs.declared.association.Association.{Association}
use Rattle.cif_canon.proofs.SameExtracts.{agree-sym, agree-trans, agree-with_header, one-window, same-sym, same-trans}
use Rattle.cif_canon.proofs.Unique.{extracts-unique, one-associations, one-schedules, one-tiplocs}
use Rattle.cif_canon.specs.NormalForm.{IsNormalFormAgain, IsNormalFormOf, IsReachedFromForms, IsUnique, after_first_line}

-- ---- what is accepted is one extract

pub one-narrowed : (asked : Asked) (whole x y : ExtractParts) → IsNarrowed asked whole x → IsNarrowed asked whole y → x ≡ y
one-narrowed asked whole x y p q =
    same_extract_parts x y (headers.same_header x.header y.header (p.columns ∙ sym q.columns)) (p.tiplocs ∙ sym q.tiplocs)
    (p.associations ∙ sym q.associations) (p.schedules ∙ sym q.schedules)

pub one-accepted : (asked : Asked) (input : List ℕ) (x y : ExtractParts) → IsAccepted asked x input → IsAccepted asked y input → x ≡ y
one-accepted asked input x y p q =
    one-narrowed asked p.whole x y p.narrowed
    (subst (λ w. IsNarrowed asked w y) (one_spelled input q.whole p.whole q.spelled p.spelled) q.narrowed)

-- ---- canonical bytes of what says the same

made-unique : (form : Form) (x y : ExtractParts) (b c : List ℕ) (p : IsCanonicalOf form x b) (q : IsCanonicalOf form y c) →
    SameMeaning x y → p.made ≡ q.made
made-unique form x y b c p q same =
    extracts-unique form p.made q.made p.canonical.canonical q.canonical.canonical
    (same-trans p.made x q.made (same-sym x p.made p.same) (same-trans x y q.made same q.same))

-- two canonical bytes are equal where they are made of the same
bytes-unique : (form : Form) (x y : ExtractParts) (b c : List ℕ) → IsCanonicalOf form x b → IsCanonicalOf form y c → SameMeaning x y → b ≡ c
bytes-unique form x y b c p q same = p.canonical.text ∙ ap extract_text (made-unique form x y b c p q same) ∙ sym q.canonical.text

-- and what they are made of says the same where they are equal
meaning-unique : (form : Form) (x y : ExtractParts) (b c : List ℕ) → IsCanonicalOf form x b → IsCanonicalOf form y c → b ≡ c →
    SameMeaning x y
meaning-unique form x y b c p q is =
    let made = one_spelled c p.made q.made (subst (λ l. BytesSpell l p.made) is p.canonical.spelled) q.canonical.spelled in
    same-trans x p.made y p.same (subst (λ m. SameMeaning m y) (sym made) (same-sym y q.made q.same))

-- ---- canonical bytes after their first lines

-- the lines behind the header's
abbrev further_lines : List Tiploc → List Association → List Schedule → List (List ℕ)
further_lines tiplocs associations schedules =
    map line_of_tiploc tiplocs
    ++ (map line_of_association associations ++ (flat_map plain_lines_of schedules ++ (plain_line trailer_table ∷ [])))

abbrev further_text : ExtractParts → List ℕ
further_text x = lines_text (further_lines x.tiplocs x.associations x.schedules)

-- the line of a header, with its line feed
abbrev first_line : Header → List ℕ
first_line h = plain_line (header_table h) ++ (10 ∷ [])

first_length : (h : Header) → length (first_line h) ≡ 81
first_length h =
    omega (arith, length-append (plain_line (header_table h)) (10 ∷ []), length-plain_line (header_table h) refl (headers.fits h))

text-after : (x : ExtractParts) → after_first_line (extract_text x) ≡ further_text x
text-after x = drop_at (first_line x.header) (further_text x) 81 (first_length x.header)

-- what the further lines say doesn't depend on the header
further-unique : (x y : ExtractParts) → BytesSpell (extract_text x) x → BytesSpell (extract_text y) y →
    further_text x ≡ further_text y → (window : Window) → Agree window x y
further-unique x y p q same window =
    let z : ExtractParts = record { header = y.header; tiplocs = x.tiplocs; associations = x.associations; schedules = x.schedules } in
    let own = spelled-fits (contents_of (extract_text x)) x p.are_lines p.spelled in
    let fits : FitsColumns z = record {
      header = headers.fits y.header;
      tiplocs = own.tiplocs;
      associations = own.associations;
      schedules = own.schedules;
    } in
    let text : extract_text z ≡ extract_text y = ap (λ (t : List ℕ). first_line y.header ++ t) same in
    let is : z ≡ y = one_spelled (extract_text y) z y (subst (λ t. BytesSpell t z) text (text-spells z fits)) q in
    subst (Agree window x) is (agree-with_header window x y.header)

module _ (form : Form) (x y : ExtractParts) (b c : List ℕ) (p : IsCanonicalOf form x b) (q : IsCanonicalOf form y c)
    (windows : header_window x.header ≡ header_window y.header) where
  made-windows : header_window p.made.header ≡ header_window q.made.header
  made-windows = sym (one-window x p.made p.same) ∙ windows ∙ one-window y q.made q.same

  -- what is made agrees where that of which it is made agrees
  made-agree : Agree (header_window x.header) x y → Agree (header_window x.header) p.made q.made
  made-agree a =
      agree-trans (header_window x.header) p.made x q.made (agree-sym (header_window x.header) x p.made p.same.agree)
      (agree-trans (header_window x.header) x y q.made a (subst (λ w. Agree w y q.made) (sym windows) q.same.agree))

  meant-agree : Agree (header_window x.header) p.made q.made → Agree (header_window x.header) x y
  meant-agree a =
      agree-trans (header_window x.header) x p.made y p.same.agree
      (agree-trans (header_window x.header) p.made q.made y a
      (subst (λ w. Agree w q.made y) (sym windows) (agree-sym (header_window y.header) y q.made q.same.agree)))

  pub after-unique : Agree (header_window x.header) x y → after_first_line b ≡ after_first_line c
  after-unique a =
      let made : Agree (header_window p.made.header) p.made q.made =
      subst (λ w. Agree w p.made q.made) (one-window x p.made p.same) (made-agree a) in
      let one = p.canonical.canonical in
      let two = q.canonical.canonical in
      ap after_first_line p.canonical.text ∙ text-after p.made
      ∙ ap (λ ts. lines_text (further_lines ts p.made.associations p.made.schedules))
      (one-tiplocs form p.made q.made one two made-windows made)
      ∙ ap (λ rs. lines_text (further_lines q.made.tiplocs rs p.made.schedules))
      (one-associations form p.made q.made one two made-windows made)
      ∙ ap (λ ss. lines_text (further_lines q.made.tiplocs q.made.associations ss))
      (one-schedules form p.made q.made one two made-windows made)
      ∙ sym (text-after q.made) ∙ ap after_first_line (sym q.canonical.text)

  pub after-meaning : after_first_line b ≡ after_first_line c → Agree (header_window x.header) x y
  after-meaning same =
      meant-agree (further-unique p.made q.made
      (subst (λ t. BytesSpell t p.made) p.canonical.text p.canonical.spelled)
      (subst (λ t. BytesSpell t q.made) q.canonical.text q.canonical.spelled)
      (sym (text-after p.made) ∙ ap after_first_line (sym p.canonical.text) ∙ same ∙ ap after_first_line q.canonical.text
      ∙ text-after q.made) (header_window x.header))

-- canonical bytes are unique
pub normal-unique : (form : Form) (x : ExtractParts) (bytes : List ℕ) → IsCanonicalOf form x bytes → IsUnique form x bytes
normal-unique form x bytes p = record {
  whole = λ asked input other n. (
    meaning-unique form n.meant x other bytes n.canonical p,
    bytes-unique form n.meant x other bytes n.canonical p,
  );
  after_header = λ asked input other n windows. (
    λ same. subst (λ w. Agree w n.meant x) windows (after-meaning form n.meant x other bytes n.canonical p windows same),
    λ agree. after-unique form n.meant x other bytes n.canonical p windows (subst (λ w. Agree w n.meant x) (sym windows) agree),
  );
}

-- ---- what is canonical is accepted again

pub canonical-extract-clear : (form : Form) (x : ExtractParts) → IsCanonicalExtract form x → IsClearExtract x
canonical-extract-clear form x c = record {
  associations = subst (λ es. AreClear es x.header.first x.header.last) (sym c.associations.are)
      (canonical-clear key_cmp form (header_window x.header) c.associations.records c.associations.canonical x.header.first x.header.last);
  schedules = subst (λ es. AreClear es x.header.first x.header.last) (sym c.schedules.are)
      (canonical-clear (slice_cmp nat_cmp) form
      (header_window x.header) c.schedules.records c.schedules.canonical x.header.first x.header.last);
}

-- a date that was asked for is in the window that was asked for, and is its own
asked-first : (o : Option ℕ) (own first last : ℕ) → first ≡ unwrap_or o own → first ≤ last →
    IfSome o (λ d. IsWithin (record { first = first; last = last }) d) × (unwrap_or o first ≡ first)
asked-first None own first last e order = (tt, refl)
asked-first (Some f) own first last e order = (record { from = omega (arith, e); upto = omega (arith, e, order) }, sym e)

asked-last : (o : Option ℕ) (own first last : ℕ) → last ≡ unwrap_or o own → first ≤ last →
    IfSome o (λ d. IsWithin (record { first = first; last = last }) d) × (unwrap_or o last ≡ last)
asked-last None own first last e order = (tt, refl)
asked-last (Some f) own first last e order = (record { from = omega (arith, e, order); upto = omega (arith, e) }, sym e)

-- where the window that is asked for is its own, an extract is itself, narrowed
self-narrowed : (asked : Asked) (x : ExtractParts) → AskedDatesAreWithin asked x.header →
    window_asked asked x.header ≡ header_window x.header →
    IsNarrowed asked x x
self-narrowed asked x within own = record {
  within = within;
  in_order = subst (λ (w : Window). w.first ≤ w.last) (sym own) x.header.in_order;
  window = sym own;
  columns = sym (ap (λ (w : Window). with_window w.first w.last x.header.columns) own ∙ headers.own_window x.header);
  tiplocs = refl;
  associations = refl;
  schedules = refl;
}

pub asked-again : (asked : Asked) (whole x : ExtractParts) → IsNarrowed asked whole x → (made : ExtractParts) → SameMeaning x made →
    IsNarrowed asked made made
asked-again asked whole x n made same =
    let h = made.header in
    let window : header_window h ≡ window_asked asked whole.header = sym (one-window x made same) ∙ n.window in
    let first = asked-first asked.from whole.header.first h.first h.last (ap (λ (w : Window). w.first) window) h.in_order in
    let last = asked-last asked.to whole.header.last h.first h.last (ap (λ (w : Window). w.last) window) h.in_order in
    self-narrowed asked made (record { from = first.0; to = last.0 })
    (ap (λ f. record { first = f; last = unwrap_or asked.to h.last }) first.1 ∙ ap (λ l. record { first = h.first; last = l }) last.1)

pub unasked : (made : ExtractParts) → IsNarrowed nothing_asked made made
unasked made = self-narrowed nothing_asked made (record { from = tt; to = tt }) refl

-- canonical bytes are accepted, and each canonical bytes of the same are their canonical form
pub normal-again : (form other_form : Form) (asked : Asked) (x : ExtractParts) (bytes other : List ℕ) → IsCanonicalOf form x bytes →
    (q : IsCanonicalOf other_form x other) → IsNarrowed asked q.made q.made → IsNormalFormOf form asked other bytes
normal-again form other_form asked x bytes other p q narrowed = record {
  meant = q.made;
  accepted = record {
    whole = q.made;
    spelled = q.canonical.spelled;
    narrowed = narrowed;
    clear = canonical-extract-clear other_form q.made q.canonical.canonical;
  };
  canonical = record { made = p.made; canonical = p.canonical; same = same-trans q.made x p.made (same-sym x q.made q.same) p.same };
}

-- where x is what was asked for of some extract
module _ (form : Form) (x : ExtractParts) (bytes : List ℕ) (p : IsCanonicalOf form x bytes) (asked : Asked) (whole : ExtractParts)
    (n : IsNarrowed asked whole x) where
  pub reached : IsReachedFromForms form asked x bytes
  reached = record {
    from = λ other_form others q. record {
      asked_again = normal-again form other_form asked x bytes others p q (asked-again asked whole x n q.made q.same);
      unasked = normal-again form other_form nothing_asked x bytes others p q (unasked q.made);
    };
  }

  pub its-own : IsNormalFormAgain form asked bytes bytes
  unfolding reached
  its-own = reached.from form bytes p
