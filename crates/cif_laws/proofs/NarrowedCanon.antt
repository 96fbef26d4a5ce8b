-- Canonical bytes, narrowed to a part of their window, have the canonical form that the input has for that part.
use Rattle.std.proofs.Common.{Contains, List, ap, arith, length, length-take-le, refl, subst, sym, take, ℕ, ◌++◌, ◌∙◌, ◌≡◌, ◌≤◌}
use Rattle.cif_calendar.proofs.SayTheSame.{EntriesSayTheSame-refl}
use Rattle.cif_calendar.specs.{Entries.association_entries, Entries.schedule_entries, Meaning.EntriesSayTheSame}
use Rattle.cif_canon.proofs.NormalForms.{asked-again, canonical-extract-clear, one-accepted}
use Rattle.cif_canon.proofs.SameExtracts.{agree-sym, agree-trans, same-trans}
use Rattle.cif_canon.specs.{Accepted.IsAccepted, Accepted.IsClearExtract, Meaning.Agree, Meaning.SameMeaning, NormalForm.IsNormalFormOf}
use Rattle.cif_canon.specs.Asked.{AskedDatesAreWithin, IsNarrowed, header_window, window_asked}
use Rattle.cif_canon.specs.declared.asked.Asked.{Asked}
use Rattle.cif_columns.proofs.Names.{take_at}
use Rattle.cif_extract.proofs.SpelledBytes.{one_spelled}
use Rattle.cif_extract.specs.ExtractParts.{ExtractParts}
use Rattle.cif_records.proofs.Headers.{same_header}
use Rattle.cif_records.specs.{HeaderColumns.with_window, declared.header.Header.Header}
use Rattle.cif_weeks.specs.{Window.IsWithin, Window.Window, declared.form.Form.Form}
use Rattle.cif_columns.specs.DayDigits.{ddmmyy_of}
use Rattle.cif_laws.proofs.PreparedInputs.{asked-within}

-- another window over another window is the one alone
with_window-twice : (first last first_before last_before : ℕ) (columns : List ℕ) → length columns ≡ 58
    → with_window first last (with_window first_before last_before columns) ≡ with_window first last columns
with_window-twice first last first_before last_before columns wide =
    ap (λ (front : List ℕ). front ++ (ddmmyy_of first ++ ddmmyy_of last))
    (take_at (take 46 columns) (ddmmyy_of first_before ++ ddmmyy_of last_before) 46 (length-take-le 46 columns (omega arith)))

-- what is asked for of what is whole leaves what it says
module _ (asked : Asked) (whole x : ExtractParts) (n : IsNarrowed asked whole x) (window : Window) where
  narrowed-agrees : Agree window x whole
  narrowed-agrees = record {
    tiplocs = λ t. (λ has. subst (λ ts. Contains ts t) n.tiplocs has, λ has. subst (λ ts. Contains ts t) (sym n.tiplocs) has);
    associations = subst (λ xs. EntriesSayTheSame (association_entries x.associations) (association_entries xs) window.first window.last)
        n.associations (EntriesSayTheSame-refl (association_entries x.associations) window.first window.last);
    schedules = subst (λ xs. EntriesSayTheSame (schedule_entries x.schedules) (schedule_entries xs) window.first window.last)
        n.schedules (EntriesSayTheSame-refl (schedule_entries x.schedules) window.first window.last);
  }

-- what agrees in a window does so in its part
agree-within : (wide part : Window) (x y : ExtractParts) → ((d : ℕ) → IsWithin part d → IsWithin wide d) → Agree wide x y → Agree part x y
agree-within wide part x y within agree = record {
  tiplocs = agree.tiplocs;
  associations = record {
    same = λ k d o from upto. let w = within d (record { from = from; upto = upto }) in agree.associations.same k d o w.from w.upto;
  };
  schedules = record {
    same = λ k d o from upto. let w = within d (record { from = from; upto = upto }) in agree.schedules.same k d o w.from w.upto;
  };
}

module _ (form other_form : Form) (asked asked_of_input part : Asked) (input canonical narrower : List ℕ)
    (n : IsNormalFormOf form asked input canonical) (m : IsNormalFormOf other_form asked_of_input input narrower)
    (within : AskedDatesAreWithin part n.meant.header)
    (window_is : window_asked part n.meant.header ≡ header_window m.meant.header) where
  abbrev made : ExtractParts
  made = n.canonical.made

  one-header : n.meant.header ≡ made.header
  one-header = same_header n.meant.header made.header n.canonical.same.header

  one-whole : n.accepted.whole ≡ m.accepted.whole
  one-whole = one_spelled input n.accepted.whole m.accepted.whole n.accepted.spelled m.accepted.spelled

  -- what is made of the wider window, with the header of the narrower one
  abbrev part-of : ExtractParts
  part-of = record {
    header = m.meant.header;
    tiplocs = made.tiplocs;
    associations = made.associations;
    schedules = made.schedules;
  }

  in-wide : (d : ℕ) → IsWithin (header_window m.meant.header) d → IsWithin (header_window n.meant.header) d
  in-wide d has = asked-within part n.meant.header within d (subst (λ w. IsWithin w d) (sym window_is) has)

  columns-are : m.meant.header.columns
      ≡ with_window (window_asked part n.meant.header).first (window_asked part n.meant.header).last n.meant.header.columns
  columns-are =
      let wide = n.accepted.narrowed in
      let thin = m.accepted.narrowed in
      let whole = m.accepted.whole.header in
      let f = (window_asked part n.meant.header).first in
      let l = (window_asked part n.meant.header).last in
      thin.columns
      ∙ ap (λ (w : Window). with_window w.first w.last whole.columns) (sym thin.window ∙ sym window_is)
      ∙ sym (with_window-twice f l (window_asked asked whole).first (window_asked asked whole).last whole.columns whole.wide)
      ∙ ap (λ (c : List ℕ). with_window f l c)
      (sym (subst (λ (w : ExtractParts). n.meant.header.columns
      ≡ with_window (window_asked asked w.header).first (window_asked asked w.header).last w.header.columns) one-whole wide.columns))

  part-narrowed : IsNarrowed part made part-of
  part-narrowed = record {
    within = subst (AskedDatesAreWithin part) one-header within;
    in_order = subst (λ (h : Header). (window_asked part h).first ≤ (window_asked part h).last) one-header
        (subst (λ (w : Window). w.first ≤ w.last) (sym window_is) m.meant.header.in_order);
    window = sym window_is ∙ ap (window_asked part) one-header;
    columns = subst (λ (h : Header). m.meant.header.columns ≡ with_window (window_asked part h).first (window_asked part h).last h.columns)
        one-header columns-are;
    tiplocs = refl;
    associations = refl;
    schedules = refl;
  }

  part-clear : IsClearExtract part-of
  part-clear =
      let clear = canonical-extract-clear form made n.canonical.canonical.canonical in
      let in-made : (d : ℕ) → m.meant.header.first ≤ d → d ≤ m.meant.header.last → IsWithin (header_window made.header) d =
      λ d from upto. subst (λ (h : Header). IsWithin (header_window h) d) one-header (in-wide d (record { from = from; upto = upto })) in
      record {
        associations = record {
          key = λ k. record {
            clear = λ d from upto. let w = in-made d from upto in (clear.associations.key k).clear d w.from w.upto;
          };
        };
        schedules = record {
          key = λ k. record {
            clear = λ d from upto. let w = in-made d from upto in (clear.schedules.key k).clear d w.from w.upto;
          };
        };
      }

  part-same : SameMeaning part-of m.meant
  part-same =
      let window = header_window m.meant.header in
      let wide : Agree window n.meant made =
      agree-within (header_window n.meant.header) window n.meant made in-wide n.canonical.same.agree in
      let whole : Agree window n.meant m.accepted.whole =
      subst (Agree window n.meant) one-whole (narrowed-agrees asked n.accepted.whole n.meant n.accepted.narrowed window) in
      let thin : Agree window m.meant m.accepted.whole =
      narrowed-agrees asked_of_input m.accepted.whole m.meant m.accepted.narrowed window in
      let all : Agree window made m.meant =
      agree-trans window made n.meant m.meant (agree-sym window n.meant made wide)
      (agree-trans window n.meant m.accepted.whole m.meant whole (agree-sym window m.meant m.accepted.whole thin)) in
      record {
        header = refl;
        agree = record { tiplocs = all.tiplocs; associations = all.associations; schedules = all.schedules };
      }

  pub narrows-alike : IsNormalFormOf other_form part canonical narrower
  narrows-alike = record {
    meant = part-of;
    accepted = record { whole = made; spelled = n.canonical.canonical.spelled; narrowed = part-narrowed; clear = part-clear };
    canonical = record {
      made = m.canonical.made;
      canonical = m.canonical.canonical;
      same = same-trans part-of m.meant m.canonical.made part-same m.canonical.same;
    };
  }

-- canonical bytes are accepted for the same dates, and say the same
pub says-alike : (form : Form) (asked : Asked) (input canonical : List ℕ) (x : ExtractParts) → IsNormalFormOf form asked input canonical
    → IsAccepted asked x input → (y : ExtractParts) × IsAccepted asked y canonical × SameMeaning x y
says-alike form asked input canonical x n accepted =
    let own = one-accepted asked input n.meant x n.accepted accepted in (
      n.canonical.made,
      record {
        whole = n.canonical.made;
        spelled = n.canonical.canonical.spelled;
        narrowed = asked-again asked n.accepted.whole n.meant n.accepted.narrowed n.canonical.made n.canonical.same;
        clear = canonical-extract-clear form n.canonical.made n.canonical.canonical.canonical;
      },
      subst (λ z. SameMeaning z n.canonical.made) own n.canonical.same,
    )
