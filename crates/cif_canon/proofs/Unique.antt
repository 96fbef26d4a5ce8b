-- Canonical extracts that say the same are equal.
use Rattle.cif_canon.proofs.Names.{Agree, AreCanonicalEntries, AssocKey, EntriesSayTheSame, ExtractParts, Form, IsCanonicalExtract}
use Rattle.cif_canon.proofs.Names.{IsOneWay, IsTotalOrder, Less, List, Ordering, SameMeaning, Terms, Tiploc, Window, ap}
use Rattle.cif_canon.proofs.Names.{association_entries, header_window, key_cmp, less_one_way, nat_cmp, nat_list_cmp_total, on_total}
use Rattle.cif_canon.proofs.Names.{permanent_entries, same_extract_parts, same_header, same_members, schedule_entries, slice_cmp, subst}
use Rattle.cif_canon.proofs.Names.{sym, then_total, ◌∙◌, ◌≡◌}
use Rattle.cif_weeks.proofs.{PermanentEntries.same-meaning, UniqueByKey.unique_same}
use Rattle.cif_canon.proofs.SameExtracts.{one-window, same-associations, same-schedules}

module _ {K B : Type 0} (cmp : K → K → Ordering) (total : IsTotalOrder cmp) (form : Form) (window : Window) where
  -- canonical entries that say the same are equal
  entries-unique : (xs ys : List (K × Terms B)) → AreCanonicalEntries cmp form window xs → AreCanonicalEntries cmp form window ys →
      EntriesSayTheSame xs ys window.first window.last → xs ≡ ys
  entries-unique xs ys x y same =
      x.are
      ∙ ap permanent_entries (unique_same cmp total form window x.records y.records x.canonical y.canonical
      ((same-meaning window x.records y.records).0
      (subst (λ us. EntriesSayTheSame us (permanent_entries y.records) window.first window.last) x.are
      (subst (λ vs. EntriesSayTheSame xs vs window.first window.last) y.are same))))
      ∙ sym y.are

pub keys-total : IsTotalOrder key_cmp
keys-total =
    then_total (on_total (λ (a : AssocKey). a.base) nat_list_cmp_total)
    (then_total (on_total (λ (a : AssocKey). a.associated) nat_list_cmp_total)
    (then_total (on_total (λ (a : AssocKey). a.location) nat_list_cmp_total)
    (then_total (on_total (λ (a : AssocKey). a.base_suffix) nat_list_cmp_total)
    (on_total (λ (a : AssocKey). a.associated_suffix) nat_list_cmp_total))))

-- no two locations come each before the other
tiplocs-one_way : IsOneWay (λ (s t : Tiploc). slice_cmp nat_cmp s.columns t.columns ≡ Less)
tiplocs-one_way s t up down =
    less_one_way (λ (a b : Tiploc). slice_cmp nat_cmp a.columns b.columns)
    (on_total (λ (a : Tiploc). a.columns) nat_list_cmp_total) s t up down

-- in one window, canonical extracts that agree have the same records
module _ (form : Form) (x y : ExtractParts) (p : IsCanonicalExtract form x) (q : IsCanonicalExtract form y)
    (window : header_window x.header ≡ header_window y.header) (agree : Agree (header_window x.header) x y) where
  pub one-tiplocs : x.tiplocs ≡ y.tiplocs
  one-tiplocs =
      same_members (λ s t. slice_cmp nat_cmp s.columns t.columns ≡ Less) tiplocs-one_way x.tiplocs y.tiplocs p.tiplocs q.tiplocs
      (λ t. (agree.tiplocs t).0) (λ t. (agree.tiplocs t).1)

  pub one-associations : x.associations ≡ y.associations
  one-associations =
      same-associations x.associations y.associations
      (entries-unique key_cmp keys-total form (header_window x.header)
      (association_entries x.associations) (association_entries y.associations)
      p.associations (subst (λ w. AreCanonicalEntries key_cmp form w (association_entries y.associations)) (sym window) q.associations)
      agree.associations)

  pub one-schedules : x.schedules ≡ y.schedules
  one-schedules =
      same-schedules x.schedules y.schedules
      (entries-unique (slice_cmp nat_cmp) nat_list_cmp_total form
      (header_window x.header) (schedule_entries x.schedules) (schedule_entries y.schedules)
      p.schedules (subst (λ w. AreCanonicalEntries (slice_cmp nat_cmp) form w (schedule_entries y.schedules)) (sym window) q.schedules)
      agree.schedules)

-- canonical extracts that say the same are equal
pub extracts-unique : (form : Form) (x y : ExtractParts) → IsCanonicalExtract form x → IsCanonicalExtract form y → SameMeaning x y → x ≡ y
extracts-unique form x y p q same =
    let window = one-window x y same in
    same_extract_parts x y (same_header x.header y.header same.header) (one-tiplocs form x y p q window same.agree)
    (one-associations form x y p q window same.agree) (one-schedules form x y p q window same.agree)
