-- What permanent records say as entries of the calendar.
use Rattle.cif_weeks.proofs.Names.{All, AreCanonical, AreClear, AreLawful, BodyRuns, Contains-get_or, Form, IsClearFrom, IsSome, IsWithin}
use Rattle.cif_weeks.proofs.Names.{List, Ordering, P, Permanent, SayTheSameByKey, Some, Terms, Window, ap, get_or, is_some, of_key}
use Rattle.cif_weeks.proofs.Names.{permanent_entries, same_Some, subst, sym, terms_of, ℕ, ◌↔◌, ◌∙◌, ◌≡◌, ◌≤◌}
use Rattle.cif_calendar.{proofs.PermanentRecords.AreLawful-permanent, proofs.PermanentRecords.Wins-permanent}
use Rattle.cif_calendar.{proofs.SayTheSame.EntriesSayTheSame-from_bodies, specs.Meaning.EntriesSayTheSame}
use Rattle.cif_calendar.specs.Applies as entry
use Rattle.cif_weeks.proofs.{AlignedDays.tight, JoinedLists.Contains-from_map, JoinedLists.Contains-map}
use Rattle.cif_weeks.specs.{Applies.Applies, WhatRuns.HasBody}

module _ {K B : Type 0} (records : List (K × Permanent B)) (k : K) where
  -- the entries of a key are its records
  pub entry-record : (t : Terms B) → of_key (permanent_entries records) k t → (r : Permanent B) × of_key records k r × (terms_of r ≡ t)
  entry-record t h =
      let ((j, r), listed, is) = Contains-from_map (λ (e : K × Permanent B). (e.0, terms_of e.1)) records (k, t) h in
      (r, subst (λ i. of_key records i r) (ap (λ (e : K × Terms B). e.0) is) listed, ap (λ (e : K × Terms B). e.1) is)

  pub record-entry : (r : Permanent B) → of_key records k r → of_key (permanent_entries records) k (terms_of r)
  record-entry r h = Contains-map (λ (e : K × Permanent B). (e.0, terms_of e.1)) records (k, r) h

  permanent : (t : Terms B) → of_key (permanent_entries records) k t → (t.letter ≡ P) × IsSome t.body
  permanent t h =
      let (r, listed, is) = entry-record t h in
      (sym (ap (λ (v : Terms B). v.letter) is), sym (ap (λ (v : Terms B). is_some v.body) is))

  pub entries-lawful : AreLawful (of_key (permanent_entries records) k)
  entries-lawful = AreLawful-permanent (of_key (permanent_entries records) k) permanent

  -- a body runs where a record with it applies
  pub runs-applies : (n : ℕ) (b : B) → BodyRuns (of_key (permanent_entries records) k) n b ↔ HasBody (of_key records k) n b
  runs-applies n b = (
    λ h. let (r, listed, is) = entry-record h.winner h.wins.listed in record {
      it = r;
      listed = listed;
      applies = subst (λ (t : Terms B). entry.Applies t n) (sym is) h.wins.applies;
      body = same_Some r.body b (ap (λ (t : Terms B). t.body) is ∙ h.body);
    },
    λ h. record {
      winner = terms_of h.it;
      wins = Wins-permanent (of_key (permanent_entries records) k) (λ t in'. (permanent t in').0) n (terms_of h.it)
          (record-entry h.it h.listed) h.applies;
      body = ap Some h.body;
    },
  )

  -- where one record applies at most, the day is clear
  pub entries-clear : ((n : ℕ) (r s : Permanent B) → of_key records k r → of_key records k s → Applies r n → Applies s n → r ≡ s) →
      (first last : ℕ) → IsClearFrom (of_key (permanent_entries records) k) first last
  entries-clear single first last = record {
    clear = λ n from upto. record {
      agree = λ t u v w.
          let (r, in_r, is_r) = entry-record t v.listed in
          let (s, in_s, is_s) = entry-record u w.listed in
          let same : r ≡ s = single n r s in_r in_s (subst (λ (x : Terms B). entry.Applies x n) (sym is_r) v.applies)
          (subst (λ (x : Terms B). entry.Applies x n) (sym is_s) w.applies) in
          ap (λ (x : Terms B). x.body) (sym is_r ∙ ap terms_of same ∙ is_s);
    };
  }

module _ {K B : Type 0} (window : Window) where
  -- lawful entries mean what records mean, if those bodies run that the records have
  pub records-meaning : (entries : List (K × Terms B)) (records : List (K × Permanent B)) → ((k : K) → AreLawful (of_key entries k)) →
      ((k : K) (n : ℕ) (b : B) → IsWithin window n → BodyRuns (of_key entries k) n b ↔ HasBody (of_key records k) n b) →
      EntriesSayTheSame entries (permanent_entries records) window.first window.last
  records-meaning entries records lawful says =
      EntriesSayTheSame-from_bodies entries (permanent_entries records) window.first window.last lawful (entries-lawful records)
      (λ k n b from upto.
      let said = says k n b (record { from = from; upto = upto }) in
      let is = runs-applies records k n b in
      (λ runs. is.1 (said.0 runs), λ runs. said.1 (is.0 runs)))

  -- records mean the same where they say the same for each key
  pub same-meaning : (xs ys : List (K × Permanent B)) →
      EntriesSayTheSame (permanent_entries xs) (permanent_entries ys) window.first window.last ↔ SayTheSameByKey window xs ys
  same-meaning xs ys = (
    λ m. record {
      same = λ k. record {
        same = λ n b within.
            let means = m.same k n (Some b) within.from within.upto in
            let of_xs = runs-applies xs k n b in
            let of_ys = runs-applies ys k n b in
            (λ h. of_ys.0 (means.0 (of_xs.1 h)), λ h. of_xs.0 (means.1 (of_ys.1 h)));
      };
    },
    λ s. records-meaning (permanent_entries xs) ys (entries-lawful xs) (λ k n b within.
        let is = runs-applies xs k n b in
        let said = (s.same k).same n b within in
        (λ runs. said.0 (is.0 runs), λ has. is.1 (said.1 has))),
  )

module _ {K B : Type 0} (cmp : K → K → Ordering) (form : Form) (window : Window) (records : List (K × Permanent B))
    (c : AreCanonical cmp form window records) where
  -- canonical records have no clash, and don't end before they begin
  pub canonical-clear : (first last : ℕ) → AreClear (permanent_entries records) first last
  canonical-clear first last = record { key = λ k. entries-clear records k (c.have_form k).single first last }

  pub canonical-dated : All (λ e. e.1.first ≤ e.1.last) records
  canonical-dated i d below =
      let e : K × Permanent B = get_or records i d in
      let on : Applies e.1 e.1.first =
      (tight e.1 window form ((c.have_form e.0).aligned e.1 (Contains-get_or records i d below))).on_first in on.unfinished
