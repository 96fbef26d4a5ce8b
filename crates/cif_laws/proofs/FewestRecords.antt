-- Canonical records of form 3 are no more than others that don't overlap, and a record that is exact stands alone.
use Rattle.std.proofs.Common.{AllPairs, Bool, Contains, List, Option, Some, [], ap, arith, get_or, length, map, refl, subst, sym, ℕ, ⊎_elim}
use Rattle.std.proofs.Common.{◌<◌, ◌↔◌, ◌∙◌, ◌≡◌, ◌≢◌, ◌≤◌}
use Rattle.std.specs.declared.cmp.Ordering.{Ordering}
use Rattle.cif_calendar.proofs.Names.{All-contains, Contains-get_or, length-map, same_Some}
use Rattle.cif_calendar.proofs.{PermanentRecords.Wins-permanent, RisingLists.AllPairs-members}
use Rattle.cif_calendar.specs.{Keys.of_key, Meaning.EntriesSayTheSame, Runs.BodyRuns, Terms.Terms}
use Rattle.cif_calendar.specs.Applies as entry
use Rattle.cif_canon.specs.Canonical.{AreCanonicalEntries}
use Rattle.cif_columns.specs.Stp.{letter}
use Rattle.cif_columns.specs.declared.stp.Stp.{Stp}
use Rattle.cif_columns.specs.declared.stp.Stp.TheVariants.{P}
use Rattle.cif_laws.specs.Fewest.{DontOverlap, IsOneOf, IsOnlyRecord, RunsWithin}
use Rattle.cif_weeks.proofs.CountedRecords.{is-it, it-listed, no-more, within-body}
use Rattle.cif_weeks.proofs.Exact.{exact-over}
use Rattle.cif_weeks.proofs.JoinedLists.{AllPairs-map, Contains-from_map, Contains-map}
use Rattle.cif_weeks.proofs.PermanentEntries.{entry-record, record-entry, runs-applies}
use Rattle.cif_weeks.proofs.{UniqueFewest.tight-fewest, UniqueWeeks.records_equal}
use Rattle.cif_weeks.specs.{Applies.Applies, Exact.IsExact, HaveForm.HaveForm, Permanent.Permanent, Permanent.Permanents}
use Rattle.cif_weeks.specs.{Permanent.permanent_entries, Permanent.terms_of, WhatRuns.HasBody, Window.IsWithin, Window.Window}
use Rattle.cif_weeks.specs.declared.form.Form.TheVariants.{Three}

module _ {B : Type 0} (b : B) where
  -- a record with body b as a permanent one
  abbrev pub as_permanent : Terms B → Permanent B
  as_permanent t = record { first = t.first; last = t.last; days = t.days; body = b }

  same-fields : (first last : ℕ) (days : List Bool) (x y : Stp) (o p : Option B) → x ≡ y → o ≡ p →
      ◌≡◌ {A = Terms B} (record { first = first; last = last; days = days; letter = x; body = o })
      (record { first = first; last = last; days = days; letter = y; body = p })
  same-fields first last days x y o p e f = cc

  -- it has the same terms
  same-terms : (t : Terms B) → t.letter ≡ P → t.body ≡ Some b → terms_of (as_permanent t) ≡ t
  same-terms t letter body = same-fields t.first t.last t.days P t.letter (Some b) t.body (sym letter) (sym body)

-- permanent records with equal terms are equal
terms-are : {B : Type 0} (r s : Permanent B) → terms_of r ≡ terms_of s → r ≡ s
terms-are {B} r s e = records_equal r s (ap (λ (t : Terms B). t.first) e) (ap (λ (t : Terms B). t.last) e) (ap (λ (t : Terms B). t.days) e)
    (same_Some r.body s.body (ap (λ (t : Terms B). t.body) e))

module _ {K B : Type 0} (cmp : K → K → Ordering) (window : Window) (ms : List (K × Terms B)) (c : AreCanonicalEntries cmp Three window ms)
    (k : K) where
  abbrev own : Permanents B
  own = of_key c.records k

  has-form : HaveForm Three window own
  has-form = c.canonical.have_form k

  -- the entries of the key are its records
  its-record : (t : Terms B) → of_key ms k t → (r : Permanent B) × of_key c.records k r × (terms_of r ≡ t)
  its-record t listed = entry-record c.records k t (subst (λ es. of_key es k t) c.are listed)

  its-entry : (r : Permanent B) → of_key c.records k r → of_key ms k (terms_of r)
  its-entry r listed = subst (λ es. of_key es k (terms_of r)) (sym c.are) (record-entry c.records k r listed)

  module _ (xs : List (K × Terms B)) (same : EntriesSayTheSame xs ms window.first window.last) where
    -- a body runs where a record with it applies
    runs-own : (n : ℕ) (b : B) → IsWithin window n → BodyRuns (of_key xs k) n b ↔ HasBody own n b
    runs-own n b within =
        let means = same.same k n (Some b) within.from within.upto in
        let is = runs-applies c.records k n b in (
          λ runs. is.0 (subst (λ es. BodyRuns (of_key es k) n b) c.are (means.0 runs)),
          λ has. means.1 (subst (λ es. BodyRuns (of_key es k) n b) (sym c.are) (is.1 has)),
        )

    -- ---- records that don't overlap
    module _ (d : DontOverlap window xs) (b : B) where
      abbrev others : Permanents B
      others y = of_key xs k (terms_of y)

      letter-of : (t : Terms B) → of_key xs k t → t.letter ≡ P
      letter-of t listed = All-contains (λ (e : K × Terms B). e.1.letter ≡ P) xs (k, t) d.permanent listed

      runs-others : (n : ℕ) → BodyRuns (of_key xs k) n b ↔ HasBody others n b
      runs-others n = (
        λ h. record {
          it = as_permanent b h.winner;
          listed = subst (of_key xs k) (sym (same-terms b h.winner (letter-of h.winner h.wins.listed) h.body)) h.wins.listed;
          applies = h.wins.applies;
          body = refl;
        },
        λ h. record {
          winner = terms_of h.it;
          wins = Wins-permanent (of_key xs k) letter-of n (terms_of h.it) h.listed h.applies;
          body = ap Some h.body;
        },
      )

      says-own : (n : ℕ) → IsWithin window n → HasBody own n b ↔ HasBody others n b
      says-own n within =
          let one = runs-own n b within in
          let other = runs-others n in
          (λ has. other.0 (one.1 has), λ has. one.0 (other.1 has))

      apart : (y z : Permanent B) → others y → others z → y.body ≡ b → z.body ≡ b → (n : ℕ) → IsWithin window n → y.first ≤ n → n ≤ y.last →
          z.first ≤ n → n ≤ z.last → y ≡ z
      apart y z in_y in_z body_y body_z n within from upto begun unfinished =
          let bodies : y.body ≡ z.body = body_y ∙ sym body_z in
          ⊎_elim
          (λ one. terms-are y z (ap (λ (e : K × Terms B). e.1) one))
          (⊎_elim
          (λ h. absurd (h refl (ap Some bodies) n within from upto begun unfinished))
          (λ h. absurd (h refl (ap Some (sym bodies)) n within begun unfinished from upto)))
          (AllPairs-members (λ (d e : K × Terms B). d.0 ≡ e.0 → d.1.body ≡ e.1.body → (n : ℕ) → IsWithin window n → d.1.first ≤ n →
          n ≤ d.1.last → e.1.first ≤ n → ¬ (n ≤ e.1.last)) (k, terms_of y) (k, terms_of z) xs d.apart in_y in_z)

      -- a canonical record with the body is a permanent one
      own-record : (t : Terms B) → IsOneOf window ms k b t → own (as_permanent b t) × (terms_of (as_permanent b t) ≡ t)
      own-record t h =
          let (r, listed, is) = its-record t h.listed in
          let letter : t.letter ≡ P = sym (ap (λ (v : Terms B). v.letter) is) in
          let same = same-terms b t letter h.body in
          (subst (of_key c.records k) (terms-are r (as_permanent b t) (is ∙ sym same)) listed, same)

      pub no-more-of : (these those : List (Terms B)) → AllPairs (λ r s. r ≢ s) these →
          ((r : Terms B) → Contains these r → IsOneOf window ms k b r) → ((r : Terms B) → IsOneOf window xs k b r → Contains those r) →
          length these ≤ length those
      no-more-of these those different are all =
          let few = map (as_permanent b) these in
          let many = map (as_permanent b) those in
          let shorter = no-more window own has-form b others says-own apart few many
          (AllPairs-map (as_permanent b) (λ r s. r ≢ s) these (λ i j e less below one.
          let r = get_or these i e in
          let s = get_or these j e in
          let is_r = (own-record r (are r (Contains-get_or these i e (omega arith)))).1 in
          let is_s = (own-record s (are s (Contains-get_or these j e below))).1 in
          different i j e less below (sym is_r ∙ ap terms_of one ∙ is_s)))
          (λ r listed.
          let (t, in_these, is) = Contains-from_map (as_permanent b) these r listed in
          (subst own is (own-record t (are t in_these)).0, ap (λ (v : Permanent B). v.body) (sym is)))
          (λ y in_y body n within on.
          let is : as_permanent b (terms_of y) ≡ y = records_equal (as_permanent b (terms_of y)) y refl refl refl (sym body) in
          subst (Contains many) is (Contains-map (as_permanent b) those (terms_of y) (all (terms_of y) (record {
            listed = in_y;
            body = ap Some body;
            shows = (n, within, on);
          })))) in
          omega (arith, shorter, length-map these (as_permanent b), length-map those (as_permanent b))

    -- ---- one exact record
    module _ (b : B) (first last : ℕ) (days : List Bool) (e : IsExact (RunsWithin window xs k b) first last days)
        (all : (n : ℕ) → RunsWithin window xs k b n → (first ≤ n) × (n ≤ last)) where
      abbrev alone : Permanent B
      alone = record { first = first; last = last; days = days; body = b }

      own-within : (n : ℕ) → HasBody own n b → RunsWithin window xs k b n
      own-within n has = let within = within-body window own has-form b n has in (within, (runs-own n b within).1 has)

      own-exact : IsExact (λ n. HasBody own n b) first last days
      own-exact = exact-over first last days e (λ n _ _ h. (runs-own n b h.0).0 h.1) (λ n _ _. own-within n)

      own-all : (n : ℕ) → HasBody own n b → (first ≤ n) × (n ≤ last)
      own-all n has = all n (own-within n has)

      pub alone-is : (t : Terms B) → (of_key ms k t × (t.body ≡ Some b)) ↔ (t ≡ terms_of alone)
      alone-is t = (
        λ (listed, body).
            let (r, in', is) = its-record t listed in
            let one = is-it window own has-form b first last days own-exact own-all r in'
            (same_Some r.body b (ap (λ (v : Terms B). v.body) is ∙ body)) in
            sym is ∙ ap terms_of one,
        λ is. (
          subst (of_key ms k) (sym is) (its-entry alone (it-listed window own has-form b first last days own-exact own-all)),
          ap (λ (v : Terms B). v.body) is,
        ),
      )

    -- ---- the only record of a key
    module _ (r : Terms B) (b : B) (o : IsOnlyRecord window xs k r) (body : r.body ≡ Some b) where
      only-applies : (n : ℕ) (d : B) → BodyRuns (of_key xs k) n d → entry.Applies r n × (d ≡ b)
      only-applies n d h =
          let one = o.only h.winner h.wins.listed in (
            subst (λ (v : Terms B). entry.Applies v n) one h.wins.applies,
            same_Some d b (sym h.body ∙ ap (λ (v : Terms B). v.body) one ∙ body),
          )

      only-runs : (n : ℕ) → entry.Applies r n → RunsWithin window xs k b n
      only-runs n on =
          let from = o.first_within.from in
          let upto = o.last_within.upto in
          let begun = on.begun in
          let unfinished = on.unfinished in (
            record { from = omega arith; upto = omega arith },
            record {
              winner = r;
              wins = record {
                listed = o.listed;
                applies = on;
                least = λ s listed on_s. subst (λ (v : Terms B). letter r.letter ≤ letter v.letter) (sym (o.only s listed)) (omega arith);
              };
              body = body;
            },
          )

      only-exact : IsExact (RunsWithin window xs k b) r.first r.last r.days
      only-exact = record {
        seven = o.seven;
        in_order = o.on_first.unfinished;
        first_on = only-runs r.first o.on_first;
        last_on = only-runs r.last o.on_last;
        only = only-runs;
        all = λ n _ _ h. (only-applies n b h.1).0;
        used = o.used;
      }

      pub unchanged-is : (t : Terms B) → of_key ms k t ↔ (t ≡ r)
      unchanged-is t =
          let is = alone-is b r.first r.last r.days only-exact
          (λ n h. let on = (only-applies n b h.1).0 in (on.begun, on.unfinished)) t in
          let same = same-terms b r o.permanent body in (
            λ listed.
                let (s, in', of) = its-record t listed in
                let on = (tight-fewest window own has-form s in').on_first in
                let has : HasBody own s.first s.body = record { it = s; listed = in'; applies = on; body = refl } in
                let within = within-body window own has-form s.body s.first has in
                let runs = (runs-own s.first s.body within).1 has in
                is.0 (listed, ap (λ (v : Terms B). v.body) (sym of) ∙ ap Some (only-applies s.first s.body runs).1) ∙ same,
            λ one. (is.1 (one ∙ sym same)).0,
          )
