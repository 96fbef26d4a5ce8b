-- The runs of a calendar's spans, one source after another: the spans of the first source that is left, and those of the others.
use Rattle.cif_weeks.proofs.Names.{All, All-contains, AreBySource, AreRunsOfBody, Contains, Contains-none, Form, HasSource, IsAgreed}
use Rattle.cif_weeks.proofs.Names.{IsDisputed, IsNonDecreasingBy, IsNonDecreasingBy-drop, IsNonDecreasingBy-from_all_adjacent}
use Rattle.cif_weeks.proofs.Names.{IsPartitionPoint, List, Run, Shows, Span, Window, [], ap, arith, cases_eq, cases_lt, drop, false, get_or}
use Rattle.cif_weeks.proofs.Names.{get_or-drop, get_or-take, get_or_default, inl, inr, is_lt, leb, leb-false, leb-true, length, length-drop}
use Rattle.cif_weeks.proofs.Names.{length-take, letter, nat_cmp, nat_tests, ordering_then, subst, sym, take, true, ℕ, ⊎_elim, ◌++◌, ◌+◌}
use Rattle.cif_weeks.proofs.Names.{◌<◌, ◌∙◌, ◌≡◌, ◌≢◌, ◌≤◌}
use Rattle.cif_weeks.proofs.Names.{IsWithin, dates_of}
use Rattle.cif_weeks.proofs.Forms.{made-first}
use Rattle.cif_weeks.proofs.Cuts.{Contains-take, cut-cases, cut-first, cut-rest, take-contains}
use Rattle.cif_weeks.proofs.SpanRuns.{AreRunsOf, runs-joined, runs-of_body, runs-over}
use Rattle.cif_weeks.specs.Steps.BodyRuns.{HasBody}

-- the source isn't after this one, or it is
abbrev IsUpTo : ℕ → Span → Type 0
IsUpTo source s = leb s.source source ≡ true

abbrev IsAfter : ℕ → Span → Type 0
IsAfter source s = leb s.source source ≡ false

-- the spans before this place have sources that aren't after this one, and no others do
abbrev pub EndsSource : ℕ → List Span → ℕ → Type 0
EndsSource source spans place = IsPartitionPoint (IsUpTo source) (IsAfter source) spans place

-- what a list that is left gives no source
abbrev pub HasNot : List Span → ℕ → Type 0
HasNot left i = (s : Span) → Contains left s → s.source ≢ i

module _ (left : List Span) (span : Span) (count : ℕ) (order : AreBySource left) (first : span ≡ get_or left 0 span)
    (some : 0 < length left) (point : EndsSource span.source left count) where
  in-left : Contains left span
  in-left = (0, some, sym first)

  pub own : (s : Span) → Contains (take count left) s → Contains left s × (s.source ≡ span.source)
  own s h =
      let (k, sooner, below, is) = Contains-take left count s h in
      let upto = leb-true s.source span.source (cut-first left count (IsUpTo span.source) (IsAfter span.source) point s h).1 in
      let rising = order.sources 0 k s (omega arith) below in
      let head : get_or left 0 s ≡ span = get_or_default left 0 s span some ∙ sym first in
      ((k, below, is), omega (arith, upto, rising, ap (λ (v : Span). v.source) head, ap (λ (v : Span). v.source) is))

  pub other : (s : Span) → Contains (drop count left) s → Contains left s × (span.source < s.source)
  other s h =
      let (listed, after) = cut-rest left count (IsUpTo span.source) (IsAfter span.source) point s h in
      (listed, leb-false s.source span.source after)

  either : (s : Span) → Contains left s → s.source ≡ span.source → Contains (take count left) s
  either s listed same = ⊎_elim
      (λ h. h.0)
      (λ h. let after = leb-false s.source span.source h.1 in absurd (omega arith))
      (cut-cases left count (IsUpTo span.source) (IsAfter span.source) point s listed)

  -- there is one of the source, so fewer are left
  pub count-some : 0 < count
  count-some = ⊎_elim
      (λ h. h)
      (λ none. absurd (let upto = leb-false _ _ (point.1 0 span (omega arith) some) in
      omega (arith, ap (λ (v : Span). v.source) first, upto)))
      (cases_lt 0 count)

  -- those of the source are in the order of their first weeks
  pub own-order : IsNonDecreasingBy (λ (s : Span). s.first_week) (take count left)
  own-order = IsNonDecreasingBy-from_all_adjacent (λ (s : Span). s.first_week) (take count left) (λ k d within.
      let sooner : k + 1 < count = omega (arith, length-take count left) in
      let below : k + 1 < length left = omega (arith, length-take count left) in
      let at = get_or-take count left k d (omega arith) in
      let next = get_or-take count left (k + 1) d sooner in
      let same : (get_or left k d).source ≡ (get_or left (k + 1) d).source =
      (own (get_or left k d) (take-contains left count (get_or left k d) k (omega arith) (omega arith)
      (get_or_default left k _ d (omega arith)))).1
      ∙ sym (own (get_or left (k + 1) d) (take-contains left count (get_or left (k + 1) d) (k + 1) sooner below
      (get_or_default left (k + 1) _ d below))).1 in
      omega (arith, order.weeks k d below same, ap (λ (v : Span). v.first_week) at, ap (λ (v : Span). v.first_week) next))

  pub rest-order : AreBySource (drop count left)
  rest-order = record {
    sources = IsNonDecreasingBy-drop (λ (s : Span). s.source) count left order.sources;
    weeks = λ k d within same.
        let at = get_or-drop count left k d in
        let next : get_or (drop count left) (k + 1) d ≡ get_or left (count + k + 1) d =
        get_or-drop count left (k + 1) d ∙ ap (λ j. get_or left j d) (let is : count + (k + 1) ≡ count + k + 1 = omega arith in is) in
        let rises = order.weeks (count + k) d (omega (arith, length-drop count left))
        (ap (λ (v : Span). v.source) (sym at) ∙ same ∙ ap (λ (v : Span). v.source) next) in
        omega (arith, rises, ap (λ (v : Span). v.first_week) at, ap (λ (v : Span). v.first_week) next);
  }

  -- on no day do two of the source disagree
  pub undisputed : (n : ℕ) → IsDisputed (take count left) n → ⊥
  undisputed n d = d.differ ((own d.one d.listed).1 ∙ sym (own d.other d.other_listed).1)

  module _ (spans : List Span) (listed : (s : Span) → Contains left s → Contains spans s)
      (whole : (s t : Span) → Contains spans s → Contains left t → s.source ≡ t.source → Contains left s)
      (level : (s t : Span) → Contains spans s → Contains spans t → s.letter ≡ t.letter) where
    -- the source is shown on the same days
    pub shows-all : (n : ℕ) → Shows (take count left) span.source n → Shows spans span.source n
    shows-all n h =
        let there = listed h.it (own h.it h.listed).0 in
        record {
          it = h.it;
          listed = there;
          is = h.is;
          on = record { has = h.on.has; least = λ t in_t on. omega (arith, ap letter (level h.it t there in_t)) };
        }

    shows-own : (n : ℕ) → Shows spans span.source n → Shows (take count left) span.source n
    shows-own n h = record {
      it = h.it;
      listed = either h.it (whole h.it span h.listed in-left h.is) h.is;
      is = h.is;
      on = record { has = h.on.has; least = λ t in_t on. h.on.least t (listed t (own t in_t).0) on };
    }

    -- the runs of the source are made too
    pub runs-more : (form : Form) (window : Window) (runs added : List Run) →
        ((n : ℕ) → Shows spans span.source n → IsWithin window n) → ((n : ℕ) → IsAgreed spans n) →
        AreRunsOf form window spans (HasNot left) runs → AreRunsOfBody form window (take count left) span.source added →
        AreRunsOf form window spans (HasNot (drop count left)) (runs ++ added)
    runs-more form window runs added inside agreed x y = runs-joined form window spans
        (λ i h s in_s. h s (other s in_s).0)
        (λ i is s in_s same. let after = (other s in_s).1 in omega arith)
        (λ i h. ⊎_elim
        (λ same. inr same)
        (λ differ. inl (λ s in_s is. ⊎_elim
        (λ a. differ (sym (own s a.0).1 ∙ is))
        (λ b. h s b.0 is)
        (cut-cases left count (IsUpTo span.source) (IsAfter span.source) point s in_s)))
        (cases_eq span.source i))
        (λ i h same. h span in-left same)
        x
        (runs-over form window (take count left) spans
        (λ i n is shows. subst (λ v. Shows spans v n) is (shows-all n (subst (λ v. Shows (take count left) v n) (sym is) shows)))
        (λ i n is shows. subst (λ v. Shows (take count left) v n) is (shows-own n (subst (λ v. Shows spans v n) (sym is) shows)))
        agreed (runs-of_body form window (take count left) span.source (λ n shows. inside n (shows-all n shows)) added y))

    -- what is left still has all spans of its sources
    pub whole-rest : (s t : Span) → Contains spans s → Contains (drop count left) t → s.source ≡ t.source → Contains (drop count left) s
    whole-rest s t in_s in_t same =
        let (there, after) = other t in_t in
        ⊎_elim
        (λ a. let is = (own s a.0).1 in absurd (omega arith))
        (λ b. b.0)
        (cut-cases left count (IsUpTo span.source) (IsAfter span.source) point s (whole s t in_s there same))

module _ (form : Form) (window : Window) (spans : List Span) where
  -- at first all are left
  pub runs-none : AreRunsOf form window spans (HasNot spans) []
  runs-none = record {
    each = λ r listed. absurd (Contains-none r listed);
    once = λ i j d less within. absurd (omega arith);
    apart = λ r s in_r. absurd (Contains-none r in_r);
    complete = λ i n none shows. absurd (none shows.it shows.listed shows.is);
    agreed = λ i n none shows. absurd (none shows.it shows.listed shows.is);
  }

  -- at the end none is
  pub runs-all : (left : List Span) (runs : List Run) → All HasBody spans → length left < 1 →
      AreRunsOf form window spans (HasNot left) runs →
      AreRunsOf form window spans (HasSource spans) runs
  runs-all left runs bodied none h =
      record {
        each = λ r listed.
            let (_, grown) = h.each r listed in
            let f = made-first window (Shows spans r.source) (dates_of r) form grown in
            ((f.it, f.listed, All-contains HasBody spans f.it bodied f.listed, f.is), grown);
        once = h.once;
        apart = h.apart;
        complete = λ i n has. h.complete i n (λ s listed. absurd (omega (arith, listed.1, none)));
        agreed = λ i n has. h.agreed i n (λ s listed. absurd (omega (arith, listed.1, none)));
      }

-- the order of pairs of a source and a first week
pub pair-order : (s week t later : ℕ) → is_lt (ordering_then (nat_cmp t s) (nat_cmp later week)) ≡ false → (s ≤ t) × (s ≡ t → week ≤ later)
pair-order s week t later h = (grind (arith, nat_tests), λ same. grind (arith, nat_tests))

-- a list in this order is in the order of its sources, and of the first weeks of each
pub by-source : (spans : List Span) → ((k : ℕ) (d : Span) → k + 1 < length spans →
    is_lt (ordering_then (nat_cmp (get_or spans (k + 1) d).source (get_or spans k d).source)
    (nat_cmp (get_or spans (k + 1) d).first_week (get_or spans k d).first_week)) ≡ false) → AreBySource spans
by-source spans sorted =
    let order = λ (k : ℕ) (d : Span) (within : k + 1 < length spans). pair-order (get_or spans k d).source (get_or spans k d).first_week
    (get_or spans (k + 1) d).source (get_or spans (k + 1) d).first_week (sorted k d within) in
    record {
      sources = IsNonDecreasingBy-from_all_adjacent (λ (s : Span). s.source) spans (λ k d within. (order k d within).0);
      weeks = λ k d within. (order k d within).1;
    }
