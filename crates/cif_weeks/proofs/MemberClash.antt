-- The spans of members in another order, and where two of them with different sources lead: there the members clash.
use Rattle.cif_weeks.proofs.Names.{AreSpansOf, Contains, Contains-permutation, HaveClash, IsChosen, IsDisputed, IsPermutation}
use Rattle.cif_weeks.proofs.Names.{IsPermutation-sym, Leads, List, Some, Span, Terms, Window, Wins, body_at, sym, ℕ, ◌∙◌, ◌≡◌}

module _ {B : Type 0} {xs : List (Terms B)} {members : List ℕ} {window : Window} {spans : List Span}
    (a : AreSpansOf xs members window spans) where
  pub spans-permuted : {other : List Span} → IsPermutation spans other → AreSpansOf xs members window other
  spans-permuted {other} p =
      let back = λ (s : Span). Contains-permutation other spans s (IsPermutation-sym spans other p) in
      record {
        each = λ s listed. a.each s (back s listed);
        all = λ r n in_r within on.
            let (s, listed, of, body) = a.all r n in_r within on in
            (s, Contains-permutation spans other s p listed, of, body);
        one_source = λ s t in_s in_t. a.one_source s t (back s in_s) (back t in_t);
      }

  -- the record of a span that leads is a winner
  pub leads-winner : (n : ℕ) (s : Span) → Contains spans s → Leads spans n s →
      (r : Terms B) × Wins (IsChosen xs members) n r × (r.body ≡ body_at xs (Some s.source))
  leads-winner n s listed leads =
      let m = a.each s listed in
      let (within, on) = (m.span.days n).0 leads.has in (
        m.terms,
        record {
          listed = m.chosen;
          applies = on;
          least = λ t in_t on_t.
              let (u, in_u, of, body) = a.all t n in_t within on_t in
              rw (sym m.span.same_letter, sym of.same_letter) (leads.least u in_u ((of.days n).1 (within, on_t)));
        },
        m.body,
      )

  pub disputed-clash : (n : ℕ) → IsDisputed spans n → HaveClash xs members window
  disputed-clash n d =
      let (r, wins, body) = leads-winner n d.one d.listed d.leads in
      let (t, wins_t, body_t) = leads-winner n d.other d.other_listed d.other_leads in (
        n,
        (((a.each d.one d.listed).span.days n).0 d.leads.has).0,
        record {
          one = r;
          other = t;
          one_wins = wins;
          other_wins = wins_t;
          bodies_differ = λ same. d.differ (a.one_source d.one d.other d.listed d.other_listed (sym body ∙ same ∙ body_t));
        },
      )
