-- The spans of members, and from their runs the members' canonical records.
use Rattle.cif_weeks.proofs.Names.{AreLawful, AreRunsOfMembers, AreRunsOfSpans, AreSpansOf, BodyRuns, Contains, Contains-append_left}
use Rattle.cif_weeks.proofs.Names.{Contains-push, Contains-push_cases, Form, IsChosen, IsMembersRun, IsMembersSpan, IsSourceAmong, IsSpanOf}
use Rattle.cif_weeks.proofs.Names.{IsWithin, List, None, Option, Run, Shows, Some, Span, Terms, Window, Wins, [], ap, arith, body_at, false}
use Rattle.cif_weeks.proofs.Names.{inl, inr, is_some, option_and_then, refl, same_Some, slice_get, subst, sym, true, ℕ, ⊎_elim, ◌++◌, ◌∙◌}
use Rattle.cif_weeks.{proofs.Names.◌∷◌, proofs.Names.◌≡◌, proofs.Names.◌⊎◌, specs.Steps.BodyRuns.HasBody}
use Rattle.cif_calendar.specs.Applies.{Applies}
use Rattle.cif_weeks.proofs.{JoinedLists.zip-with, Meeting.have_form, Meeting.say, MemberClash.leads-winner}
use Rattle.cif_weeks.proofs.SpanRecords.{HaveBodies, IsBodysRun, Shown, in-order, one-body, records-of, records-rising}

-- one member more, at this position, and the spans before it
module _ {B : Type 0} (xs : List (Terms B)) (members : List ℕ) (window : Window) (spans : List Span)
    (a : AreSpansOf xs members window spans) (position : ℕ) (r : Terms B) (at : slice_get xs position ≡ Some r) where
  with-member : (s : Span) → Contains spans s → IsMembersSpan xs (members ++ position ∷ []) window s
  with-member s listed =
      let m = a.each s listed in
      record {
        terms = m.terms;
        chosen = record {
          position = m.chosen.position;
          member = Contains-append_left members (position ∷ []) m.chosen.position m.chosen.member;
          at = m.chosen.at;
        };
        span = m.span;
        body = m.body;
        source = Contains-append_left members (position ∷ []) s.source m.source;
      }

  chosen-cases : (t : Terms B) → IsChosen xs (members ++ position ∷ []) t → IsChosen xs members t ⊎ (r ≡ t)
  chosen-cases t c = ⊎_elim
      (λ old. inl (record { position = c.position; member = old; at = c.at }))
      (λ same. inr (same_Some r t (sym at ∙ ap (slice_get xs) same ∙ c.at)))
      (Contains-push_cases members position c.position c.member)

  -- where it doesn't apply, the spans stay
  pub spans-same : ((n : ℕ) → IsWithin window n → ¬ Applies r n) → AreSpansOf xs (members ++ position ∷ []) window spans
  spans-same none = record {
    each = with-member;
    all = λ t n c within on. ⊎_elim
        (λ old. a.all t n old within on)
        (λ same. absurd (none n within (subst (λ v. Applies v n) (sym same) on)))
        (chosen-cases t c);
    one_source = a.one_source;
  }

  -- with its span they are one more
  module _ (span : Span) (of : IsSpanOf window r span) (body : body_at xs (Some span.source) ≡ body_at xs (Some position))
      (among : IsSourceAmong xs spans 0 position span.source) where
    old-source : (s : Span) → Contains spans s → body_at xs (Some s.source) ≡ body_at xs (Some span.source) → s.source ≡ span.source
    old-source s listed same = ⊎_elim
        (λ (t, in_t, _, is). a.one_source s t listed in_t (same ∙ ap (λ v. body_at xs (Some v)) (sym is)) ∙ is)
        (λ new. absurd (new.1 s listed (omega arith) (same ∙ body)))
        among

    source-cases : (s : Span) → Contains (spans ++ span ∷ []) s → Contains spans s ⊎ (span.source ≡ s.source)
    source-cases s listed =
        ⊎_elim (λ old. inl old) (λ same. inr (ap (λ (t : Span). t.source) same)) (Contains-push_cases spans span s listed)

    own-body : r.body ≡ body_at xs (Some span.source)
    own-body = sym (body ∙ ap (option_and_then (λ (t : Terms B). t.body)) at)

    pub spans-more : AreSpansOf xs (members ++ position ∷ []) window (spans ++ span ∷ [])
    spans-more = record {
      each = λ s listed. ⊎_elim
          (λ old. with-member s old)
          (λ same. subst (λ t. IsMembersSpan xs (members ++ position ∷ []) window t) same (record {
            terms = r;
            chosen = record { position = position; member = Contains-push members position; at = at };
            span = of;
            body = own-body;
            source = ⊎_elim
                (λ (t, in_t, _, is). subst (Contains (members ++ position ∷ [])) is (with-member t in_t).source)
                (λ new. subst (Contains (members ++ position ∷ [])) (sym new.0) (Contains-push members position))
                among;
          }))
          (Contains-push_cases spans span s listed);
      all = λ t n c within on. ⊎_elim
          (λ old. let (s, listed, is, same) = a.all t n old within on in (s, Contains-append_left spans (span ∷ []) s listed, is, same))
          (λ same. (
            span,
            Contains-push spans span,
            subst (λ v. IsSpanOf window v span) same of,
            subst (λ (v : Terms B). v.body ≡ body_at xs (Some span.source)) same own-body,
          ))
          (chosen-cases t c);
      one_source = λ s t in_s in_t same.
          let at_source = λ (v : ℕ). body_at xs (Some v) in
          ⊎_elim
          (λ old. ⊎_elim
          (λ other. a.one_source s t old other same)
          (λ is. old-source s old (same ∙ ap at_source (sym is)) ∙ is)
          (source-cases t in_t))
          (λ is. ⊎_elim
          (λ other. sym is ∙ sym (old-source t other (sym same ∙ ap at_source (sym is))))
          (λ other. sym is ∙ other)
          (source-cases t in_t))
          (source-cases s in_s);
    }

module _ {B : Type 0} (xs : List (Terms B)) (members : List ℕ) (window : Window) (spans : List Span)
    (a : AreSpansOf xs members window spans) where
  -- the spans' days lie in the window
  pub shown-inside : (source n : ℕ) → Shows spans source n → IsWithin window n
  shown-inside source n h = (((a.each h.it h.listed).span.days n).0 h.on.has).0

  -- what is so of each span that leads is so of each winner, and the other way round
  winner-leads : (n : ℕ) (r : Terms B) → IsWithin window n → Wins (IsChosen xs members) n r → Shown xs spans r.body n
  winner-leads n r within wins =
      let (s, listed, of, body) = a.all r n wins.listed within wins.applies in
      record {
        it = s;
        listed = listed;
        leads = record {
          has = (of.days n).1 (within, wins.applies);
          least = λ t in_t on.
              let m = a.each t in_t in
              rw (of.same_letter, m.span.same_letter) (wins.least m.terms m.chosen ((m.span.days n).0 on).1);
        };
        body_is = sym body;
      }

  leads-wins : (n : ℕ) (b : B) → Shown xs spans (Some b) n → BodyRuns (IsChosen xs members) n b
  leads-wins n b s =
      let (r, wins, body) = leads-winner a n s.it s.listed s.leads in record { winner = r; wins = wins; body = body ∙ s.body_is }

  module _ (lawful : AreLawful (IsChosen xs members)) where
    -- a span has a body exactly if there is one at its source
    has-body : (s : Span) → Contains spans s → (b : B) → body_at xs (Some s.source) ≡ Some b → HasBody s
    has-body s listed b is cancelled =
        let m = a.each s listed in
        let none : is_some m.terms.body ≡ false =
        (lawful.cancelled m.terms m.chosen).1 (sym m.span.same_letter ∙ cancelled) in
        let some : is_some m.terms.body ≡ true = ap is_some (m.body ∙ is) in
        cc

    body-of : (s : Span) → Contains spans s → HasBody s → (o : Option B) → body_at xs (Some s.source) ≡ o → (b : B) × (o ≡ Some b)
    body-of s listed has None none =
        let m = a.each s listed in
        absurd (has (m.span.same_letter ∙ (lawful.cancelled m.terms m.chosen).0 (ap is_some (m.body ∙ none))))
    body-of s listed has (Some b) is = (b, refl)

    have-bodies : HaveBodies xs window spans
    have-bodies = record {
      inside = shown-inside;
      has_body = has-body;
      body_of = λ s listed has. body-of s listed has (body_at xs (Some s.source)) refl;
      one_source = λ s t in_s in_t near. a.one_source s t in_s in_t;
    }

    module _ (form : Form) (runs : List Run) (are : AreRunsOfSpans form window spans runs) where
      same-body : (n : ℕ) (o p : Option B) → Shown xs spans o n → Shown xs spans p n → o ≡ p
      same-body n (Some b) p s t = one-body xs window spans have-bodies form runs are n b p s t
      same-body n None (Some b) s t = sym (one-body xs window spans have-bodies form runs are n b None t s)
      same-body n None None s t = refl

      -- so the runs are the members'
      pub runs-of_members : AreRunsOfMembers form xs members window runs
      runs-of_members =
          let (records, zip) = records-of xs window spans have-bodies form runs are in
          let met = in-order xs window spans have-bodies form runs are records zip in
          record {
            clear = record {
              clear = λ n from upto. record {
                agree = λ r s one other.
                    let within : IsWithin window n = record { from = from; upto = upto } in
                    same-body n r.body s.body (winner-leads n r within one) (winner-leads n s within other);
              };
            };
            records = records;
            runs_of = zip-with (IsBodysRun xs) (IsMembersRun xs members) runs records
                (λ run r listed of.
                let e = are.each run listed in
                record {
                  dates = of.dates;
                  member = subst (Contains members) e.source (a.each e.span e.listed).source;
                  body = of.body;
                }) zip;
            rising = records-rising xs window spans have-bodies form runs are records zip;
            have_form = have_form form window (λ b n. Shown xs spans (Some b) n) records met;
            say = λ n b within.
                let says = say form window (λ b n. Shown xs spans (Some b) n) records met n b within in (
                  λ h. says.0 (subst (λ o. Shown xs spans o n) h.body (winner-leads n h.winner within h.wins)),
                  λ h. leads-wins n b (says.1 h),
                );
          }
