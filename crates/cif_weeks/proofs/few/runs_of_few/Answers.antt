-- One member more, which has a span (`spans-more`) or none (`spans-same`). The runs of the members' spans are those of the members
-- (`runs-of_members`), and where the spans are disputed the members clash.
use Rattle.cif_weeks.proofs.Names.{All-contains, All-take, AreLawful-chosen, AreSpansOf, Bool, Contains-get_or, IfOk-weaker}
use Rattle.cif_weeks.proofs.Names.{IsNonDecreasingBy-from_sort_by_key, List, MatchBool, Span, ap, arith, false, get_or, inr, length}
use Rattle.cif_weeks.proofs.Names.{length-append, map, refill, rules, subst, take-append_seam, take_all, take_more, terms_at, true}
use Rattle.cif_weeks.proofs.Names.{window_days, ℕ, ◌<◌, ◌∙◌, ◌≡◌}
use Rattle.cif_weeks.proofs.{MemberClash.disputed-clash, MemberClash.spans-permuted, few.runs_of_few.Given.Over}
use Rattle.cif_weeks.proofs.MemberRuns.{runs-of_members, shown-inside, spans-more, spans-same}
use Rattle.cif_weeks.proofs.few.runs_of_few.Goals as goal
use Rattle.cif_weeks.proofs.few.runs_of_few.Goals.{After-as_slice-2, in-Some, in_default}

pub source_of-source-requires-clause-sources : goal.source_of-source-requires-clause-sources
source_of-source-requires-clause-sources g c =
    let below = λ (j : ℕ). j < length c.args.entries.now in
    rw c.as_slice.ensures.value (λ k d within. All-contains below _ _ (All-take below _ c.args.members.now c.requires.within)
    (c.loop-position.invariant.are.each (get_or c.loop-position.spans.items k d) (Contains-get_or _ k d within)).source)

pub loop-position-preserved : goal.loop-position-preserved
loop-position-preserved g c =
    let i = c.loop-position.position-index in
    let at = terms_at g.E.Entry.terms c.args.entries.now (get_or c.args.members.now i 0) c.index-entries-position.result
    (c.requires.within i 0 c.loop-position-test.true) c.index-entries-position.is in
    let are = c.loop-position.invariant.are in
    let of = c.source_of-source.ensures in
    rw (take_more c.args.members.now i 0 c.loop-position-test.true) (elim c.match-of.branch [
      | in-Some w ↦ rw (w.spans-is, w.push.ensures.items) (record {
        are = spans-more _ _ _ _ are _ _ at w.in-Some.span w.in-Some.ensures.some (rw w.in-Some.ensures.source of.body)
            (rw (w.in-Some.ensures.source, ← c.as_slice.ensures.value) of.source);
        few = simp length-append (omega arith);
      })
      | in_default w ↦ rw w.spans-is (record { are = spans-same _ _ _ _ are _ _ at w.in_default.ensures.none; few = omega arith })
    ])

-- the list that was sorted takes the place of the whole
refilled : (n : ℕ) (xs ws : List Span) → length ws ≡ n → refill n xs ws ≡ ws
refilled n xs ws e = subst (λ v. refill v xs ws ≡ ws) e (take-append_seam ws _)

-- the spans of all members
all : (g : Over) (c : After-as_slice-2 g) → AreSpansOf (map g.E.Entry.terms c.args.entries.now) c.args.members.now
    (window_days c.args.window.now) c.as_slice-2.result.now
all g c =
    let items = c.loop-position.spans.items in
    let sorted = c.sort_unstable_by_key.ensures in
    let value = c.as_mut_slice.ensures.value in
    rw (c.as_slice-2.ensures.value, refilled (length items) items c.sort_unstable_by_key.new.self (sorted.len ∙ ap length value))
    (spans-permuted (rw (take_all c.loop-position.position-index c.args.members.now c.loop-position-test.false) at
    c.loop-position.invariant.are) (rw value at sorted.permutation))

either : {P Q R S : Type 0} (made : Bool) → (P → R) → (Q → S) → MatchBool made P Q → MatchBool made R S
either true f g h = f h
either false f g h = g h

pub add_runs_of_spans-requires : goal.add_runs_of_spans-requires
add_runs_of_spans-requires g c =
    let items = c.loop-position.spans.items in
    let sorted = c.sort_unstable_by_key.ensures in
    let long = sorted.len ∙ ap length c.as_mut_slice.ensures.value in
    record {
      none = c.clear.ensures.items;
      inside = shown-inside _ _ _ _ (all g (goal.at.add_runs_of_spans-requires g c).After-as_slice-2);
      order = rw (c.as_slice-2.ensures.value, refilled (length items) items c.sort_unstable_by_key.new.self long)
          (IsNonDecreasingBy-from_sort_by_key (λ (s : Span). s.first_week) _ sorted.sorted (λ a r q k. search rules));
    }

pub returns : goal.returns
returns g c =
    let spans = all g (goal.at.returns g c).After-as_slice-2 in
    IfOk-weaker c.add_runs_of_spans.result _ _ (λ made. either made
    (λ are. runs-of_members _ _ _ _ spans
    (AreLawful-chosen g.E.Entry.key g.E.Entry.terms g.met.E.Entry.cancelled c.args.entries.now c.args.members.now) c.args.form _ are)
    (λ (n, disputed). inr (disputed-clash spans n disputed))) c.add_runs_of_spans.ensures
