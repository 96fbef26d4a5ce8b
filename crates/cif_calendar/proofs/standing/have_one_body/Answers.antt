-- A link leads to a member with the same body (`falling-next`), and so do two (`alike-noted`).
use Rattle.cif_calendar.proofs.Names.{HaveOneBody, IsTrue, ap, body_at, refl, slice_get, sym, ◌↔◌, ◌∙◌}
use Rattle.cif_calendar.proofs.{Bodies.alike-noted, Bodies.falling-next, Bodies.one-body, standing.have_one_body.Given.Over}
use Rattle.cif_calendar.proofs.standing.have_one_body.Goals as goal
use Rattle.cif_calendar.proofs.standing.have_one_body.Goals.{After-same_body-same, in-Some-known, in_default-known}

pub loop-init : goal.loop-init
loop-init g c = record {
  alike = c.requires.alike;
  both = falling-next c.args.members.now.terms c.args.members.now.positions c.args.one c.args.one
      c.args.other _ _ _ refl
      c.max.ensures c.min.ensures (λ h. h, λ h. h);
}

pub returns-then-pair-clause-exact : goal.returns-then-pair-clause-exact
returns-then-pair-clause-exact g c = (
  λ _. c.loop.invariant.both.0 (ap (λ k. body_at c.args.members.now.terms (slice_get c.args.members.now.positions k)) c.if-pair.true),
  λ _. refl,
)

pub loop-preserved : goal.loop-preserved
loop-preserved g c =
    let xs = c.args.members.now.terms in
    let members = c.args.members.now.positions in
    let same : HaveOneBody xs members c.loop.pair.0 c.in-Some.next =
    c.loop.invariant.alike c.loop.pair.0 c.in-Some.next (sym c.known.ensures ∙ c.in-Some.is) in
    record {
      alike = elim c.match-known-2.branch [
        | in-Some-known w ↦ rw w.alike-is (alike-noted xs members c.loop.alike w.note.new.alike c.loop.pair.0 w.in-Some-known.after
            (same ∙ c.loop.invariant.alike c.in-Some.next w.in-Some-known.after (sym c.known-in-loop.ensures ∙ w.in-Some-known.is))
            w.note.ensures c.loop.invariant.alike)
        | in_default-known w ↦ rw w.alike-is c.loop.invariant.alike
      ];
      both = falling-next xs members c.loop.pair.0 c.in-Some.next c.loop.pair.1 _ _ _ same c.max-in-loop.ensures c.min-in-loop.ensures
          c.loop.invariant.both;
    }

tested : (g : Over) (c : After-same_body-same g) →
    IsTrue c.same_body-same.result ↔ HaveOneBody c.args.members.now.terms c.args.members.now.positions
    c.args.one c.args.other
tested g c = one-body _ _ _ _ _ _ _ c.entry.ensures.stands c.entry-2.ensures.stands c.same_body-same.ensures

pub returns-then-same-clause-exact : goal.returns-then-same-clause-exact
returns-then-same-clause-exact g c = tested g (goal.at.returns-then-same-clause-exact g c).After-same_body-same

pub returns-else-same-clause-exact : goal.returns-else-same-clause-exact
returns-else-same-clause-exact g c = tested g (goal.at.returns-else-same-clause-exact g c).After-same_body-same

pub returns-then-same-clause-alike : goal.returns-then-same-clause-alike
returns-then-same-clause-alike g c = alike-noted c.args.members.now.terms c.args.members.now.positions
    c.loop.alike _ _ _
    (c.loop.invariant.both.1 ((tested g (goal.at.returns-then-same-clause-alike g c).After-same_body-same).0 c.if-same.true))
    c.note-then-same.ensures c.loop.invariant.alike
