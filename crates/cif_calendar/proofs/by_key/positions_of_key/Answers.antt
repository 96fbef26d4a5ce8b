-- One entry more has the key (`before-more`) or another (`before-other`).
use Rattle.cif_calendar.proofs.Names.{All-nil, HasKey, arith, false≢true, keyed, length, length-map, subst, sym, ◌∙◌, ◌≡◌, ◌≤◌}
use Rattle.cif_calendar.proofs.KeyMembers.{before-all, before-more, before-none, before-other, within-more}
use Rattle.cif_calendar.proofs.{KeyPositions.has-key, by_key.positions_of_key.Goals.else-eq}
use Rattle.cif_calendar.proofs.{by_key.positions_of_key.Goals.then-eq+in_ok-push}
use Rattle.cif_calendar.proofs.by_key.positions_of_key.Goals as goal

pub loop-position-init : goal.loop-position-init
loop-position-init g c = rw c.new-positions.ensures.items (record {
  within = All-nil _;
  before = before-none (keyed g.E.Entry.key g.E.Entry.terms c.args.entries.now) c.args.key.now;
})

pub loop-position-preserved : goal.loop-position-preserved
loop-position-preserved g c =
    let es = c.args.entries.now in
    let ks = keyed g.E.Entry.key g.E.Entry.terms es in
    let k = c.args.key.now in
    let n = c.loop-position.position in
    let ps = c.loop-position.positions.items in
    let is = c.loop-position.invariant in
    let has = subst (HasKey ks n) (sym c.key.ensures)
    (has-key g.E.Entry.key g.E.Entry.terms es n c.index-entries-position.result c.loop-position-test.true c.index-entries-position.is) in
    elim c.if-eq.branch [
      | then-eq+in_ok-push w ↦ rw (w.positions-is, w.in_ok-push.ensures.items) (record {
        within = within-more n (length es) ps c.loop-position-test.true is.within;
        before = before-more ks k n ps is.before c.key.result.now has
            ((g.met.E.Entry.same_key c.key.result.now k).0 (sym c.eq.ensures ∙ w.if-eq.true));
      })
      | else-eq w ↦ rw w.positions-is (record {
        within = is.within;
        before = before-other ks k n ps is.before c.key.result.now has
            (λ same. false≢true (sym w.if-eq.false ∙ c.eq.ensures ∙ (g.met.E.Entry.same_key c.key.result.now k).1 same));
      })
    ]

pub returns-clause-of_key : goal.returns-clause-of_key
returns-clause-of_key g c =
    let ks = keyed g.E.Entry.key g.E.Entry.terms c.args.entries.now in
    let long : length ks ≡ length c.args.entries.now = length-map c.args.entries.now (λ e. (g.E.Entry.key e, g.E.Entry.terms e)) in
    before-all ks c.args.key.now c.loop-position.position c.loop-position.positions.items
    (let over : length ks ≤ c.loop-position.position = omega (arith, c.loop-position-test.false) in over) c.loop-position.invariant.before
