-- One field more (`more-given`), until none is left (`all-given`).
use Rattle.cif_rows.proofs.Names.{Field, List, absent, ap, arith, fields_text, map, refl, subst, sym, texts, ◌++◌, ◌+◌, ◌∙◌, ◌≤◌, length}
use Rattle.cif_rows.proofs.GivenFields.{absent-names, absent-of, absent-shapes, all-given, first-given, more-given, no-name}
use Rattle.cif_rows.specs.Steps.{room_for}
use Rattle.cif_rows.proofs.rows.Rows.push_absent_within.Goals as goal

pub loop-name-init : goal.loop-name-init
loop-name-init g c = record { text = refl; room = omega arith; shapes = absent-shapes c.args.names.now }

pub push_within-requires : goal.push_within-requires
push_within-requires g c =
    let here = first-given absent-of _ _ _ c.args.names.now _ _ c.loop-name.invariant no-name c.loop-name-test.true in
    let room = here.room in
    let most = c.requires.room in
    let same = ap room_for (absent-names c.args.names.now) in
    record { field = tt; room = omega (arith, room, most, same) }

pub loop-name-preserved : goal.loop-name-preserved
loop-name-preserved g c =
    let len = c.push_within.ensures.len in
    more-given absent-of _ _ _ c.args.names.now c.loop-name.name-index _ c.loop-name.invariant no-name c.loop-name-test.true _
    c.push_within.ensures.text (omega (arith, len))

pub returns-clause-text : goal.returns-clause-text
returns-clause-text g c =
    (all-given absent-of _ _ _ c.args.names.now _ _ c.loop-name.invariant c.loop-name-test.false).0
    ∙ ap (λ (fs : List Field). c.args.self.now ++ fields_text g.F.RowFormat.FORMAT fs) (absent-names c.args.names.now)

pub returns-clause-len : goal.returns-clause-len
returns-clause-len g c =
    subst (λ (fs : List Field). length c.loop-name.self ≤ length c.args.self.now + room_for fs) (absent-names c.args.names.now)
    (all-given absent-of _ _ _ c.args.names.now _ _ c.loop-name.invariant c.loop-name-test.false).1
