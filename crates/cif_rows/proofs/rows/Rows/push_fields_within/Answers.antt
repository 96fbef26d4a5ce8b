-- One field more (`more-given`), until none is left (`all-given`).
use Rattle.cif_rows.proofs.Names.{arith}
use Rattle.cif_rows.proofs.GivenFields.{all-given, first-given, more-given, none}
use Rattle.cif_rows.specs.Steps.{field_of}
use Rattle.cif_rows.proofs.rows.Rows.push_fields_within.Goals as goal

pub push_within-requires : goal.push_within-requires
push_within-requires g c =
    let here = first-given field_of _ _ _ c.args.fields.now _ _ c.loop-field.invariant none c.loop-field-test.true in
    let room = here.room in
    let most = c.requires.room in
    record { field = here.shapes.0; room = omega (arith, room, most) }

pub loop-field-preserved : goal.loop-field-preserved
loop-field-preserved g c =
    let len = c.push_within.ensures.len in
    more-given field_of _ _ _ c.args.fields.now c.loop-field.field-index _ c.loop-field.invariant none c.loop-field-test.true _
    c.push_within.ensures.text (omega (arith, len))

pub returns-clause-text : goal.returns-clause-text
returns-clause-text g c = (all-given field_of _ _ _ c.args.fields.now _ _ c.loop-field.invariant c.loop-field-test.false).0

pub returns-clause-len : goal.returns-clause-len
returns-clause-len g c = (all-given field_of _ _ _ c.args.fields.now _ _ c.loop-field.invariant c.loop-field-test.false).1
