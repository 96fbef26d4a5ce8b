-- One more byte is plain (`plain-more`), and then all are.
use Rattle.cif_rows.proofs.Names.{All, IsPlain, subst, take_all}
use Rattle.cif_rows.proofs.Quoted.{plain-more}
use Rattle.std.proofs.lemmas.Bool.{eqb-true}
use Rattle.cif_rows.proofs.rows.is_plain.Goals as goal

pub loop-byte-preserved : goal.loop-byte-preserved
loop-byte-preserved c =
    plain-more c.args.bytes.now c.loop-byte.byte-index c.loop-byte.escaped c.escape_mark.result c.max-escaped.result c.loop-byte-test.true
    c.escape_mark.ensures c.max-escaped.ensures c.loop-byte.invariant

pub returns : goal.returns
returns c = λ plain.
    subst (All IsPlain) (take_all c.loop-byte.byte-index c.args.bytes.now c.loop-byte-test.false)
    (c.loop-byte.invariant (eqb-true c.loop-byte.escaped 0 plain))
