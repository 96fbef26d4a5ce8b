-- The rows of front and back stand as the terms do, and those of the detail where it was read: `stands-append` joins them.
use Rattle.cif_records.proofs.Names.{AllStandIn, BasicTerms, basic_back, basic_front, detail_rows, stands-append, subst, sym, ◌++◌}
use Rattle.cif_records.proofs.{Basics.no_refusal, Basics.one_basic, Basics.parts_of, Judging.only}
use Rattle.cif_records.proofs.basic.Basic.read.Goals as goal

pub returns-in-Ok-clause-exact : goal.returns-in-Ok-clause-exact
returns-in-Ok-clause-exact c =
    let line = c.args.line.now in
    let t = c.in-Ok.terms in
    let found = c.in-Ok.ensures.1 in
    let parts = parts_of line found.basic found.spells in
    let detail = detail_rows c.detail_at.result in
    let front = subst (λ (u : BasicTerms). AllStandIn line (basic_front u.uid u.first u.last u.days)) (sym found.terms) parts.front in
    let back = subst (λ (u : BasicTerms). AllStandIn line (basic_back u.letter)) (sym found.terms) parts.back in (
      c.in-Ok.ensures.0,
      stands-append line (basic_front t.uid t.first t.last t.days) (detail ++ basic_back t.letter) front
          (stands-append line detail (basic_back t.letter) c.detail_at.ensures.spells back),
    )

pub returns-in-Ok-clause-only : goal.returns-in-Ok-clause-only
returns-in-Ok-clause-only c r h = only _ _ _ (one_basic c.args.line.now) (no_refusal c.args.line.now) (returns-in-Ok-clause-exact c) r h

pub returns-in-Err-clause-only : goal.returns-in-Err-clause-only
returns-in-Err-clause-only c r h = only _ _ _ (one_basic c.args.line.now) (no_refusal c.args.line.now) c.in-Err.ensures r h
