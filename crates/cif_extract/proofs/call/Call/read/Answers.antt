-- A line of some call spells a change or a stop, as columns 1 and 2 say (`turned`, `stopped`), so `read` can but give that.
use Rattle.cif_extract.proofs.Names.{At, Turn, ap, change_in, is_ok, stop_in, sym, ◌∙◌, ◌≡◌}
use Rattle.cif_extract.proofs.CallLines.{stopped, turned}
use Rattle.cif_extract.proofs.call.Call.read.Goals as goal

pub unwrap-requires : goal.unwrap-requires
unwrap-requires c =
    let h = turned c.args.line.now c.columns_at.result c.requires c.columns_at.ensures.value (sym c.eq.ensures ∙ c.if-eq.true) in
    ap is_ok (c.read.ensures.only (change_in c.args.line.now) h.1)

pub unwrap-requires-else-eq : goal.unwrap-requires-else-eq
unwrap-requires-else-eq c =
    let h = stopped c.args.line.now c.columns_at.result c.requires c.columns_at.ensures.value (sym c.eq.ensures ∙ c.if-eq.false) in
    ap is_ok (c.read-else-eq.ensures.only (stop_in c.args.line.now) h.1)

pub returns-then-eq : goal.returns-then-eq
returns-then-eq c =
    let h = turned c.args.line.now c.columns_at.result c.requires c.columns_at.ensures.value (sym c.eq.ensures ∙ c.if-eq.true) in
    let it = c.read.ensures.only (change_in c.args.line.now) h.1 in
    let given = c.unwrap.ensures in
    let same : c.unwrap.result ≡ change_in c.args.line.now = cc in
    ap Turn same ∙ sym h.0

pub returns-else-eq : goal.returns-else-eq
returns-else-eq c =
    let h = stopped c.args.line.now c.columns_at.result c.requires c.columns_at.ensures.value (sym c.eq.ensures ∙ c.if-eq.false) in
    let it = c.read-else-eq.ensures.only (stop_in c.args.line.now) h.1 in
    let given = c.unwrap-else-eq.ensures in
    let same : c.unwrap-else-eq.result ≡ stop_in c.args.line.now = cc in
    ap At same ∙ sym h.0
