-- The lines are those of the detail and the further details and then those of the journey (`whole_body`): they keep those parts, as their
-- plain lines.
use Rattle.cif_extract.proofs.Names.{BodyParts, IfOk, KeepBody, body_records, body_tables, option_copied, subst, ◌≡◌}
use Rattle.cif_extract.proofs.{BodyLines.whole_body, WrittenLines.kept_plain, extract.Body.of.Goals.In_ok-push_parts}
use Rattle.cif_extract.proofs.extract.Body.of.Goals as goal

parts : In_ok-push_parts → BodyParts
parts c = record {
  detail = c.args.detail.now;
  extra = option_copied c.args.extra;
  origin = c.args.origin.now;
  calls = c.args.calls.now;
  terminus = c.args.terminus.now;
}

kept : (c : In_ok-push_parts) → KeepBody c.push_parts.new.lines (parts c)
unfolding parts
kept c = whole_body (parts c) c.new-lines.result c.push_parts.new.lines c.new-lines.ensures c.in_ok-push_parts.ensures

pub of_lines-requires : goal.of_lines-requires
of_lines-requires c =
    let d = (goal.at.of_lines-requires c).In_ok-push_parts in
    (parts d, kept d)

pub returns : goal.returns
unfolding parts
returns c =
    let d = (goal.at.returns c).In_ok-push_parts in
    subst (λ lines. IfOk c.of_lines.result (λ b. b ≡ lines))
    (kept_plain c.push_parts.new.lines (body_tables d.args.detail.now (body_records (parts d))) (kept d)) c.of_lines.ensures
