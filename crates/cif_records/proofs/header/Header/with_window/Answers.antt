-- Two dates are written over columns 49 to 60: `Windows` says what stands where then, for each fact that the type keeps.
use Rattle.cif_records.proofs.Names.{ArePrintable, List, ap, ddmmyy_in, ddmmyy_of, kept, length, subst, sym, ℕ, ◌++◌, ◌∙◌}
use Rattle.cif_records.proofs.Windows.{are_printable, kept-first, kept-front, kept-indicator, kept-last, still_wide, within, written}
use Rattle.cif_records.proofs.header.Header.with_window.Goals as goal

pub slice_bounds-columns-end-2 : goal.slice_bounds-columns-end-2
slice_bounds-columns-end-2 c =
    within c.args.self.now.columns _ c.args.self.now.wide (ap length c.copy_from_slice.ensures.after ∙ c.to_ddmmyy.ensures.width)

pub invariant_of-result : goal.invariant_of-result
invariant_of-result c =
    let old = c.args.self.now in
    let first = c.to_ddmmyy.ensures in
    let last = c.to_ddmmyy-2.ensures in
    let first_is = c.copy_from_slice.ensures.after in
    let last_is = c.copy_from_slice-2.ensures.after in
    let first_wide = ap length first_is ∙ first.width in
    let last_wide = ap length last_is ∙ last.width in
    record {
      wide = still_wide old.columns _ _ old.wide first_wide last_wide;
      printable = are_printable old.columns _ _ old.wide first_wide last_wide old.printable
          (subst ArePrintable (sym first_is) first.printable) (subst ArePrintable (sym last_is) last.printable);
      full = kept-indicator _ _ (kept-front old.columns _ _ old.wide first_wide last_wide) ∙ old.full;
      first_stands = ap ddmmyy_in (kept-first old.columns _ _ old.wide first_wide last_wide ∙ first_is) ∙ first.again;
      last_stands = ap ddmmyy_in (kept-last old.columns _ _ old.wide first_wide last_wide ∙ last_is) ∙ last.again;
      in_order = c.requires;
    }

pub returns-clause-columns : goal.returns-clause-columns
returns-clause-columns c =
    let old = c.args.self.now in
    let first_is = c.copy_from_slice.ensures.after in
    let last_is = c.copy_from_slice-2.ensures.after in
    written old.columns _ _ old.wide (ap length first_is ∙ c.to_ddmmyy.ensures.width) (ap length last_is ∙ c.to_ddmmyy-2.ensures.width)
    ∙ ap (λ (d : List ℕ). kept 3 48 old.columns ++ (d ++ c.copy_from_slice-2.new.self)) (first_is ∙ c.to_ddmmyy.ensures.columns)
    ∙ ap (λ (d : List ℕ). kept 3 48 old.columns ++ (ddmmyy_of c.args.first ++ d)) (last_is ∙ c.to_ddmmyy-2.ensures.columns)
