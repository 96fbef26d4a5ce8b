-- What stands in the columns of a line fits them.
use Rattle.cif_columns.proofs.Names.{AllFit, AllStandIn, AreCodes, Bool, FieldValue, Fits, IsLine, IsPublicTime, IsWorkTime, List, Row, []}
use Rattle.cif_columns.proofs.Names.{activity_codes, and_parts, arith, columns, date, eqb-true, exactly, indicator, is_whole_from, length}
use Rattle.cif_columns.proofs.Names.{public_time, spare, subst, text, true, weekdays, width_of, working_time, ℕ, ◌&&◌, ◌+◌, ◌-◌, ◌==◌, ◌∷◌}
use Rattle.cif_columns.{proofs.Names.◌≡◌, proofs.Names.◌≤◌, proofs.PlainColumns.whole-within, specs.Field.StandsIn}
use Rattle.cif_columns.proofs.{Codes.are_codes-codes_in, Codes.codes_in-stands, DayDigits.is_day-yymmdd, Parts.whole-first}
use Rattle.cif_columns.proofs.PlainLines.{fits-exactly_at, fits-text_at, length-columns, printable-columns}

-- a value of this kind can take so many columns
abbrev pub has_width : ℕ → FieldValue → Bool
has_width width (activity_codes codes) = width == 12
has_width width (working_time time) = width == 5
has_width width (public_time time) = width == 4
has_width width (date day) = width == 6
has_width width (weekdays days) = width == 7
has_width width (indicator stp) = width == 1
has_width width other = true

-- and so can those of a table
abbrev pub have_widths : List Row → Bool
have_widths [] = true
have_widths (r ∷ rows) = has_width (width_of r) r.value && have_widths rows

module _ (line : List ℕ) (is_line : IsLine line) where
  -- a value that stands in columns of a line fits them
  fits_there : (from to : ℕ) → 1 ≤ from → from ≤ to → to ≤ 80 → (value : FieldValue) → has_width (to + 1 - from) value ≡ true
      → StandsIn (columns from to line) value → Fits (to + 1 - from) value
  fits_there from to start some within (exactly value) h s = fits-exactly_at from to line is_line start some within value s
  fits_there from to start some within (text value) h s = fits-text_at from to line is_line start some within value s
  fits_there from to start some within (activity_codes codes) h s =
      let c = columns from to line in
      let wide : to + 1 - from ≡ 12 = eqb-true (to + 1 - from) 12 h in
      let long : length c ≡ 12 = omega (arith, wide, length-columns from to line is_line start some within) in
      let plain = printable-columns from to line is_line start some within in
      (wide, subst AreCodes (codes_in-stands c codes s) (are_codes-codes_in c long plain))
  fits_there from to start some within (working_time time) h s =
      let wide : to + 1 - from ≡ 5 = eqb-true (to + 1 - from) 5 h in
      let long : length (columns from to line) ≡ 5 = omega (arith, wide, length-columns from to line is_line start some within) in
      (wide, subst (λ c. length c ≡ 5) s.same long, subst IsWorkTime s.same s.form)
  fits_there from to start some within (public_time time) h s =
      let wide : to + 1 - from ≡ 4 = eqb-true (to + 1 - from) 4 h in
      let long : length (columns from to line) ≡ 4 = omega (arith, wide, length-columns from to line is_line start some within) in
      (wide, subst (λ c. length c ≡ 4) s.same long, subst IsPublicTime s.same s.form)
  fits_there from to start some within (date day) h s = (eqb-true (to + 1 - from) 6 h, is_day-yymmdd (columns from to line) day s)
  fits_there from to start some within (weekdays days) h s = (eqb-true (to + 1 - from) 7 h, s.week)
  fits_there from to start some within (indicator stp) h s = eqb-true (to + 1 - from) 1 h
  fits_there from to start some within spare h s = tt

  -- the rows of a table from this column on
  fit_from : (column : ℕ) (rows : List Row) → 1 ≤ column → is_whole_from column rows ≡ true → have_widths rows ≡ true
      → AllStandIn line rows → AllFit rows
  fit_from column [] start whole h s = tt
  fit_from column (r ∷ rows) start whole h s =
      let first = whole-first column r rows whole in
      let rest = whole-within (r.to + 1) rows first.2 in
      let widths = and_parts _ _ h in (
        fits_there r.from r.to (omega (arith, first.0)) first.1 (omega (arith, rest)) r.value widths.0 s.0,
        fit_from (r.to + 1) rows (omega arith) first.2 widths.1 s.1,
      )

  -- what a table says of a line fits its columns
  pub fit : (rows : List Row) → is_whole_from 1 rows ≡ true → have_widths rows ≡ true → AllStandIn line rows → AllFit rows
  fit rows whole h s = fit_from 1 rows (omega arith) whole h s
