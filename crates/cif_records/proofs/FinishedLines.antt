-- Rows that are put on an empty line are the plain line of their table, which is 80 long and spells it.
use Rattle.cif_records.proofs.Names.{AllFit, AllStandIn, List, Row, [], is_whole_from, length, length-plain_line, plain_line, put_all}
use Rattle.cif_records.proofs.Names.{put_all-plain_line, stands-plain_line, subst, sym, true, ℕ, ◌∙◌, ◌≡◌}

module _ (table : List Row) (whole : is_whole_from 1 table ≡ true) (fits : AllFit table) (line : List ℕ) (put : line ≡ put_all [] table)
  where
    pub finished_plain : line ≡ plain_line table
    finished_plain = put ∙ put_all-plain_line table whole fits

    pub finished_width : length line ≡ 80
    finished_width = subst (λ l. length l ≡ 80) (sym finished_plain) (length-plain_line table whole fits)

    pub finished_again : AllStandIn line table
    finished_again = subst (λ l. AllStandIn l table) (sym finished_plain) (stands-plain_line table whole fits)
